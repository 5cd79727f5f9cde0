-- What an open finds in files.
use Rattle.std.proofs.Common.{◌≡◌, inl, inr, ℕ, zero, suc, ◌+◌, ◌<◌, pos, List, [], ◌∷◌, Ok, Err, Result, Option, Some, None, filter, length, IfOk, refl, sym, subst, ap, ap₂, ◌∙◌, true, arith, IsTrue}
use Rattle.std.specs.List.{AllZip, slice_get}
use Rattle.sqlite_value.specs.declared.value.Value.{Value}
use Rattle.sqlite_value.specs.declared.value.Value.TheVariants.{Null, Int, Real, Text, Blob}
use Rattle.sqlite.specs.Order.{Row, column}
use Rattle.sqlite.specs.Recovery.{Image}
use Rattle.sqlite.specs.Tree.{Trees}
use Rattle.sqlite.specs.Table.{Table}
use Rattle.sqlite.specs.Schema.{Schema}
use Rattle.sqlite_schema.specs.declared.schema.Index.{Index}
use Rattle.sqlite_schema.specs.declared.schema.View.{View as Stored}
use Rattle.sqlite_trees.specs.View.{IsShaped, IsOrdered}
use Rattle.sqlite_trees.specs.Objects.{catalog_tree}
use Rattle.sqlite_trees.specs.declared.store.Shape.TheVariants as shape
use Rattle.sqlite_trees.specs.declared.store.Store as store
use Rattle.sqlite_catalog.specs.Listing.{IsTableRow, IsIndexRow, IsViewRow, IsDefined, AreListed, IsSound, automatic, is_table_row, is_index_row, is_view_row}
use Rattle.sqlite_catalog.proofs.LayoutLemmas.{table_shape}
use Rattle.sqlite_resolve.specs.Compile.{table_defined_by}
use Rattle.sqlite_rules.specs.Lists.{Has}
use Rattle.sqlite_store.specs.Listing.{file_trees, all_shapes, IsOurs}
use Rattle.sqlite_store.specs.Listed.{catalog_rows, is_listed}
use Rattle.sqlite_store.proofs.ListingLemmas.{listing_shaped, all_ordered}
use Rattle.sqlite_store.specs.declared.catalog.Wanted.{Wanted}
use Rattle.sqlite.specs.State.{State, Opens, IsLive, HasCleanDisk}
use Rattle.sqlite.specs.Held.{Held, state}
use Rattle.sqlite.specs.Effect.{Database}
use Rattle.sqlite.specs.Files.{HoldsDatabase, AreFoundIn, file_state, IsOpened}
use Rattle.sqlite.specs.declared.FileStore.{FileStore}
use Rattle.sqlite_disk.specs.declared.Disk as disk
use Rattle.sqlite.specs.Start.{FindsIn}
use Rattle.nb_cells.specs.Cells.{CellMap}
use Rattle.nb_sql.specs.Held.{Shows, Tells, HasCells}
use Rattle.nb_sql.specs.Files.{HoldsCells, HoldsNothing}
use Rattle.nb_sql.specs.Statements.{cells_schema, cells_table, cells_index, no_schema}
use Rattle.nb_sql.proofs.ChangeLemmas.{same_value, held_by}

-- ---- the list of the objects tells the schema

one_number : (m n : ℕ) → Int (pos (m + 1)) ≡ Int (pos (n + 1)) → m ≡ n
one_number m n e = let more : m + 1 ≡ n + 1 = cc in omega (arith, more)

-- a row tells one table
one_table : (row : Row) (s t : Table) → IsTableRow row s → IsTableRow row t → s ≡ t
one_table row s t p q =
    let sql : p.sql ≡ q.sql = (let e = sym p.sql_is ∙ q.sql_is in cc) in
    let made : p.defined.0 ≡ q.defined.0 = same_value (sym p.defined.1 ∙ ap table_defined_by sql ∙ q.defined.1) in
    let tree : s.tree ≡ t.tree = one_number s.tree t.tree (sym p.described.id ∙ q.described.id) in
    p.defined.2 ∙ ap₂ (λ (x : Table) n. record x { tree = n }) made tree ∙ sym q.defined.2

tables_alike : (rows : List Row) (ts : List Table) → AllZip IsTableRow rows (cells_table ∷ []) → AllZip IsTableRow rows ts → ts ≡ cells_table ∷ []
tables_alike [] ts p q = absurd p
tables_alike (r ∷ []) [] p q = absurd q
tables_alike (r ∷ []) (t ∷ []) p q = ap (λ x. x ∷ []) (one_table r t cells_table q.0 p.0)
tables_alike (r ∷ []) (t ∷ u ∷ ts) p q = absurd q.1
tables_alike (r ∷ s ∷ rows) ts p q = absurd p.1

-- the table has one key
one_key : (at : ℕ) (key : List ℕ) → slice_get cells_table.uniques at ≡ Some key → (at ≡ 0) × (key ≡ 1 ∷ 2 ∷ [])
one_key zero key is = (refl, cc)
one_key (suc at) key is = absurd cc

made_alike : (sql : Value) (i j : Index) → IsDefined cells_table i sql → IsDefined cells_table j sql → i.tree ≡ j.tree → i ≡ j
made_alike Null i j p q tree =
    let a = one_key p.0 p.1 p.2 in
    let b = one_key q.0 q.1 q.2 in
    p.3 ∙ ap₂ (λ n key. automatic cells_table n key i.tree) a.0 a.1 ∙ ap (automatic cells_table 0 (1 ∷ 2 ∷ [])) tree ∙ sym (q.3 ∙ ap₂ (λ n key. automatic cells_table n key j.tree) b.0 b.1)
made_alike (Int n) i j p q tree = absurd p
made_alike (Real x) i j p q tree = absurd p
made_alike (Text sql) i j p q tree =
    p.2 ∙ ap₂ (λ (x : Index) n. record x { tree = n; table = cells_table.tree }) (same_value (sym p.1 ∙ q.1)) tree ∙ sym q.2
made_alike (Blob b) i j p q tree = absurd p

only_table : (t : Table) → Has (cells_table ∷ []) t → t ≡ cells_table
only_table t (inl is) = is
only_table t (inr none) = absurd none

-- a row tells one index
one_index : (row : Row) (i j : Index) → IsIndexRow (cells_table ∷ []) row i → IsIndexRow (cells_table ∷ []) row j → i ≡ j
one_index row i j p q =
    let tree : i.tree ≡ j.tree = one_number i.tree j.tree (sym p.described.id ∙ q.described.id) in
    made_alike (column row 4) i j (subst (λ t. IsDefined t i (column row 4)) (only_table p.table p.listed) p.defined) (subst (λ t. IsDefined t j (column row 4)) (only_table q.table q.listed) q.defined) tree

indexes_alike : (rows : List Row) (is : List Index) → AllZip (IsIndexRow (cells_table ∷ [])) rows (cells_index ∷ []) → AllZip (IsIndexRow (cells_table ∷ [])) rows is → is ≡ cells_index ∷ []
indexes_alike [] is p q = absurd p
indexes_alike (r ∷ []) [] p q = absurd q
indexes_alike (r ∷ []) (i ∷ []) p q = ap (λ x. x ∷ []) (one_index r i cells_index q.0 p.0)
indexes_alike (r ∷ []) (i ∷ j ∷ is) p q = absurd q.1
indexes_alike (r ∷ s ∷ rows) is p q = absurd p.1

none_zipped : {X Y : Type 0} (R : X → Y → Type 0) (ys : List Y) → AllZip R [] ys → ys ≡ []
none_zipped R [] all = refl
none_zipped R (y ∷ ys) all = absurd all

views_alike : (rows : List Row) (ws : List Stored) → AllZip IsViewRow rows [] → AllZip IsViewRow rows ws → ws ≡ []
views_alike [] ws p q = none_zipped IsViewRow ws q
views_alike (r ∷ rows) ws p q = absurd p

schema_is : (s : Schema) (ts : List Table) (is : List Index) → s.tables ≡ ts → s.indexes ≡ is → s.views ≡ [] → s ≡ record { tables = ts; indexes = is; views = [] }
schema_is s ts is p q r = ap₂ (λ a b. record s { tables = a; indexes = b }) p q ∙ ap (λ c. record { tables = ts; indexes = is; views = c }) r

-- a database in which the table was made has no other schema
pub one_schema : (db : Trees) (s : Schema) → IsSound cells_schema db → IsSound s db → s ≡ cells_schema
one_schema db s p q =
    let objects = db catalog_tree in
    let tables = tables_alike (filter is_table_row objects) s.tables p.lists.listed.tables q.lists.listed.tables in
    let indexes = indexes_alike (filter is_index_row objects) s.indexes p.lists.listed.indexes (subst (λ ts. AllZip (IsIndexRow ts) (filter is_index_row objects) s.indexes) tables q.lists.listed.indexes) in
    schema_is s (cells_table ∷ []) (cells_index ∷ []) tables indexes (views_alike (filter is_view_row objects) s.views p.lists.listed.views q.lists.listed.views)

-- nor has one in which nothing was made
pub nothing_made : (db : Trees) (s : Schema) → db catalog_tree ≡ [] → IsSound s db → s ≡ no_schema
nothing_made db s none sound =
    let are = subst (λ rows. AreListed rows s) none sound.lists.listed in
    schema_is s [] [] (none_zipped IsTableRow s.tables are.tables) (none_zipped (IsIndexRow s.tables) s.indexes are.indexes) (none_zipped IsViewRow s.views are.views)

-- ---- the trees of a file

ours_shaped : (size : ℕ) (wanted : List Wanted) (pages : ℕ → Option (List ℕ)) → IsOurs size true wanted pages → IsSound cells_schema (file_trees size wanted pages) → IsShaped shape.Table (file_trees size wanted pages 0)
ours_shaped size wanted pages ours sound =
    let are = subst (λ rows. AreListed rows cells_schema) (catalog_rows size wanted _) sound.lists.listed in
    let is = (table_shape (is_listed wanted) (listing_shaped 0 wanted).0 are cells_table (inl refl)).0 in
    let ordered : IsOrdered (all_shapes wanted) (file_trees size wanted pages) = all_ordered ours.file.db _ in
    subst (λ s. IsShaped s (file_trees size wanted pages 0)) is (ordered 0)

-- no rowid comes twice in the table of a sound file
pub held_shaped : (image : Image) (db : Trees) → HoldsDatabase image db → IsSound cells_schema db → IsShaped shape.Table (db 0)
held_shaped image db holds sound =
    let it = holds.2 in
    subst (λ (t : Trees). IsShaped shape.Table (t 0)) (sym it.reads) (ours_shaped holds.0 it.wanted it.pages it.ours (subst (IsSound cells_schema) it.reads sound))

-- ---- what a connection shows after an open

pub finds_cells : (image : Image) (m : CellMap) (s : State) → HoldsCells image m → Opens s → IsLive s → FindsIn image s → HasCells s m
finds_cells image m s holds opens live finds =
    let now : s.now.trees ≡ holds.db = ap (λ (d : Database). d.trees) opens.clean ∙ finds.holds holds.db holds.holds in
    let sound = (live opens.is_open).0 in
    record {
      is_open = opens.is_open;
      ready = record {
        schema = one_schema holds.db s.now.schema holds.sound (subst (IsSound s.now.schema) now sound);
        sound = sound;
        shaped = subst (λ (t : Trees). IsShaped shape.Table (t 0)) (sym now) (held_shaped image holds.db holds.holds holds.sound);
        kept = sym opens.clean;
      };
      shows = subst (λ (t : Trees). Shows (t 0) m) (sym now) holds.shows;
    }

not_present : (image : Image) → image.db ≡ [] → 0 < length image.db → ⊥
not_present image empty present = let none : length image.db ≡ 0 = ap length empty in omega (arith, none, present)

nothing_found : (image : Image) (trees : Trees) → HoldsNothing image → ((db : Trees) → HoldsDatabase image db → trees ≡ db) → AreFoundIn image trees → trees catalog_tree ≡ []
nothing_found image trees (inl empty) holds (inl found) = absurd (not_present image empty found.3.found.present)
nothing_found image trees (inl empty) holds (inr nothing) = nothing.1.1
nothing_found image trees (inr held) holds found = ap (λ (t : Trees). t catalog_tree) (holds held.0 held.1) ∙ held.2

pub finds_nothing : (image : Image) (s : State) → HoldsNothing image → Opens s → IsLive s → FindsIn image s → s.now.schema ≡ no_schema
finds_nothing image s held opens live finds =
    let none = nothing_found image s.committed.trees held finds.holds finds.reads in
    nothing_made s.now.trees s.now.schema (ap (λ (d : Database). d.trees catalog_tree) opens.clean ∙ none) (live opens.is_open).0

-- an open connection tells the cells that it has
module _ {S : Type 0} (g : store.Ghosts S) (settled : (s : S) (db : Trees) → IsTrue (g.view s).is_open → g.recovers s db → db ≡ (g.view s).committed) where
  pub has_told : (h : Held S) (m : CellMap) → HasCells (state g h) m → Tells (state g h) m
  has_told h m has = record {
    ready = λ _. has.ready;
    images = λ db may. held_by (state g h).now db m has.ready.schema has.ready.sound (settled h.store db has.is_open may ∙ ap (λ (d : Database). d.trees) has.ready.kept) has.shows;
  }

-- ---- the cells over files that were opened
module _ {X E D : Type 0} {g : disk.Ghosts D} where
  pub opened_cells : (r : Result X E) (conn : X → Held (FileStore D g)) (c : Held (FileStore D g)) (image : Image) (m : CellMap) → HoldsCells image m
      → (HasCleanDisk (file_state c) → IsOpened c) → (HasCleanDisk (file_state c) → FindsIn image (file_state c))
      → IfOk r (λ x. HasCleanDisk (file_state (conn x)) → HasCleanDisk (file_state c))
      → IfOk r (λ x. HasCleanDisk (file_state (conn x)) → HasCells (file_state c) m → Tells (file_state (conn x)) m)
      → IfOk r (λ x. HasCleanDisk (file_state (conn x)) → Tells (file_state (conn x)) m)
  opened_cells (Err e) conn c image m holds opened found clean told = tt
  opened_cells (Ok x) conn c image m holds opened found clean told = λ end.
      let was = opened (clean end) in
      told end (finds_cells image m (file_state c) holds was.0 was.1 (found (clean end)))

  pub opened_new : (r : Result X E) (conn : X → Held (FileStore D g)) (c : Held (FileStore D g)) (image : Image) → HoldsNothing image
      → (HasCleanDisk (file_state c) → IsOpened c) → (HasCleanDisk (file_state c) → FindsIn image (file_state c))
      → IfOk r (λ x. HasCleanDisk (file_state (conn x)) → HasCleanDisk (file_state c))
      → IfOk r (λ x. HasCleanDisk (file_state (conn x)) → c.schema ≡ no_schema → Tells (file_state (conn x)) (λ _ _. None))
      → IfOk r (λ x. HasCleanDisk (file_state (conn x)) → Tells (file_state (conn x)) (λ _ _. None))
  opened_new (Err e) conn c image held opened found clean told = tt
  opened_new (Ok x) conn c image held opened found clean told = λ end.
      let was = opened (clean end) in
      told end (finds_nothing image (file_state c) held was.0 was.1 (found (clean end)))
