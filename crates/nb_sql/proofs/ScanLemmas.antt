-- What the scan shows of the cells.
use Rattle.std.proofs.Common.{◌≡◌, inl, inr, List, ℕ, pos, [], ◌∷◌, ◌++◌, map, refl, Some, Ok, Err, Result, IsTrue, sym, subst, ◌∙◌, ap, true, false}
use Rattle.std.specs.Prelude.{All, IfOk, slice_index_or}
use Rattle.std.proofs.lemmas.Bool.{and_parts, and_from}
use Rattle.std.proofs.lemmas.List.{get_or_default, map-append}
use Rattle.std.proofs.lemmas.List.Elements.{All-append, All-contains}
use Rattle.std.specs.List.{list_all}
use Rattle.std.specs.Ordering.{eq_by_cmp, is_eq}
use Rattle.sqlite.specs.Order.{Row, column, value_cmp}
use Rattle.sqlite.specs.Term.{Term, col, holds, eval_all}
use Rattle.sqlite.specs.Query.{IsAnswer, Output}
use Rattle.sqlite.specs.Program.{overlay}
use Rattle.sqlite.specs.Collation.TheVariants.{Binary}
use Rattle.sqlite.specs.declared.types.Value.TheVariants.{Int, Blob, Null}
use Rattle.sqlite.specs.Effect.{Database, IsDatabase, Reads}
use Rattle.sqlite.specs.Held.{Held, state}
use Rattle.sqlite.specs.Listing.{understood}
use Rattle.sqlite_value.specs.declared.keys.Key.{Key}
use Rattle.sqlite_rules.specs.Lists.{Has}
use Rattle.sqlite_rules.proofs.ListLemmas.{has_contained, contains_had}
use Rattle.sqlite_rules.proofs.ProbeLemmas.{has_mapped, mapped_has}
use Rattle.sqlite_trees.specs.View.{IsShaped}
use Rattle.sqlite_trees.specs.declared.store.Shape.TheVariants.{Table}
use Rattle.sqlite_trees.specs.declared.store.Store as store
use Rattle.nb_cells.specs.Cells.{CellMap, Scans}
use Rattle.nb_cells.specs.declared.cell.Cell.{Cell}
use Rattle.nb_sql.specs.Held.{Tells, Shows}
use Rattle.nb_sql.specs.Meaning.{scan_query, at_space}
use Rattle.nb_sql.specs.Shown.{shown_in, shown_of, AreShown}
use Rattle.nb_sql.specs.Statements.{cells_schema, command_of, scan_text}
use Rattle.nb_sql.proofs.CompileLemmas.{scan_is}
use Rattle.nb_sql.proofs.QueryLemmas.{ordered_has, has_ordered, ordered_from, ordered_apart, shown as shown_is}
use Rattle.nb_sql.proofs.PlaceLemmas.{equal_int, int_meets, tied_blobs, blob_same}
use Rattle.nb_sql.proofs.ChangeLemmas.{typed_in, one_at}
use Rattle.nb_sql.proofs.KeyLemmas.{by_slot, flips, ascend, outputs_apart, IsAlone, keys_ascend}

-- each cell is shown by a row, and each row shows a cell
cell_shown : (rows : List Row) (cells : List Cell) → map shown_in rows ≡ map shown_of cells → (c : Cell) → Has cells c → (x : Row) × Has rows x × (column x 0 ≡ Blob c.key) × (column x 1 ≡ Blob c.bytes)
cell_shown rows cells same c h =
    let it = has_mapped shown_in rows (shown_of c) (subst (λ xs. Has xs (shown_of c)) (sym same) (mapped_has shown_of cells c h)) in
    (it.0, it.1, ap (λ v. v.0) (sym it.2), ap (λ v. v.1) (sym it.2))

row_shown : (rows : List Row) (cells : List Cell) → map shown_in rows ≡ map shown_of cells → (x : Row) → Has rows x → (c : Cell) × Has cells c × (column x 0 ≡ Blob c.key) × (column x 1 ≡ Blob c.bytes)
row_shown rows cells same x h =
    let it = has_mapped shown_of cells (shown_in x) (subst (λ xs. Has xs (shown_in x)) same (mapped_has shown_in rows x h)) in
    (it.0, it.1, ap (λ v. v.0) it.2, ap (λ v. v.1) it.2)

all_of_has : {X : Type 0} (P : X → Type 0) (xs : List X) → ((x : X) → Has xs x → P x) → All P xs
all_of_has P xs each k d within = each (slice_index_or xs k d) (has_contained xs (slice_index_or xs k d) (k, within, get_or_default xs k (slice_index_or xs k d) d within))

abbrev cell_with : ℕ → List ℕ → List ℕ → Cell
cell_with space key bytes = record { space = space; key = key; bytes = bytes }

same_cell : (c : Cell) (space : ℕ) (key bytes : List ℕ) → c.space ≡ space → c.key ≡ key → c.bytes ≡ bytes → c ≡ cell_with space key bytes
same_cell c space key bytes s k b = ap (λ n. cell_with n c.key c.bytes) s ∙ ap (λ ks. cell_with space ks c.bytes) k ∙ ap (cell_with space key) b

module _ (db : Database) (m : CellMap) (space : ℕ) (has : db.schema ≡ cells_schema) (sound : IsDatabase db) (shows : Shows (db.trees 0) m) (rows : List Row)
    (a : IsAnswer scan_query (overlay db.trees []) (Int (pos space) ∷ []) rows) where
  -- each row that is read as a key and bytes is a cell
  pub scanned : (x : Row) (key bytes : List ℕ) → Has rows x → column x 0 ≡ Blob key → column x 1 ≡ Blob bytes → m space key ≡ Some bytes
  scanned x key bytes h k b =
      let it = ordered_has at_space (col 1 2 ∷ col 1 3 ∷ []) ((col 1 2, record { collation = Binary; descending = false }) ∷ []) db.trees (Int (pos space) ∷ []) rows a x h in
      let types = typed_in db has sound it.0 it.1 in
      let at = equal_int (column it.0 1) (pos space) types.0 (and_parts _ _ it.2).0 in
      shows.sound it.0 space key bytes it.1 (record { space_is = at; key_is = sym (ap (λ (y : Row). column y 0) it.3) ∙ k; bytes_is = sym (ap (λ (y : Row). column y 1) it.3) ∙ b })

  -- each cell of the space is a row
  pub scans : (key bytes : List ℕ) → m space key ≡ Some bytes → Has rows (Blob key ∷ Blob bytes ∷ [])
  scans key bytes is =
      let it = shows.complete space key bytes is in
      let row = has_ordered at_space (col 1 2 ∷ col 1 3 ∷ []) ((col 1 2, record { collation = Binary; descending = false }) ∷ []) db.trees (Int (pos space) ∷ []) rows a it.0 it.1 (and_from _ _ (int_meets (column it.0 1) (Int (pos space)) (pos space) it.2.space_is refl) refl) in
      subst (Has rows) (rw (it.2.key_is, it.2.bytes_is) refl) row

  module _ (shaped : IsShaped Table (db.trees 0)) (cells : List Cell) (shown : AreShown space rows cells) where
    abbrev params : Row
    params = Int (pos space) ∷ []

    abbrev order : List (Term × Key)
    order = (col 1 2, record { collation = Binary; descending = false }) ∷ []

    in_space : (r : Row) → Has (db.trees 0) r → list_all (holds (params ∷ r ∷ [])) at_space ≡ true → column r 1 ≡ Int (pos space)
    in_space r h pass = equal_int (column r 1) (pos space) (typed_in db has sound r h).0 (and_parts _ _ pass).0

    shown_key : (r : Row) → Has (db.trees 0) r → list_all (holds (params ∷ r ∷ [])) at_space ≡ true → (key : List ℕ) × (column r 2 ≡ Blob key)
    shown_key r h pass =
        let it = row_shown rows cells shown.same (eval_all (col 1 2 ∷ col 1 3 ∷ []) (params ∷ r ∷ [])) (has_ordered at_space (col 1 2 ∷ col 1 3 ∷ []) order db.trees params rows a r h pass) in
        (it.0.key, it.2)

    alone : IsAlone params (db.trees 0)
    alone r x h k p q tied =
        let c = shown_key r h p in
        let d = shown_key x k q in
        let first = subst (λ v. is_eq (value_cmp v (column x 2)) ≡ true) c.1 tied in
        let both = subst (λ v. is_eq (value_cmp (Blob c.0) v) ≡ true) d.1 first in
        let same = tied_blobs c.0 d.0 both in
        one_at db has sound shaped space c.0 r x h k (in_space r h p, c.1) (in_space x k q, d.1 ∙ ap Blob (sym same))

    slot_shown : (o : Output) → Has a.ordered o → column o.0 0 ≡ column o.1 0
    slot_shown o h =
        let e = ordered_from at_space (col 1 2 ∷ col 1 3 ∷ []) order db.trees params rows a o h in
        ap (λ (p : Output). column p.0 0) e.1 ∙ sym (ap (λ (p : Output). column p.1 0) e.1)

    -- the cells that the rows show are those of the map in the space
    pub scans_cells : Scans m space cells
    scans_cells = record {
      ascending =
          keys_ascend a.ordered cells slot_shown (ap (map shown_in) (sym (shown_is at_space (col 1 2 ∷ col 1 3 ∷ []) order db.trees params rows a)) ∙ shown.same)
          (ascend a.ordered a.sorted (ordered_apart at_space (col 1 2 ∷ col 1 3 ∷ []) order db.trees params rows a (eq_by_cmp by_slot) flips (outputs_apart params (db.trees 0) shaped.0 alone)));
      sound = all_of_has (λ (c : Cell). (c.space ≡ space) × (m space c.key ≡ Some c.bytes)) cells (λ c h.
          let it = cell_shown rows cells shown.same c h in
          (All-contains (λ (c : Cell). c.space ≡ space) cells c shown.placed (contains_had cells c h), scanned it.0 c.key c.bytes it.1 it.2 it.3));
      complete = λ key bytes is.
          let it = row_shown rows cells shown.same (Blob key ∷ Blob bytes ∷ []) (scans key bytes is) in
          let placed = All-contains (λ (c : Cell). c.space ≡ space) cells it.0 shown.placed (contains_had cells it.0 it.1) in
          let same = same_cell it.0 space key bytes placed (sym (blob_same key it.0.key it.2)) (sym (blob_same bytes it.0.bytes it.3)) in
          contains_had cells (cell_with space key bytes) (subst (Has cells) same it.1);
    }

-- what a scan gives is the cells of the space
pub scans_all : {S E : Type 0} (g : store.Ghosts S) (stays : (s : S) → IsTrue (g.view s).is_open → g.recovers s (g.view s).committed) (h : Held S) (m : CellMap) → Tells (state g h) m → (space : ℕ) (rows : List Row)
    (r : Result (List Cell) E) → IsTrue (state g h).is_open → Reads (command_of (understood cells_schema scan_text)) (state g h).now (Int (pos space) ∷ []) rows
    → IfOk r (AreShown space rows) → IfOk r (Scans m space)
scans_all g stays h m tells space rows (Err e) opened read given = tt
scans_all g stays h m tells space rows (Ok cells) opened read given =
    let ready = tells.ready opened in
    let shows = subst (λ (d : Database). Shows (d.trees 0) m) ready.kept (tells.images (g.view h.store).committed (stays h.store opened)).shows in
    let answer = (subst (λ c. Reads c (state g h).now (Int (pos space) ∷ []) rows) scan_is read).answer Null in
    scans_cells (state g h).now m space ready.schema ready.sound shows rows answer ready.shaped cells given

-- one more row shows one more cell
pub shown_more : (space : ℕ) (before after : List Row) (row : Row) (cells : List Cell) (c : Cell) → after ≡ before ++ row ∷ [] → AreShown space before cells → (c.space ≡ space) × (shown_in row ≡ shown_of c) → AreShown space after (cells ++ c ∷ [])
shown_more space before after row cells c is shown here = record {
  placed = All-append (λ (c : Cell). c.space ≡ space) cells (c ∷ []) shown.placed (all_of_has (λ (c : Cell). c.space ≡ space) (c ∷ []) (λ x h. elim h [ inl same ↦ ap (λ (d : Cell). d.space) same ∙ here.0 | inr none ↦ absurd none ]));
  same = ap (map shown_in) is ∙ map-append shown_in before (row ∷ []) ∙ ap (λ vs. vs ++ shown_in row ∷ []) shown.same ∙ ap (λ v. map shown_of cells ++ v ∷ []) here.1 ∙ sym (map-append shown_of cells (c ∷ []));
}
