-- What a query leaves, and what it shows of the cells.
use Rattle.std.proofs.Common.{◌≡◌, ◌⊎◌, inl, inr, List, ℕ, pos, [], ◌∷◌, Ok, Err, Result, refl, None, Some, Option, IsTrue, sym, subst, ◌∙◌, ap, true, false, cond, length, ◌<◌}
use Rattle.sqlite.specs.Order.{Row, column}
use Rattle.sqlite.specs.Tree.{Trees}
use Rattle.sqlite.specs.Term.{col}
use Rattle.sqlite.specs.Query.{IsAnswer}
use Rattle.sqlite.specs.Program.{overlay}
use Rattle.sqlite.specs.declared.types.Value.TheVariants.{Int, Blob, Null}
use Rattle.sqlite.specs.declared.error.Error.{Error}
use Rattle.sqlite_schema.specs.declared.command.Returning.{Returning}
use Rattle.sqlite_resolve.specs.declared.compiled.Compiled.{Compiled}
use Rattle.sqlite_rules.specs.Lists.{Has}
use Rattle.sqlite_trees.specs.declared.store.Store as store
use Rattle.sqlite.specs.State.{State, KeepsCommit, IsUnchanged, IsRolledBack, Survives, Shown, ShowsRows, FailsToShow, FailsToQuery, IsNotRun, IsTooLate, text_of}
use Rattle.sqlite.specs.Clock.{timed}
use Rattle.sqlite.specs.Steps.{FailsToCommit}
use Rattle.sqlite.specs.Effect.{Database, IsDatabase}
use Rattle.sqlite.specs.Held.{Held, state}
use Rattle.nb_cells.specs.Cells.{CellMap}
use Rattle.nb_sql.specs.Held.{Tells, Holds, Shows}
use Rattle.sqlite.specs.Effect.{Reads}
use Rattle.sqlite.specs.Listing.{understood, reads_listing}
use Rattle.sqlite.proofs.Callers.{IsPlain, reads_as}
use Rattle.nb_sql.specs.Statements.{cells_schema, command_of}
use Rattle.nb_sql.specs.Meaning.{get_query, at_place}
use Rattle.nb_sql.proofs.QueryLemmas.{answer_has, has_answer}
use Rattle.std.specs.Prelude.{Vec, IfOk, MatchOption, slice_index_or}
use Rattle.std.specs.declared.alloc.Global.{Global}
use Rattle.std.proofs.lemmas.List.{get_or_default}
use Rattle.sqlite_rules.proofs.ListLemmas.{has_contained}
use Rattle.nb_sql.specs.Statements.{get_text}
use Rattle.nb_sql.proofs.CompileLemmas.{get_is}
use Rattle.nb_sql.proofs.PlaceLemmas.{placed, place_holds}
use Rattle.nb_sql.proofs.ChangeLemmas.{unchanged_keeps, rolled_keeps, typed_in}

rows_keep : (old new : State) (sql : List ℕ) (c : Compiled) (params : Row) (rows : List Row) (r : Option Returning) → old.in_transaction ≡ true → ShowsRows old new sql c params rows r → KeepsCommit old new × IsTrue old.is_open
rows_keep old new sql c params rows None mode h = (unchanged_keeps old new h.3, h.3.0.was_open)
rows_keep old new sql c params rows (Some what) mode h =
    let shown = h.1.shown in
    (record { was_open = λ _. shown.was_open; committed = λ _. shown.committed_is ∙ ap (λ b. cond b old.committed new.now) mode }, shown.was_open)

pub shown_keeps : (old new : State) (sql : List ℕ) (params : Row) (rows : List Row) → old.in_transaction ≡ true → Shown sql params old new rows → KeepsCommit old new × IsTrue old.is_open
unfolding Shown
shown_keeps old new sql params rows mode h = rows_keep old new sql h.0 (timed params h.0.formats h.1.now) rows h.0.returning mode h.2

show_keeps : (old new : State) (sql : List ℕ) (c : Compiled) (params : Row) (e : Error) (r : Option Returning) → FailsToShow old new sql c params e r → KeepsCommit old new
show_keeps old new sql c params e None h = unchanged_keeps old new h.3
show_keeps old new sql c params e (Some what) (inl h) = unchanged_keeps old new h.1
show_keeps old new sql c params e (Some what) (inr h) = rolled_keeps old new h.3

not_run_keeps : (old new : State) (sql : List ℕ) (params : Row) (e : Error) → IsNotRun old new sql params e → KeepsCommit old new
unfolding IsNotRun
not_run_keeps old new sql params e (inl h) = unchanged_keeps old new h.1
not_run_keeps old new sql params e (inr h) = rolled_keeps old new h.3

pub fails_keeps : (old new : State) (sql : List ℕ) (params : Row) (e : Error) → FailsToQuery sql params old new e ⊎ IsTooLate sql params old new e → KeepsCommit old new
unfolding FailsToQuery
fails_keeps old new sql params e (inl (inl h)) = not_run_keeps old new sql params e h
fails_keeps old new sql params e (inl (inr h)) = show_keeps old new sql h.0 (timed params h.0.formats h.1.now) e h.0.returning h.2
fails_keeps old new sql params e (inr h) = unchanged_keeps old new h.5

-- a transaction that ends with no commit leaves the map
pub told_after : (old last end : State) (m : CellMap) → Tells old m → KeepsCommit old last → IsRolledBack last end → Survives old end (λ _. ⊥) → (Rattle.sqlite.specs.State.HasCleanDisk end) → Tells end m
told_after old last end m tells kept back survives clean = record {
  ready = λ opened.
      let mid = back.was_open opened in
      let ready = tells.ready (kept.was_open mid) in
      let undone = back.undone opened in
      let same : end.now ≡ old.now = undone.0 ∙ kept.committed mid ∙ ready.kept in
      record { schema = ap (λ (d : Database). d.schema) same ∙ ready.schema; sound = subst IsDatabase (sym same) ready.sound; shaped = subst (λ (d : Database). Rattle.sqlite_trees.specs.View.IsShaped Rattle.sqlite_trees.specs.declared.store.Shape.TheVariants.Table (d.trees 0)) (sym same) ready.shaped; kept = undone.1 ∙ sym undone.0 };
  images = λ db may. elim (survives.crash clean db may) [ inl was ↦ tells.images db was | inr none ↦ absurd none ];
}

-- a connection that is open after a rollback tells the map that it told before
pub told_undone : {S : Type 0} (g : store.Ghosts S) (settled : (s : S) (db : Trees) → IsTrue (g.view s).is_open → g.recovers s db → db ≡ (g.view s).committed) (stays : (s : S) → IsTrue (g.view s).is_open → g.recovers s (g.view s).committed)
    (old : Held S) (last : State) (end : Held S) (m : CellMap) → Tells (state g old) m → KeepsCommit (state g old) last → IsRolledBack last (state g end) → IsTrue (state g end).is_open → Tells (state g end) m
told_undone g settled stays old last end m tells kept back opened =
    let mid = back.was_open opened in
    let was = kept.was_open mid in
    let ready = tells.ready was in
    let undone = back.undone opened in
    let left : (state g end).committed ≡ (state g old).committed = undone.1 ∙ kept.committed mid in
    let same : (state g end).now ≡ (state g old).now = undone.0 ∙ kept.committed mid ∙ ready.kept in
    record {
      ready = λ _. record { schema = ap (λ (d : Database). d.schema) same ∙ ready.schema; sound = subst IsDatabase (sym same) ready.sound; shaped = subst (λ (d : Database). Rattle.sqlite_trees.specs.View.IsShaped Rattle.sqlite_trees.specs.declared.store.Shape.TheVariants.Table (d.trees 0)) (sym same) ready.shaped; kept = undone.1 ∙ sym undone.0 };
      images = λ db may. subst (λ (t : Trees). Holds t m) (sym (settled end.store db opened may ∙ ap (λ (d : Database). d.trees) left)) (tells.images (g.view old.store).committed (stays old.store was));
    }

-- so does one whose commit was refused in a transaction
pub told_refused : {S : Type 0} (g : store.Ghosts S) (settled : (s : S) (db : Trees) → IsTrue (g.view s).is_open → g.recovers s db → db ≡ (g.view s).committed) (stays : (s : S) → IsTrue (g.view s).is_open → g.recovers s (g.view s).committed)
    (old : Held S) (last : State) (end : Held S) (m : CellMap) (e : Error) → Tells (state g old) m → KeepsCommit (state g old) last → last.in_transaction ≡ true → FailsToCommit last (state g end) e → IsTrue (state g end).is_open → Tells (state g end) m
told_refused g settled stays old last end m e tells kept mode (inl fails) opened = told_undone g settled stays old last end m tells kept fails.3 opened
told_refused g settled stays old last end m e tells kept mode (inr ended) opened = absurd (let off = ended.1 in cc)

-- no row is shown where the map has nothing
pub gets_none : (db : Database) (m : CellMap) (space : ℕ) (key : List ℕ) → Shows (db.trees 0) m → IsAnswer get_query (overlay db.trees []) (Int (pos space) ∷ Blob key ∷ []) [] → None ≡ m space key
gets_none db m space key shows a = go (m space key) refl
  where
    go : (o : Option (List ℕ)) → m space key ≡ o → None ≡ o
    go None is = refl
    go (Some b) is =
        let it = shows.complete space key b is in
        absurd (has_answer at_place (col 1 3 ∷ []) db.trees (Int (pos space) ∷ Blob key ∷ []) [] a it.0 it.1 (place_holds space key [] it.0 it.2.space_is it.2.key_is))

pub gets_one : (db : Database) (m : CellMap) (space : ℕ) (key : List ℕ) (row : Row) (more : List Row) (bytes : List ℕ) → db.schema ≡ cells_schema → IsDatabase db → Shows (db.trees 0) m
    → IsAnswer get_query (overlay db.trees []) (Int (pos space) ∷ Blob key ∷ []) (row ∷ more) → column row 0 ≡ Blob bytes → Some bytes ≡ m space key
gets_one db m space key row more bytes has sound shows a read =
    let it = answer_has at_place (col 1 3 ∷ []) db.trees (Int (pos space) ∷ Blob key ∷ []) (row ∷ more) a row (inl refl) in
    let types = typed_in db has sound it.0 it.1 in
    let at = placed space key [] it.0 types.0 types.1 it.2 in
    sym (shows.sound it.0 space key bytes it.1 (record { space_is = at.0; key_is = at.1; bytes_is = sym (ap (λ (x : Row). column x 0) it.3) ∙ read }))

pub query_keeps : (old new : State) (sql : List ℕ) (params : Row) (r : Result (Rattle.std.specs.Prelude.Vec Row Rattle.std.specs.declared.alloc.Global.Global) Error) → old.in_transaction ≡ true
    → Rattle.std.specs.Prelude.IfOk r (λ rows. Shown sql params old new rows.items) → Rattle.std.specs.Prelude.IfErr r (λ e. FailsToQuery sql params old new e ⊎ IsTooLate sql params old new e) → KeepsCommit old new
query_keeps old new sql params (Ok rows) mode ok err = (shown_keeps old new sql params rows.items mode ok).0
query_keeps old new sql params (Err e) mode ok err = fails_keeps old new sql params e err

pub query_reads : (old new : State) (sql : List ℕ) (params : Row) (r : Result (Rattle.std.specs.Prelude.Vec Row Rattle.std.specs.declared.alloc.Global.Global) Error) → old.in_transaction ≡ true
    → IsPlain (understood cells_schema sql) → reads_listing cells_schema sql ≡ false → (IsTrue old.is_open → old.now.schema ≡ cells_schema) → Rattle.std.specs.Prelude.IfOk r (λ rows. Shown sql params old new rows.items)
    → Rattle.std.specs.Prelude.IfOk r (λ rows. IsTrue old.is_open × Reads (command_of (understood cells_schema sql)) old.now params rows.items)
query_reads old new sql params (Err e) mode plain unlisted has ok = tt
query_reads old new sql params (Ok rows) mode plain unlisted has ok =
    let opened = (shown_keeps old new sql params rows.items mode ok).1 in
    (opened, reads_as sql params old new cells_schema (has opened) (command_of (understood cells_schema sql)) refl plain unlisted rows.items ok)

gets_at : (db : Database) (m : CellMap) (space : ℕ) (key : List ℕ) (rows : List Row) (row : Row) (bytes : List ℕ) → db.schema ≡ cells_schema → IsDatabase db → Shows (db.trees 0) m
    → IsAnswer get_query (overlay db.trees []) (Int (pos space) ∷ Blob key ∷ []) rows → Has rows row → column row 0 ≡ Blob bytes → Some bytes ≡ m space key
gets_at db m space key rows row bytes has sound shows a h read =
    let it = answer_has at_place (col 1 3 ∷ []) db.trees (Int (pos space) ∷ Blob key ∷ []) rows a row h in
    let types = typed_in db has sound it.0 it.1 in
    let at = placed space key [] it.0 types.0 types.1 it.2 in
    sym (shows.sound it.0 space key bytes it.1 (record { space_is = at.0; key_is = at.1; bytes_is = sym (ap (λ (x : Row). column x 0) it.3) ∙ read }))

-- what the first row of the answer gives is what the map has
pub gets : {S E : Type 0} (g : store.Ghosts S) (stays : (s : S) → IsTrue (g.view s).is_open → g.recovers s (g.view s).committed) (h : Held S) (m : CellMap) → Tells (state g h) m → (space : ℕ) (key : List ℕ) (rows : List Row)
    (r : Result (Option (List ℕ)) E) → IsTrue (state g h).is_open → Reads (command_of (understood cells_schema get_text)) (state g h).now (Int (pos space) ∷ Blob key ∷ []) rows
    → IfOk r (λ found. MatchOption found (rows ≡ []) (λ b. (k : ℕ) × (k < length rows) × (column (slice_index_or rows k []) 0 ≡ Blob b)))
    → IfOk r (λ found. found ≡ m space key)
gets g stays h m tells space key rows (Err e) opened read got = tt
gets g stays h m tells space key rows (Ok found) opened read got = go found got
  where
    db : Database
    db = (state g h).now

    shows : Shows ((state g h).now.trees 0) m
    shows = subst (λ (d : Database). Shows (d.trees 0) m) (tells.ready opened).kept (tells.images (g.view h.store).committed (stays h.store opened)).shows

    answer : IsAnswer get_query (overlay (state g h).now.trees []) (Int (pos space) ∷ Blob key ∷ []) rows
    answer = (subst (λ c. Reads c (state g h).now (Int (pos space) ∷ Blob key ∷ []) rows) get_is read).answer Null

    go : (found : Option (List ℕ)) → MatchOption found (rows ≡ []) (λ b. (k : ℕ) × (k < length rows) × (column (slice_index_or rows k []) 0 ≡ Blob b)) → found ≡ m space key
    go None none = gets_none (state g h).now m space key shows (subst (IsAnswer get_query (overlay (state g h).now.trees []) (Int (pos space) ∷ Blob key ∷ [])) none answer)
    go (Some b) it =
        gets_at (state g h).now m space key rows (slice_index_or rows it.0 []) b (tells.ready opened).schema (tells.ready opened).sound shows answer
        (has_contained rows (slice_index_or rows it.0 []) (it.0, it.1, get_or_default rows it.0 (slice_index_or rows it.0 []) [] it.1)) it.2
