-- What the first text does.
use Rattle.std.proofs.Common.{◌≡◌, ℕ, [], Ok, Err, Result, None, OnOk, IsTrue, sym, subst, ◌∙◌, ap, false, cond}
use Rattle.sqlite.specs.Tree.{Trees}
use Rattle.sqlite.specs.Change.{created, next_tree}
use Rattle.sqlite.specs.Schema.{Schema}
use Rattle.sqlite.specs.Table.{Table}
use Rattle.sqlite.specs.declared.error.Error.{Error}
use Rattle.sqlite_schema.specs.declared.command.Command.TheVariants.{CreateTable, Nothing}
use Rattle.sqlite_trees.specs.View.{IsShaped}
use Rattle.sqlite_trees.specs.declared.store.Shape.TheVariants as shape
use Rattle.sqlite_trees.specs.declared.store.Store as store
use Rattle.sqlite.specs.Does.{Tally, lacks_sequence}
use Rattle.sqlite.specs.State.{State, Executes, Writes, HasCleanDisk}
use Rattle.sqlite.specs.Held.{Held, state}
use Rattle.sqlite.specs.Effect.{Database, IsDatabase}
use Rattle.std.specs.Prelude.{IfOk}
use Rattle.sqlite.specs.Steps.{over_memory}
use Rattle.sqlite_trees.specs.declared.memory.MemStore.{MemStore}
use Rattle.sqlite.proofs.Callers.{runs_as, memory_is_clean}
use Rattle.nb_cells.specs.Cells.{CellMap}
use Rattle.nb_sql.specs.Held.{Tells, Holds, Shows}
use Rattle.nb_sql.specs.Statements.{create_text, no_schema, cells_schema, cells_table}
use Rattle.nb_sql.proofs.CompileLemmas.{create_is, create_plain, again_is, again_plain}
use Rattle.nb_sql.proofs.ChangeLemmas.{went, same_value, held_by}

shows_none : Shows [] (λ _ _. None)
shows_none = record { sound = λ r s k b none cell. absurd none; complete = λ s k b is. absurd cc }

module _ {S : Type 0} (g : store.Ghosts S) (settled : (s : S) (db : Trees) → IsTrue (g.view s).is_open → g.recovers s db → db ≡ (g.view s).committed) where
  pub creates : (old : State) (h : Held S) (r : Result ℕ Error) → old.in_transaction ≡ false → old.now.schema ≡ no_schema → Executes create_text [] old (state g h) r → OnOk r (Tells (state g h) (λ _ _. None))
  creates old h (Err e) mode has ran = tt
  creates old h (Ok count) mode has ran =
      let new = state g h in
      let w = subst (λ t. Writes old new None CreateTable t [] count) create_is.1 (runs_as create_text [] old new no_schema has CreateTable create_is.0 create_plain count ran) in
      let all = went w.changed in
      let first = went all.1 in
      let made = first.1 in
      let both : ◌≡◌ {A = Result Table _} (Ok made.table) (Ok cells_table) = sym made.defined ∙ create_is.2 in
      let same : made.table ≡ cells_table = same_value both in
      let schema : first.0.schema ≡ cells_schema = made.is ∙ ap (λ s. created s made.table) has ∙ ap (created no_schema) same ∙ create_is.3 in
      let plain : lacks_sequence first.0.schema ≡ false = ap lacks_sequence schema in
      let now : new.now ≡ first.0 = ap (λ (p : Tally × Database). p.1) (same_value all.2) ∙ same_value (rw plain at first.2) in
      let empty : new.now.trees 0 ≡ [] = ap (λ (d : Database). d.trees 0) now ∙ subst (λ s. first.0.trees (next_tree s) ≡ []) has made.empty in
      let kept : new.committed ≡ new.now = w.shown.committed_is ∙ ap (λ b. cond b old.committed new.now) mode in
      record {
        ready = λ _. record { schema = ap (λ (d : Database). d.schema) now ∙ schema; sound = w.sound; shaped = subst (IsShaped shape.Table) (sym empty) (tt, tt); kept = kept };
        images = λ db may. held_by new.now db (λ _ _. None) (ap (λ (d : Database). d.schema) now ∙ schema) w.sound (settled h.store db w.shown.is_open may ∙ ap (λ (d : Database). d.trees) kept) (subst (λ t. Shows t (λ _ _. None)) (sym empty) shows_none);
      }

  pub creates_again : (stays : (s : S) → IsTrue (g.view s).is_open → g.recovers s (g.view s).committed) (old : Held S) (h : Held S) (m : CellMap) (r : Result ℕ Error) → Tells (state g old) m → IsTrue (state g old).is_open
      → Executes create_text [] (state g old) (state g h) r → OnOk r (Tells (state g h) m)
  creates_again stays old h m (Err e) tells opened ran = tt
  creates_again stays old h m (Ok count) tells opened ran =
      let new = state g h in
      let ready = tells.ready opened in
      let same = (runs_as create_text [] (state g old) new cells_schema ready.schema Nothing again_is again_plain count ran).0.0 in
      record {
        ready = λ _. record {
          schema = ap (λ (d : Database). d.schema) same.now_is ∙ ready.schema;
          sound = subst IsDatabase (sym same.now_is) ready.sound;
          shaped = subst (λ (d : Database). IsShaped shape.Table (d.trees 0)) (sym same.now_is) ready.shaped;
          kept = same.committed_is ∙ ready.kept ∙ sym same.now_is;
        };
        images = λ db may. subst (λ (t : Trees). Holds t m) (sym (settled h.store db same.is_open may ∙ ap (λ (d : Database). d.trees) same.committed_is)) (tells.images (g.view old.store).committed (stays old.store opened));
      }

pub in_memory : {X E : Type 0} (r : Result X E) (conn : X → Held MemStore) (schema : Schema) → schema ≡ no_schema
    → IfOk r (λ c. HasCleanDisk (state over_memory (conn c)) → schema ≡ no_schema → Tells (state over_memory (conn c)) (λ _ _. None)) → IfOk r (λ c. Tells (state over_memory (conn c)) (λ _ _. None))
in_memory (Ok c) conn schema none h = h (memory_is_clean (conn c)) none
in_memory (Err e) conn schema none h = tt

pub memory_honest : {X E : Type 0} (r : Result X E) (conn : X → Held MemStore) → IfOk r (λ c. HasCleanDisk (state over_memory (conn c)))
memory_honest (Ok c) conn = memory_is_clean (conn c)
memory_honest (Err e) conn = tt
