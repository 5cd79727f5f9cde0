-- What the two writing texts do inside a transaction.
use Rattle.std.proofs.Common.{◌≡◌, ◌⊎◌, ◌==◌, ◌&&◌, inl, inr, List, ℕ, ℤ, pos, map, drop, [], ◌∷◌, Ok, Err, Result, refl, None, Some, OnOk, Option, IsTrue, sym, subst, ◌∙◌, ap, true, false, arith}
use Rattle.std.specs.Str.{bytes_eq}
use Rattle.std.specs.Bool.{Decides}
use Rattle.std.proofs.lemmas.Bool.Decides.{nat_tests}
use Rattle.std.proofs.lemmas.Bool.{cases_Bool, and_parts, and_from, both_ways, not-true}
use Rattle.std.proofs.lemmas.Slice.Eq.{bytes_eq-Decides}
use Rattle.sqlite.specs.Order.{Row, column, value_cmp}
use Rattle.sqlite.specs.Term.{col, holds, eval_all}
use Rattle.std.specs.List.{list_all}
use Rattle.sqlite.specs.Ops.{binary, is_true}
use Rattle.sqlite.specs.Collation.TheVariants.{Binary}
use Rattle.sqlite_sql.specs.declared.ops.BinaryOp.TheVariants.{Compare}
use Rattle.sqlite_sql.specs.declared.ops.CompareOp.TheVariants.{Eq}
use Rattle.std.proofs.lemmas.Cmp.{tied_itself}
use Rattle.sqlite_value.proofs.OrderLemmas.{value_cmp_total}
use Rattle.sqlite.specs.Query.{IsAnswer}
use Rattle.sqlite.specs.Program.{overlay}
use Rattle.sqlite.specs.declared.types.Value.TheVariants.{Int, Blob, Null}
use Rattle.sqlite.specs.Kind.TheVariants.{Integer, Blob as OfBlob}
use Rattle.sqlite.specs.declared.error.Error.{Error}
use Rattle.sqlite_schema.specs.declared.command.Command.TheVariants.{InsertOr, Delete}
use Rattle.sqlite_schema.specs.declared.command.Source.TheVariants.{Values}
use Rattle.sqlite_schema.specs.declared.schema.Constraint.TheVariants.{Datatype, Unique}
use Rattle.sqlite_schema.specs.Rules.{is_of, Obeys, clashes, agree, differ}
use Rattle.sqlite_catalog.specs.Listing.{IsSound}
use Rattle.sqlite_rules.specs.Lists.{Has}
use Rattle.sqlite_rules.specs.Calls.{ids_of}
use Rattle.sqlite_rules.specs.Edit.{edit_of, without_all, id_in, row_at, put_all, are_fresh, have_rowids, with_rowid, next_rowid}
use Rattle.sqlite_rules.specs.declared.error.Rowids.TheVariants.{Given, Chosen}
use Rattle.sqlite_rules.proofs.ListLemmas.{all_has, some_from}
use Rattle.sqlite_rules.proofs.ProbeLemmas.{has_mapped, mapped_has}
use Rattle.sqlite_rules.proofs.TableLemmas.{without_all_has, put_all_has, put_all_adds, put_all_keeps}
use Rattle.sqlite_rules.proofs.PlaceLemmas.{left_or_taken, row_at_is, tied_same, given as all_given}
use Rattle.sqlite_trees.specs.Tree.{rowid, put_row}
use Rattle.sqlite_trees.specs.View.{IsShaped}
use Rattle.sqlite_trees.specs.declared.store.Shape.TheVariants.{Table}
use Rattle.sqlite_trees.specs.declared.store.Store as store
use Rattle.sqlite_trees.proofs.TreeLemmas.{IsShaped-put_row}
use Rattle.sqlite.specs.Does.{Tally, Does}
use Rattle.sqlite.specs.Rows.{Written, Task, Tries, TriesEach, Judged, Upserts, Meets, Clears, Puts, Updates, nothing, count_of}
use Rattle.sqlite_rules.specs.Keys.{AreConflicts}
use Rattle.sqlite_rules.specs.Cast.{cast_row}
use Rattle.sqlite_rules.specs.declared.error.Refusal.{Refusal}
use Rattle.sqlite_schema.specs.declared.schema.Keys.TheVariants.{Enforced}
use Rattle.sqlite_schema.specs.declared.command.Conflict.TheVariants.{Abort}
use Rattle.sqlite.specs.Listing.{understood}
use Rattle.sqlite.specs.State.{State, ExecutesInside, KeepsCommit, IsUnchanged, IsRolledBack, mode_of}
use Rattle.sqlite.specs.State as States
use Rattle.sqlite.specs.Held.{Held, state}
use Rattle.sqlite.specs.Effect.{Database, IsDatabase}
use Rattle.sqlite.specs.Tree.{Trees}
use Rattle.sqlite.proofs.Callers.{statement_of, runs_as, one_step}
use Rattle.nb_cells.specs.Cells.{CellMap, set_at}
use Rattle.nb_sql.specs.Held.{Sees, Tells, Holds, Shows, IsCell, IsRunning}
use Rattle.nb_sql.specs.Statements.{put_text, erase_text, cells_schema, cells_table}
use Rattle.nb_sql.specs.Meaning.{erase_query, at_place, equal, update_query, put_terms, put_clause}
use Rattle.nb_sql.proofs.CompileLemmas.{erase_is, erase_plain, put_is, put_plain}
use Rattle.nb_sql.proofs.QueryLemmas.{answer_has, has_answer}
use Rattle.nb_sql.proofs.PlaceLemmas.{typed_row, placed, place_holds, left_lacks, has_own_rowid, shaped_without, int_same, blob_same, not_apart, cast_int, cast_null, equal_tied, agree_at, agreed, conflict, conflicted, int_of, int_meets}

pub unchanged_keeps : (old new : State) → IsUnchanged old new → KeepsCommit old new
unchanged_keeps old new same = record { was_open = λ _. same.0.was_open; committed = λ _. same.0.committed_is }

pub rolled_keeps : (old new : State) → IsRolledBack old new → KeepsCommit old new
rolled_keeps old new back = record { was_open = back.was_open; committed = λ now. (back.undone now).1 }

-- no statement inside a transaction commits
pub keeps : (old new : State) (sql : List ℕ) (params : Row) (r : Result ℕ Error) → ExecutesInside 0 sql params old new r → KeepsCommit old new
keeps old new sql params (Ok count) h = record { was_open = λ _. h.1.was_open; committed = λ _. h.1.committed_is }
keeps old new sql params (Err e) (inl h) = elim h.1 [ inl same ↦ unchanged_keeps old new same | inr back ↦ rolled_keeps old new back ]
keeps old new sql params (Err e) (inr h) = unchanged_keeps old new h.2

pub nat_eq-Decides : (a b : ℕ) → Decides (a == b) (a ≡ b)
nat_eq-Decides a b = (λ h. grind (arith, nat_tests), λ h. grind (arith, nat_tests))

pub went : {B E R : Type 0} {b : B} {Stops : E → Type 0} → ((stop : E) × Stops stop × (Ok b ≡ Err stop)) ⊎ R → R
went (inl stopped) = absurd (let e = stopped.2 in cc)
went (inr on) = on

pub same_value : {B E : Type 0} {a b : B} → ◌≡◌ {A = Result B E} (Ok a) (Ok b) → a ≡ b
same_value e = cc

pub typed_in : (db : Database) → db.schema ≡ cells_schema → IsDatabase db → (r : Row) → Has (db.trees 0) r → (is_of Integer (column r 1) ≡ true) × (is_of OfBlob (column r 2) ≡ true) × (is_of OfBlob (column r 3) ≡ true)
typed_in db has sound r h =
    let obeys = subst (λ s. Obeys s db.trees) has sound.obeys in
    typed_row r (and_parts _ _ (all_has _ (db.trees 0) r (obeys.rules Datatype).0 h)).0

set_other : (m : CellMap) (space : ℕ) (key : List ℕ) (new : Option (List ℕ)) (s : ℕ) (k : List ℕ) → ((s ≡ space) × (k ≡ key) → ⊥) → set_at m space key new s k ≡ m s k
set_other m space key new s k apart = elim (cases_Bool (s == space && bytes_eq k key)) [
  | inl is ↦ absurd (let parts = and_parts _ _ is in apart ((nat_eq-Decides s space).0 parts.0, (bytes_eq-Decides k key).0 parts.1))
  | inr not ↦ rw not refl
]

set_here : (m : CellMap) (space : ℕ) (key : List ℕ) (new : Option (List ℕ)) → set_at m space key new space key ≡ new
set_here m space key new = rw (and_from _ _ ((nat_eq-Decides space space).1 refl) ((bytes_eq-Decides key key).1 refl)) refl

place_or : (space : ℕ) (key : List ℕ) (s : ℕ) (k : List ℕ) → ((s ≡ space) × (k ≡ key)) ⊎ ((s ≡ space) × (k ≡ key) → ⊥)
place_or space key s k = elim (cases_Bool (s == space && bytes_eq k key)) [
  | inl is ↦ let parts = and_parts _ _ is in inl ((nat_eq-Decides s space).0 parts.0, (bytes_eq-Decides k key).0 parts.1)
  | inr not ↦ inr (λ same. both_ways _ not (and_from _ _ ((nat_eq-Decides s space).1 same.0) ((bytes_eq-Decides k key).1 same.1)))
]

-- the table without the rows at a place
erased : (db : Trees) (m : CellMap) (space : ℕ) (key : List ℕ) (answers : List Row) → Shows (db 0) m → IsShaped Table (db 0)
    → ((r : Row) → Has (db 0) r → (is_of Integer (column r 1) ≡ true) × (is_of OfBlob (column r 2) ≡ true) × (is_of OfBlob (column r 3) ≡ true))
    → IsAnswer erase_query (overlay db []) (Int (pos space) ∷ Blob key ∷ []) answers → Shows (without_all (db 0) (ids_of answers)) (set_at m space key None)
erased db m space key answers shows shaped typed a =
    let params = Int (pos space) ∷ Blob key ∷ [] in
    let ids = ids_of answers in
    record {
      sound = λ r s k b h cell.
          let was = without_all_has ids (db 0) r h in
          let apart = λ (same : (s ≡ space) × (k ≡ key)).
          let pass = place_holds space key [] r (cell.space_is ∙ ap (λ n. Int (pos n)) same.0) (cell.key_is ∙ ap Blob same.1) in
          let answer = has_answer at_place (col 1 0 ∷ []) db params answers a r was pass in
          let id = mapped_has (λ (x : Row). id_in (rowid x)) answers (column r 0 ∷ []) answer in
          both_ways _ (left_lacks ids (db 0) r h (id_in (rowid r)) id) (has_own_rowid r (all_has _ (db 0) r shaped.1 was)) in
          set_other m space key None s k apart ∙ shows.sound r s k b was cell;
      complete = λ s k b is. elim (place_or space key s k) [
        | inl same ↦ absurd (let e = sym (ap (set_at m space key None s) same.1) in let f : None ≡ Some b = sym (set_here m space key None) ∙ ap (λ n. set_at m space key None n key) (sym same.0) ∙ ap (set_at m space key None s) (sym same.1) ∙ is in cc)
        | inr apart ↦
            let it = shows.complete s k b (sym (set_other m space key None s k apart) ∙ is) in
            elim (left_or_taken (db 0) ids it.0 shaped.0 it.1) [
              | inl left ↦ (it.0, left, it.2)
              | inr taken ↦ absurd (
                  let id = has_mapped (row_at (db 0)) ids it.0 taken in
                  let answer = has_mapped (λ (x : Row). id_in (rowid x)) answers id.0 id.1 in
                  let row = answer_has at_place (col 1 0 ∷ []) db params answers a answer.0 answer.1 in
                  let types = typed row.0 row.1 in
                  let at = placed space key [] row.0 types.0 types.1 row.2 in
                  let same_id : id.0 ≡ id_in (rowid row.0) = answer.2 ∙ ap (λ (x : Row). id_in (rowid x)) row.3 in
                  let found = row_at_is (db 0) (id_in (rowid row.0)) row.0 shaped.0 row.1 (has_own_rowid row.0 (all_has _ (db 0) row.0 shaped.1 row.1)) in
                  let one : it.0 ≡ row.0 = id.2 ∙ ap (row_at (db 0)) same_id ∙ found in
                  apart (int_same s space (sym it.2.space_is ∙ ap (λ (x : Row). column x 1) one ∙ at.0), blob_same k key (sym it.2.key_is ∙ ap (λ (x : Row). column x 2) one ∙ at.1))
                  )
            ]
      ];
    }

pub erases : (old new : State) (m : CellMap) (space : ℕ) (key : List ℕ) (r : Result ℕ Error) → Sees old m → ExecutesInside 0 erase_text (Int (pos space) ∷ Blob key ∷ []) old new r
    → OnOk r (IsRunning new × Sees new (set_at m space key None))
erases old new m space key (Err e) sees ran = tt
erases old new m space key (Ok count) sees ran =
    let seen = sees ran.1.was_open in
    let has = seen.schema in
    let params = Int (pos space) ∷ Blob key ∷ [] in
    let command = Delete 0 (record { lets = []; body = erase_query }) in
    let w = runs_as erase_text params old new cells_schema has command erase_is erase_plain count ran.0 in
    let db = old.now.trees in
    let text = statement_of erase_text (understood cells_schema erase_text) in
    let done = went (subst (λ s. Does old.step_limit (mode_of old) params (record old.now { schema = s }) text None command (Ok (w.tally, new.now))) has w.changed) in
    let now = ap (λ (p : Tally × Database). p.1) (same_value (went (went done.2).2).2) in
    let given = went done.1 in
    let written = went given.2 in
    let trees = ap (λ (it : Written). it.trees) (same_value written.2) in
    let edit = edit_of db cells_table (ids_of given.0) Given 0 [] in
    let rows : written.0 0 ≡ without_all (db 0) (ids_of given.0) = (one_step cells_schema _ db written.0 edit refl written.1).rows in
    let table : new.now.trees 0 ≡ without_all (db 0) (ids_of given.0) = ap (λ (d : Database). d.trees 0) now ∙ ap (λ (t : Trees). t 0) trees ∙ rows in (
      (ran.1.is_open, ran.1.mode),
      λ _. record {
        schema = ap (λ (d : Database). d.schema) now;
        sound = w.sound;
        shaped = subst (IsShaped Table) (sym table) (shaped_without (ids_of given.0) (db 0) seen.shaped);
        shows = subst (λ t. Shows t (set_at m space key None)) (sym table) (erased db m space key given.0 seen.shows seen.shaped (typed_in old.now has seen.sound) (given.1.answer Null));
      },
    )

abbrev pub IsAt : ℕ → List ℕ → Row → Type 0
IsAt space key r = (column r 1 ≡ Int (pos space)) × (column r 2 ≡ Blob key)

-- one row stands at a place
pub one_at : (db : Database) → db.schema ≡ cells_schema → IsDatabase db → IsShaped Table (db.trees 0) → (space : ℕ) (key : List ℕ) (a b : Row) → Has (db.trees 0) a → Has (db.trees 0) b → IsAt space key a → IsAt space key b → a ≡ b
one_at db has sound shaped space key a b h k p q =
    let obeys = subst (λ s. Obeys s db.trees) has sound.obeys in
    let alone = all_has _ (db.trees 0) b (obeys.rules Unique).0 k in
    let free : clashes (record { digits = 0 }) (1 ∷ 2 ∷ []) (db.trees 0) b ≡ false = not-true _ (and_parts _ _ alone).0 in
    let agrees : agree (record { digits = 0 }) (1 ∷ 2 ∷ []) a (1 ∷ 2 ∷ []) b ≡ true = agree_at space key a b p.0 p.1 q.0 q.1 in
    elim (cases_Bool (differ (rowid a) (rowid b))) [
      | inl apart ↦ absurd (both_ways _ free (some_from _ (db.trees 0) a h (and_from _ _ agrees apart)))
      | inr near ↦ tied_same (db.trees 0) a b shaped.0 h k (not_apart (rowid a) (rowid b) (all_has _ (db.trees 0) a shaped.1 h) (all_has _ (db.trees 0) b shaped.1 k) near)
    ]

-- where the rows at a place give way to news, the map has the news there
renewed : (rows left news : List Row) (m : CellMap) (space : ℕ) (key bytes : List ℕ) → Shows rows m → ((x : Row) → Has left x → Has rows x) → ((x : Row) → Has rows x → Has left x ⊎ IsAt space key x)
    → ((x : Row) → Has left x → IsAt space key x → ⊥) → ((x : Row) → Has news x → IsCell space key bytes x) → (first : Row) → Has news first → are_fresh left news ≡ true
    → Shows (put_all left news) (set_at m space key (Some bytes))
renewed rows left news m space key bytes shows was rest none each first there fresh = record {
  sound = λ r s k b h cell. elim (put_all_has news left r h) [
    | inl new ↦
        let it = each r new in
        let s_is = int_same s space (sym cell.space_is ∙ it.space_is) in
        let k_is = blob_same k key (sym cell.key_is ∙ it.key_is) in
        let b_is = blob_same bytes b (sym it.bytes_is ∙ cell.bytes_is) in
        ap (λ n. set_at m space key (Some bytes) n k) s_is ∙ ap (set_at m space key (Some bytes) space) k_is ∙ set_here m space key (Some bytes) ∙ ap Some b_is
    | inr old ↦
        let apart = λ (same : (s ≡ space) × (k ≡ key)). none r old (cell.space_is ∙ ap (λ n. Int (pos n)) same.0, cell.key_is ∙ ap Blob same.1) in
        set_other m space key (Some bytes) s k apart ∙ shows.sound r s k b (was r old) cell
  ];
  complete = λ s k b is. elim (place_or space key s k) [
    | inl same ↦
        let now : Some bytes ≡ Some b = sym (set_here m space key (Some bytes)) ∙ ap (λ n. set_at m space key (Some bytes) n key) (sym same.0) ∙ ap (set_at m space key (Some bytes) s) (sym same.1) ∙ is in
        let b_is : bytes ≡ b = cc in
        let it = each first there in
        (first, put_all_adds news left first fresh there, record { space_is = it.space_is ∙ ap (λ n. Int (pos n)) (sym same.0); key_is = it.key_is ∙ ap Blob (sym same.1); bytes_is = it.bytes_is ∙ ap Blob b_is })
    | inr apart ↦
        let it = shows.complete s k b (sym (set_other m space key (Some bytes) s k apart) ∙ is) in
        elim (rest it.0 it.1) [
          | inl kept ↦ (it.0, put_all_keeps news left it.0 fresh kept, it.2)
          | inr at ↦ absurd (apart (int_same s space (sym it.2.space_is ∙ at.0), blob_same k key (sym it.2.key_is ∙ at.1)))
        ]
  ];
}

shaped_with : (news rows : List Row) → have_rowids news ≡ true → IsShaped Table rows → IsShaped Table (put_all rows news)
shaped_with [] rows keyed h = h
shaped_with (n ∷ news) rows keyed h = let parts = and_parts _ _ keyed in shaped_with news (put_row n rows) parts.1 (IsShaped-put_row n rows parts.0 h)

abbrev task_of : Option ℕ → Row → Task
task_of limit params = record { limit = limit; keys = Enforced; schema = cells_schema; table = cells_table; params = params }

abbrev new_row : ℤ → ℕ → List ℕ → List ℕ → Row
new_row n space key bytes = Int n ∷ Int (pos space) ∷ Blob key ∷ Blob bytes ∷ []

is_new_cell : (n : ℤ) (space : ℕ) (key bytes : List ℕ) → IsCell space key bytes (new_row n space key bytes)
is_new_cell n space key bytes = record { space_is = refl; key_is = refl; bytes_is = refl }

source_is : (rows : List Row) (space : ℕ) (key bytes : List ℕ) → with_rowid Chosen rows (cast_row cells_table (Null ∷ Int (pos space) ∷ Blob key ∷ Blob bytes ∷ [])) ≡ new_row (next_rowid rows) space key bytes
source_is rows space key bytes = rw (cast_null, cast_int (pos space)) refl

cast_new : (n : ℤ) (space : ℕ) (key bytes : List ℕ) → cast_row cells_table (new_row n space key bytes) ≡ new_row n space key bytes
cast_new n space key bytes = rw (cast_int n, cast_int (pos space)) refl

judged : (limit : Option ℕ) (params new : Row) (db : Trees) (one : Written) → Tries (task_of limit params) Abort (put_clause ∷ []) new db (Ok one) → Upserts (task_of limit params) Abort new db (put_clause ∷ []) (Ok one)
judged limit params new db one (inl refused) = absurd (let e = refused.1 in cc)
judged limit params new db one (inr tried) = go tried.0 tried.2
  where
    go : (verdict : Option Refusal) → Judged (task_of limit params) Abort (put_clause ∷ []) new db verdict (Ok one) → Upserts (task_of limit params) Abort new db (put_clause ∷ []) (Ok one)
    go None h = h
    go (Some why) h = absurd (let e = h in cc)

module _ (limit : Option ℕ) (db : Database) (has : db.schema ≡ cells_schema) (sound : IsDatabase db) (shaped : IsShaped Table (db.trees 0)) (m : CellMap) (shows : Shows (db.trees 0) m)
    (space : ℕ) (key bytes : List ℕ) (n : ℤ) (one : Written) where
  params : Row
  params = Int (pos space) ∷ Blob key ∷ Blob bytes ∷ []

  abbrev IsPut : Type 0
  IsPut = IsShaped Table (one.trees 0) × Shows (one.trees 0) (set_at m space key (Some bytes))

  inserted : ((r : Row) → Has (db.trees 0) r → IsAt space key r → ⊥) → Puts (task_of limit (Int (pos space) ∷ Blob key ∷ Blob bytes ∷ [])) (new_row n space key bytes) db.trees (Ok one) → IsPut
  inserted none put =
      let written = went put in
      let edit = edit_of db.trees cells_table [] Given 0 (new_row n space key bytes ∷ []) in
      let applied = one_step cells_schema Enforced db.trees written.0 edit refl written.1 in
      let news : edit.news ≡ new_row n space key bytes ∷ [] = ap (λ r. r ∷ []) (cast_new n space key bytes) in
      let table : one.trees 0 ≡ put_all (db.trees 0) edit.news = ap (λ (w : Written). w.trees 0) (same_value written.2) ∙ applied.rows in
      let each = λ (x : Row) (h : Has edit.news x). elim (subst (λ xs. Has xs x) news h) as (λ _. IsCell space key bytes x) [ inl same ↦ subst (IsCell space key bytes) (sym same) (is_new_cell n space key bytes) | inr more ↦ absurd more ] in
      let first = subst (λ xs. Has xs (new_row n space key bytes)) (sym news) (inl refl) in (
        subst (IsShaped Table) (sym table) (shaped_with edit.news (db.trees 0) applied.keyed shaped),
        subst (λ t. Shows t (set_at m space key (Some bytes))) (sym table)
            (renewed (db.trees 0) (db.trees 0) edit.news m space key bytes shows (λ x h. h) (λ x h. inl h) none each (new_row n space key bytes) first applied.fresh),
      )

  updated : (there : Row) (r : Row) → Has (db.trees 0) r → IsAt space key r → there ≡ rowid r ∷ []
      → Updates (task_of limit (Int (pos space) ∷ Blob key ∷ Blob bytes ∷ [])) (record { lets = []; body = update_query }) (Int (pos space) ∷ Blob key ∷ Blob bytes ∷ rowid there ∷ Int n ∷ Int (pos space) ∷ Blob key ∷ Blob bytes ∷ []) db.trees (Ok one) → IsPut
  updated there r h at is update =
      let asked = went update in
      let answers = asked.0 in
      let given = Int (pos space) ∷ Blob key ∷ Blob bytes ∷ rowid there ∷ Int n ∷ Int (pos space) ∷ Blob key ∷ Blob bytes ∷ [] in
      let filter = equal (col 1 0) (col 0 3) ∷ [] in
      let project = col 1 0 ∷ col 1 0 ∷ col 1 1 ∷ col 1 2 ∷ col 0 7 ∷ [] in
      let a : IsAnswer update_query (overlay db.trees []) given answers = asked.1.answer Null in
      let own = int_of (rowid r) (all_has _ (db.trees 0) r shaped.1 h) in
      let there_is : rowid there ≡ Int own.0 = ap rowid is ∙ own.1 in
      let only : (x : Row) → Has (db.trees 0) x → list_all (holds (given ∷ x ∷ [])) filter ≡ true → x ≡ r =
      λ x k pass.
      let tie : is_true (binary (Compare Eq Binary) (rowid x) (rowid there)) ≡ true = (and_parts _ _ pass).0 in
      let same = equal_tied (rowid x) own.0 (all_has _ (db.trees 0) x shaped.1 k) (subst (λ v. is_true (binary (Compare Eq Binary) (rowid x) v) ≡ true) there_is tie) in
      tied_same (db.trees 0) x r shaped.0 k h (ap (λ v. value_cmp v (rowid r)) (same ∙ sym own.1) ∙ tied_itself value_cmp_total (rowid r)) in
      let meets_r : list_all (holds (given ∷ r ∷ [])) filter ≡ true = and_from _ _ (int_meets (rowid r) (rowid there) own.0 own.1 there_is) refl in
      let answer = has_answer filter project db.trees given answers a r h meets_r in
      let written = went asked.2 in
      let edit = edit_of db.trees cells_table (ids_of answers) Given 1 answers in
      let applied = one_step cells_schema Enforced db.trees written.0 edit refl written.1 in
      let left = without_all (db.trees 0) (ids_of answers) in
      let cast = λ (x : Row). cast_row cells_table (drop 1 x) in
      let news : edit.news ≡ map cast answers = all_given left (map cast answers) in
      let table : one.trees 0 ≡ put_all left edit.news = ap (λ (w : Written). w.trees 0) (same_value written.2) ∙ applied.rows in
      let cell : IsCell space key bytes (cast (eval_all project (given ∷ r ∷ []))) = record { space_is = ap (Rattle.sqlite.specs.Cast.cast Integer) at.0 ∙ cast_int (pos space); key_is = at.1; bytes_is = refl } in
      let each : (x : Row) → Has edit.news x → IsCell space key bytes x =
      λ x k.
      let from = has_mapped cast answers x (subst (λ xs. Has xs x) news k) in
      let row = answer_has filter project db.trees given answers a from.0 from.1 in
      subst (IsCell space key bytes) (sym (from.2 ∙ ap cast row.3 ∙ ap (λ (y : Row). cast (eval_all project (given ∷ y ∷ []))) (only row.0 row.1 row.2))) cell in
      let first = subst (λ xs. Has xs (cast (eval_all project (given ∷ r ∷ [])))) (sym news) (mapped_has cast answers (eval_all project (given ∷ r ∷ [])) answer) in
      let gone = mapped_has (λ (x : Row). id_in (rowid x)) answers (eval_all project (given ∷ r ∷ [])) answer in
      let none : (x : Row) → Has left x → IsAt space key x → ⊥ =
      λ x k place.
      let was = without_all_has (ids_of answers) (db.trees 0) x k in
      let same = one_at db has sound shaped space key x r was h place at in
      both_ways _ (left_lacks (ids_of answers) (db.trees 0) x k (id_in (rowid r)) gone) (rw same (has_own_rowid r (all_has _ (db.trees 0) r shaped.1 h))) in
      let rest : (x : Row) → Has (db.trees 0) x → Has left x ⊎ IsAt space key x =
      λ x k. elim (left_or_taken (db.trees 0) (ids_of answers) x shaped.0 k) [
        | inl kept ↦ inl kept
        | inr taken ↦
            let id = has_mapped (row_at (db.trees 0)) (ids_of answers) x taken in
            let from = has_mapped (λ (y : Row). id_in (rowid y)) answers id.0 id.1 in
            let row = answer_has filter project db.trees given answers a from.0 from.1 in
            let same_id : id.0 ≡ id_in (rowid r) = from.2 ∙ ap (λ (y : Row). id_in (rowid y)) row.3 ∙ ap (λ (y : Row). id_in (rowid y)) (only row.0 row.1 row.2) in
            let found = row_at_is (db.trees 0) (id_in (rowid r)) r shaped.0 h (has_own_rowid r (all_has _ (db.trees 0) r shaped.1 h)) in
            let one : x ≡ r = id.2 ∙ ap (row_at (db.trees 0)) same_id ∙ found in
            inr (ap (λ (y : Row). column y 1) one ∙ at.0, ap (λ (y : Row). column y 2) one ∙ at.1)
      ] in (
        subst (IsShaped Table) (sym table) (shaped_with edit.news left applied.keyed (shaped_without (ids_of answers) (db.trees 0) shaped)),
        subst (λ t. Shows t (set_at m space key (Some bytes))) (sym table)
            (renewed (db.trees 0) left edit.news m space key bytes shows (λ x k. without_all_has (ids_of answers) (db.trees 0) x k) rest none each (cast (eval_all project (given ∷ r ∷ []))) first applied.fresh),
      )

  upserted : Upserts (task_of limit (Int (pos space) ∷ Blob key ∷ Blob bytes ∷ [])) Abort (new_row n space key bytes) db.trees (put_clause ∷ []) (Ok one) → IsPut
  upserted ups = go ups.0 ups.1 ups.2
    where
      cleared : (found : List Row) → Clears (task_of limit (Int (pos space) ∷ Blob key ∷ Blob bytes ∷ [])) Abort (new_row n space key bytes) db.trees found (Ok one) → Puts (task_of limit (Int (pos space) ∷ Blob key ∷ Blob bytes ∷ [])) (new_row n space key bytes) db.trees (Ok one)
      cleared [] h = h
      cleared (x ∷ more) h = h

      go : (found : List Row) → AreConflicts (Some (1 ∷ 2 ∷ [])) cells_schema.indexes cells_table (db.trees 0) (new_row n space key bytes) found
          → Meets (task_of limit (Int (pos space) ∷ Blob key ∷ Blob bytes ∷ [])) (Upserts (task_of limit (Int (pos space) ∷ Blob key ∷ Blob bytes ∷ [])) Abort (new_row n space key bytes) db.trees []) (new_row n space key bytes) db.trees put_clause found (Ok one) → IsPut
      go [] all meets = inserted (λ r h at. all.complete r h (conflict r (new_row n space key bytes) (agree_at space key r (new_row n space key bytes) at.0 at.1 refl refl))) (cleared meets.0 meets.2)
      go (there ∷ more) all meets =
          let it = all.sound there (inl refl) in
          let types = typed_in db has sound it.0 it.1 in
          updated there it.0 it.1 (agreed space key it.0 (new_row n space key bytes) types.0 types.1 refl refl (conflicted it.0 (new_row n space key bytes) it.2)) it.3 meets

pub puts : (old new : State) (m : CellMap) (space : ℕ) (key bytes : List ℕ) (r : Result ℕ Error) → Sees old m → ExecutesInside 0 put_text (Int (pos space) ∷ Blob key ∷ Blob bytes ∷ []) old new r
    → OnOk r (IsRunning new × Sees new (set_at m space key (Some bytes)))
puts old new m space key bytes (Err e) sees ran = tt
puts old new m space key bytes (Ok count) sees ran =
    let seen = sees ran.1.was_open in
    let has = seen.schema in
    let params = Int (pos space) ∷ Blob key ∷ Blob bytes ∷ [] in
    let source = Null ∷ Int (pos space) ∷ Blob key ∷ Blob bytes ∷ [] in
    let command = InsertOr 0 Abort (Values put_terms 4) (put_clause ∷ []) in
    let w = runs_as put_text params old new cells_schema has command put_is put_plain count ran.0 in
    let db = old.now.trees in
    let task = task_of old.step_limit params in
    let text = statement_of put_text (understood cells_schema put_text) in
    let done = went (subst (λ s. Does old.step_limit (mode_of old) params (record old.now { schema = s }) text None command (Ok (w.tally, new.now))) has w.changed) in
    let now = ap (λ (p : Tally × Database). p.1) (same_value (went (went done.2).2).2) in
    let given = went done.1 in
    let counted = went given.2 in
    let tried = went counted.2 in
    let after = went tried.2 in
    let each = went (subst (λ all. TriesEach task Abort (put_clause ∷ []) all (count_of counted.0) (nothing db) (Ok tried.0)) given.1.1 tried.1) in
    let one = subst (λ row. Tries task Abort (put_clause ∷ []) row db (Ok each.0)) (source_is (db 0) space key bytes) each.1 in
    let put = upserted old.step_limit old.now has seen.sound seen.shaped m seen.shows space key bytes (next_rowid (db 0)) each.0 (judged old.step_limit params (new_row (next_rowid (db 0)) space key bytes) db each.0 one) in
    let table : new.now.trees 0 ≡ each.0.trees 0 =
    ap (λ (d : Database). d.trees 0) now ∙ ap (λ (it : Written). it.trees 0) (same_value after.2) ∙ ap (λ (t : Trees). t 0) (same_value after.1) ∙ ap (λ (p : Written × ℤ). p.0.trees 0) (same_value each.2) in (
      (ran.1.is_open, ran.1.mode),
      λ _. record {
        schema = ap (λ (d : Database). d.schema) now;
        sound = w.sound;
        shaped = subst (IsShaped Table) (sym table) put.0;
        shows = subst (λ t. Shows t (set_at m space key (Some bytes))) (sym table) put.1;
      },
    )

pub ended_ok : {X : Type 0} (r : Result X Error) (P : Type 0) {e : Error} → r ≡ Err e → OnOk r P
ended_ok (Ok x) P same = absurd cc
ended_ok (Err e) P same = tt

pub ended_keeps : {S : Type 0} (g : store.Ghosts S) (old new : Held S) → new ≡ old → KeepsCommit (state g old) (state g new)
ended_keeps g old new same = subst (λ h. KeepsCommit (state g old) (state g h)) (sym same) (record { was_open = λ now. now; committed = λ _. refl })

pub keeps_then : (a b c : State) → KeepsCommit a b → KeepsCommit b c → KeepsCommit a c
keeps_then a b c p q = record { was_open = λ now. p.was_open (q.was_open now); committed = λ now. q.committed now ∙ p.committed (q.was_open now) }

-- trees with the schema of the one table, in which it shows the map
pub held_by : (d : Database) (db : Trees) (m : CellMap) → d.schema ≡ cells_schema → IsDatabase d → db ≡ d.trees → Shows (d.trees 0) m → Holds db m
held_by d db m schema sound same shows = record {
  sound = subst (IsSound cells_schema) (sym same) (subst (λ s. IsSound s d.trees) schema sound);
  shows = subst (λ (t : Trees). Shows (t 0) m) (sym same) shows;
}

-- what stands as the transaction begins
pub sees_begun : {S : Type 0} (g : store.Ghosts S) (stays : (s : S) → IsTrue (g.view s).is_open → g.recovers s (g.view s).committed) (h : Held S) (m : CellMap) → Tells (state g h) m → Sees (state g (record h { in_transaction = true })) m
sees_begun g stays h m tells opened =
    let ready = tells.ready opened in
    record { schema = ready.schema; sound = ready.sound; shaped = ready.shaped; shows = subst (λ (d : Database). Shows (d.trees 0) m) ready.kept (tells.images (g.view h.store).committed (stays h.store opened)).shows }

-- a commit leaves what the transaction saw as the one image
pub told_committed : {S : Type 0} (g : store.Ghosts S) (settled : (s : S) (db : Trees) → IsTrue (g.view s).is_open → g.recovers s db → db ≡ (g.view s).committed) (last : State) (end : Held S) (m : CellMap)
    → States.Shows last (state g end) last.now last.now false → Sees last m → Tells (state g end) m
told_committed g settled last end m shown sees =
    let it = sees shown.was_open in
    record {
      ready = λ _. record { schema = ap (λ (d : Database). d.schema) shown.now_is ∙ it.schema; sound = subst IsDatabase (sym shown.now_is) it.sound; shaped = subst (λ (d : Database). IsShaped Table (d.trees 0)) (sym shown.now_is) it.shaped; kept = shown.committed_is ∙ sym shown.now_is };
      images = λ db may. held_by last.now db m it.schema it.sound (settled end.store db shown.is_open may ∙ ap (λ (d : Database). d.trees) shown.committed_is) it.shows;
    }
