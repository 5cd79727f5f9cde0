-- What a plain query over the table shows.
use Rattle.std.proofs.Common.{◌≡◌, inl, inr, List, [], ◌∷◌, ◌++◌, map, flat_map, Bool, true, false, cond, refl, sym, ap, subst, ◌∙◌}
use Rattle.std.specs.List.{list_all, IsDistinct}
use Rattle.std.proofs.lemmas.Map.Keys.{IsDistinct-IsPermutation}
use Rattle.std.proofs.lemmas.List.Sorted.{Contains-permutation, IsPermutation-sym}
use Rattle.sqlite.specs.Order.{Row}
use Rattle.sqlite.specs.Tree.{Trees}
use Rattle.sqlite.specs.Term.{Term, Env, holds, eval_all}
use Rattle.sqlite.specs.Query.{IsAnswer, Output, output}
use Rattle.sqlite.specs.Program.{overlay}
use Rattle.sqlite_value.specs.declared.keys.Key.{Key}
use Rattle.sqlite_rules.specs.Lists.{Has}
use Rattle.sqlite_rules.proofs.ListLemmas.{has_contained, contains_had, has_left, has_right, has_either}
use Rattle.sqlite_rules.proofs.ProbeLemmas.{has_mapped, mapped_has}
use Rattle.nb_sql.specs.Meaning.{rows_where}

unfoldable pub passed : List Term → Row → List Row → List Env
passed filter params [] = []
passed filter params (r ∷ rows) = cond (list_all (holds (params ∷ r ∷ [])) filter) ((params ∷ r ∷ []) ∷ []) [] ++ passed filter params rows

passed_is : (filter : List Term) (params : Row) (rows : List Row) → flat_map (λ r. cond (list_all (holds (params ∷ r ∷ [])) filter) ((params ∷ r ∷ []) ∷ []) []) rows ≡ passed filter params rows
unfolding passed
passed_is filter params [] = refl
passed_is filter params (r ∷ rows) = ap (λ more. cond (list_all (holds (params ∷ r ∷ [])) filter) ((params ∷ r ∷ []) ∷ []) [] ++ more) (passed_is filter params rows)

has_cond : {X : Type 0} (b : Bool) (e x : X) → Has (cond b (e ∷ []) []) x → (b ≡ true) × (x ≡ e)
has_cond true e x (inl same) = (refl, same)
has_cond true e x (inr none) = absurd none
has_cond false e x none = absurd none

pub passed_has : (filter : List Term) (params : Row) (rows : List Row) (e : Env) → Has (passed filter params rows) e → (r : Row) × Has rows r × (list_all (holds (params ∷ r ∷ [])) filter ≡ true) × (e ≡ params ∷ r ∷ [])
unfolding passed
passed_has filter params [] e h = absurd h
passed_has filter params (r ∷ rows) e h = elim (has_either _ (passed filter params rows) e h) [
  | inl here ↦ let it = has_cond _ (params ∷ r ∷ []) e here in (r, inl refl, it.0, it.1)
  | inr later ↦ let it = passed_has filter params rows e later in (it.0, inr it.1, it.2, it.3)
]

has_passed : (filter : List Term) (params : Row) (rows : List Row) (r : Row) → Has rows r → list_all (holds (params ∷ r ∷ [])) filter ≡ true → Has (passed filter params rows) (params ∷ r ∷ [])
unfolding passed
has_passed filter params [] r h pass = absurd h
has_passed filter params (first ∷ rows) r (inl same) pass =
    has_left (cond (list_all (holds (params ∷ first ∷ [])) filter) ((params ∷ first ∷ []) ∷ []) []) (passed filter params rows) (params ∷ r ∷ [])
    (subst (λ x. Has (cond (list_all (holds (params ∷ x ∷ [])) filter) ((params ∷ x ∷ []) ∷ []) []) (params ∷ r ∷ [])) same (rw pass (inl refl)))
has_passed filter params (first ∷ rows) r (inr later) pass =
    has_right (cond (list_all (holds (params ∷ first ∷ [])) filter) ((params ∷ first ∷ []) ∷ []) []) (passed filter params rows) (params ∷ r ∷ []) (has_passed filter params rows r later pass)

module _ (filter project : List Term) (order : List (Term × Key)) (db : Trees) (params : Row) (rows : List Row) (a : IsAnswer (record (rows_where filter project) { order = order }) (overlay db []) params rows) where
  pub staged : a.staged ≡ passed filter params (db 0)
  staged = a.grouped ∙ passed_is filter params (db 0)

  pub shown : rows ≡ map (λ (o : Output). o.1) a.ordered
  shown = a.shown

  pub ordered_has : (x : Row) → Has rows x → (r : Row) × Has (db 0) r × (list_all (holds (params ∷ r ∷ [])) filter ≡ true) × (x ≡ eval_all project (params ∷ r ∷ []))
  ordered_has x h =
      let o = has_mapped (λ (o : Output). o.1) a.ordered x (subst (λ xs. Has xs x) shown h) in
      let kept = has_contained a.kept o.0 (Contains-permutation a.ordered a.kept o.0 (IsPermutation-sym a.kept a.ordered a.same) (contains_had a.ordered o.0 o.1)) in
      let e = has_mapped (output (record (rows_where filter project) { order = order })) a.staged o.0 (subst (λ xs. Has xs o.0) a.distinct kept) in
      let it = passed_has filter params (db 0) e.0 (subst (λ xs. Has xs e.0) staged e.1) in
      (it.0, it.1, it.2, o.2 ∙ ap (λ (o : Output). o.1) e.2 ∙ ap (eval_all project) it.3)

  pub has_ordered : (r : Row) → Has (db 0) r → list_all (holds (params ∷ r ∷ [])) filter ≡ true → Has rows (eval_all project (params ∷ r ∷ []))
  has_ordered r h pass =
      let env = subst (λ xs. Has xs (params ∷ r ∷ [])) (sym staged) (has_passed filter params (db 0) r h pass) in
      let o = output (record (rows_where filter project) { order = order }) (params ∷ r ∷ []) in
      let kept = subst (λ xs. Has xs o) (sym a.distinct) (mapped_has (output (record (rows_where filter project) { order = order })) a.staged (params ∷ r ∷ []) env) in
      let ordered = has_contained a.ordered o (Contains-permutation a.kept a.ordered o a.same (contains_had a.kept o kept)) in
      subst (λ xs. Has xs (eval_all project (params ∷ r ∷ []))) (sym shown) (mapped_has (λ (o : Output). o.1) a.ordered o ordered)

  -- each sorted row is that of a match
  pub ordered_from : (o : Output) → Has a.ordered o → (e : Env) × (o ≡ output (record (rows_where filter project) { order = order }) e)
  ordered_from o h =
      let kept = has_contained a.kept o (Contains-permutation a.ordered a.kept o (IsPermutation-sym a.kept a.ordered a.same) (contains_had a.ordered o h)) in
      let e = has_mapped (output (record (rows_where filter project) { order = order })) a.staged o (subst (λ xs. Has xs o) a.distinct kept) in
      (e.0, e.2)

  -- rows that differ do so in any order
  pub ordered_apart : (E : Output → Output → Bool) → ((o p : Output) → E o p ≡ E p o) → IsDistinct E (map (output (record (rows_where filter project) { order = order })) (passed filter params (db 0))) → IsDistinct E a.ordered
  ordered_apart E flips apart =
      let kept_is : a.kept ≡ map (output (record (rows_where filter project) { order = order })) (passed filter params (db 0)) = a.distinct ∙ ap (map (output (record (rows_where filter project) { order = order }))) staged in
      IsDistinct-IsPermutation E flips a.kept a.ordered a.same (subst (IsDistinct E) (sym kept_is) apart)

pub answer_has : (filter project : List Term) (db : Trees) (params : Row) (rows : List Row) → IsAnswer (rows_where filter project) (overlay db []) params rows → (x : Row) → Has rows x
    → (r : Row) × Has (db 0) r × (list_all (holds (params ∷ r ∷ [])) filter ≡ true) × (x ≡ eval_all project (params ∷ r ∷ []))
answer_has filter project db params rows a = ordered_has filter project [] db params rows a

pub has_answer : (filter project : List Term) (db : Trees) (params : Row) (rows : List Row) → IsAnswer (rows_where filter project) (overlay db []) params rows → (r : Row) → Has (db 0) r
    → list_all (holds (params ∷ r ∷ [])) filter ≡ true → Has rows (eval_all project (params ∷ r ∷ []))
has_answer filter project db params rows a = has_ordered filter project [] db params rows a
