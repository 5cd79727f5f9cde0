-- The keys of a scan ascend, and none comes twice.
use Rattle.std.proofs.Common.{◌≡◌, inl, inr, List, ℕ, [], ◌∷◌, ◌++◌, map, Bool, true, false, cond, get_or, ◌+◌, refl, sym, ap, subst, ◌∙◌}
use Rattle.std.specs.List.{list_all, dedup, dedup_from, IsDistinct, AllByRecursion}
use Rattle.std.specs.List.Sorted.{IsSorted, IsStrictlySortedBy}
use Rattle.std.specs.Ordering.{eq_by_cmp, is_eq, is_lt, nat_cmp, on, ordering_reverse}
use Rattle.std.specs.Cmp.{IsTotalOrder}
use Rattle.std.specs.Cmp.Lexicographic.{slice_cmp}
use Rattle.std.specs.declared.cmp.Ordering.{Ordering}
use Rattle.std.specs.declared.cmp.Ordering.TheVariants.{Less, Equal, Greater}
use Rattle.std.proofs.lemmas.Bool.{cases_Bool}
use Rattle.std.proofs.lemmas.Cmp.{on_total, tied_itself}
use Rattle.std.proofs.lemmas.List.Kept.{IsStrictlySortedBy-dedup}
use Rattle.sqlite.specs.Order.{Row, column, value_cmp}
use Rattle.sqlite.specs.Term.{Env, holds}
use Rattle.sqlite.specs.Query.{Output, output, output_cmp}
use Rattle.sqlite.specs.declared.types.Value.TheVariants.{Blob}
use Rattle.sqlite_value.proofs.OrderLemmas.{value_cmp_total, value_cmp-Blob, then-Equal}
use Rattle.sqlite_rules.specs.Lists.{Has}
use Rattle.sqlite_rules.proofs.ListLemmas.{all_has, all_from}
use Rattle.sqlite_rules.proofs.ProbeLemmas.{has_mapped}
use Rattle.sqlite_trees.specs.Tree.{rowid, IsTable}
use Rattle.nb_cells.specs.declared.cell.Cell.{Cell}
use Rattle.nb_sql.specs.Meaning.{scan_query, at_space}
use Rattle.nb_sql.specs.Shown.{shown_in, shown_of}
use Rattle.nb_sql.proofs.QueryLemmas.{passed, passed_has}

-- the order of the slots that two rows are sorted by
abbrev pub by_slot : Output → Output → Ordering
by_slot = on (λ (o : Output). column o.0 0) value_cmp

by_slot_total : IsTotalOrder by_slot
by_slot_total = on_total (λ (o : Output). column o.0 0) value_cmp_total

scan_cmp : (o p : Output) → output_cmp scan_query o p ≡ by_slot o p
scan_cmp o p = then-Equal (by_slot o p)

rises : (os : List Output) → IsSorted (output_cmp scan_query) os → IsSorted by_slot os
rises os sorted k d low within = ap is_lt (sym (scan_cmp (get_or os (k + 1) d) (get_or os k d))) ∙ sorted k d low within

reversed_eq : (o : Ordering) → is_eq (ordering_reverse o) ≡ is_eq o
reversed_eq Less = refl
reversed_eq Equal = refl
reversed_eq Greater = refl

pub flips : (o p : Output) → eq_by_cmp by_slot o p ≡ eq_by_cmp by_slot p o
flips o p = ap is_eq (by_slot_total.antisymm o p) ∙ reversed_eq (by_slot p o)

module _ {X : Type 0} (E : X → X → Bool) (turns : (x y : X) → E x y ≡ E y x) where
  all_kept : (k : X) (xs : List X) → IsDistinct E (k ∷ xs) → dedup_from E k xs ≡ k ∷ xs
  unfolding IsDistinct
  all_kept k [] apart = refl
  all_kept k (x ∷ xs) apart = rw (turns x k ∙ apart.0.0) (ap (λ ys. k ∷ ys) (all_kept x xs apart.1))

  no_double : (xs : List X) → IsDistinct E xs → dedup E xs ≡ xs
  no_double [] apart = refl
  no_double (x ∷ xs) apart = all_kept x xs apart

-- rows that rise, of which no two tie, ascend
pub ascend : (os : List Output) → IsSorted (output_cmp scan_query) os → IsDistinct (eq_by_cmp by_slot) os → IsStrictlySortedBy by_slot os
ascend os sorted apart = subst (IsStrictlySortedBy by_slot) (no_double (eq_by_cmp by_slot) flips os apart) (IsStrictlySortedBy-dedup by_slot_total (λ x y. refl) os (rises os sorted))

first_apart : (b : Bool) (e : Env) (es : List Env) → (b ≡ true → AllByRecursion (λ y. eq_by_cmp by_slot (output scan_query e) y ≡ false) (map (output scan_query) es))
    → IsDistinct (eq_by_cmp by_slot) (map (output scan_query) es) → IsDistinct (eq_by_cmp by_slot) (map (output scan_query) (cond b (e ∷ []) [] ++ es))
unfolding IsDistinct
first_apart true e es first rest = (first refl, rest)
first_apart false e es first rest = rest

-- no two of the rows with one slot pass
abbrev pub IsAlone : Row → List Row → Type 0
IsAlone params rows =
    (a b : Row) → Has rows a → Has rows b → list_all (holds (params ∷ a ∷ [])) at_space ≡ true → list_all (holds (params ∷ b ∷ [])) at_space ≡ true → is_eq (value_cmp (column a 2) (column b 2)) ≡ true → a ≡ b

not_later : (r : Row) (rows : List Row) → AllByRecursion (λ x. value_cmp (rowid r) (rowid x) ≡ Less) rows → (x : Row) → Has rows x → r ≡ x → ⊥
not_later r rows below x h same =
    let less : value_cmp (rowid r) (rowid x) ≡ Less = all_has (λ y. value_cmp (rowid r) (rowid y) ≡ Less) rows x below h in
    let tied : Equal ≡ Less = sym (tied_itself value_cmp_total (rowid r)) ∙ ap (λ y. value_cmp (rowid r) (rowid y)) same ∙ less in
    cc

pub outputs_apart : (params : Row) (rows : List Row) → IsTable rows → IsAlone params rows → IsDistinct (eq_by_cmp by_slot) (map (output scan_query) (passed at_space params rows))
unfolding passed IsDistinct
outputs_apart params [] table alone = tt
outputs_apart params (r ∷ rows) table alone =
    first_apart (list_all (holds (params ∷ r ∷ [])) at_space) (params ∷ r ∷ []) (passed at_space params rows)
    (λ passes. all_from (λ y. eq_by_cmp by_slot (output scan_query (params ∷ r ∷ [])) y ≡ false) (map (output scan_query) (passed at_space params rows)) (λ y h.
    let e = has_mapped (output scan_query) (passed at_space params rows) y h in
    let x = passed_has at_space params rows e.0 e.1 in
    let is : y ≡ output scan_query (params ∷ x.0 ∷ []) = e.2 ∙ ap (output scan_query) x.3 in
    elim (cases_Bool (eq_by_cmp by_slot (output scan_query (params ∷ r ∷ [])) y)) [
      | inl tied ↦ absurd (not_later r rows table.0 x.0 x.1 (alone r x.0 (inl refl) (inr x.1) passes x.2 (subst (λ z. eq_by_cmp by_slot (output scan_query (params ∷ r ∷ [])) z ≡ true) is tied)))
      | inr not ↦ not
    ]))
    (outputs_apart params rows table.1 (λ a b h k. alone a b (inr h) (inr k)))

cons_same : {X : Type 0} (a b : X) (xs ys : List X) → a ∷ xs ≡ b ∷ ys → (a ≡ b) × (xs ≡ ys)
cons_same a b xs ys same = (cc, cc)

keys_above : (o : Output) (key : List ℕ) (os : List Output) (cells : List Cell) → column o.0 0 ≡ Blob key → ((p : Output) → Has os p → column p.0 0 ≡ column p.1 0)
    → map shown_in (map (λ (p : Output). p.1) os) ≡ map shown_of cells → AllByRecursion (λ p. by_slot o p ≡ Less) os → AllByRecursion (λ k. slice_cmp nat_cmp key k ≡ Less) (map (λ (c : Cell). c.key) cells)
keys_above o key [] [] is each same below = tt
keys_above o key [] (c ∷ cells) is each same below = absurd (let e = same in cc)
keys_above o key (p ∷ os) [] is each same below = absurd (let e = same in cc)
keys_above o key (p ∷ os) (c ∷ cells) is each same below =
    let parts = cons_same _ _ _ _ same in
    let slot : column p.0 0 ≡ Blob c.key = each p (inl refl) ∙ ap (λ v. v.0) parts.0 in (
      sym (value_cmp-Blob key c.key) ∙ ap (λ v. value_cmp v (Blob c.key)) (sym is) ∙ ap (value_cmp (column o.0 0)) (sym slot) ∙ below.0,
      keys_above o key os cells is (λ q h. each q (inr h)) parts.1 below.1,
    )

-- cells that are shown by rows that ascend have keys that ascend
pub keys_ascend : (os : List Output) (cells : List Cell) → ((p : Output) → Has os p → column p.0 0 ≡ column p.1 0) → map shown_in (map (λ (p : Output). p.1) os) ≡ map shown_of cells → IsStrictlySortedBy by_slot os
    → IsStrictlySortedBy (slice_cmp nat_cmp) (map (λ (c : Cell). c.key) cells)
unfolding IsStrictlySortedBy
keys_ascend [] [] each same sorted = tt
keys_ascend [] (c ∷ cells) each same sorted = absurd (let e = same in cc)
keys_ascend (o ∷ os) [] each same sorted = absurd (let e = same in cc)
keys_ascend (o ∷ os) (c ∷ cells) each same sorted =
    let parts = cons_same _ _ _ _ same in
    let slot : column o.0 0 ≡ Blob c.key = each o (inl refl) ∙ ap (λ v. v.0) parts.0 in
    (keys_above o c.key os cells slot (λ q h. each q (inr h)) parts.1 sorted.0, keys_ascend os cells (λ q h. each q (inr h)) parts.1 sorted.1)
