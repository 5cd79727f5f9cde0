-- Entries put one after the other.
use Rattle.std.specs.Prelude.{◌≡◌, ℕ, List, [], ◌∷◌, ◌++◌, Bool, true, false, cond, ◌&&◌, T, fold, Option, Some, None, refl}
use Rattle.std.proofs.Common.{◌∙◌, inl, inr, sym, ap, subst}
use Rattle.std.specs.declared.cmp.Ordering.{Ordering}
use Rattle.std.specs.declared.cmp.Ordering.TheVariants.{Less, Equal, Greater}
use Rattle.std.specs.FinMap as map
use Rattle.std.specs.FinMap.{find, is_sorted}
use Rattle.std.specs.FinMap.Entries.{below_all}
use Rattle.std.specs.Ordering.{nat_cmp, is_lt, is_eq}
use Rattle.std.specs.Cmp.{nat_cmp_total, tied_itself}
use Rattle.nb_base.proofs.Maps.{numbers, itself, apart, same_or_other, at_same, at_other}
use Rattle.nb_base.specs.Orders.{ByNumber}
use Rattle.nb_base.specs.declared.tables.Queued.{Queued}

-- the entries with one more
abbrev pub with_one : ByNumber Queued → ℕ × Queued → ByNumber Queued
with_one m e = map.insert m e.0 e.1

pub one_more : (m : ByNumber Queued) (es : List (ℕ × Queued)) (e : ℕ × Queued) → fold with_one m (es ++ e ∷ []) ≡ with_one (fold with_one m es) e
one_more m [] e = refl
one_more m (x ∷ es) e = one_more (with_one m x) es e

first : (a b : Bool) → T (a && b) → T a
first true b p = tt
first false b p = p

second : (a b : Bool) → T (a && b) → T b
second true b p = p
second false b p = absurd p

both : (a b : Bool) → T a → T b → T (a && b)
both true b p q = q
both false b p q = absurd p

not_tied : (o : Ordering) → T (is_lt o) → is_eq o ≡ false
not_tied Less h = refl
not_tied Equal h = absurd h
not_tied Greater h = absurd h

none_below : (k : ℕ) (es : List (ℕ × Queued)) → T (below_all nat_cmp k es) → find nat_cmp k es ≡ None
none_below k [] h = refl
none_below k (e ∷ es) h = ap (λ b. cond b (Some e.1) (find nat_cmp k es)) (not_tied (nat_cmp k e.0) (first _ _ h)) ∙ none_below k es (second _ _ h)

or_other : Option Queued → Option Queued → Option Queued
or_other None o = o
or_other (Some e) o = Some e

get-fold : (m : ByNumber Queued) (es : List (ℕ × Queued)) → T (is_sorted nat_cmp es) → (q : ℕ) → map.get (fold with_one m es) q ≡ or_other (find nat_cmp q es) (map.get m q)
unfolding or_other
get-fold m [] sorted q = refl
get-fold m (e ∷ es) sorted q =
    get-fold (with_one m e) es (second _ _ sorted) q
    ∙ elim (same_or_other numbers q e.0) [
      | inl same ↦
          subst (λ k. or_other (find nat_cmp k es) (map.get (with_one m e) k) ≡ or_other (find nat_cmp k (e ∷ es)) (map.get m k)) (sym same)
          (ap (λ o. or_other o (map.get (with_one m e) e.0)) (none_below e.0 es (first _ _ sorted)) ∙ at_same numbers m e.0 e.1
          ∙ sym (ap (λ b. or_other (cond b (Some e.1) (find nat_cmp e.0 es)) (map.get m e.0)) (itself numbers e.0)))
      | inr other ↦
          ap (or_other (find nat_cmp q es)) (at_other numbers m e.0 e.1 q other)
          ∙ sym (ap (λ b. or_other (cond b (Some e.1) (find nat_cmp q es)) (map.get m q)) (apart numbers q e.0 other))
    ]

or_none : (o : Option Queued) → or_other o None ≡ o
unfolding or_other
or_none None = refl
or_none (Some e) = refl

-- all of the entries, put one after the other
pub fold-entries : (m : ByNumber Queued) → fold with_one map.empty (map.entries m) ≡ m
fold-entries m = map.same_map nat_cmp_total map.nat_cmp-IsAntisymmetric _ _ (λ q.
    get-fold map.empty (map.entries m) (map.entries_sorted m) q ∙ ap (or_other (find nat_cmp q (map.entries m))) (map.get-empty nat_cmp q) ∙ or_none _ ∙ sym (map.get-entries m q))

-- ---- one entry after the others, in order

is_before : (o : Ordering) → T (is_lt o) → o ≡ Less
is_before Less h = refl
is_before Equal h = absurd h
is_before Greater h = absurd h

not_met : (a b : ℕ) → T (is_lt (nat_cmp a b)) → is_eq (nat_cmp b a) ≡ false
not_met a b h = apart numbers b a (λ same. let less = is_before _ h in let tied = ap (nat_cmp a) same ∙ tied_itself nat_cmp_total a in let clash : Less ≡ Equal = sym less ∙ tied in cc)

below_last : (k : ℕ) (es fs : List (ℕ × Queued)) (e : ℕ × Queued) → T (below_all nat_cmp k (es ++ e ∷ fs)) → T (is_lt (nat_cmp k e.0))
below_last k [] fs e h = first _ _ h
below_last k (x ∷ es) fs e h = below_last k es fs e (second _ _ h)

not_yet : (es fs : List (ℕ × Queued)) (e : ℕ × Queued) → T (is_sorted nat_cmp (es ++ e ∷ fs)) → find nat_cmp e.0 es ≡ None
not_yet [] fs e h = refl
not_yet (x ∷ es) fs e h = ap (λ b. cond b (Some x.1) (find nat_cmp e.0 es)) (not_met x.0 e.0 (below_last x.0 es fs e (first _ _ h))) ∙ not_yet es fs e (second _ _ h)

below_front : (k : ℕ) (es fs : List (ℕ × Queued)) → T (below_all nat_cmp k (es ++ fs)) → T (below_all nat_cmp k es)
below_front k [] fs h = tt
below_front k (x ∷ es) fs h = both _ _ (first _ _ h) (below_front k es fs (second _ _ h))

sorted_front : (es fs : List (ℕ × Queued)) → T (is_sorted nat_cmp (es ++ fs)) → T (is_sorted nat_cmp es)
sorted_front [] fs h = tt
sorted_front (x ∷ es) fs h = both _ _ (below_front x.0 es fs (first _ _ h)) (sorted_front es fs (second _ _ h))

none_left : (q : ℕ) → or_other None (map.get {R = nat_cmp} map.empty q) ≡ None
unfolding or_other
none_left q = map.get-empty nat_cmp q

-- what the entries before have under the number of the next one
none_yet : (es fs : List (ℕ × Queued)) (e : ℕ × Queued) → T (is_sorted nat_cmp (es ++ e ∷ fs)) → map.get (fold with_one map.empty es) e.0 ≡ None
none_yet es fs e h =
    get-fold map.empty es (sorted_front es (e ∷ fs) h) e.0 ∙ ap (λ o. or_other o (map.get {R = nat_cmp} map.empty e.0)) (not_yet es fs e h) ∙ none_left e.0

-- no entry before has the number of the next one
pub none_before : (m : ByNumber Queued) (es fs : List (ℕ × Queued)) (e : ℕ × Queued) → map.entries m ≡ es ++ e ∷ fs → map.get (fold with_one map.empty es) e.0 ≡ None
none_before m es fs e all = none_yet es fs e (subst (λ xs. T (is_sorted nat_cmp xs)) all (map.entries_sorted m))
