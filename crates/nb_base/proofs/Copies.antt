-- A copy of a finite map, entry after entry.
use Rattle.std.proofs.Common.{◌≡◌, List, [], ◌∷◌, ◌++◌, Bool, true, false, cond, T, fold, Option, Some, None, refl, inl, inr, sym, ap, ◌∙◌, subst, Ordering, Less, Equal, Greater}
use Rattle.std.specs.Prelude.{◌&&◌}
use Rattle.std.specs.FinMap as map
use Rattle.std.specs.FinMap.{FinMap, find, is_sorted}
use Rattle.std.specs.FinMap.Entries.{below_all}
use Rattle.std.specs.Ordering.{is_lt, is_eq}
use Rattle.nb_base.proofs.Maps.{IsExact, itself, apart, same_or_other, at_same, at_other}

first : (a b : Bool) → T (a && b) → T a
first true b p = tt
first false b p = p

second : (a b : Bool) → T (a && b) → T b
second true b p = p
second false b p = absurd p

not_tied : (o : Ordering) → T (is_lt o) → is_eq o ≡ false
not_tied Less h = refl
not_tied Equal h = absurd h
not_tied Greater h = absurd h

or_other : {V : Type 0} → Option V → Option V → Option V
or_other None o = o
or_other (Some e) o = Some e

or_none : {V : Type 0} (o : Option V) → or_other o None ≡ o
unfolding or_other
or_none None = refl
or_none (Some e) = refl

-- the map with one entry more
abbrev pub with_one : {K V : Type 0} {R : K → K → Ordering} → FinMap R V → K × V → FinMap R V
with_one m e = map.insert m e.0 e.1

pub one_more : {K V : Type 0} {R : K → K → Ordering} (m : FinMap R V) (es : List (K × V)) (e : K × V) → fold with_one m (es ++ e ∷ []) ≡ with_one (fold with_one m es) e
one_more m [] e = refl
one_more m (x ∷ es) e = one_more (with_one m x) es e

module _ {K V : Type 0} {R : K → K → Ordering} (x : IsExact R) where
  none_below : (k : K) (es : List (K × V)) → T (below_all R k es) → find R k es ≡ None
  none_below k [] h = refl
  none_below k (e ∷ es) h = ap (λ b. cond b (Some e.1) (find R k es)) (not_tied (R k e.0) (first _ _ h)) ∙ none_below k es (second _ _ h)

  get-fold : (m : FinMap R V) (es : List (K × V)) → T (is_sorted R es) → (q : K) → map.get (fold with_one m es) q ≡ or_other (find R q es) (map.get m q)
  unfolding or_other
  get-fold m [] sorted q = refl
  get-fold m (e ∷ es) sorted q =
      get-fold (with_one m e) es (second _ _ sorted) q
      ∙ elim (same_or_other x q e.0) [
        | inl same ↦
            subst (λ k. or_other (find R k es) (map.get (with_one m e) k) ≡ or_other (find R k (e ∷ es)) (map.get m k)) (sym same)
            (ap (λ o. or_other o (map.get (with_one m e) e.0)) (none_below e.0 es (first _ _ sorted)) ∙ at_same x m e.0 e.1
            ∙ sym (ap (λ b. or_other (cond b (Some e.1) (find R e.0 es)) (map.get m e.0)) (itself x e.0)))
        | inr other ↦
            ap (or_other (find R q es)) (at_other x m e.0 e.1 q other)
            ∙ sym (ap (λ b. or_other (cond b (Some e.1) (find R q es)) (map.get m q)) (apart x q e.0 other))
      ]

  -- all of the entries, put one after the other
  pub fold-entries : (m : FinMap R V) → fold with_one map.empty (map.entries m) ≡ m
  fold-entries m = map.same_map x.total x.same _ _ (λ q.
      get-fold map.empty (map.entries m) (map.entries_sorted m) q ∙ ap (or_other (find R q (map.entries m))) (map.get-empty R q) ∙ or_none _ ∙ sym (map.get-entries m q))
