-- A `BTreeMap`, seen as a finite map.
use Rattle.std.proofs.Common.{◌≡◌, Bool, true, false, cond, T, subst, Ordering, Less, Some, None, refl, sym, ap, ◌∙◌, List, [], ◌∷◌}
use Rattle.std.specs.Prelude.{◌&&◌}
use Rattle.std.specs.Ordering.{is_lt}
use Rattle.std.specs.List.{AllByRecursion}
use Rattle.std.specs.List.Sorted.{IsStrictlySortedBy}
use Rattle.std.specs.Cmp.{eq_by_cmp_equiv}
use Rattle.std.specs.Map.{lookup, keys_of}
use Rattle.std.specs.BTreeMap.{is_at}
use Rattle.std.specs.FinMap as map
use Rattle.std.specs.FinMap.{find, same_map, get-from_entries, get-insert, get-remove, from_entries, from_sorted, get-from_sorted, entries-from_sorted, is_sorted}
use Rattle.std.specs.FinMap.Entries.{below_all}
use Rattle.nb_base.proofs.Maps.{IsExact}

pair : (a b : Bool) → T a → T b → T (a && b)
pair true b p q = q
pair false b p q = absurd p

module _ {K V : Type 0} {R : K → K → Ordering} (x : IsExact R) where
  find_is : (es : List (K × V)) (q : K) → find R q es ≡ lookup (is_at (R q)) es
  find_is [] q = refl
  find_is (e ∷ es) q = ap (cond (is_at (R q) e.0) (Some e.1)) (find_is es q)

  pub got : (es : List (K × V)) (q : K) → map.get (from_entries {R = R} es) q ≡ lookup (is_at (R q)) es
  got es q = get-from_entries x.total es q ∙ find_is es q

  pub inserted : (es fs : List (K × V)) (k : K) (v : V) → ((q : K) → lookup (is_at (R q)) fs ≡ cond (is_at (R k) q) (Some v) (lookup (is_at (R q)) es))
      → from_entries {R = R} fs ≡ map.insert (from_entries es) k v
  inserted es fs k v h = same_map x.total x.same _ _ (λ q.
      got fs q ∙ h q ∙ ap (λ b. cond b (Some v) (lookup (is_at (R q)) es)) ((eq_by_cmp_equiv x.total).symm k q)
      ∙ sym (get-insert x.total (from_entries es) k v q ∙ ap (cond (is_at (R q) k) (Some v)) (got es q)))

  pub taken : (es fs : List (K × V)) (k : K) → ((q : K) → lookup (is_at (R q)) fs ≡ cond (is_at (R k) q) None (lookup (is_at (R q)) es))
      → from_entries {R = R} fs ≡ map.remove (from_entries es) k
  taken es fs k h = same_map x.total x.same _ _ (λ q.
      got fs q ∙ h q ∙ ap (λ b. cond b None (lookup (is_at (R q)) es)) ((eq_by_cmp_equiv x.total).symm k q)
      ∙ sym (get-remove x.total (from_entries es) k q ∙ ap (cond (is_at (R q) k) None) (got es q)))

  low_of : (k : K) (es : List (K × V)) → AllByRecursion (λ y. R k y ≡ Less) (keys_of es) → T (below_all R k es)
  low_of k [] h = tt
  low_of k (e ∷ es) h = pair _ _ (subst (λ r. T (is_lt r)) (sym h.0) tt) (low_of k es h.1)

  sorted_of : (es : List (K × V)) → IsStrictlySortedBy R (keys_of es) → T (is_sorted R es)
  unfolding IsStrictlySortedBy
  sorted_of [] h = tt
  sorted_of (e ∷ es) h = pair _ _ (low_of e.0 es h.0) (sorted_of es h.1)

  -- the entries of the map are those of the tree
  pub entries_of : (es : List (K × V)) → IsStrictlySortedBy R (keys_of es) → map.entries (from_entries {R = R} es) ≡ es
  entries_of es h =
      let s = sorted_of es h in
      let same : from_entries {R = R} es ≡ from_sorted es = same_map x.total x.same _ _ (λ q. get-from_entries x.total es q ∙ sym (get-from_sorted R es q s)) in
      ap map.entries same ∙ entries-from_sorted R es s
