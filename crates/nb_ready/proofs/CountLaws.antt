-- The entries of two sides, and their counts.
use Rattle.std.specs.Prelude.{◌≡◌, ℕ, zero, suc, ◌+◌, ◌-◌, ◌<◌, ◌≤◌, List, [], ◌∷◌, ◌++◌, length, Bool, true, false, cond, ◌&&◌, nat_lt, T, Option, Some, None, IsSome, is_some, refl}
use Rattle.std.proofs.Common.{◌∙◌, sym, ap, subst, inl, inr, arith, true≢false, length-append, lt-ltb}
use Rattle.std.proofs.lemmas.Bool.{le-ltb}
use Rattle.std.proofs.lemmas.List.{nil_from_length}
use Rattle.std.proofs.lemmas.List.Elements.{filter_map-append}
use Rattle.std.proofs.lemmas.Map.Keys.{ge_from_not_lt}
use Rattle.std.specs.declared.cmp.Ordering.{Ordering}
use Rattle.std.specs.declared.cmp.Ordering.TheVariants.{Less, Equal, Greater}
use Rattle.std.specs.List.{AllByRecursion, filter_map, cons_option}
use Rattle.std.specs.FinMap as finite
use Rattle.std.specs.FinMap.{find, put, is_sorted}
use Rattle.std.specs.FinMap.Entries.{below_all}
use Rattle.std.specs.Ordering.{nat_cmp, is_lt, is_eq}
use Rattle.std.specs.Cmp.{nat_cmp_total}
use Rattle.nb_base.specs.declared.entry.Count.{Count}
use Rattle.nb_base.proofs.Maps.{numbers, itself, same_or_other, apart}
use Rattle.nb_ready.specs.Seats.{Seats, count_in, counts_of}
use Rattle.nb_ready.specs.Nodes.{joined, AreApart}
use Rattle.nb_ready.specs.declared.seat.Seat.{Seat}
use Rattle.nb_ready.proofs.SeatLaws.{same_seats}

both : (a b : Bool) → T a → T b → T (a && b)
both true b p q = q
both false b p q = p

first : (a b : Bool) → T (a && b) → T a
first true b p = tt
first false b p = p

second : (a b : Bool) → T (a && b) → T b
second true b p = p
second false b p = absurd p

is_below : (a b : ℕ) → a < b → T (is_lt (nat_cmp a b))
is_below a b lt = go (is_lt (nat_cmp a b)) refl
  where
    go : (t : Bool) → is_lt (nat_cmp a b) ≡ t → T (is_lt (nat_cmp a b))
    go true e = subst T (sym e) tt
    go false e = absurd (let le = ge_from_not_lt a b e in omega arith)

below_both : (k : ℕ) (es fs : List (ℕ × Seat)) → T (below_all nat_cmp k es) → T (below_all nat_cmp k fs) → T (below_all nat_cmp k (es ++ fs))
below_both k [] fs x y = y
below_both k (e ∷ es) fs x y = both _ _ (first _ _ x) (below_both k es fs (second _ _ x) y)

below_from : (k p : ℕ) (fs : List (ℕ × Seat)) → k < p → AllByRecursion (λ e. p ≤ e.0) fs → T (below_all nat_cmp k fs)
below_from k p [] lt h = tt
below_from k p (f ∷ fs) lt h = both _ _ (is_below k f.0 (let le = h.0 in omega arith)) (below_from k p fs lt h.1)

sorted_both : (p : ℕ) (es fs : List (ℕ × Seat)) → T (is_sorted nat_cmp es) → T (is_sorted nat_cmp fs) → AllByRecursion (λ e. e.0 < p) es → AllByRecursion (λ e. p ≤ e.0) fs → T (is_sorted nat_cmp (es ++ fs))
sorted_both p [] fs x y low high = y
sorted_both p (e ∷ es) fs x y low high = both _ _ (below_both e.0 es fs (first _ _ x) (below_from e.0 p fs low.0 high)) (sorted_both p es fs (second _ _ x) y low.1 high)

not_tied : (o : Ordering) → T (is_lt o) → is_eq o ≡ false
not_tied Less h = refl
not_tied Equal h = absurd h
not_tied Greater h = absurd h

none_below : (k : ℕ) (es : List (ℕ × Seat)) → T (below_all nat_cmp k es) → find nat_cmp k es ≡ None
none_below k [] h = refl
none_below k (e ∷ es) h = ap (λ b. cond b (Some e.1) (find nat_cmp k es)) (not_tied (nat_cmp k e.0) (first _ _ h)) ∙ none_below k es (second _ _ h)

absent : (o : Option Seat) (s : Seat) → o ≡ None → o ≡ Some s → ⊥
absent o s e f = cc

-- what holds of each number that is found holds of all
all_found : (P : ℕ → Type 0) (es : List (ℕ × Seat)) → T (is_sorted nat_cmp es) → ((q : ℕ) (s : Seat) → find nat_cmp q es ≡ Some s → P q) → AllByRecursion (λ e. P e.0) es
all_found P [] sorted h = tt
all_found P (e ∷ es) sorted h = (
  h e.0 e.1 (ap (λ b. cond b (Some e.1) (find nat_cmp e.0 es)) (itself numbers e.0)),
  all_found P es (second _ _ sorted) (λ q s found.
      elim (same_or_other numbers q e.0) [
        | inl same ↦ absurd (absent _ s (none_below e.0 es (first _ _ sorted)) (subst (λ k. find nat_cmp k es ≡ Some s) same found))
        | inr other ↦ h q s (ap (λ b. cond b (Some e.1) (find nat_cmp q es)) (apart numbers q e.0 other) ∙ found)
      ]),
)

-- the entries of both sides, one after the other
pub entries-joined : (l r : Seats) (p : ℕ) → AreApart l p r → finite.entries (joined l r) ≡ finite.entries l ++ finite.entries r
entries-joined l r p a =
    let es = finite.entries l in
    let fs = finite.entries r in
    let sorted = sorted_both p es fs (finite.entries_sorted l) (finite.entries_sorted r)
    (all_found (λ q. q < p) es (finite.entries_sorted l) (λ q s found. a.below q s (finite.get-entries l q ∙ found)))
    (all_found (λ q. p ≤ q) fs (finite.entries_sorted r) (λ q s found. a.from q s (finite.get-entries r q ∙ found))) in
    ap finite.entries (same_seats (joined l r) (finite.from_sorted (es ++ fs)) (λ q. finite.get-from_entries nat_cmp_total (es ++ fs) q ∙ sym (finite.get-from_sorted nat_cmp (es ++ fs) q sorted)))
    ∙ finite.entries-from_sorted nat_cmp (es ++ fs) sorted

pub counts-joined : (l r : Seats) (p : ℕ) → AreApart l p r → counts_of (joined l r) ≡ counts_of l ++ counts_of r
counts-joined l r p a = ap (filter_map count_in) (entries-joined l r p a) ∙ filter_map-append count_in (finite.entries l) (finite.entries r)

pub len-joined : (l r : Seats) (p : ℕ) → AreApart l p r → finite.len (joined l r) ≡ finite.len l + finite.len r
len-joined l r p a =
    let e = finite.len-entries (joined l r) ∙ ap length (entries-joined l r p a) ∙ length-append (finite.entries l) (finite.entries r) in
    e ∙ ap (λ n. n + length (finite.entries r)) (sym (finite.len-entries l)) ∙ ap (λ n. finite.len l + n) (sym (finite.len-entries r))

pub entries-empty : finite.entries (finite.empty {K = ℕ} {X = Seat} {R = nat_cmp}) ≡ []
entries-empty = nil_from_length _ (sym (finite.len-entries finite.empty) ∙ finite.len-empty nat_cmp Seat)

pub counts-empty : counts_of finite.empty ≡ []
counts-empty = ap (filter_map count_in) entries-empty

pub entries-one : (n : ℕ) (s : Seat) → finite.entries (finite.insert (finite.empty {K = ℕ} {X = Seat} {R = nat_cmp}) n s) ≡ (n, s) ∷ []
entries-one n s = finite.entries-insert nat_cmp_total finite.empty n s ∙ ap (put nat_cmp n s) entries-empty

pub len-one : (n : ℕ) (s : Seat) → finite.len (finite.insert (finite.empty {K = ℕ} {X = Seat} {R = nat_cmp}) n s) ≡ 1
len-one n s = finite.len-entries _ ∙ ap length (entries-one n s)

pub counts-one : (n : ℕ) (s : Seat) → counts_of (finite.insert finite.empty n s) ≡ cond (nat_lt 0 s.count) (record { number = n; count = s.count } ∷ []) []
counts-one n s = ap (filter_map count_in) (entries-one n s) ∙ by_count (nat_lt 0 s.count)
  where
    by_count : (b : Bool) → cons_option {X = Count} (cond b (Some (record { number = n; count = s.count })) None) [] ≡ cond b (record { number = n; count = s.count } ∷ []) []
    by_count true = refl
    by_count false = refl

-- no more counts than numbers
pub few_counts : (m : Seats) → length (counts_of m) ≤ finite.len m
few_counts m = subst (λ n. length (counts_of m) ≤ n) (sym (finite.len-entries m)) (few (finite.entries m))
  where
    few : (es : List (ℕ × Seat)) → length (filter_map count_in es) ≤ length es
    few [] = omega arith
    few (e ∷ es) = by_one (nat_lt 0 e.1.count) (few es)
      where
        by_one : (b : Bool) → length (filter_map count_in es) ≤ length es → length (cons_option {X = Count} (cond b (Some (record { number = e.0; count = e.1.count })) None) (filter_map count_in es)) ≤ length (e ∷ es)
        by_one true h = omega arith
        by_one false h = omega arith

-- how many numbers there are after a change
pub len-set : (m : Seats) (n : ℕ) (s : Seat) → IsSome (finite.get m n) → finite.len (finite.insert m n s) ≡ finite.len m
len-set m n s has = finite.len-insert nat_cmp_total m n s ∙ ap (λ b. cond b (finite.len m) (finite.len m + 1)) has

pub len-new : (m : Seats) (n : ℕ) (s : Seat) → finite.get m n ≡ None → finite.len (finite.insert m n s) ≡ finite.len m + 1
len-new m n s none = finite.len-insert nat_cmp_total m n s ∙ ap (λ o. cond (is_some o) (finite.len m) (finite.len m + 1)) none

pub len-gone : (m : Seats) (n : ℕ) → IsSome (finite.get m n) → finite.len (finite.remove m n) ≡ finite.len m - 1
len-gone m n has = finite.len-remove nat_cmp_total m n ∙ ap (λ b. cond b (finite.len m - 1) (finite.len m)) has

pub some_number : (m : Seats) (n : ℕ) → IsSome (finite.get m n) → 0 < finite.len m
some_number m n has = go (finite.len m) refl
  where
    go : (k : ℕ) → finite.len m ≡ k → 0 < finite.len m
    go zero e = absurd (true≢false (sym has ∙ ap is_some (ap (λ x. finite.get x n) (finite.empty_of_len m e) ∙ finite.get-empty nat_cmp n)))
    go (suc k) e = omega arith

pub counts-one_above : (n : ℕ) (s : Seat) → 0 < s.count → counts_of (finite.insert finite.empty n s) ≡ record { number = n; count = s.count } ∷ []
counts-one_above n s above = counts-one n s ∙ ap (λ b. cond b (record { number = n; count = s.count } ∷ []) []) (lt-ltb 0 s.count above)

pub counts-one_none : (n : ℕ) (s : Seat) → s.count ≤ 0 → counts_of (finite.insert finite.empty n s) ≡ []
counts-one_none n s none = counts-one n s ∙ ap (λ b. cond b (record { number = n; count = s.count } ∷ []) []) (le-ltb 0 s.count none)
