-- Numbers on two sides of a pivot.
use Rattle.std.specs.Prelude.{◌≡◌, ◌≢◌, ◌⊎◌, ℕ, ◌<◌, ◌≤◌, List, [], ◌∷◌, ◌++◌, true, false, cond, Option, Some, None, Result, Ok, Err, IfOk, refl}
use Rattle.std.proofs.Common.{◌∙◌, sym, ap, subst, inl, inr, arith}
use Rattle.std.specs.FinMap as finite
use Rattle.std.specs.FinMap.{find}
use Rattle.std.specs.Ordering.{nat_cmp, eq_by_cmp}
use Rattle.std.specs.Cmp.{nat_cmp_total}
use Rattle.nb_base.proofs.Maps.{numbers, same_or_other, at_same, at_other, gone, kept}
use Rattle.nb_ready.specs.Seats.{Seats, Has, LiesWithin}
use Rattle.nb_ready.specs.Nodes.{joined, AreApart}
use Rattle.nb_ready.specs.declared.seat.Seat.{Seat}

-- the first one, where there is one, and else the second
abbrev pub or_other : Option Seat → Option Seat → Option Seat
or_other None o = o
or_other (Some s) o = Some s

find-append : (q : ℕ) (es fs : List (ℕ × Seat)) → find nat_cmp q (es ++ fs) ≡ or_other (find nat_cmp q es) (find nat_cmp q fs)
find-append q [] fs = refl
find-append q (e ∷ es) fs =
    elim (eq_by_cmp nat_cmp q e.0) as (λ b. cond b (Some e.1) (find nat_cmp q (es ++ fs)) ≡ or_other (cond b (Some e.1) (find nat_cmp q es)) (find nat_cmp q fs)) [
      | true ↦ refl
      | false ↦ find-append q es fs
    ]

-- what is known of a number of either side
pub get-joined : (l r : Seats) (q : ℕ) → finite.get (joined l r) q ≡ or_other (finite.get l q) (finite.get r q)
get-joined l r q =
    finite.get-from_entries nat_cmp_total (finite.entries l ++ finite.entries r) q ∙ find-append q (finite.entries l) (finite.entries r)
    ∙ ap (λ o. or_other o (find nat_cmp q (finite.entries r))) (sym (finite.get-entries l q)) ∙ ap (or_other (finite.get l q)) (sym (finite.get-entries r q))

pub or_other-none : (o : Option Seat) → or_other o None ≡ o
or_other-none None = refl
or_other-none (Some s) = refl

none_if : (o : Option Seat) → ((s : Seat) → o ≡ Some s → ⊥) → o ≡ None
none_if None h = refl
none_if (Some s) h = absurd (h s refl)

pub none_low : (l r : Seats) (p q : ℕ) → AreApart l p r → p ≤ q → finite.get l q ≡ None
none_low l r p q apart le = none_if _ (λ s has. let lt = apart.below q s has in absurd (omega arith))

pub none_high : (l r : Seats) (p q : ℕ) → AreApart l p r → q < p → finite.get r q ≡ None
none_high l r p q apart lt = none_if _ (λ s has. let le = apart.from q s has in absurd (omega arith))

-- below the pivot the low side tells, and from it the high side
pub get-low : (l r : Seats) (p q : ℕ) → AreApart l p r → q < p → finite.get (joined l r) q ≡ finite.get l q
get-low l r p q apart lt = get-joined l r q ∙ ap (or_other (finite.get l q)) (none_high l r p q apart lt) ∙ or_other-none (finite.get l q)

pub get-high : (l r : Seats) (p q : ℕ) → AreApart l p r → p ≤ q → finite.get (joined l r) q ≡ finite.get r q
get-high l r p q apart le = get-joined l r q ∙ ap (λ o. or_other o (finite.get r q)) (none_low l r p q apart le)

-- two that tell the same of each number are the same
pub same_seats : (m n : Seats) → ((q : ℕ) → finite.get m q ≡ finite.get n q) → m ≡ n
same_seats m n alike = finite.same_map nat_cmp_total finite.nat_cmp-IsAntisymmetric m n alike

pub insert_low : (l r : Seats) (n : ℕ) (s : Seat) → joined (finite.insert l n s) r ≡ finite.insert (joined l r) n s
insert_low l r n s =
    same_seats _ _ (λ q.
    get-joined (finite.insert l n s) r q
    ∙ elim (same_or_other numbers q n) [
      | inl same ↦
          subst (λ k. or_other (finite.get (finite.insert l n s) k) (finite.get r k) ≡ finite.get (finite.insert (joined l r) n s) k) (sym same)
          (ap (λ o. or_other o (finite.get r n)) (at_same numbers l n s) ∙ sym (at_same numbers (joined l r) n s))
      | inr other ↦ ap (λ o. or_other o (finite.get r q)) (at_other numbers l n s q other) ∙ sym (get-joined l r q) ∙ sym (at_other numbers (joined l r) n s q other)
    ])

pub insert_high : (l r : Seats) (p n : ℕ) (s : Seat) → AreApart l p r → p ≤ n → joined l (finite.insert r n s) ≡ finite.insert (joined l r) n s
insert_high l r p n s apart le =
    same_seats _ _ (λ q.
    get-joined l (finite.insert r n s) q
    ∙ elim (same_or_other numbers q n) [
      | inl same ↦
          subst (λ k. or_other (finite.get l k) (finite.get (finite.insert r n s) k) ≡ finite.get (finite.insert (joined l r) n s) k) (sym same)
          (ap (λ o. or_other o (finite.get (finite.insert r n s) n)) (none_low l r p n apart le) ∙ at_same numbers r n s ∙ sym (at_same numbers (joined l r) n s))
      | inr other ↦ ap (or_other (finite.get l q)) (at_other numbers r n s q other) ∙ sym (get-joined l r q) ∙ sym (at_other numbers (joined l r) n s q other)
    ])

pub remove_low : (l r : Seats) (p n : ℕ) → AreApart l p r → n < p → joined (finite.remove l n) r ≡ finite.remove (joined l r) n
remove_low l r p n apart lt =
    same_seats _ _ (λ q.
    get-joined (finite.remove l n) r q
    ∙ elim (same_or_other numbers q n) [
      | inl same ↦
          subst (λ k. or_other (finite.get (finite.remove l n) k) (finite.get r k) ≡ finite.get (finite.remove (joined l r) n) k) (sym same)
          (ap (λ o. or_other o (finite.get r n)) (gone numbers l n) ∙ none_high l r p n apart lt ∙ sym (gone numbers (joined l r) n))
      | inr other ↦ ap (λ o. or_other o (finite.get r q)) (kept numbers l n q other) ∙ sym (get-joined l r q) ∙ sym (kept numbers (joined l r) n q other)
    ])

pub remove_high : (l r : Seats) (p n : ℕ) → AreApart l p r → p ≤ n → joined l (finite.remove r n) ≡ finite.remove (joined l r) n
remove_high l r p n apart le =
    same_seats _ _ (λ q.
    get-joined l (finite.remove r n) q
    ∙ elim (same_or_other numbers q n) [
      | inl same ↦
          subst (λ k. or_other (finite.get l k) (finite.get (finite.remove r n) k) ≡ finite.get (finite.remove (joined l r) n) k) (sym same)
          (ap (λ o. or_other o (finite.get (finite.remove r n) n)) (none_low l r p n apart le) ∙ gone numbers r n ∙ sym (gone numbers (joined l r) n))
      | inr other ↦ ap (or_other (finite.get l q)) (kept numbers r n q other) ∙ sym (get-joined l r q) ∙ sym (kept numbers (joined l r) n q other)
    ])

-- the numbers after a change are those before, and the one that was put
has_insert : (m : Seats) (n q : ℕ) (s t : Seat) → Has (finite.insert m n s) q t → (q ≡ n) ⊎ Has m q t
has_insert m n q s t has = elim (same_or_other numbers q n) [ inl same ↦ inl same | inr other ↦ inr (sym (at_other numbers m n s q other) ∙ has) ]

absent : (o : Option Seat) (s : Seat) → o ≡ None → o ≡ Some s → ⊥
absent o s e f = cc

has_remove : (m : Seats) (n q : ℕ) (t : Seat) → Has (finite.remove m n) q t → Has m q t
has_remove m n q t has =
    elim (same_or_other numbers q n) [
      | inl same ↦ absurd (absent _ t (gone numbers m n) (subst (λ k. Has (finite.remove m n) k t) same has))
      | inr other ↦ sym (kept numbers m n q other) ∙ has
    ]

pub apart-insert_low : (l r : Seats) (p n : ℕ) (s : Seat) → AreApart l p r → n < p → AreApart (finite.insert l n s) p r
apart-insert_low l r p n s apart lt = record {
  below = λ q t has. elim (has_insert l n q s t has) [ inl same ↦ omega arith | inr was ↦ apart.below q t was ];
  from = apart.from;
}

pub apart-insert_high : (l r : Seats) (p n : ℕ) (s : Seat) → AreApart l p r → p ≤ n → AreApart l p (finite.insert r n s)
apart-insert_high l r p n s apart le = record {
  below = apart.below;
  from = λ q t has. elim (has_insert r n q s t has) [ inl same ↦ omega arith | inr was ↦ apart.from q t was ];
}

pub apart-remove_low : (l r : Seats) (p n : ℕ) → AreApart l p r → AreApart (finite.remove l n) p r
apart-remove_low l r p n apart = record { below = λ q t has. apart.below q t (has_remove l n q t has); from = apart.from }

pub apart-remove_high : (l r : Seats) (p n : ℕ) → AreApart l p r → AreApart l p (finite.remove r n)
apart-remove_high l r p n apart = record { below = apart.below; from = λ q t has. apart.from q t (has_remove r n q t has) }

pub has_joined : (l r : Seats) (q : ℕ) (s : Seat) → Has (joined l r) q s → Has l q s ⊎ Has r q s
has_joined l r q s has = from_both (finite.get l q) (finite.get r q) (sym (get-joined l r q) ∙ has)
  where
    from_both : (a b : Option Seat) → or_other a b ≡ Some s → (a ≡ Some s) ⊎ (b ≡ Some s)
    from_both None b e = inr e
    from_both (Some x) b e = inl e

pub joined_low : (l r : Seats) (q : ℕ) (s : Seat) → Has l q s → Has (joined l r) q s
joined_low l r q s has = get-joined l r q ∙ ap (λ o. or_other o (finite.get r q)) has

pub joined_high : (l r : Seats) (p q : ℕ) (s : Seat) → AreApart l p r → Has r q s → Has (joined l r) q s
joined_high l r p q s apart has = get-high l r p q apart (apart.from q s has) ∙ has

-- what is put later counts
pub insert-insert : (m : Seats) (n : ℕ) (s t : Seat) → finite.insert (finite.insert m n s) n t ≡ finite.insert m n t
insert-insert m n s t = same_seats _ _ (λ q.
    elim (same_or_other numbers q n) [
      | inl same ↦ subst (λ k. finite.get (finite.insert (finite.insert m n s) n t) k ≡ finite.get (finite.insert m n t) k) (sym same) (at_same numbers (finite.insert m n s) n t ∙ sym (at_same numbers m n t))
      | inr other ↦ at_other numbers (finite.insert m n s) n t q other ∙ at_other numbers m n s q other ∙ sym (at_other numbers m n t q other)
    ])

-- a side without numbers
pub joined-empty_low : (r : Seats) → joined finite.empty r ≡ r
joined-empty_low r = same_seats _ _ (λ q. get-joined finite.empty r q ∙ ap (λ o. or_other o (finite.get r q)) (finite.get-empty nat_cmp q))

pub joined-empty_high : (l : Seats) → joined l finite.empty ≡ l
joined-empty_high l = same_seats _ _ (λ q. get-joined l finite.empty q ∙ ap (or_other (finite.get l q)) (finite.get-empty nat_cmp q) ∙ or_other-none (finite.get l q))

pub none_there : (q : ℕ) (s : Seat) → Has finite.empty q s → ⊥
none_there q s has = absent _ s (finite.get-empty nat_cmp q) has

pub apart_low : (l : Seats) (p : ℕ) → ((q : ℕ) (s : Seat) → Has l q s → q < p) → AreApart l p finite.empty
apart_low l p below = record { below = below; from = λ q s has. absurd (none_there q s has) }

pub apart_high : (p : ℕ) (r : Seats) → ((q : ℕ) (s : Seat) → Has r q s → p ≤ q) → AreApart finite.empty p r
apart_high p r from = record { below = λ q s has. absurd (none_there q s has); from = from }

-- two numbers that part at the pivot
pub apart_ones : (n m p : ℕ) (s t : Seat) → n < p → p ≤ m → AreApart (finite.insert finite.empty n s) p (finite.insert finite.empty m t)
apart_ones n m p s t lt le = apart-insert_high (finite.insert finite.empty n s) finite.empty p m t (apart-insert_low finite.empty finite.empty p n s (apart_low finite.empty p (λ q x has. absurd (none_there q x has))) lt) le

pub joined_ones : (n m p : ℕ) (s t : Seat) → n < p → p ≤ m → joined (finite.insert finite.empty n s) (finite.insert finite.empty m t) ≡ finite.insert (finite.insert finite.empty n s) m t
joined_ones n m p s t lt le =
    let one = finite.insert finite.empty n s in
    insert_high one finite.empty p m t (apart-insert_low finite.empty finite.empty p n s (apart_low finite.empty p (λ q x has. absurd (none_there q x has))) lt) le ∙ ap (λ x. finite.insert x m t) (joined-empty_high one)

pub lie_within : (n m : ℕ) (s t : Seat) → n < m → LiesWithin (finite.insert (finite.insert finite.empty n s) m t) n m
lie_within n m s t lt q x has =
    elim (has_insert (finite.insert finite.empty n s) m q t x has) [
      | inl same ↦ (omega arith, omega arith)
      | inr one ↦ elim (has_insert finite.empty n q s x one) [ inl same ↦ (omega arith, omega arith) | inr none ↦ absurd (none_there q x none) ]
    ]

pub insert-swap : (m : Seats) (n k : ℕ) (s t : Seat) → n ≢ k → finite.insert (finite.insert m k t) n s ≡ finite.insert (finite.insert m n s) k t
insert-swap m n k s t differ = same_seats _ _ (λ q.
    elim (same_or_other numbers q n) [
      | inl same ↦
          subst (λ j. finite.get (finite.insert (finite.insert m k t) n s) j ≡ finite.get (finite.insert (finite.insert m n s) k t) j) (sym same)
          (at_same numbers (finite.insert m k t) n s ∙ sym (at_other numbers (finite.insert m n s) k t n differ ∙ at_same numbers m n s))
      | inr other ↦ at_other numbers (finite.insert m k t) n s q other
          ∙ elim (same_or_other numbers q k) [
            | inl same ↦
                subst (λ j. finite.get (finite.insert m k t) j ≡ finite.get (finite.insert (finite.insert m n s) k t) j) (sym same)
                (at_same numbers m k t ∙ sym (at_same numbers (finite.insert m n s) k t))
            | inr others ↦ at_other numbers m k t q others ∙ sym (at_other numbers (finite.insert m n s) k t q others ∙ at_other numbers m n s q other)
          ]
    ])

-- nothing is taken out where nothing is
pub remove-absent : (m : Seats) (n : ℕ) → finite.get m n ≡ None → m ≡ finite.remove m n
remove-absent m n none = same_seats _ _ (λ q.
    elim (same_or_other numbers q n) [
      | inl same ↦ subst (λ k. finite.get m k ≡ finite.get (finite.remove m n) k) (sym same) (none ∙ sym (gone numbers m n))
      | inr other ↦ sym (kept numbers m n q other)
    ])

-- the one number is taken out
pub remove-one : (n : ℕ) (s : Seat) → finite.empty {R = nat_cmp} ≡ finite.remove (finite.insert finite.empty n s) n
remove-one n s =
    let one : Seats = finite.insert finite.empty n s in
    let none : Seats = finite.empty in
    same_seats none (finite.remove one n) (λ q.
    elim (same_or_other numbers q n) [
      | inl same ↦ subst (λ k. finite.get none k ≡ finite.get (finite.remove one n) k) (sym same) (finite.get-empty nat_cmp n ∙ sym (gone numbers one n))
      | inr other ↦ sym (kept numbers one n q other ∙ at_other numbers none n s q other)
    ])

pub if_same : {E : Type 0} (r : Result (Seats × ℕ) E) (m n : Seats) → IfOk r (λ t. t.0 ≡ m) → m ≡ n → IfOk r (λ t. t.0 ≡ n)
if_same (Ok t) m n is same = is ∙ same
if_same (Err e) m n is same = tt
