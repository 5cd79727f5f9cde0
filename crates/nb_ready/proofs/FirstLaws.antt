-- The first of the numbers of two sides.
use Rattle.std.specs.Prelude.{◌≡◌, ℕ, ◌<◌, ◌≤◌, Bool, true, false, cond, nat_lt, Option, Some, None, refl}
use Rattle.std.proofs.Common.{◌∙◌, sym, ap, subst, inl, inr, arith, true≢false, ltb-true}
use Rattle.std.proofs.lemmas.Bool.{ltb-false}
use Rattle.std.specs.FinMap as finite
use Rattle.std.specs.Ordering.{nat_cmp}
use Rattle.nb_base.specs.declared.entry.Waiting.{Waiting}
use Rattle.nb_base.proofs.Maps.{numbers, same_or_other, at_same, at_other}
use Rattle.nb_ready.specs.Seats.{Seats, Has, is_free, IsLeastFree, IsFirstDue}
use Rattle.nb_ready.specs.First.{or_else, earlier, first_of, both_first, IsFirst}
use Rattle.nb_ready.specs.Nodes.{joined, AreApart}
use Rattle.nb_ready.specs.declared.first.First.{First}
use Rattle.nb_ready.specs.declared.seat.Seat.{Seat}
use Rattle.nb_ready.proofs.SeatLaws.{has_joined, joined_low, joined_high}

both_free : (l r : Seats) (p : ℕ) (a b : Option ℕ) → AreApart l p r → IsLeastFree l a → IsLeastFree r b → IsLeastFree (joined l r) (or_else a b)
both_free l r p None None apart x y = λ q s has. elim (has_joined l r q s has) [ inl h ↦ x q s h | inr h ↦ y q s h ]
both_free l r p None (Some n) apart x y =
    ((y.0.0, joined_high l r p n y.0.0 apart y.0.1, y.0.2), λ q s has free. elim (has_joined l r q s has) [ inl h ↦ absurd (true≢false (sym free ∙ x q s h)) | inr h ↦ y.1 q s h free ])
both_free l r p (Some n) b apart x y =
    let lt = apart.below n x.0.0 x.0.1 in
    ((x.0.0, joined_low l r n x.0.0 x.0.1, x.0.2), λ q s has free. elim (has_joined l r q s has) [ inl h ↦ x.1 q s h free | inr h ↦ let le = apart.from q s h in omega arith ])

no_due : (s : Seat) (due : ℕ) → s.due ≡ None → s.due ≡ Some due → ⊥
no_due s due e f = cc

two_due : (l r : Seats) (p : ℕ) (a b : Waiting) (t : Bool) → nat_lt b.due a.due ≡ t → AreApart l p r → IsFirstDue l (Some a) → IsFirstDue r (Some b) → IsFirstDue (joined l r) (cond t (Some b) (Some a))
two_due l r p a b true e apart x y =
    let lt : b.due < a.due = ltb-true _ _ e in (
      (y.0.0, joined_high l r p b.number y.0.0 apart y.0.1, y.0.2),
      λ q s due has is. elim (has_joined l r q s has) [
        | inl h ↦ let le = (x.1 q s due h is).0 in (omega arith, λ same. absurd (omega arith))
        | inr h ↦ y.1 q s due h is
      ],
    )
two_due l r p a b false e apart x y =
    let le : a.due ≤ b.due = ltb-false _ _ e in
    let lt = apart.below a.number x.0.0 x.0.1 in (
      (x.0.0, joined_low l r a.number x.0.0 x.0.1, x.0.2),
      λ q s due has is. elim (has_joined l r q s has) [
        | inl h ↦ x.1 q s due h is
        | inr h ↦ let later = (y.1 q s due h is).0 in let from = apart.from q s h in (omega arith, λ same. omega arith)
      ],
    )

both_due : (l r : Seats) (p : ℕ) (a b : Option Waiting) → AreApart l p r → IsFirstDue l a → IsFirstDue r b → IsFirstDue (joined l r) (earlier a b)
both_due l r p None None apart x y = λ q s has. elim (has_joined l r q s has) [ inl h ↦ x q s h | inr h ↦ y q s h ]
both_due l r p None (Some b) apart x y =
    ((y.0.0, joined_high l r p b.number y.0.0 apart y.0.1, y.0.2), λ q s due has is. elim (has_joined l r q s has) [ inl h ↦ absurd (no_due s due (x q s h) is) | inr h ↦ y.1 q s due h is ])
both_due l r p (Some a) None apart x y =
    ((x.0.0, joined_low l r a.number x.0.0 x.0.1, x.0.2), λ q s due has is. elim (has_joined l r q s has) [ inl h ↦ x.1 q s due h is | inr h ↦ absurd (no_due s due (y q s h) is) ])
both_due l r p (Some a) (Some b) apart x y = two_due l r p a b (nat_lt b.due a.due) refl apart x y

-- the first of two sides
pub first_both : (l r : Seats) (p : ℕ) (a b : First) → AreApart l p r → IsFirst l a → IsFirst r b → IsFirst (joined l r) (both_first a b)
first_both l r p a b apart x y = record { free = both_free l r p a.free b.free apart x.free y.free; due = both_due l r p a.due b.due apart x.due y.due }

none_there : (q : ℕ) (s : Seat) → Has finite.empty q s → ⊥
none_there q s has = let e = finite.get-empty {X = Seat} nat_cmp q in cc

-- of no number
pub first_none : IsFirst finite.empty (record { free = None; due = None })
first_none = record { free = λ q s has. absurd (none_there q s has); due = λ q s has. absurd (none_there q s has) }

inside : (s t : Seat) → Some s ≡ Some t → s ≡ t
inside s t e = cc

-- the one number that is there
pub only : (n q : ℕ) (s t : Seat) → Has (finite.insert finite.empty n s) q t → (q ≡ n) × (s ≡ t)
only n q s t has =
    elim (same_or_other numbers q n) [
      | inl same ↦ (same, inside s t (sym (at_same numbers finite.empty n s) ∙ subst (λ k. Has (finite.insert finite.empty n s) k t) same has))
      | inr other ↦ absurd (none_there q t (sym (at_other numbers finite.empty n s q other) ∙ has))
    ]

one_free : (n : ℕ) (s : Seat) (b : Bool) → is_free s ≡ b → IsLeastFree (finite.insert finite.empty n s) (cond b (Some n) None)
one_free n s true e = ((s, at_same numbers finite.empty n s, e), λ q t has free. let is = (only n q s t has).0 in omega arith)
one_free n s false e = λ q t has. ap is_free (sym (only n q s t has).1) ∙ e

one_due : (n : ℕ) (s : Seat) (o : Option ℕ) → s.due ≡ o → IsFirstDue (finite.insert finite.empty n s) (first_of n (record s { due = o })).due
one_due n s None e = λ q t has. ap (λ x. x.due) (sym (only n q s t has).1) ∙ e
one_due n s (Some due) e = (
  (s, at_same numbers finite.empty n s, e),
  λ q t other has is.
      let same = only n q s t has in
      let dues : due ≡ other = some_is due other (sym e ∙ ap (λ x. x.due) same.1 ∙ is) in
      (omega arith, λ _. let number = same.0 in omega arith),
)
  where
    some_is : (x y : ℕ) → Some x ≡ Some y → x ≡ y
    some_is x y e = cc

-- of one number
pub first_one : (n : ℕ) (s : Seat) → IsFirst (finite.insert finite.empty n s) (first_of n s)
first_one n s = record { free = one_free n s (is_free s) refl; due = one_due n s s.due refl }

-- the first of two sides, as a fork notes it
pub first_sides : (low high l : Seats) (p : ℕ) (r : Seats) (a b f : First) → low ≡ l → high ≡ r → AreApart l p r → IsFirst l a → IsFirst r b → f ≡ both_first a b → AreApart low p high × IsFirst (joined low high) f
first_sides low high l p r a b f is_low is_high apart x y is =
    let is_first = subst (IsFirst (joined l r)) (sym is) (first_both l r p a b apart x y) in
    subst (λ m. AreApart m p high × IsFirst (joined m high) f) (sym is_low) (subst (λ m. AreApart l p m × IsFirst (joined l m) f) (sym is_high) (apart, is_first))
