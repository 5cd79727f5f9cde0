-- A mark on a number, set and taken away again.
use Rattle.std.proofs.Common.{◌≡◌, ◌∙◌, ℕ, true, false, true≢false, Option, Some, None, refl, sym, ap, inl, inr}
use Rattle.std.specs.Prelude.{is_some, option_map}
use Rattle.std.specs.FinMap as map
use Rattle.nb_base.proofs.Maps.{numbers, same_or_other, at_same, at_other, gone, kept}
use Rattle.nb_base.specs.Orders.{ByNumber}

marked : (o : Option (Unit {0})) → is_some o ≡ true → o ≡ Some tt
marked None is = absurd (true≢false (sym is))
marked (Some u) is = refl

unmarked : (o : Option (Unit {0})) → is_some o ≡ false → o ≡ None
unmarked None is = refl
unmarked (Some u) is = absurd (true≢false is)

-- a mark that is there
pub marked_twice : (m : ByNumber (Unit {0})) (n : ℕ) → is_some (map.get m n) ≡ true → map.insert m n tt ≡ m
marked_twice m n there = map.same_map numbers.total numbers.same _ _ (λ q.
    elim (same_or_other numbers q n) [
      | inl same ↦ ap (map.get (map.insert m n tt)) same ∙ at_same numbers m n tt ∙ sym (marked (map.get m n) there) ∙ ap (map.get m) (sym same)
      | inr other ↦ at_other numbers m n tt q other
    ])

-- a new mark, taken away again
pub marked_back : (m : ByNumber (Unit {0})) (n : ℕ) → is_some (map.get m n) ≡ false → map.remove (map.insert m n tt) n ≡ m
marked_back m n new = map.same_map numbers.total numbers.same _ _ (λ q.
    elim (same_or_other numbers q n) [
      | inl same ↦ ap (map.get (map.remove (map.insert m n tt) n)) same ∙ gone numbers (map.insert m n tt) n ∙ sym (unmarked (map.get m n) new) ∙ ap (map.get m) (sym same)
      | inr other ↦ kept numbers (map.insert m n tt) n q other ∙ at_other numbers m n tt q other
    ])

pub is_some-map : {A B : Type 0} (f : A → B) (o : Option A) → is_some o ≡ is_some (option_map f o)
is_some-map f None = refl
is_some-map f (Some x) = refl
