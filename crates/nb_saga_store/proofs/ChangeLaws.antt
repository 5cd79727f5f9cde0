-- The changes of writes, one by one.
use Rattle.std.specs.Prelude.{◌≡◌, ◌≤◌, ℕ, zero, suc, ◌+◌, List, [], ◌∷◌, ◌++◌, map, length, take, slice_get, Some, refl}
use Rattle.std.proofs.Common.{◌∙◌, ap, sym, subst}
use Rattle.std.specs.List.{AllByRecursion, IsDistinct}
use Rattle.nb_base.specs.Sound.{HaveDistinctNames}
use Rattle.std.proofs.lemmas.List.{take_all}
use Rattle.nb_base.proofs.ListLaws.{take_next}
use Rattle.nb_base.specs.declared.plan.Write.{Write}
use Rattle.nb_base.specs.declared.plan.Write.TheVariants as write
use Rattle.nb_saga_store.specs.Writes.{written_of, CanWrite}
use Rattle.nb_saga_store.specs.Written.{CanSpell}

pub can_spell : (endpoint : List ℕ) (n : ℕ) (w : Write) → CanWrite w → CanSpell (written_of endpoint n w)
can_spell endpoint n (write.SagaPut saga corr revision which originator original fields) can = (refl, can.0, can.1, can.2)
can_spell endpoint n (write.SagaErase saga corr) can = tt
can_spell endpoint n (write.RowPut name value) can = tt
can_spell endpoint n (write.RowErase name) can = tt

-- what was made of each item, and what holds of each
pub record Made {A B : Type 0} (f : A → B) (Is : A → Type 0) (xs : List A) (ys : List B) : Type 0 where
  pub items : ys ≡ map f xs
  pub all : AllByRecursion Is xs

pub Made-start : {A B : Type 0} (f : A → B) (Is : A → Type 0) (xs : List A) → Made f Is (take 0 xs) []
Made-start f Is xs = record { items = refl; all = tt }

map_push : {A B : Type 0} (f : A → B) (xs : List A) (x : A) → map f (xs ++ x ∷ []) ≡ map f xs ++ f x ∷ []
map_push f [] x = refl
map_push f (y ∷ ys) x = ap (λ zs. f y ∷ zs) (map_push f ys x)

all_push : {A : Type 0} (P : A → Type 0) (xs : List A) (x : A) → AllByRecursion P xs → P x → AllByRecursion P (xs ++ x ∷ [])
all_push P [] x all one = (one, tt)
all_push P (y ∷ ys) x all one = (all.0, all_push P ys x all.1 one)

pub Made-next : {A B : Type 0} (f : A → B) (Is : A → Type 0) (xs : List A) (i : ℕ) (x : A) (y : B) (ys : List B) → Made f Is (take i xs) ys → slice_get xs i ≡ Some x → y ≡ f x → Is x → Made f Is (take (i + 1) xs) (ys ++ y ∷ [])
Made-next f Is xs i x y ys so_far at made is =
    rw (take_next xs i x at, made) (record {
      items = ap (λ zs. zs ++ f x ∷ []) so_far.items ∙ sym (map_push f (take i xs) x);
      all = all_push Is (take i xs) x so_far.all is;
    })

pub Made-end : {A B : Type 0} (f : A → B) (Is : A → Type 0) (xs : List A) (i : ℕ) (ys : List B) → Made f Is (take i xs) ys → length xs ≤ i → Made f Is xs ys
Made-end f Is xs i ys so_far all = rw (take_all i xs all) at so_far

-- what holds of each item holds of the one at a place
pub all_at : {A : Type 0} (P : A → Type 0) (xs : List A) (i : ℕ) (x : A) → AllByRecursion P xs → slice_get xs i ≡ Some x → P x
all_at P [] i x all at = absurd cc
all_at P (y ∷ ys) zero x all at = subst P (inside y x at) all.0
  where
    inside : {A : Type 0} (a b : A) → Some a ≡ Some b → a ≡ b
    inside a b e = cc
all_at P (y ∷ ys) (suc i) x all at = all_at P ys i x all.1 at

pub no_fields : HaveDistinctNames []
unfolding IsDistinct
no_fields = tt
