-- Answers one after the other, and lists of faults that are empty.
use Rattle.std.proofs.Common.{◌≡◌, ℕ, refl, sym, List, [], ◌∷◌, ◌++◌, Bool, true, false, ◌&&◌, Ok, Err, true≢false}
use Rattle.std.specs.List.{AllByRecursion}
use Rattle.nb_check.specs.Breaches.{unless_true}
use Rattle.nb_check.specs.declared.breach.CheckKind.{CheckKind}
use Rattle.nb_eval.specs.Values.{Answer, ◌>>=◌}

pub left-nil : {X : Type 0} (xs ys : List X) → xs ++ ys ≡ [] → xs ≡ []
left-nil [] ys h = refl
left-nil (x ∷ xs) ys h = cc

pub right-nil : {X : Type 0} (xs ys : List X) → xs ++ ys ≡ [] → ys ≡ []
right-nil [] ys h = h
right-nil (x ∷ xs) ys h = cc

pub and-left : (a b : Bool) → a && b ≡ true → a ≡ true
and-left true b h = refl
and-left false b h = h

pub and-right : (a b : Bool) → a && b ≡ true → b ≡ true
and-right true b h = h
and-right false b h = absurd (true≢false (sym h))

pub is-true : (b : Bool) (at : ℕ) (rule : CheckKind) → unless_true b at rule ≡ [] → b ≡ true
is-true true at rule h = refl
is-true false at rule h = cc

pub bind-same : {A B : Type 0} (x : Answer A) (f g : A → Answer B) → ((a : A) → x ≡ Ok a → f a ≡ g a) → (x >>= f) ≡ (x >>= g)
bind-same (Ok a) f g h = h a refl
bind-same (Err e) f g h = refl

pub bind-ok : {A B : Type 0} (x : Answer A) (f : A → Answer B) (b : B) → (x >>= f) ≡ Ok b → (a : A) × (x ≡ Ok a) × (f a ≡ Ok b)
bind-ok (Ok a) f b e = (a, refl, e)
bind-ok (Err s) f b e = absurd (cc)

pub all-left : {X : Type 0} (P : X → Type 0) (xs ys : List X) → AllByRecursion P (xs ++ ys) → AllByRecursion P xs
all-left P [] ys h = tt
all-left P (x ∷ xs) ys h = (h.0, all-left P xs ys h.1)

pub all-right : {X : Type 0} (P : X → Type 0) (xs ys : List X) → AllByRecursion P (xs ++ ys) → AllByRecursion P ys
all-right P [] ys h = h
all-right P (x ∷ xs) ys h = all-right P xs ys h.1

pub all-both : {X : Type 0} (P : X → Type 0) (xs ys : List X) → AllByRecursion P xs → AllByRecursion P ys → AllByRecursion P (xs ++ ys)
all-both P [] ys h k = k
all-both P (x ∷ xs) ys h k = (h.0, all-both P xs ys h.1 k)
