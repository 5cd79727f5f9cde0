-- Names that are there once.
use Rattle.std.specs.Prelude.{◌≡◌, ◌≤◌, ℕ, zero, suc, ◌+◌, List, [], ◌∷◌, ◌++◌, map, length, take, slice_get, Bool, true, false, cond, not, ◌&&◌, ◌||◌, bytes_eq, is_some, option_copied, Option, Some, None, refl}
use Rattle.std.proofs.Common.{Bor, ◌∙◌, ap, sym, arith, true≢false}
use Rattle.std.specs.Ordering.{eq_by_cmp}
use Rattle.std.specs.Cmp.Lexicographic.{texts_ties, bytes_decides, nat_list_cmp_total}
use Rattle.std.specs.List.{list_any, AllByRecursion, IsDistinct}
use Rattle.std.specs.FinMap as finite
use Rattle.std.proofs.lemmas.List.{take_all}
use Rattle.nb_base.specs.Orders.{ByName, name_cmp}
use Rattle.nb_base.specs.declared.value.Field.{Field}
use Rattle.nb_base.proofs.ListLaws.{take_next}
use Rattle.nb_saga_store.specs.Read.{are_once, have_distinct_names}

any-append : (n : List ℕ) (xs ys : List (List ℕ)) → list_any (bytes_eq n) (xs ++ ys) ≡ (list_any (bytes_eq n) xs || list_any (bytes_eq n) ys)
any-append n [] ys = refl
any-append n (x ∷ xs) ys = elim (bytes_eq n x) as (λ b. (b || list_any (bytes_eq n) (xs ++ ys)) ≡ ((b || list_any (bytes_eq n) xs) || list_any (bytes_eq n) ys)) [ true ↦ refl | false ↦ any-append n xs ys ]

-- a new name leaves each name there once
once-new : (xs : List (List ℕ)) (n : List ℕ) → are_once xs ≡ true → list_any (bytes_eq n) xs ≡ false → are_once (xs ++ n ∷ []) ≡ true
once-new [] n once new = refl
once-new (x ∷ xs) n once new = grind (arith, once, new, any-append x xs (n ∷ []), once-new xs n, bytes_decides n x, bytes_decides x n)

-- a name that is there already
once-again : (xs more : List (List ℕ)) (n : List ℕ) → list_any (bytes_eq n) xs ≡ true → are_once (xs ++ n ∷ more) ≡ false
once-again [] more n there = absurd cc
once-again (x ∷ xs) more n there = grind (arith, there, any-append x xs (n ∷ more), once-again xs more n, bytes_decides n x, bytes_decides x n)

-- ---- as a test

none_any : (n : List ℕ) (xs : List (List ℕ)) → list_any (bytes_eq n) xs ≡ false → AllByRecursion (λ y. bytes_eq n y ≡ false) xs
none_any n [] e = tt
none_any n (x ∷ xs) e =
    (elim (bytes_eq n x) as (λ b. bytes_eq n x ≡ b → (b || list_any (bytes_eq n) xs) ≡ false → AllByRecursion (λ y. bytes_eq n y ≡ false) (x ∷ xs)) [
      | true ↦ λ is e. absurd (true≢false e)
      | false ↦ λ is e. (is, none_any n xs e)
    ]) refl e

any_none : (n : List ℕ) (xs : List (List ℕ)) → AllByRecursion (λ y. bytes_eq n y ≡ false) xs → list_any (bytes_eq n) xs ≡ false
any_none n [] all = refl
any_none n (x ∷ xs) all = rw (all.0, any_none n xs all.1) refl

pub distinct_from : (xs : List (List ℕ)) → are_once xs ≡ true → IsDistinct bytes_eq xs
unfolding IsDistinct
distinct_from [] e = tt
distinct_from (x ∷ xs) e =
    (elim (list_any (bytes_eq x) xs) as (λ b. list_any (bytes_eq x) xs ≡ b → (not b && are_once xs) ≡ true → IsDistinct bytes_eq (x ∷ xs)) [
      | true ↦ λ is e. absurd (true≢false (sym e))
      | false ↦ λ is e. (none_any x xs is, distinct_from xs e)
    ]) refl e

pub once_from : (xs : List (List ℕ)) → IsDistinct bytes_eq xs → are_once xs ≡ true
unfolding IsDistinct
once_from [] d = refl
once_from (x ∷ xs) d = rw (any_none x xs d.0, once_from xs d.1) refl

-- ---- fields

name_of : Field → List ℕ
name_of f = f.name

map-append : {A B : Type 0} (f : A → B) (xs ys : List A) → map f (xs ++ ys) ≡ map f xs ++ map f ys
map-append f [] ys = refl
map-append f (x ∷ xs) ys = ap (λ zs. f x ∷ zs) (map-append f xs ys)

split_at : {A : Type 0} (xs : List A) (i : ℕ) (x : A) → slice_get xs i ≡ Some x → (more : List A) × (xs ≡ take i xs ++ x ∷ more)
split_at [] i x e = absurd cc
split_at (y ∷ ys) zero x e = (ys, cc)
split_at (y ∷ ys) (suc i) x e = let s = split_at ys i x e in (s.0, ap (λ zs. y ∷ zs) s.1)

abbrev names : List Field → List (List ℕ)
names fields = map (λ (f : Field). f.name) fields

-- the fields so far have names of their own, which the map has
pub record SeenNames {V : Type 0} (fields : List Field) (seen : ByName V) : Type 0 where
  pub once : have_distinct_names fields ≡ true
  pub known : (q : List ℕ) → is_some (finite.get seen q) ≡ list_any (bytes_eq q) (names fields)

pub SeenNames-start : {V : Type 0} (fields : List Field) → SeenNames {V = V} (take 0 fields) finite.empty
SeenNames-start fields = record { once = refl; known = λ q. ap is_some (finite.get-empty name_cmp q) }

joined : {V : Type 0} (b : Bool) (v : V) (o : Option V) → is_some (cond b (Some v) o) ≡ (b || is_some o)
joined true v o = refl
joined false v o = refl

pub SeenNames-next : {V : Type 0} (fields : List Field) (i : ℕ) (f : Field) (seen : ByName V) (v : V) → SeenNames (take i fields) seen → slice_get fields i ≡ Some f → is_some (finite.get seen f.name) ≡ false
    → SeenNames (take (i + 1) fields) (finite.insert seen f.name v)
SeenNames-next fields i f seen v so_far at new =
    let one_more : names (take i fields ++ f ∷ []) ≡ names (take i fields) ++ f.name ∷ [] = map-append (λ (f : Field). f.name) (take i fields) (f ∷ []) in
    rw (take_next fields i f at) (record {
      once = ap are_once one_more ∙ once-new (names (take i fields)) f.name so_far.once (sym (so_far.known f.name) ∙ new);
      known = λ q.
          ap is_some (finite.get-insert nat_list_cmp_total seen f.name v q) ∙ joined (eq_by_cmp name_cmp q f.name) v (finite.get seen q)
          ∙ ap (λ b. b || is_some (finite.get seen q)) (sym (texts_ties q f.name)) ∙ ap (λ b. bytes_eq q f.name || b) (so_far.known q)
          ∙ swapped (bytes_eq q f.name) (list_any (bytes_eq q) (names (take i fields)))
          ∙ sym (any-append q (names (take i fields)) (f.name ∷ [])) ∙ ap (list_any (bytes_eq q)) (sym one_more);
    })
  where
    swapped : (a b : Bool) → (a || b) ≡ (b || (a || false))
    swapped true true = refl
    swapped true false = refl
    swapped false true = refl
    swapped false false = refl

pub SeenNames-again : {V : Type 0} (fields : List Field) (i : ℕ) (f : Field) (seen : ByName V) → SeenNames (take i fields) seen → slice_get fields i ≡ Some f → is_some (finite.get seen f.name) ≡ true
    → have_distinct_names fields ≡ false
SeenNames-again fields i f seen so_far at there =
    let s = split_at fields i f at in
    ap have_distinct_names s.1 ∙ ap are_once (map-append (λ (f : Field). f.name) (take i fields) (f ∷ s.0))
    ∙ once-again (names (take i fields)) (names s.0) f.name (sym (so_far.known f.name) ∙ there)

pub SeenNames-end : {V : Type 0} (fields : List Field) (i : ℕ) (seen : ByName V) → SeenNames (take i fields) seen → length fields ≤ i → have_distinct_names fields ≡ true
SeenNames-end fields i seen so_far all = ap have_distinct_names (sym (take_all i fields all)) ∙ so_far.once

pub is_some_copied : {A : Type 0} (o : Option (Bor A)) → is_some (option_copied o) ≡ is_some o
is_some_copied None = refl
is_some_copied (Some x) = refl
