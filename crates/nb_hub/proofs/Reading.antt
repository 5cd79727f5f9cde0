-- What was read, one read after the other.
use Rattle.std.proofs.Common.{◌≡◌, ℕ, ◌+◌, Some, refl, sym, ap, ◌∙◌, List, [], ◌∷◌, ◌++◌, take}
use Rattle.std.specs.Prelude.{map, slice_get}
use Rattle.nb_base.proofs.ListLaws.{take_next}
use Rattle.nb_base.specs.declared.saga_row.Read.{Read}
use Rattle.nb_base.specs.declared.value.Key.{Key}

abbrev keys_in : List Read → List Key
keys_in rs = map (λ (r : Read). r.key) rs

one_more : (rs : List Read) (r : Read) → keys_in (rs ++ r ∷ []) ≡ keys_in rs ++ r.key ∷ []
one_more [] r = refl
one_more (x ∷ xs) r = ap (λ ks. x.key ∷ ks) (one_more xs r)

pub key_next : (rs : List Read) (i : ℕ) (r : Read) (keys new : List Key) (k : Key) → slice_get rs i ≡ Some r → k ≡ r.key → keys ≡ map (λ (r : Read). r.key) (take i rs) → new ≡ keys ++ k ∷ []
    → new ≡ map (λ (r : Read). r.key) (take (i + 1) rs)
key_next rs i r keys new k at is so_far made =
    made ∙ (λ j. so_far j ++ is j ∷ []) ∙ sym (one_more (take i rs) r) ∙ ap keys_in (sym (take_next rs i r at))
