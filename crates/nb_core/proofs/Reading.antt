-- Keys are read one after the other.
use Rattle.std.proofs.Common.{◌≡◌, ℕ, suc, ◌+◌, Some, refl, sym, ap, ◌∙◌, List, [], ◌∷◌, ◌++◌, take, length}
use Rattle.std.specs.Prelude.{map, slice_get}
use Rattle.nb_base.proofs.ListLaws.{take_next}
use Rattle.nb_base.specs.Shown.{Stored, shown, seen}
use Rattle.nb_base.specs.declared.saga_row.Read.{Read}
use Rattle.nb_base.specs.declared.value.Key.{Key}

seen_more : (t : Stored) (ks : List Key) (k : Key) → seen t (ks ++ k ∷ []) ≡ seen t ks ++ record { key = k; seen = shown t k } ∷ []
seen_more t [] k = refl
seen_more t (x ∷ xs) k = ap (λ rs. record { key = x; seen = shown t x } ∷ rs) (seen_more t xs k)

pub read_next : (t : Stored) (ks : List Key) (i : ℕ) (k : Key) (reads new : List Read) (x : Read) → slice_get ks i ≡ Some k → x ≡ record { key = k; seen = shown t k }
    → reads ≡ seen t (take i ks) → new ≡ reads ++ x ∷ [] → new ≡ seen t (take (i + 1) ks)
read_next t ks i k reads new x at is so_far made =
    made ∙ (λ j. so_far j ++ is j ∷ []) ∙ sym (seen_more t (take i ks) k) ∙ ap (seen t) (sym (take_next ks i k at))

again_more : (t : Stored) (rs : List Read) (r : Read) → seen t (map (λ (x : Read). x.key) (rs ++ r ∷ [])) ≡ seen t (map (λ (x : Read). x.key) rs) ++ record { key = r.key; seen = shown t r.key } ∷ []
again_more t [] r = refl
again_more t (x ∷ xs) r = ap (λ ys. record { key = x.key; seen = shown t x.key } ∷ ys) (again_more t xs r)

pub read_again : (t : Stored) (rs : List Read) (i : ℕ) (r : Read) (reads new : List Read) (x : Read) → slice_get rs i ≡ Some r → x ≡ record { key = r.key; seen = shown t r.key }
    → reads ≡ seen t (map (λ (y : Read). y.key) (take i rs)) → new ≡ reads ++ x ∷ [] → new ≡ seen t (map (λ (y : Read). y.key) (take (i + 1) rs))
read_again t rs i r reads new x at is so_far made =
    made ∙ (λ j. so_far j ++ is j ∷ []) ∙ sym (again_more t (take i rs) r) ∙ ap (λ ys. seen t (map (λ (y : Read). y.key) ys)) (sym (take_next rs i r at))

pub as_many : (t : Stored) (rs now : List Read) → now ≡ seen t (map (λ (x : Read). x.key) rs) → length now ≡ length rs
as_many t rs now is = ap length is ∙ go rs
  where
    go : (rs : List Read) → length (seen t (map (λ (x : Read). x.key) rs)) ≡ length rs
    go [] = refl
    go (r ∷ rs) = ap suc (go rs)
