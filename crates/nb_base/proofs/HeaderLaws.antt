-- Headers that are copied one after another.
use Rattle.std.specs.Prelude.{◌≡◌, ℕ, zero, suc, ◌+◌, List, [], ◌∷◌, take, false, bytes_eq, Some, slice_get}
use Rattle.std.proofs.Common.{ap, subst, add-one, arith}
use Rattle.std.specs.List.{IsDistinct, AllByRecursion}
use Rattle.std.specs.Cmp.Lexicographic.{bytes_decides}
use Rattle.nb_base.specs.Messages.{Pairs, names, with_header, AreDistinct}

apart_at : (k : List ℕ) (hs : Pairs) (i : ℕ) (n t : List ℕ) → AllByRecursion (λ y. bytes_eq k y ≡ false) (names hs) → slice_get hs i ≡ Some (n, t) → bytes_eq k n ≡ false
apart_at k [] i n t all e = absurd (cc)
apart_at k (h ∷ hs) zero n t all e =
    let same : h ≡ (n, t) = cc in
    let name : h.0 ≡ n = ap (λ (p : List ℕ × List ℕ). p.0) same in
    subst (λ m. bytes_eq k m ≡ false) name all.0
apart_at k (h ∷ hs) (suc i) n t all e = apart_at k hs i n t all.1 e

turned : (k n : List ℕ) → bytes_eq k n ≡ false → bytes_eq n k ≡ false
turned k n e = grind (arith, e, bytes_decides k n, bytes_decides n k)

step : (hs : Pairs) (i : ℕ) (n t : List ℕ) → AreDistinct hs → slice_get hs i ≡ Some (n, t) → with_header (take i hs) n t ≡ take (suc i) hs
unfolding IsDistinct
step [] i n t d e = absurd (cc)
step (h ∷ hs) zero n t d e = cc
step (h ∷ hs) (suc i) n t d e = rw (turned h.0 n (apart_at h.0 hs i n t d.0 e)) (ap (λ more. h ∷ more) (step hs i n t d.1 e))

-- the header at a place, set after those before it
pub with_header-next : (hs : Pairs) (i : ℕ) (n t : List ℕ) → AreDistinct hs → slice_get hs i ≡ Some (n, t) → with_header (take i hs) n t ≡ take (i + 1) hs
with_header-next hs i n t d e = rw add-one (step hs i n t d e)
