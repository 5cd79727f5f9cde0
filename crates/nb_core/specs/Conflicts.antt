-- Which of the first reads has the least key of those that are stale, by its place.
use Rattle.std.specs.Prelude.{◌≡◌, ◌⊎◌, ℕ, ◌<◌, ◌≤◌, List, Bool, true, false, Option, Some, None, slice_get}
use Rattle.std.specs.declared.cmp.Ordering.TheVariants.{Less}
use Rattle.nb_base.specs.Orders.{key_cmp}
use Rattle.nb_base.specs.Shown.{Stored, IsFresh, AreFresh}
use Rattle.nb_base.specs.declared.saga_row.Read.{Read}
use Rattle.nb_recover.specs.declared.fail.Fail.{Fail}
use Rattle.nb_core.specs.Stale.{IsStale, IsLeastStale, conflict_on}

-- whether the read is stale
abbrev pub Judges : Stored → Read → Bool → Type 0
Judges t r true = IsStale t r
Judges t r false = IsFresh t r

abbrev pub IsAt : Stored → List Read → ℕ → Bool → Type 0
IsAt t reads i b = (r : Read) × (slice_get reads i ≡ Some r) × Judges t r b

-- of the first i reads none is stale, or the one at place j is the least
abbrev pub Best : Stored → List Read → ℕ → Option ℕ → Type 0
Best t reads i None = (k : ℕ) (o : Read) → k < i → slice_get reads k ≡ Some o → IsFresh t o
Best t reads i (Some j) =
    (r : Read) × (j < i) × (slice_get reads j ≡ Some r) × IsStale t r
    × ((k : ℕ) (o : Read) → k < i → slice_get reads k ≡ Some o → IsStale t o → (key_cmp r.key o.key ≡ Less) ⊎ ((r.key ≡ o.key) × (j ≤ k)))

-- a place before i, where there is one
abbrev pub IsBelow : ℕ → Option ℕ → Type 0
IsBelow i None = Unit {0}
IsBelow i (Some j) = j < i

-- all is fresh, or this is the conflict on the least stale read
abbrev pub Conflicts : Stored → List Read → Option Fail → Type 0
Conflicts t reads None = AreFresh t reads
Conflicts t reads (Some f) = (r : Read) × IsLeastStale t reads r × (f ≡ conflict_on t r)
