-- Reads whose version differs from the one found now, and the least of their keys.
use Rattle.std.specs.Prelude.{◌≡◌, ◌≢◌, ◌⊎◌, ℕ, ◌≤◌, List, [], ◌∷◌, if◌then◌else◌, ◌==◌, Option, Some, None, slice_get}
use Rattle.std.specs.Ordering.{is_gt}
use Rattle.std.specs.declared.cmp.Ordering.TheVariants.{Less}
use Rattle.nb_base.specs.Orders.{key_cmp}
use Rattle.nb_base.specs.Shown.{Stored, shown, version_of}
use Rattle.nb_base.specs.declared.saga_row.Read.{Read}
use Rattle.nb_recover.specs.declared.fail.Fail.{Fail}
use Rattle.nb_recover.specs.declared.fail.Fail.TheVariants.{Conflict}

-- the version found now is another than the one read
abbrev pub IsStale : Stored → Read → Type 0
IsStale t r = version_of r.seen ≢ version_of (shown t r.key)

-- of the reads that are stale the one with the least key, and of several with that key the first
pub record IsLeastStale (t : Stored) (reads : List Read) (r : Read) : Type 0 where
  pub place : ℕ
  pub there : slice_get reads place ≡ Some r
  pub stale : IsStale t r
  pub least : (i : ℕ) (other : Read) → slice_get reads i ≡ Some other → IsStale t other → (key_cmp r.key other.key ≡ Less) ⊎ ((r.key ≡ other.key) × (place ≤ i))

-- the failure by this read: its key, the version read, and the one found now
abbrev pub conflict_on : Stored → Read → Fail
conflict_on t r = Conflict r.key (version_of r.seen) (version_of (shown t r.key))

-- ---- computed

-- the second, where its key is less than the first's
abbrev pub lesser : Read → Option Read → Read
lesser r None = r
lesser r (Some o) = if is_gt (key_cmp r.key o.key) then o else r

abbrev pub least_stale : Stored → List Read → Option Read
least_stale t [] = None
least_stale t (r ∷ rs) = if version_of r.seen == version_of (shown t r.key) then least_stale t rs else Some (lesser r (least_stale t rs))
