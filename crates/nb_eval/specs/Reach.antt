-- Where the plans for a message write.
use Rattle.std.specs.Prelude.{◌≡◌, ℕ, List, slice_get, Some}
use Rattle.std.specs.List.{AllByRecursion}
use Rattle.nb_base.specs.Meanings.{Place, saga_at, row_at, place_of}
use Rattle.nb_base.specs.Shown.{Stored, shown}
use Rattle.nb_base.specs.declared.plan.Plan.{Plan}
use Rattle.nb_base.specs.declared.plan.Write.{Write}
use Rattle.nb_base.specs.declared.saga_row.SagaRow.{SagaRow}
use Rattle.nb_base.specs.declared.saga_row.Seen.TheVariants.{Saga as SagaSeen}
use Rattle.nb_base.specs.declared.value.Key.{Key}
use Rattle.nb_base.specs.declared.value.Key.TheVariants as key

-- the key is one of these
abbrev pub IsKey : List Key → Key → Type 0
IsKey ks k = (i : ℕ) × (slice_get ks i ≡ Some k)

-- a key leads to the saga with its correlation value, to the place of the saga that has its id, or to the row of its name
abbrev pub LeadsTo : Stored → Key → Place → Type 0
LeadsTo t (key.ByCorr saga corr) p = p ≡ saga_at (record { saga = saga; corr = corr })
LeadsTo t (key.ById saga id) p = (row : SagaRow) × (shown t (key.ById saga id) ≡ SagaSeen row) × (p ≡ saga_at (record { saga = saga; corr = row.corr }))
LeadsTo t (key.Row name) p = p ≡ row_at name

-- one of the keys leads to where the change is made
abbrev pub IsReached : Stored → List Key → Write → Type 0
IsReached t ks x = (k : Key) × IsKey ks k × LeadsTo t k (place_of x)

-- the plan writes nowhere else than where the keys lead
abbrev pub AreReached : Stored → List Key → Plan → Type 0
AreReached t ks plan = AllByRecursion (IsReached t ks) plan.writes
