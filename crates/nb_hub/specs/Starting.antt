-- What the start of a hub comes to.
use Rattle.std.specs.Prelude.{◌≡◌, ◌⊎◌, ℕ, ◌≤◌, List, Contains, Bool, true, false, Option, Some, None}
use Rattle.std.specs.Cmp.Lexicographic.{slice_cmp}
use Rattle.std.specs.FinMap as map
use Rattle.std.specs.Ordering.{nat_cmp, is_le}
use Rattle.nb_base.specs.Meanings.{Meaning, AllFit}
use Rattle.nb_base.specs.Shown.{stored}
use Rattle.nb_base.specs.declared.entry.Which.TheVariants.{Base, Post}
use Rattle.nb_base.specs.declared.saga_key.SagaKey.{SagaKey}
use Rattle.nb_base.specs.declared.saga_row.SagaRow.{SagaRow}
use Rattle.nb_base.specs.declared.tables.PostState.{PostState}
use Rattle.nb_base.specs.declared.tables.Tables.{Tables}
use Rattle.nb_cells.specs.Cells.{CellMap, IsSpace}
use Rattle.nb_core.specs.declared.history.Opening.{Opening}
use Rattle.nb_hub.specs.declared.fault.StartFault.{StartFault}
use Rattle.nb_hub.specs.declared.fault.StartFault.TheVariants.{StoreFailed, PostFailed, Damaged, NoMemory}
use Rattle.nb_queue.specs.Damage.{IsLeastDamage}
use Rattle.nb_queue.specs.declared.fault.PostFault.{PostFault}
use Rattle.nb_queue.specs.declared.fault.PostFault.TheVariants as post
use Rattle.nb_ready.specs.Seats.{Seats, Has}
use Rattle.nb_ready.specs.declared.seat.Seat.{Seat}
use Rattle.nb_saga_store.specs.Spelled.{spelled_place}
use Rattle.nb_store.specs.Scanning.{Opens, IsLeastFault}
use Rattle.nb_store.specs.declared.fault.StoreFault.{StoreFault}
use Rattle.nb_store.specs.declared.fault.StoreFault.TheVariants as base

-- ---- sagas that don't fit the script

abbrev pub saga_fits : Meaning → SagaKey × SagaRow → Bool
saga_fits meaning e = meaning.fits e.0.saga e.1

-- the one key is the other, or comes before it by its bytes
abbrev pub IsUpTo : List ℕ → List ℕ → Type 0
IsUpTo key other = is_le (slice_cmp nat_cmp key other) ≡ true

-- the key of the cell of a saga that doesn't fit, the least by its bytes; or none, where every saga fits
abbrev pub IsLeastMisfit : Meaning → List (SagaKey × SagaRow) → Option (List ℕ) → Type 0
IsLeastMisfit meaning sagas None = (e : SagaKey × SagaRow) → Contains sagas e → saga_fits meaning e ≡ true
IsLeastMisfit meaning sagas (Some key) =
    ((e : SagaKey × SagaRow) × Contains sagas e × (saga_fits meaning e ≡ false) × (key ≡ spelled_place e.0))
    × ((e : SagaKey × SagaRow) → Contains sagas e → saga_fits meaning e ≡ false → IsUpTo key (spelled_place e.0))

-- the tables for which the cells stand have a saga that doesn't fit the script, and the least key of one is this
pub record IsMisfit (meaning : Meaning) (m : CellMap) (space : ℕ) (key : List ℕ) : Type 0 where
  pub tables : Tables
  pub opens : Opens m tables
  pub space_is : space ≡ 2
  pub least : IsLeastMisfit meaning (map.entries tables.sagas) (Some key)

-- why a base is refused whose cells are in order
abbrev pub IsMisfitOf : Meaning → Tables → StartFault → Type 0
IsMisfitOf meaning t StoreFailed = ⊥
IsMisfitOf meaning t PostFailed = ⊥
IsMisfitOf meaning t (Damaged Base space key) = (space ≡ 2) × IsLeastMisfit meaning (map.entries t.sagas) (Some key)
IsMisfitOf meaning t (Damaged Post space key) = ⊥
IsMisfitOf meaning t NoMemory = Unit {0}

-- no number of the index is held
abbrev pub AreFree : Seats → Type 0
AreFree seats = (n : ℕ) (s : Seat) → Has seats n s → s.held ≡ false

-- ---- where the history begins

abbrev pub opening_of : Tables → PostState → ℕ → ℕ → Opening
opening_of tables post moment workers = record { tables = tables; post = post; moment = moment; workers = workers }

-- ---- what is read

-- a store was read, which changes nothing of what it tells; its count never falls
pub record IsRead {C : Type 0} (honest : C → Type 0) (now images : C → CellMap → Type 0) (firm : C → Type 0) (count : C → ℕ) (old new : C) : Type 0 where
  pub honest_before : honest new → honest old
  pub kept_firm : honest new → firm old → firm new
  pub kept : (m : CellMap) → honest new → firm old → now old m → now new m
  pub fewer : (n : CellMap) → honest new → images new n → images old n
  pub later : count old ≤ count new

-- the store told this map when it was handed in, and is honest still
pub record Told {C : Type 0} (honest : C → Type 0) (now : C → CellMap → Type 0) (firm : C → Type 0) (old new : C) (m : CellMap) : Type 0 where
  pub honest_is : honest new
  pub firm_is : firm old
  pub now_is : now old m

-- the store tells this map, and each image of it has the same cells
pub record TellsOne {C : Type 0} (now images : C → CellMap → Type 0) (firm : C → Type 0) (store : C) (m : CellMap) : Type 0 where
  pub firm_is : firm store
  pub now_is : now store m
  pub only : (n : CellMap) → images store n → (space : ℕ) (key : List ℕ) → IsSpace space → n space key ≡ m space key

-- ---- why a start is refused

-- by a fault of the base
abbrev pub of_base : StoreFault → StartFault
of_base base.Failed = StoreFailed
of_base (base.Damaged space key) = Damaged Base space key
of_base base.Spent = NoMemory
of_base base.NoMemory = NoMemory

-- by a fault of the post
abbrev pub of_post : PostFault → StartFault
of_post post.Failed = PostFailed
of_post (post.Damaged space key) = Damaged Post space key
of_post post.Spent = NoMemory
of_post post.NoMemory = NoMemory

-- by a fault of the post, where the base is damaged
abbrev pub beside : StartFault → PostFault → StartFault
beside damage post.Failed = PostFailed
beside damage (post.Damaged space key) = damage
beside damage post.Spent = NoMemory
beside damage post.NoMemory = NoMemory

-- for the base, or for want of memory
abbrev pub IsOfBase : StartFault → Type 0
IsOfBase StoreFailed = Unit {0}
IsOfBase PostFailed = ⊥
IsOfBase (Damaged Base space key) = Unit {0}
IsOfBase (Damaged Post space key) = ⊥
IsOfBase NoMemory = Unit {0}

-- for the post, or for want of memory
abbrev pub IsOfPost : StartFault → Type 0
IsOfPost StoreFailed = ⊥
IsOfPost PostFailed = Unit {0}
IsOfPost (Damaged Base space key) = ⊥
IsOfPost (Damaged Post space key) = Unit {0}
IsOfPost NoMemory = Unit {0}

-- because the post wasn't read whole
abbrev pub IsOfReading : StartFault → Type 0
IsOfReading StoreFailed = ⊥
IsOfReading PostFailed = Unit {0}
IsOfReading (Damaged store space key) = ⊥
IsOfReading NoMemory = Unit {0}

-- where the base told this map: for its least fault, or else for the least saga that doesn't fit. Where the post is at
-- fault it has neither.
abbrev pub RefusesBase : Meaning → CellMap → StartFault → Type 0
RefusesBase meaning m StoreFailed = Unit {0}
RefusesBase meaning m PostFailed = Unit {0}
RefusesBase meaning m (Damaged Base space key) = IsLeastFault m space key ⊎ IsMisfit meaning m space key
RefusesBase meaning m (Damaged Post space key) = (t : Tables) × Opens m t × AllFit meaning (stored t)
RefusesBase meaning m NoMemory = Unit {0}

-- where the post told this map
abbrev pub RefusesPost : CellMap → StartFault → Type 0
RefusesPost m StoreFailed = Unit {0}
RefusesPost m PostFailed = Unit {0}
RefusesPost m (Damaged Base space key) = Unit {0}
RefusesPost m (Damaged Post space key) = IsLeastDamage m space key
RefusesPost m NoMemory = Unit {0}
