-- What the cells of a store are at its opening: those of a post, or the least one that is none.
use Rattle.std.specs.Prelude.{◌≡◌, ◌⊎◌, ℕ, ◌<◌, ◌≤◌, List, [], ◌∷◌, take, map as map_list, Contains, slice_get, Some, IsSome}
use Rattle.std.specs.List.Sorted.{IsStrictlySortedBy}
use Rattle.std.specs.FinMap as map
use Rattle.std.specs.Ordering.{nat_cmp}
use Rattle.std.specs.Cmp.Lexicographic.{slice_cmp}
use Rattle.nb_base.specs.Orders.{ByNumber}
use Rattle.nb_base.specs.Sound.{limit}
use Rattle.nb_base.specs.declared.tables.Queued.{Queued}
use Rattle.nb_cells.specs.Cells.{CellMap, Scans}
use Rattle.nb_cells.specs.declared.cell.Cell.{Cell}
use Rattle.nb_base.specs.declared.tables.PostState.{PostState}
use Rattle.nb_envelope.specs.Spelling.{spelled_u64}
use Rattle.nb_queue.specs.Spelled.{spelled_entry, spelled_next, IsEntry}
use Rattle.nb_queue.specs.declared.fault.PostFault.{PostFault}
use Rattle.nb_queue.specs.declared.fault.PostFault.TheVariants.{Failed, Damaged, Spent, NoMemory}

-- the key and the bytes of the cell of a next number
pub record IsNextCell (next : ℕ) (key bytes : List ℕ) : Type 0 where
  pub key_is : key ≡ []
  pub bytes_are : bytes ≡ spelled_next next
  pub from : 2 ≤ next
  pub to : next ≤ limit

-- the key and the bytes of the cell of an entry below the next number
pub record IsCellOf (next number : ℕ) (e : Queued) (key bytes : List ℕ) : Type 0 where
  pub key_is : key ≡ spelled_u64 number
  pub bytes_are : bytes ≡ spelled_entry e
  pub spelled : IsEntry e
  pub from : 1 ≤ number
  pub below : number < next

-- the cell of some next number
abbrev pub IsSomeNext : Cell → Type 0
IsSomeNext c = (next : ℕ) × IsNextCell next c.key c.bytes

-- the cell of some entry
abbrev pub IsSomeEntry : ℕ → Cell → Type 0
IsSomeEntry next c = (number : ℕ) × (e : Queued) × IsCellOf next number e c.key c.bytes

-- the next number that a list of cells tells: 1 where the list is empty
abbrev pub TellsNext : List Cell → ℕ → Type 0
TellsNext cells next = ((cells ≡ []) × (next ≡ 1)) ⊎ ((c : Cell) × (cells ≡ c ∷ []) × IsNextCell next c.key c.bytes)

-- the cells are entries, and these are they
pub record AreLoaded (next : ℕ) (entries : ByNumber Queued) (cells : List Cell) : Type 0 where
  pub each : (c : Cell) → Contains cells c → (number : ℕ) × (e : Queued) × IsCellOf next number e c.key c.bytes × IsSome (map.get entries number)
  pub only : (number : ℕ) (e : Queued) → map.get entries number ≡ Some e → (c : Cell) × Contains cells c × IsCellOf next number e c.key c.bytes

-- the first cell of the list of which this doesn't hold has this key
abbrev pub IsFirstBad : (Cell → Type 0) → List Cell → List ℕ → Type 0
IsFirstBad P cells key = (i : ℕ) × (c : Cell) × (slice_get cells i ≡ Some c) × (c.key ≡ key) × (P c → ⊥) × ((d : Cell) → Contains (take i cells) d → P d)

-- a list was refused for its first bad cell, or for want of memory
abbrev pub IsRefusedFor : (Cell → Type 0) → ℕ → List Cell → PostFault → Type 0
IsRefusedFor P space cells Failed = ⊥
IsRefusedFor P space cells (Damaged s key) = (s ≡ space) × IsFirstBad P cells key
IsRefusedFor P space cells Spent = ⊥
IsRefusedFor P space cells NoMemory = Unit {0}

-- keys that ascend by their bytes
abbrev pub Ascend : List Cell → Type 0
Ascend cells = IsStrictlySortedBy (slice_cmp nat_cmp) (map_list (λ c. c.key) cells)

-- the lists are the scans of the four spaces
pub record AreScans (m : CellMap) (next entries third fourth : List Cell) : Type 0 where
  pub first : Scans m 1 next
  pub second : Scans m 2 entries
  pub third_is : Scans m 3 third
  pub fourth_is : Scans m 4 fourth

-- the post of which the lists are the cells
pub record IsOpened (p : PostState) (next entries third fourth : List Cell) : Type 0 where
  pub tells : TellsNext next p.next
  pub loaded : AreLoaded p.next p.entries entries
  pub none_third : third ≡ []
  pub none_fourth : fourth ≡ []

-- the first list that has a bad cell was refused for its first one
abbrev pub IsRefusal : List Cell → List Cell → List Cell → List Cell → PostFault → Type 0
IsRefusal next entries third fourth f =
    IsRefusedFor IsSomeNext 1 next f
    ⊎ ((n : ℕ) × TellsNext next n × (IsRefusedFor (IsSomeEntry n) 2 entries f
    ⊎ ((es : ByNumber Queued) × AreLoaded n es entries × (IsRefusedFor (λ c. ⊥) 3 third f ⊎ ((third ≡ []) × IsRefusedFor (λ c. ⊥) 4 fourth f)))))

-- cells are refused for damage or for want of memory
abbrev pub IsOfCells : PostFault → Type 0
IsOfCells Failed = ⊥
IsOfCells (Damaged s key) = Unit {0}
IsOfCells Spent = ⊥
IsOfCells NoMemory = Unit {0}
