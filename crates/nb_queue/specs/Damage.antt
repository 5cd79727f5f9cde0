-- The least cell of a store that is no cell of a post.
use Rattle.std.specs.Prelude.{◌≡◌, ◌⊎◌, ℕ, ◌<◌, List, [], Some, None}
use Rattle.std.specs.declared.cmp.Ordering.TheVariants.{Less}
use Rattle.std.specs.Ordering.{nat_cmp}
use Rattle.std.specs.Cmp.Lexicographic.{slice_cmp}
use Rattle.nb_base.specs.declared.tables.Queued.{Queued}
use Rattle.nb_cells.specs.Cells.{CellMap, IsSpace}
use Rattle.nb_queue.specs.Opening.{IsNextCell, IsCellOf}
use Rattle.nb_queue.specs.declared.fault.PostFault.{PostFault}
use Rattle.nb_queue.specs.declared.fault.PostFault.TheVariants.{Failed, Damaged, Spent, NoMemory}

-- a cell of a post with this next number
abbrev pub IsGood : ℕ → ℕ → List ℕ → List ℕ → Type 0
IsGood next space key bytes = ((space ≡ 1) × IsNextCell next key bytes) ⊎ ((space ≡ 2) × ((number : ℕ) × (e : Queued) × IsCellOf next number e key bytes))

-- the next number that the cells tell: 1 where they have none
abbrev pub HasNext : CellMap → ℕ → Type 0
HasNext m next = ((m 1 [] ≡ None) × (next ≡ 1)) ⊎ ((bytes : List ℕ) × (m 1 [] ≡ Some bytes) × IsNextCell next [] bytes)

-- the one place comes before the other, by the space and then by the bytes of the key
abbrev pub IsBefore : ℕ → List ℕ → ℕ → List ℕ → Type 0
IsBefore s k space key = (s < space) ⊎ ((s ≡ space) × (slice_cmp nat_cmp k key ≡ Less))

-- the cell at this place is no cell of a post, and each cell before it is one
pub record IsLeastDamage (m : CellMap) (space : ℕ) (key : List ℕ) : Type 0 where
  pub bad : (bytes : List ℕ) × (m space key ≡ Some bytes) × ((next : ℕ) → HasNext m next → IsGood next space key bytes → ⊥)
  pub least : (s : ℕ) (k b : List ℕ) (next : ℕ) → IsSpace s → m s k ≡ Some b → IsBefore s k space key → HasNext m next → IsGood next s k b

-- what a refused start says of the cells
abbrev pub IsFound : CellMap → PostFault → Type 0
IsFound m Failed = Unit {0}
IsFound m (Damaged space key) = IsLeastDamage m space key
IsFound m Spent = ⊥
IsFound m NoMemory = Unit {0}
