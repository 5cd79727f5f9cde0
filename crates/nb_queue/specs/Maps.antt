-- The cells of a post.
use Rattle.std.specs.Prelude.{◌≡◌, ◌==◌, ℕ, List, [], ◌∷◌, bytes_eq, if◌then◌else◌, Option, Some, None, option_map}
use Rattle.std.specs.FinMap as map
use Rattle.nb_base.specs.Orders.{ByNumber}
use Rattle.nb_base.specs.declared.tables.PostState.{PostState}
use Rattle.nb_base.specs.declared.tables.Queued.{Queued}
use Rattle.nb_cells.specs.Cells.{CellMap, IsSpace}
use Rattle.nb_envelope.specs.Cells.{◌>>=◌, u64_in, whole}
use Rattle.nb_envelope.specs.Spelling.{spelled_u64}
use Rattle.nb_queue.specs.Spelled.{spelled_entry, spelled_next, IsEntry}

-- the number that a key spells
abbrev pub number_of : List ℕ → Option ℕ
number_of key = whole u64_in key >>= λ n. if bytes_eq key (spelled_u64 n) then Some n else None

-- the bytes of the entry whose number the key spells
abbrev pub entry_bytes : ByNumber Queued → List ℕ → Option (List ℕ)
entry_bytes entries key = number_of key >>= λ n. option_map spelled_entry (map.get entries n)

-- the bytes of the next number, which has no cell where it is 1
abbrev pub next_bytes : ℕ → List ℕ → Option (List ℕ)
next_bytes n [] = if n == 1 then None else Some (spelled_next n)
next_bytes n (b ∷ key) = None

-- the next number in space 1, and the entries in space 2
abbrev pub cells_of : PostState → CellMap
cells_of p space key = if space == 1 then next_bytes p.next key else (if space == 2 then entry_bytes p.entries key else None)

-- every entry has a spelling
abbrev pub AreSpelled : ByNumber Queued → Type 0
AreSpelled entries = (number : ℕ) (e : Queued) → map.get entries number ≡ Some e → IsEntry e

-- the map has the cells of the post
abbrev pub HasCells : CellMap → PostState → Type 0
HasCells m p = (space : ℕ) (key : List ℕ) → IsSpace space → m space key ≡ cells_of p space key

-- the map that the store tells has the cells of the post
pub record Shows {C : Type 0} (now : C → CellMap → Type 0) (store : C) (p : PostState) : Type 0 where
  pub map : CellMap
  pub told : now store map
  pub cells : HasCells map p
