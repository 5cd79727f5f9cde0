-- The entries of the own queue, and the index of them.
use Rattle.std.specs.Prelude.{◌≡◌, ℕ, List, [], bytes_eq, if◌then◌else◌, Option, Some, None, option_map}
use Rattle.std.specs.FinMap as map
use Rattle.std.specs.Option.{option_map_or}
use Rattle.nb_base.specs.Orders.{ByNumber}
use Rattle.nb_base.specs.declared.tables.PostState.{PostState}
use Rattle.nb_base.specs.declared.tables.Queued.{Queued}
use Rattle.nb_ready.specs.Seats.{Seats, fresh, changed_at}
use Rattle.nb_ready.specs.declared.seat.Seat.{Seat}

-- the due of an entry, where it is one of the own queue
abbrev pub due_in : List ℕ → Option Queued → Option (Option ℕ)
due_in own None = None
due_in own (Some e) = if bytes_eq e.queue own then Some e.due else None

-- the index has the entries of the own queue, each with its due, and no other
abbrev pub IsIndexed : List ℕ → ByNumber Queued → Seats → Type 0
IsIndexed own entries seats = (n : ℕ) → option_map (λ (s : Seat). s.due) (map.get seats n) ≡ due_in own (map.get entries n)

-- the index with a new entry, where it is one of the own queue
abbrev pub noted : List ℕ → Seats → ℕ → List ℕ → Option ℕ → Seats
noted own seats n queue due = if bytes_eq queue own then map.insert seats n (fresh due) else seats

-- without it, where it is one of the own queue
abbrev pub dropped : List ℕ → Seats → ℕ → List ℕ → Seats
dropped own seats n queue = if bytes_eq queue own then map.remove seats n else seats

-- with its due taken away, where it is one of the own queue
abbrev pub undelayed : List ℕ → Seats → ℕ → List ℕ → Seats
undelayed own seats n queue = if bytes_eq queue own then changed_at seats n (λ s. record s { due = None }) else seats

-- the queue of an entry
abbrev pub queue_at : PostState → ℕ → List ℕ
queue_at p n = option_map_or (λ (e : Queued). e.queue) (map.get p.entries n) []
