-- What a tree of numbers shows, and what each of its nodes keeps.
use Rattle.std.specs.Prelude.{ℕ, ◌+◌, ◌<◌, ◌≤◌, max, ◌++◌}
use Rattle.std.specs.FinMap as finite
use Rattle.nb_ready.specs.First.{IsFirst}
use Rattle.nb_ready.specs.Seats.{Seats, Shown, Has}
use Rattle.nb_ready.specs.declared.seat.Seat.{Seat}
use Rattle.nb_ready.specs.declared.tree.Node.{Node}
use Rattle.nb_ready.specs.declared.tree.Node.TheVariants.{Empty, One, Fork}

-- the numbers of both sides
abbrev pub joined : Seats → Seats → Seats
joined low high = finite.from_entries (finite.entries low ++ finite.entries high)

abbrev pub shown : Node → Shown
shown Empty = (finite.empty, 0)
shown (One n s) = (finite.insert finite.empty n s, 0)
shown (Fork low pivot first high) = (joined low.value.0 high.value.0, max low.value.1 high.value.1 + 1)

-- the numbers of one side lie below the pivot, and those of the other from it
pub record AreApart (low : Seats) (pivot : ℕ) (high : Seats) : Type 0 where
  pub below : (q : ℕ) (s : Seat) → Has low q s → q < pivot
  pub from : (q : ℕ) (s : Seat) → Has high q s → pivot ≤ q

-- the sides are apart
abbrev pub IsForked : Node → Type 0
IsForked Empty = Unit {0}
IsForked (One n s) = Unit {0}
IsForked (Fork low pivot first high) = AreApart low.value.0 pivot high.value.0

-- and the first numbers are noted
abbrev pub IsTree : Node → Type 0
IsTree Empty = Unit {0}
IsTree (One n s) = Unit {0}
IsTree (Fork low pivot first high) = AreApart low.value.0 pivot high.value.0 × IsFirst (joined low.value.0 high.value.0) first
