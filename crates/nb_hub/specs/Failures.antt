-- What the failure of a message comes to.
use Rattle.std.specs.Prelude.{◌≡◌, ℕ, ◌+◌, List, [], ◌∷◌, false, Option, Some, None}
use Rattle.nb_base.specs.Messages.{Message}
use Rattle.nb_base.specs.Orders.{ByNumber}
use Rattle.nb_base.specs.declared.settings.Settings.{Settings}
use Rattle.nb_base.specs.declared.tables.Discard.{Discard}
use Rattle.nb_core.specs.Failing.{given_up, move_after, phase_after}
use Rattle.nb_core.specs.Standing.{fails_in}
use Rattle.nb_core.specs.declared.answers.Settled.{Settled}
use Rattle.nb_core.specs.declared.answers.Settled.TheVariants as settled
use Rattle.nb_hub.specs.declared.failing.Failure.{Failure}
use Rattle.nb_ready.specs.Seats.{Seats, changed_at}
use Rattle.nb_recover.specs.declared.fail.Fail.{Fail}
use Rattle.nb_recover.specs.declared.moves.Move.{Move}
use Rattle.nb_recover.specs.declared.moves.Move.TheVariants as move

-- the list of what may be there
abbrev pub listed : Option Discard → List Discard
listed None = []
listed (Some d) = d ∷ []

-- the answer of a failure by this, after which this is the move
abbrev pub settled_as : Fail → Move → Settled
settled_as f move.Again = settled.Again f
settled_as f (move.Later round delay) = settled.Later f
settled_as f move.Error = settled.Error f
settled_as f move.Discard = settled.Discarded f

-- what it comes to that an entry with this message fails by this
pub record AmountsTo (settings : Settings) (moment : ℕ) (fails : ByNumber ℕ) (n : ℕ) (m : Message) (why : Fail) (x : Failure) : Type 0 where
  pub count : x.count ≡ fails_in fails n + 1
  pub next : x.next ≡ move_after settings (fails_in fails n + 1) m why
  pub phase : x.phase ≡ phase_after settings moment n m why x.next
  pub given_up_is : listed x.given_up ≡ given_up m why x.next

-- the index where the entry is free again, if it is tried again at once
abbrev pub freed_by : Move → Seats → ℕ → Seats
freed_by move.Again seats n = changed_at seats n (λ s. record s { held = false })
freed_by (move.Later round delay) seats n = seats
freed_by move.Error seats n = seats
freed_by move.Discard seats n = seats
