-- What a command makes of a desk, from what its one caller saw to what he sees.
use Rattle.std.specs.Prelude.{◌≡◌, ◌⊎◌, ℕ, List, [], Bool, true, false, Result, Ok, Err}
use Rattle.nb_base.specs.Messages.{Message}
use Rattle.nb_core.specs.Calls.{View, state_of}
use Rattle.nb_core.specs.Paced.{releasing}
use Rattle.nb_core.specs.Past.{constants}
use Rattle.nb_core.specs.Legal.{halted}
use Rattle.nb_core.specs.declared.answers.DeskFault.{DeskFault}
use Rattle.nb_core.specs.declared.answers.DeskFault.TheVariants.{NoMemory}
use Rattle.nb_core.specs.declared.event.Event.{Event}
use Rattle.nb_endpoint.specs.declared.chore.Chore.{Chore}
use Rattle.nb_endpoint.specs.declared.chore.Chore.TheVariants.{Handle, Rest, Return, Purge}
use Rattle.nb_hub.specs.Returnable.{returnable}
use Rattle.nb_pump.specs.Drains.{DrainIs}
use Rattle.nb_pump.specs.Plans.{Goes, StandOnce, CanReturnAll, CanPurgeAll, loads_of, returns_of, purges_of}
use Rattle.nb_store.specs.Lookups.{purgeable}
use Rattle.nb_words.specs.declared.words.Command.{Command}
use Rattle.nb_words.specs.declared.words.Command.TheVariants as command

-- what a command does at a desk: `retry` puts back all that can be, and `purge` purges all that can be
abbrev pub chore_of : Command → View → Chore
chore_of command.Run v = Handle
chore_of command.Show v = Rest
chore_of command.Retry v = Return (returnable (constants v.fixed) (state_of v))
chore_of command.Purge v = Purge (purgeable (state_of v).tables v.fixed.settings.retention (state_of v).moment)
chore_of command.Sample v = Rest

-- what has to be listed first
abbrev pub IsListed : Command → Type 0
IsListed command.Run = ⊥
IsListed command.Show = ⊥
IsListed command.Retry = Unit {0}
IsListed command.Purge = Unit {0}
IsListed command.Sample = ⊥

-- it can be done
abbrev pub CanDo : Chore → View → Type 0
CanDo Handle v = Unit {0}
CanDo Rest v = Unit {0}
CanDo (Return ns) v = CanReturnAll v ns × StandOnce ns
CanDo (Purge ids) v = CanPurgeAll v ids × StandOnce ids

-- a fault came while the messages were loaded
abbrev pub Breaks : List Message → Result Bool DeskFault → View → View → Type 0
Breaks messages (Ok b) v w = ⊥
Breaks messages (Err f) v w = Goes (loads_of messages) (Err f) v w

-- the messages are loaded, and then what is due is handled
abbrev pub RunIs : List Message → ℕ → Result Bool DeskFault → View → View → Type 0
RunIs messages until r v w = Breaks messages r v w ⊎ ((u : View) × Goes (loads_of messages) (Ok tt) v u × DrainIs until releasing r u w)

-- nothing was begun, for want of memory
abbrev pub IsUnbegun : DeskFault → View → View → Type 0
IsUnbegun f v w = (f ≡ NoMemory) × (w ≡ v) × (halted v.events ≡ false)

-- the events of a plan are made
abbrev pub PlanIs : List Event → Result Bool DeskFault → View → View → Type 0
PlanIs plan (Ok b) v w = (b ≡ true) × Goes plan (Ok tt) v w
PlanIs plan (Err f) v w = Goes plan (Err f) v w ⊎ IsUnbegun f v w

abbrev pub Does : Chore → List Message → ℕ → Result Bool DeskFault → View → View → Type 0
Does Handle messages until r v w = RunIs messages until r v w
Does Rest messages until r v w = PlanIs [] r v w
Does (Return ns) messages until r v w = PlanIs (returns_of ns) r v w
Does (Purge ids) messages until r v w = PlanIs (purges_of ids) r v w

-- what a command makes of a desk
abbrev pub Works : Command → List Message → ℕ → Result Bool DeskFault → View → View → Type 0
Works command messages until r v w = Does (chore_of command v) messages until r v w
