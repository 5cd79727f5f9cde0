-- How a fault stops what a caller does who has every worker.
use Rattle.std.specs.Prelude.{◌≡◌, List, [], true, false}
use Rattle.nb_base.specs.declared.entry.Which.TheVariants.{Base, Post}
use Rattle.nb_core.specs.Calls.{View}
use Rattle.nb_core.specs.Legal.{halted}
use Rattle.nb_core.specs.declared.answers.DeskFault.{DeskFault}
use Rattle.nb_core.specs.declared.answers.DeskFault.TheVariants.{StoreFailed, PostFailed, Spent, Halted, NoMemory}
use Rattle.nb_core.specs.declared.event.Event.{Event}
use Rattle.nb_core.specs.declared.event.Event.TheVariants.{Halt}
use Rattle.nb_pump.specs.Leases.{EndsIn}

-- With the Halt of the store that failed, which is the last of the own events; or, with no Halt, for want of memory or of a
-- number, of which S says which one is spent; or, where a Halt stood there before, at once.
abbrev pub StopsBy : Type 0 → DeskFault → View → List Event → View → Type 0
StopsBy S StoreFailed v own w = EndsIn own (Halt Base)
StopsBy S PostFailed v own w = EndsIn own (Halt Post)
StopsBy S Spent v own w = (halted w.events ≡ false) × S
StopsBy S Halted v own w = (own ≡ []) × (halted v.events ≡ true)
StopsBy S NoMemory v own w = halted w.events ≡ false
