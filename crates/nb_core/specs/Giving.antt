-- What each call answers, after the events es, and the events that it makes there.
use Rattle.std.specs.Prelude.{List, Result}
use Rattle.nb_core.specs.Past.{Fixed}
use Rattle.nb_core.specs.Step.{Event, Load, Send, Mark, Aside, Remove, Tick, Release, Purge, PutBack, DropBack}
use Rattle.nb_core.specs.declared.answers.DeskFault.{DeskFault}
use Rattle.nb_core.specs.declared.call.Answer.{Answer}
use Rattle.nb_core.specs.declared.call.Answer.TheVariants as answer
use Rattle.nb_core.specs.declared.call.Call.{Call}
use Rattle.nb_core.specs.declared.call.Call.TheVariants as call
use Rattle.nb_core.specs.Refusing.{Does}
use Rattle.nb_core.specs.Leasing.{Takes, Sees, SettlesAs}
use Rattle.nb_core.specs.Asking.{Counts, Awaits, TellsOf}

-- the answer of a call without a value, by its event
abbrev pub GivesPlain : Fixed → List Event → Call → Result (Unit {0}) DeskFault → List Event → Type 0
GivesPlain f es (call.Load m) r own = Does f es (call.Load m) (Load m) r own
GivesPlain f es (call.Take w) r own = ⊥
GivesPlain f es (call.Look w) r own = ⊥
GivesPlain f es (call.Settle w o) r own = ⊥
GivesPlain f es (call.Send w) r own = Does f es (call.Send w) (Send w) r own
GivesPlain f es (call.Mark w) r own = Does f es (call.Mark w) (Mark w) r own
GivesPlain f es (call.Aside w) r own = Does f es (call.Aside w) (Aside w) r own
GivesPlain f es (call.Remove w) r own = Does f es (call.Remove w) (Remove w) r own
GivesPlain f es (call.Tick to) r own = Does f es (call.Tick to) (Tick to) r own
GivesPlain f es (call.Release n) r own = Does f es (call.Release n) (Release n) r own
GivesPlain f es (call.Purge id) r own = Does f es (call.Purge id) (Purge id) r own
GivesPlain f es (call.PutBack n) r own = Does f es (call.PutBack n) (PutBack n) r own
GivesPlain f es (call.DropBack n) r own = Does f es (call.DropBack n) (DropBack n) r own
GivesPlain f es (call.Unsent w) r own = ⊥
GivesPlain f es call.NextDue r own = ⊥
GivesPlain f es (call.IsDrained until) r own = ⊥

abbrev pub Gives : Fixed → List Event → Call → Answer → List Event → Type 0
Gives f es x (answer.Plain r) own = GivesPlain f es x r own
Gives f es (call.Take w) (answer.Took r) own = Takes f es (call.Take w) w r own
Gives f es x (answer.Took r) own = ⊥
Gives f es (call.Look w) (answer.Saw r) own = Sees f es (call.Look w) w r own
Gives f es x (answer.Saw r) own = ⊥
Gives f es (call.Settle w o) (answer.Settled r) own = SettlesAs f es (call.Settle w o) w r own
Gives f es x (answer.Settled r) own = ⊥
Gives f es (call.Unsent w) (answer.Unsent r) own = Counts f es (call.Unsent w) w r own
Gives f es x (answer.Unsent r) own = ⊥
Gives f es call.NextDue (answer.Due r) own = Awaits f es call.NextDue r own
Gives f es x (answer.Due r) own = ⊥
Gives f es (call.IsDrained until) (answer.IsDrained r) own = TellsOf f es (call.IsDrained until) until r own
Gives f es x (answer.IsDrained r) own = ⊥
