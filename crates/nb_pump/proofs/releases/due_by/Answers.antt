use Rattle.std.proofs.Common.{◌∙◌, ap, subst}
use Rattle.std.specs.Prelude.{Ok, Option, Result}
use Rattle.nb_base.specs.declared.entry.Waiting.{Waiting}
use Rattle.nb_core.specs.Calls.{Called}
use Rattle.nb_core.specs.declared.answers.DeskFault.{DeskFault}
use Rattle.nb_core.specs.declared.call.Answer.TheVariants as answer
use Rattle.nb_core.specs.declared.call.Call.TheVariants as call
use Rattle.nb_pump.proofs.Releasing.{due_later, later_than}
use Rattle.nb_pump.proofs.releases.due_by.Goals as goal

pub returns-else-le-clause-due : goal.returns-else-le-clause-due
returns-else-le-clause-due g c =
    let P : Result (Option Waiting) DeskFault → Type 0 = λ r. Called call.NextDue (answer.Due r) (g.D.Desk.view c.args.desk.now) (g.D.Desk.view c.next_due.new.self) in
    due_later c.args.moment c.in-Ok-Some.next _ _ c.requires (later_than c.in-Ok-Some.next.due c.args.moment c.if-le.ensures)
    (subst P (c.in-Ok-Some.is ∙ ap Ok c.in-Ok-Some.field-0-is) c.next_due.ensures.call)
