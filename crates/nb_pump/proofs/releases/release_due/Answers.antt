use Rattle.std.proofs.Common.{◌∙◌, ap, subst}
use Rattle.std.specs.Prelude.{Ok, Option, Result}
use Rattle.nb_base.specs.declared.entry.Waiting.{Waiting}
use Rattle.nb_core.specs.declared.answers.DeskFault.{DeskFault}
use Rattle.nb_pump.specs.Drains.{DueIs}
use Rattle.nb_pump.proofs.Releasing.{releasing_start, releasing_asked, may_release, releasing_more, releasing_less, releasing_done, releasing_unasked, releasing_refused}
use Rattle.nb_pump.proofs.releases.release_due.Goals as goal

pub loop-next-init : goal.loop-next-init
loop-next-init g c = (releasing_start c.args.moment _ c.requires.standing c.requires.moment, λ start h. h, λ h. h)

pub release-requires : goal.release-requires
release-requires g c =
    let P : Result (Option Waiting) DeskFault → Type 0 = λ r. DueIs c.args.moment r (g.D.Desk.view c.loop-next.desk) (g.D.Desk.view c.due_by.new.desk) in
    let d = subst P (c.in-Ok-Some.is ∙ ap Ok c.in-Ok-Some.field-0-is) c.due_by.ensures.due in
    may_release c.args.moment c.in-Ok-Some.next _ _ (releasing_asked c.args.moment _ _ _ c.loop-next.invariant.0 d.0 d.1) d.2 d.3

pub loop-next-preserved : goal.loop-next-preserved
loop-next-preserved g c =
    let P : Result (Option Waiting) DeskFault → Type 0 = λ r. DueIs c.args.moment r (g.D.Desk.view c.loop-next.desk) (g.D.Desk.view c.due_by.new.desk) in
    let d = subst P (c.in-Ok-Some.is ∙ ap Ok c.in-Ok-Some.field-0-is) c.due_by.ensures.due in (
      releasing_more c.args.moment c.in-Ok-Some.next _ _ _ (releasing_asked c.args.moment _ _ _ c.loop-next.invariant.0 d.0 d.1) d.2 d.3 c.in-Ok.ensures.call,
      λ start h. c.release.ensures.stands start (c.due_by.ensures.stands start (c.loop-next.invariant.1 start h)),
      λ h. c.release.ensures.caused (c.due_by.ensures.caused (c.loop-next.invariant.2 h)),
    )

pub loop-next-smaller : goal.loop-next-smaller
loop-next-smaller g c =
    let P : Result (Option Waiting) DeskFault → Type 0 = λ r. DueIs c.args.moment r (g.D.Desk.view c.loop-next.desk) (g.D.Desk.view c.due_by.new.desk) in
    let d = subst P (c.in-Ok-Some.is ∙ ap Ok c.in-Ok-Some.field-0-is) c.due_by.ensures.due in
    releasing_less c.args.moment c.in-Ok-Some.next _ _ _ _ c.loop-next.invariant.0 d.0 d.1 c.in-Ok.ensures.call

pub returns-in-Ok-None-clause-releases : goal.returns-in-Ok-None-clause-releases
returns-in-Ok-None-clause-releases g c =
    let P : Result (Option Waiting) DeskFault → Type 0 = λ r. DueIs c.args.moment r (g.D.Desk.view c.loop-next.desk) (g.D.Desk.view c.due_by.new.desk) in
    let d = subst P (c.in-Ok-None.is ∙ ap Ok c.in-Ok-None.field-0-is) c.due_by.ensures.due in
    releasing_done c.args.moment _ _ (releasing_asked c.args.moment _ _ _ c.loop-next.invariant.0 d.0 d.1) d.2 d.1.on

pub returns-in-Err-clause-releases : goal.returns-in-Err-clause-releases
returns-in-Err-clause-releases g c =
    let P : Result (Option Waiting) DeskFault → Type 0 = λ r. DueIs c.args.moment r (g.D.Desk.view c.loop-next.desk) (g.D.Desk.view c.due_by.new.desk) in
    releasing_unasked c.args.moment c.in-Err.fault _ _ _ c.loop-next.invariant.0 (subst P c.in-Err.is c.due_by.ensures.due)

pub returns-in-Err-release-clause-releases : goal.returns-in-Err-release-clause-releases
returns-in-Err-release-clause-releases g c =
    let P : Result (Option Waiting) DeskFault → Type 0 = λ r. DueIs c.args.moment r (g.D.Desk.view c.loop-next.desk) (g.D.Desk.view c.due_by.new.desk) in
    let d = subst P (c.in-Ok-Some.is ∙ ap Ok c.in-Ok-Some.field-0-is) c.due_by.ensures.due in
    releasing_refused c.args.moment c.in-Ok-Some.next.number c.in-Err-release.fault _ _ _ (releasing_asked c.args.moment _ _ _ c.loop-next.invariant.0 d.0 d.1) c.in-Err-release.ensures.call
