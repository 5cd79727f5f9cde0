use Rattle.std.proofs.Common.{◌∙◌, ap, subst}
use Rattle.std.specs.Prelude.{Ok, Option, Result}
use Rattle.nb_base.specs.declared.entry.Waiting.{Waiting}
use Rattle.nb_core.specs.declared.answers.DeskFault.{DeskFault}
use Rattle.nb_core.specs.Calls.{Called}
use Rattle.nb_core.specs.declared.call.Answer.TheVariants as answer
use Rattle.nb_core.specs.declared.call.Call.TheVariants as call
use Rattle.nb_pump.specs.Drains.{DueIs}
use Rattle.std.specs.Prelude.{Bool}
use Rattle.nb_pump.proofs.Winding.{winding_start, winding_asked, winding_unasked, winding_over, may_tick, winding_ticked, winding_unticked, winding_released, winding_unreleased, winding_on, winding_found, winding_unknown, winding_fewer}
use Rattle.nb_pump.proofs.releases.wind.Goals as goal

pub loop-next-init : goal.loop-next-init
loop-next-init g c = (winding_start c.args.until c.args.moment _ c.requires.standing c.requires.moment c.requires.empty, λ start h. h, λ h. h)

pub returns-in-Ok-None-clause-wind : goal.returns-in-Ok-None-clause-wind
returns-in-Ok-None-clause-wind g c =
    let P : Result (Option Waiting) DeskFault → Type 0 = λ r. DueIs c.args.until r (g.D.Desk.view c.loop-next.desk) (g.D.Desk.view c.due_by.new.desk) in
    let d = subst P (c.in-Ok-None.is ∙ ap Ok c.in-Ok-None.field-0-is) c.due_by.ensures.due in
    winding_over c.args.until c.loop-next.now _ _ (winding_asked c.args.until c.loop-next.now _ _ _ c.loop-next.invariant.0 d.0 d.1) d.1.on d.2

pub returns-in-Err-clause-wind : goal.returns-in-Err-clause-wind
returns-in-Err-clause-wind g c =
    let P : Result (Option Waiting) DeskFault → Type 0 = λ r. DueIs c.args.until r (g.D.Desk.view c.loop-next.desk) (g.D.Desk.view c.due_by.new.desk) in
    winding_unasked c.args.until c.loop-next.now c.in-Err.fault _ _ _ c.loop-next.invariant.0 (subst P c.in-Err.is c.due_by.ensures.due)

pub tick-requires : goal.tick-requires
tick-requires g c =
    let P : Result (Option Waiting) DeskFault → Type 0 = λ r. DueIs c.args.until r (g.D.Desk.view c.loop-next.desk) (g.D.Desk.view c.due_by.new.desk) in
    let d = subst P (c.in-Ok-Some.is ∙ ap Ok c.in-Ok-Some.field-0-is) c.due_by.ensures.due in
    may_tick c.args.until c.loop-next.now c.later-now.result c.in-Ok-Some.next _ _ (winding_asked c.args.until c.loop-next.now _ _ _ c.loop-next.invariant.0 d.0 d.1) c.later-now.ensures

pub returns-in-Err-tick-clause-wind : goal.returns-in-Err-tick-clause-wind
returns-in-Err-tick-clause-wind g c =
    let P : Result (Option Waiting) DeskFault → Type 0 = λ r. DueIs c.args.until r (g.D.Desk.view c.loop-next.desk) (g.D.Desk.view c.due_by.new.desk) in
    let d = subst P (c.in-Ok-Some.is ∙ ap Ok c.in-Ok-Some.field-0-is) c.due_by.ensures.due in
    winding_unticked c.args.until c.loop-next.now c.later-now.result c.in-Err-tick.fault _ _ _ (winding_asked c.args.until c.loop-next.now _ _ _ c.loop-next.invariant.0 d.0 d.1) c.in-Err-tick.ensures.call

pub release_due-requires-clause-standing : goal.release_due-requires-clause-standing
release_due-requires-clause-standing g c =
    let Q : Result (Option Waiting) DeskFault → Type 0 = λ r. DueIs c.args.until r (g.D.Desk.view c.loop-next.desk) (g.D.Desk.view c.due_by.new.desk) in
    let d = subst Q (c.in-Ok-Some.is ∙ ap Ok c.in-Ok-Some.field-0-is) c.due_by.ensures.due in
    let s = (winding_ticked c.args.until c.loop-next.now c.later-now.result c.in-Ok-Some.next _ _ _ (winding_asked c.args.until c.loop-next.now _ _ _ c.loop-next.invariant.0 d.0 d.1) d.2 d.3 c.later-now.ensures c.in-Ok.ensures.call) in
    s.standing

pub release_due-requires-clause-moment : goal.release_due-requires-clause-moment
release_due-requires-clause-moment g c =
    let Q : Result (Option Waiting) DeskFault → Type 0 = λ r. DueIs c.args.until r (g.D.Desk.view c.loop-next.desk) (g.D.Desk.view c.due_by.new.desk) in
    let d = subst Q (c.in-Ok-Some.is ∙ ap Ok c.in-Ok-Some.field-0-is) c.due_by.ensures.due in
    let s = (winding_ticked c.args.until c.loop-next.now c.later-now.result c.in-Ok-Some.next _ _ _ (winding_asked c.args.until c.loop-next.now _ _ _ c.loop-next.invariant.0 d.0 d.1) d.2 d.3 c.later-now.ensures c.in-Ok.ensures.call) in
    s.now_is

pub returns-in-Err-release_due-clause-wind : goal.returns-in-Err-release_due-clause-wind
returns-in-Err-release_due-clause-wind g c =
    let Q : Result (Option Waiting) DeskFault → Type 0 = λ r. DueIs c.args.until r (g.D.Desk.view c.loop-next.desk) (g.D.Desk.view c.due_by.new.desk) in
    let d = subst Q (c.in-Ok-Some.is ∙ ap Ok c.in-Ok-Some.field-0-is) c.due_by.ensures.due in
    let s = (winding_ticked c.args.until c.loop-next.now c.later-now.result c.in-Ok-Some.next _ _ _ (winding_asked c.args.until c.loop-next.now _ _ _ c.loop-next.invariant.0 d.0 d.1) d.2 d.3 c.later-now.ensures c.in-Ok.ensures.call) in
    winding_unreleased c.args.until c.later-now.result c.in-Err-release_due.fault _ _ _ s c.in-Err-release_due.ensures.releases

pub loop-next-preserved : goal.loop-next-preserved
loop-next-preserved g c =
    let Q : Result (Option Waiting) DeskFault → Type 0 = λ r. DueIs c.args.until r (g.D.Desk.view c.loop-next.desk) (g.D.Desk.view c.due_by.new.desk) in
    let d = subst Q (c.in-Ok-Some.is ∙ ap Ok c.in-Ok-Some.field-0-is) c.due_by.ensures.due in
    let s = (winding_ticked c.args.until c.loop-next.now c.later-now.result c.in-Ok-Some.next _ _ _ (winding_asked c.args.until c.loop-next.now _ _ _ c.loop-next.invariant.0 d.0 d.1) d.2 d.3 c.later-now.ensures c.in-Ok.ensures.call) in
    let P : Result Bool DeskFault → Type 0 = λ r. Called (call.IsDrained c.later-now.result) (answer.IsDrained r) (g.D.Desk.view c.release_due.new.desk) (g.D.Desk.view c.drained.new.self) in (
      winding_on c.args.until c.later-now.result _ _ _ (winding_released c.args.until c.later-now.result _ _ _ s c.in-Ok-release_due.ensures.releases) (subst P (c.in-Ok-true.is ∙ ap Ok c.in-Ok-true.field-0-test) c.drained.ensures.call),
      λ start h. c.drained.ensures.stands start (c.release_due.ensures.stands start (c.tick.ensures.stands start (c.due_by.ensures.stands start (c.loop-next.invariant.1 start h)))),
      λ h. c.drained.ensures.caused (c.release_due.ensures.caused (c.tick.ensures.caused (c.due_by.ensures.caused (c.loop-next.invariant.2 h)))),
    )

pub loop-next-smaller : goal.loop-next-smaller
loop-next-smaller g c =
    let Q : Result (Option Waiting) DeskFault → Type 0 = λ r. DueIs c.args.until r (g.D.Desk.view c.loop-next.desk) (g.D.Desk.view c.due_by.new.desk) in
    let d = subst Q (c.in-Ok-Some.is ∙ ap Ok c.in-Ok-Some.field-0-is) c.due_by.ensures.due in
    let s = (winding_ticked c.args.until c.loop-next.now c.later-now.result c.in-Ok-Some.next _ _ _ (winding_asked c.args.until c.loop-next.now _ _ _ c.loop-next.invariant.0 d.0 d.1) d.2 d.3 c.later-now.ensures c.in-Ok.ensures.call) in
    let P : Result Bool DeskFault → Type 0 = λ r. Called (call.IsDrained c.later-now.result) (answer.IsDrained r) (g.D.Desk.view c.release_due.new.desk) (g.D.Desk.view c.drained.new.self) in
    let z = winding_released c.args.until c.later-now.result _ _ _ s c.in-Ok-release_due.ensures.releases in
    winding_fewer c.args.until c.loop-next.now c.later-now.result _ _ _ _ _ c.loop-next.invariant.0 d.0 (winding_asked c.args.until c.loop-next.now _ _ _ c.loop-next.invariant.0 d.0 d.1) c.in-Ok.ensures.call s
    c.in-Ok-release_due.ensures.releases _ z (subst P (c.in-Ok-true.is ∙ ap Ok c.in-Ok-true.field-0-test) c.drained.ensures.call)

pub returns-in-Ok-false-clause-wind : goal.returns-in-Ok-false-clause-wind
returns-in-Ok-false-clause-wind g c =
    let Q : Result (Option Waiting) DeskFault → Type 0 = λ r. DueIs c.args.until r (g.D.Desk.view c.loop-next.desk) (g.D.Desk.view c.due_by.new.desk) in
    let d = subst Q (c.in-Ok-Some.is ∙ ap Ok c.in-Ok-Some.field-0-is) c.due_by.ensures.due in
    let s = (winding_ticked c.args.until c.loop-next.now c.later-now.result c.in-Ok-Some.next _ _ _ (winding_asked c.args.until c.loop-next.now _ _ _ c.loop-next.invariant.0 d.0 d.1) d.2 d.3 c.later-now.ensures c.in-Ok.ensures.call) in
    let P : Result Bool DeskFault → Type 0 = λ r. Called (call.IsDrained c.later-now.result) (answer.IsDrained r) (g.D.Desk.view c.release_due.new.desk) (g.D.Desk.view c.drained.new.self) in
    winding_found c.args.until c.later-now.result _ _ _ (winding_released c.args.until c.later-now.result _ _ _ s c.in-Ok-release_due.ensures.releases) (subst P (c.in-Ok-false.is ∙ ap Ok c.in-Ok-false.field-0-test) c.drained.ensures.call)

pub returns-in-Err-drained-clause-wind : goal.returns-in-Err-drained-clause-wind
returns-in-Err-drained-clause-wind g c =
    let Q : Result (Option Waiting) DeskFault → Type 0 = λ r. DueIs c.args.until r (g.D.Desk.view c.loop-next.desk) (g.D.Desk.view c.due_by.new.desk) in
    let d = subst Q (c.in-Ok-Some.is ∙ ap Ok c.in-Ok-Some.field-0-is) c.due_by.ensures.due in
    let s = (winding_ticked c.args.until c.loop-next.now c.later-now.result c.in-Ok-Some.next _ _ _ (winding_asked c.args.until c.loop-next.now _ _ _ c.loop-next.invariant.0 d.0 d.1) d.2 d.3 c.later-now.ensures c.in-Ok.ensures.call) in
    winding_unknown c.args.until c.later-now.result c.in-Err-drained.fault _ _ _ (winding_released c.args.until c.later-now.result _ _ _ s c.in-Ok-release_due.ensures.releases) c.in-Err-drained.ensures.call
