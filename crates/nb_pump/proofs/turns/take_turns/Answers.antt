use Rattle.std.proofs.Common.{◌∙◌, ap, refl, subst}
use Rattle.std.specs.Prelude.{Ok, Result}
use Rattle.nb_core.specs.declared.answers.DeskFault.{DeskFault}
use Rattle.nb_pump.specs.Leases.{TurnIs}
use Rattle.nb_pump.specs.declared.outcome.Turn.{Turn}
use Rattle.nb_pump.proofs.Working.{working_start, working_more, working_smaller, working_nothing, working_limit, working_fault, may_take, same_meaning}
use Rattle.nb_pump.proofs.turns.take_turns.Goals as goal

pub loop-fault-init : goal.loop-fault-init
loop-fault-init g c = (working_start c.args.moment _ c.requires.standing c.requires.moment, λ start h. h, λ h. h, refl)

pub turn-requires-clause-idle : goal.turn-requires-clause-idle
turn-requires-clause-idle g c = may_take c.args.moment _ _ c.loop-fault.invariant.0

pub turn-requires-clause-moment : goal.turn-requires-clause-moment
turn-requires-clause-moment g c = c.loop-fault.invariant.0.now

pub turn-requires-clause-meaning : goal.turn-requires-clause-meaning
turn-requires-clause-meaning g c = c.loop-fault.invariant.3 ∙ c.requires.meaning

pub loop-fault-preserved : goal.loop-fault-preserved
loop-fault-preserved g c =
    let P : Result Turn DeskFault → Type 0 = λ r. TurnIs 0 r (g.D.Desk.view c.loop-fault.desk) (g.D.Desk.view c.turn.new.desk) in
    let t = subst P (c.in-Ok-Ended.is ∙ ap Ok c.in-Ok-Ended.field-0-is) c.turn.ensures.turn in (
      working_more c.args.moment _ _ _ c.loop-fault.invariant.0 t,
      λ start h. c.turn.ensures.stands start (c.loop-fault.invariant.1 start h),
      λ h. c.turn.ensures.caused (c.loop-fault.invariant.2 h),
      same_meaning (g.D.Desk.view c.loop-fault.desk) (g.D.Desk.view c.turn.new.desk) t ∙ c.loop-fault.invariant.3,
    )

pub loop-fault-smaller : goal.loop-fault-smaller
loop-fault-smaller g c =
    let P : Result Turn DeskFault → Type 0 = λ r. TurnIs 0 r (g.D.Desk.view c.loop-fault.desk) (g.D.Desk.view c.turn.new.desk) in
    working_smaller c.args.moment _ _ _ c.loop-fault.invariant.0 (subst P (c.in-Ok-Ended.is ∙ ap Ok c.in-Ok-Ended.field-0-is) c.turn.ensures.turn)

pub returns-in-Ok-Nothing-clause-turns : goal.returns-in-Ok-Nothing-clause-turns
returns-in-Ok-Nothing-clause-turns g c =
    let P : Result Turn DeskFault → Type 0 = λ r. TurnIs 0 r (g.D.Desk.view c.loop-fault.desk) (g.D.Desk.view c.turn.new.desk) in
    working_nothing c.args.moment _ _ _ c.loop-fault.invariant.0 (subst P (c.in-Ok-Nothing.is ∙ ap Ok c.in-Ok-Nothing.field-0-is) c.turn.ensures.turn)

pub returns-in-Ok-Limit-clause-turns : goal.returns-in-Ok-Limit-clause-turns
returns-in-Ok-Limit-clause-turns g c =
    let P : Result Turn DeskFault → Type 0 = λ r. TurnIs 0 r (g.D.Desk.view c.loop-fault.desk) (g.D.Desk.view c.turn.new.desk) in
    working_limit c.args.moment _ _ _ c.loop-fault.invariant.0 (subst P (c.in-Ok-Limit.is ∙ ap Ok c.in-Ok-Limit.field-0-is) c.turn.ensures.turn)

pub returns-in-Err-clause-turns : goal.returns-in-Err-clause-turns
returns-in-Err-clause-turns g c =
    let P : Result Turn DeskFault → Type 0 = λ r. TurnIs 0 r (g.D.Desk.view c.loop-fault.desk) (g.D.Desk.view c.turn.new.desk) in
    working_fault c.args.moment c.in-Err.fault _ _ _ c.loop-fault.invariant.0 (subst P c.in-Err.is c.turn.ensures.turn)
