use Rattle.std.proofs.Common.{◌∙◌, ap, subst, Bool}
use Rattle.std.specs.Prelude.{ℕ, Ok, Option, Result}
use Rattle.nb_core.specs.Paced.{working}
use Rattle.nb_core.specs.Past.{Fixed}
use Rattle.nb_core.specs.declared.answers.DeskFault.{DeskFault}
use Rattle.nb_pump.specs.Drains.{WindIs, TurnsAre}
use Rattle.nb_pump.proofs.Draining.{draining_start, wound, draining_done, draining_unwound, draining_more, draining_smaller, draining_limit, draining_broken, asked_last}
use Rattle.nb_pump.proofs.drain.rounds.Goals as goal

pub loop-later-init : goal.loop-later-init
loop-later-init g c = (draining_start c.args.until c.args.moment _ c.requires.standing c.requires.moment c.requires.empty, λ start h. h, λ h. h)

pub returns-in-Ok-None-clause-drain : goal.returns-in-Ok-None-clause-drain
returns-in-Ok-None-clause-drain g c =
    let P : Result (Option ℕ) DeskFault → Type 0 = λ r. WindIs c.args.until r (g.D.Desk.view c.loop-later.desk) (g.D.Desk.view c.wind.new.desk) in
    draining_done c.args.until c.loop-later.now _ _ _ c.loop-later.invariant.0 (subst P (c.in-Ok-None.is ∙ ap Ok c.in-Ok-None.field-0-is) c.wind.ensures.wind)

pub returns-in-Err-clause-drain : goal.returns-in-Err-clause-drain
returns-in-Err-clause-drain g c =
    let P : Result (Option ℕ) DeskFault → Type 0 = λ r. WindIs c.args.until r (g.D.Desk.view c.loop-later.desk) (g.D.Desk.view c.wind.new.desk) in
    draining_unwound c.args.until c.loop-later.now c.in-Err.fault _ _ _ c.loop-later.invariant.0 (subst P c.in-Err.is c.wind.ensures.wind)

pub take_turns-requires-clause-meaning : goal.take_turns-requires-clause-meaning
take_turns-requires-clause-meaning g c =
    let P : Result (Option ℕ) DeskFault → Type 0 = λ r. WindIs c.args.until r (g.D.Desk.view c.loop-later.desk) (g.D.Desk.view c.wind.new.desk) in
    let x = wound c.args.until c.loop-later.now c.in-Ok-Some.later _ _ _ c.loop-later.invariant.0 (subst P (c.in-Ok-Some.is ∙ ap Ok c.in-Ok-Some.field-0-is) c.wind.ensures.wind) in
    ap (λ (f : Fixed). f.meaning) x.same ∙ c.requires.meaning

pub loop-later-smaller : goal.loop-later-smaller
loop-later-smaller g c =
    let P : Result (Option ℕ) DeskFault → Type 0 = λ r. WindIs c.args.until r (g.D.Desk.view c.loop-later.desk) (g.D.Desk.view c.wind.new.desk) in
    let Q : Result Bool DeskFault → Type 0 = λ r. TurnsAre r (g.D.Desk.view c.wind.new.desk) (g.D.Desk.view c.take_turns.new.desk) in
    draining_smaller c.args.until c.loop-later.now c.in-Ok-Some.later (g.D.Desk.view c.args.desk.now) _ _ _ (subst P (c.in-Ok-Some.is ∙ ap Ok c.in-Ok-Some.field-0-is) c.wind.ensures.wind) (subst Q (c.in-Ok-true.is ∙ ap Ok c.in-Ok-true.field-0-test) c.take_turns.ensures.turns)

pub loop-later-preserved : goal.loop-later-preserved
loop-later-preserved g c =
    let P : Result (Option ℕ) DeskFault → Type 0 = λ r. WindIs c.args.until r (g.D.Desk.view c.loop-later.desk) (g.D.Desk.view c.wind.new.desk) in
    let x = wound c.args.until c.loop-later.now c.in-Ok-Some.later _ _ _ c.loop-later.invariant.0 (subst P (c.in-Ok-Some.is ∙ ap Ok c.in-Ok-Some.field-0-is) c.wind.ensures.wind) in
    let Q : Result Bool DeskFault → Type 0 = λ r. TurnsAre r (g.D.Desk.view c.wind.new.desk) (g.D.Desk.view c.take_turns.new.desk) in (
      draining_more c.args.until c.in-Ok-Some.later _ _ _ x (subst Q (c.in-Ok-true.is ∙ ap Ok c.in-Ok-true.field-0-test) c.take_turns.ensures.turns),
      λ start h. c.take_turns.ensures.stands start (c.wind.ensures.stands start (c.loop-later.invariant.1 start h)),
      λ h. c.take_turns.ensures.caused (c.wind.ensures.caused (c.loop-later.invariant.2 h)),
    )

pub returns-in-Ok-false-clause-drain : goal.returns-in-Ok-false-clause-drain
returns-in-Ok-false-clause-drain g c =
    let P : Result (Option ℕ) DeskFault → Type 0 = λ r. WindIs c.args.until r (g.D.Desk.view c.loop-later.desk) (g.D.Desk.view c.wind.new.desk) in
    let x = wound c.args.until c.loop-later.now c.in-Ok-Some.later _ _ _ c.loop-later.invariant.0 (subst P (c.in-Ok-Some.is ∙ ap Ok c.in-Ok-Some.field-0-is) c.wind.ensures.wind) in
    let Q : Result Bool DeskFault → Type 0 = λ r. TurnsAre r (g.D.Desk.view c.wind.new.desk) (g.D.Desk.view c.take_turns.new.desk) in
    asked_last c.args.until working c.drained.result _ _ _ (draining_limit c.args.until c.in-Ok-Some.later _ _ _ x (subst Q (c.in-Ok-false.is ∙ ap Ok c.in-Ok-false.field-0-test) c.take_turns.ensures.turns)) c.drained.ensures.call

pub returns-in-Err-take_turns-clause-drain : goal.returns-in-Err-take_turns-clause-drain
returns-in-Err-take_turns-clause-drain g c =
    let P : Result (Option ℕ) DeskFault → Type 0 = λ r. WindIs c.args.until r (g.D.Desk.view c.loop-later.desk) (g.D.Desk.view c.wind.new.desk) in
    let x = wound c.args.until c.loop-later.now c.in-Ok-Some.later _ _ _ c.loop-later.invariant.0 (subst P (c.in-Ok-Some.is ∙ ap Ok c.in-Ok-Some.field-0-is) c.wind.ensures.wind) in
    draining_broken c.args.until c.in-Ok-Some.later c.in-Err-take_turns.fault _ _ _ x c.in-Err-take_turns.ensures.turns
