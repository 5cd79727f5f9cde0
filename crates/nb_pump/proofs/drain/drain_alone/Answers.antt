use Rattle.std.proofs.Common.{◌∙◌, ap, subst, Bool}
use Rattle.std.specs.Prelude.{Ok, Result}
use Rattle.nb_core.specs.Paced.{releasing}
use Rattle.nb_core.specs.Past.{Fixed}
use Rattle.nb_core.specs.declared.answers.DeskFault.{DeskFault}
use Rattle.nb_pump.specs.Drains.{TurnsAre}
use Rattle.nb_pump.proofs.Draining.{fixed_after, turns_fixed, drain_broken, drain_limit, drain_rounds, asked_last}
use Rattle.nb_pump.proofs.drain.drain_alone.Goals as goal

pub take_turns-requires-clause-meaning : goal.take_turns-requires-clause-meaning
take_turns-requires-clause-meaning g c = ap (λ (f : Fixed). f.meaning) (fixed_after (Ok tt) _ _ c.in-Ok.ensures.releases) ∙ c.requires.meaning

pub rounds-requires-clause-meaning : goal.rounds-requires-clause-meaning
rounds-requires-clause-meaning g c =
    ap (λ (f : Fixed). f.meaning) (turns_fixed c.take_turns.result _ _ c.take_turns.ensures.turns ∙ fixed_after (Ok tt) _ _ c.in-Ok.ensures.releases) ∙ c.requires.meaning

pub returns-in-Ok-true-clause-drain : goal.returns-in-Ok-true-clause-drain
returns-in-Ok-true-clause-drain g c =
    let Q : Result Bool DeskFault → Type 0 = λ r. TurnsAre r (g.D.Desk.view c.release_due.new.desk) (g.D.Desk.view c.take_turns.new.desk) in
    drain_rounds c.args.until c.rounds.result _ _ _ _ c.in-Ok.ensures.releases (subst Q (c.in-Ok-true.is ∙ ap Ok c.in-Ok-true.field-0-test) c.take_turns.ensures.turns) c.rounds.ensures.drain

pub returns-in-Ok-false-clause-drain : goal.returns-in-Ok-false-clause-drain
returns-in-Ok-false-clause-drain g c =
    let Q : Result Bool DeskFault → Type 0 = λ r. TurnsAre r (g.D.Desk.view c.release_due.new.desk) (g.D.Desk.view c.take_turns.new.desk) in
    asked_last c.args.until releasing c.drained.result _ _ _ (drain_limit c.args.until _ _ _ c.in-Ok.ensures.releases (subst Q (c.in-Ok-false.is ∙ ap Ok c.in-Ok-false.field-0-test) c.take_turns.ensures.turns)) c.drained.ensures.call

pub returns-in-Err-take_turns-clause-drain : goal.returns-in-Err-take_turns-clause-drain
returns-in-Err-take_turns-clause-drain g c = drain_broken c.args.until c.in-Err-take_turns.fault _ _ _ c.in-Ok.ensures.releases c.in-Err-take_turns.ensures.turns
