use Rattle.std.proofs.Common.{sym, subst, ◌∙◌}
use Rattle.nb_core.proofs.Trying.{untrue, purge_made, purge_not}
use Rattle.nb_core.specs.Step.{Step, Purge}
use Rattle.nb_core.proofs.upkeep.purge.Goals as goal

pub returns-then-not-can_purge : goal.returns-then-not-can_purge
returns-then-not-can_purge c k settings = purge_not k c.args.state.now c.args.id.now (untrue c.can_purge.result (c.can_purge.ensures k settings) c.if-not-can_purge.true)

pub returns : goal.returns
returns c k settings =
    let s = c.args.state.now in
    subst (λ outbox. Step k s (Purge c.args.id.now) (record s { tables = record s.tables { outbox = outbox } })) (sym c.remove.ensures)
    (purge_made k s c.args.id.now (sym c.are_busy.ensures ∙ c.if-are_busy.false) ((c.can_purge.ensures k settings).0 c.if-not-can_purge.false))
