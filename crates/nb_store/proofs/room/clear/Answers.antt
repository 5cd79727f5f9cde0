use Rattle.std.proofs.Common.{arith}
use Rattle.nb_base.specs.Shown.{stored}
use Rattle.nb_store.proofs.BatchLaws.{clearing_start, clearing_next, cleared_end}
use Rattle.nb_store.proofs.room.clear.Goals as goal

pub loop-i-init : goal.loop-i-init
loop-i-init c = clearing_start c.args.writes.now c.args.version c.args.tables.now

pub loop-i-preserved : goal.loop-i-preserved
loop-i-preserved c =
    clearing_next c.args.writes.now c.args.version c.loop-i.i c.args.tables.now c.loop-i.tables c.clear_one.new.tables c.at.result.now c.at.ensures c.loop-i.invariant c.clear_one.ensures.cleared c.clear_one.ensures.outbox

pub returns-clause-before : goal.returns-clause-before
returns-clause-before c = λ s wider are older. cleared_end c.args.writes.now c.loop-i.i s (stored c.loop-i.tables) (omega arith) (c.loop-i.invariant.cleared s wider are older)

pub returns-clause-outbox : goal.returns-clause-outbox
returns-clause-outbox c = c.loop-i.invariant.outbox
