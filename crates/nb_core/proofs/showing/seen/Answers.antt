use Rattle.nb_base.specs.Shown.{stored}
use Rattle.nb_core.proofs.Reading.{read_next}
use Rattle.nb_core.proofs.showing.seen.Goals as goal

pub loop-i-preserved : goal.loop-i-preserved
loop-i-preserved c =
    read_next (stored c.args.tables.now) c.args.keys.now c.loop-i.i c.at.result.now c.loop-i.reads c.push.new.self c.in_ok-read.read
    c.at.ensures c.in_ok-read.ensures c.loop-i.invariant c.in_ok-push.ensures.ok
