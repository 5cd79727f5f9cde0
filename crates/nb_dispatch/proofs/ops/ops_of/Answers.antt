use Rattle.nb_dispatch.proofs.OpLaws.{those_left}
use Rattle.nb_dispatch.proofs.ops.ops_of.Goals as goal

pub loop-left-preserved : goal.loop-left-preserved
loop-left-preserved c =
    those_left c.args.settings.now c.args.incoming.now c.args.n c.args.moment c.loop-left.ops c.dispatch.new.ops _ c.loop-left.left.now c.intent-item.result
    c.in-len1-up.len_at_least c.intent-item.is c.loop-left.invariant c.in_ok-dispatch.ensures
