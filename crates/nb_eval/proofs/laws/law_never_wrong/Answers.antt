use Rattle.std.proofs.Common.{arith}
use Rattle.nb_script.specs.Tree.{script}
use Rattle.nb_check.specs.Blocks.{blocks}
use Rattle.nb_eval.proofs.NeverWrong.{never-wrong, not-wrong, met-few}
use Rattle.nb_eval.proofs.laws.law_never_wrong.Goals as goal

pub returns : goal.returns
returns c = λ e at look fit m fields is body.
    let met = met-few m 0 (blocks (script c.args.c.now)) in
    let few = c.block_count-count.ensures.few in
    not-wrong _ (never-wrong (script c.args.c.now) c.items-rules.ensures.rules e at look fit m fields is body (omega (arith, met, few)))
