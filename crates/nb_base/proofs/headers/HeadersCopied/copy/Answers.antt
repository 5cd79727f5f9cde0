use Rattle.std.proofs.Common.{◌∙◌}
use Rattle.nb_base.proofs.HeaderLaws.{with_header-next}
use Rattle.nb_base.proofs.headers.HeadersCopied.copy.Goals as goal

pub loop-i-preserved : goal.loop-i-preserved
loop-i-preserved c =
    c.in_ok-set.ensures.ok
    ∙ rw (c.loop-i.invariant, c.in_ok-copy.ensures) (with_header-next c.args.self.now c.loop-i.i _ _ c.len-i-end.ensures.distinct c.at.ensures)
