use Rattle.nb_envelope.proofs.InputLaws.{Keeps-next}
use Rattle.nb_envelope.proofs.input.read_lines.Goals as goal

pub loop-line-preserved : goal.loop-line-preserved
loop-line-preserved c =
    rw c.in_ok-keep.ensures.ok
    (Keeps-next _ _ _ _ _ _ _ _ c.loop-line.invariant c.in-Some.ensures.value c.in-Some.ensures.shorter c.in_ok-message.ensures)
