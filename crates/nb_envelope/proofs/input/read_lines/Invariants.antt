use Rattle.std.proofs.Common.{length}
use Rattle.nb_envelope.proofs.InputLaws.{Keeps}
use Rattle.nb_envelope.proofs.input.read_lines.Given as goal

abbrev pub invariant-loop-line : goal.invariant-loop-line
invariant-loop-line l = Keeps l.input l.past l.n l.list l.rest

abbrev pub decreases-loop-line : goal.decreases-loop-line
decreases-loop-line l = length l.rest
