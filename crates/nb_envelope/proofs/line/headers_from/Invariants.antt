use Rattle.nb_envelope.proofs.Reading.{Keeps}
use Rattle.nb_envelope.proofs.line.headers_from.Given as goal

abbrev pub invariant-loop-name : goal.invariant-loop-name
invariant-loop-name l = Keeps l.members.entries l.headers l.name-iterator
