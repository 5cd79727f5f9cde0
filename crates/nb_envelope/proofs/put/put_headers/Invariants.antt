use Rattle.std.proofs.Common.{take}
use Rattle.nb_envelope.specs.Spelling.{spelled_header, IsHeader}
use Rattle.nb_envelope.proofs.WriteLaws.{Wrote}
use Rattle.nb_envelope.proofs.put.put_headers.Given as goal

abbrev pub invariant-loop-i : goal.invariant-loop-i
invariant-loop-i l = Wrote IsHeader spelled_header l.fn.out.items l.out.items (take l.i l.headers)
