use Rattle.std.proofs.Common.{◌≡◌, ◌-◌, []}
use Rattle.nb_envelope.proofs.HeaderLaws.{headers_from}
use Rattle.nb_envelope.proofs.take.take_headers.Given as goal

abbrev pub invariant-loop : goal.invariant-loop
invariant-loop l = headers_from l.headers (l.count - l.counter) l.rest ≡ headers_from [] l.count l.bytes
