use Rattle.std.proofs.Common.{arith}
use Rattle.nb_headers.proofs.Walks.{start_seconds, abs_64}
use Rattle.nb_headers.proofs.moments.start_of.Goals as goal

pub returns-clause-value : goal.returns-clause-value
returns-clause-value c =
    let s = start_seconds c.date.result c.args.day _ _ c.date.ensures c.requires c.duration_until.ensures c.as_secs.ensures in
    abs_64 _ _ _ s.0 (omega (arith, s.1)) c.unsigned_abs.ensures.value

pub returns-clause-small : goal.returns-clause-small
returns-clause-small c =
    let s = start_seconds c.date.result c.args.day _ _ c.date.ensures c.requires c.duration_until.ensures c.as_secs.ensures in
    let e = abs_64 _ _ _ s.0 (omega (arith, s.1)) c.unsigned_abs.ensures.value in
    omega (arith, e, s.1)
