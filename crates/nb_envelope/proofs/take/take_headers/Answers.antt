use Rattle.std.proofs.Common.{◌∙◌}
use Rattle.std.proofs.lemmas.Result.{err_from_is_err_and}
use Rattle.nb_envelope.proofs.HeaderLaws.{goes_on, ends, is_done, headers_of-from}
use Rattle.nb_envelope.proofs.take.take_headers.Goals as goal

pub returns-in_err-rest : goal.returns-in_err-rest
returns-in_err-rest c =
    let p = err_from_is_err_and c.from_residual.result c.from_residual.ensures.1 in
    rw (p.1, p.2) (ends c.in_err-rest.field-0.0 _ _ _ _ _ c.loop-test.true c.in_err-rest.ensures (c.loop.invariant ∙ headers_of-from c.args.count c.args.bytes.now))

pub loop-preserved : goal.loop-preserved
loop-preserved c = goes_on _ _ _ _ _ _ _ c.loop-test.true c.in_ok-rest.ensures c.loop.invariant

pub returns : goal.returns
returns c = is_done _ _ _ _ _ c.loop-test.false (c.loop.invariant ∙ headers_of-from c.args.count c.args.bytes.now)
