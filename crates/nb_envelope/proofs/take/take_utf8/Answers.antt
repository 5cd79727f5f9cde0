use Rattle.std.proofs.Common.{◌≤◌, length, arith}
use Rattle.nb_envelope.proofs.ReadLaws.{text_of-utf8, text_of-other}
use Rattle.nb_envelope.proofs.take.take_utf8.Goals as goal

pub returns-in-Ok-clause-value : goal.returns-in-Ok-clause-value
returns-in-Ok-clause-value c =
    let fits : c.args.len ≤ length c.args.bytes.now = omega (arith, c.if-bytes-len.false) in
    let utf8 = rw c.split_at.ensures.front at c.in-Ok.ensures.cases.1 in
    rw (c.in-Ok.ensures.cases.0, c.split_at.ensures.front, c.split_at.ensures.back) (text_of-utf8 c.args.len c.args.bytes.now fits utf8)

pub returns-in-Err-clause-value : goal.returns-in-Err-clause-value
returns-in-Err-clause-value c =
    let fits : c.args.len ≤ length c.args.bytes.now = omega (arith, c.if-bytes-len.false) in
    text_of-other c.args.len c.args.bytes.now fits (rw c.split_at.ensures.front at c.in-Err.ensures.cases.0)
