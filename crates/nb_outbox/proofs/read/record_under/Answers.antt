use Rattle.std.proofs.Common.{◌∙◌, sym, eqb-true}
use Rattle.nb_outbox.proofs.ReadLaws.{some_bytes, given_named, record_of-empty, record_of-other}
use Rattle.nb_outbox.proofs.read.record_under.Goals as goal

pub returns-then-is_empty-clause-given : goal.returns-then-is_empty-clause-given
returns-then-is_empty-clause-given c = record_of-empty c.args.id.now c.args.bytes.now (eqb-true _ _ (sym c.is_empty.ensures ∙ c.if-is_empty.true))

pub returns-in-Ok-clause-given : goal.returns-in-Ok-clause-given
returns-in-Ok-clause-given c =
    given_named c.args.id.now c.args.bytes.now c.read_content.result c.in-Ok.ensures.cases.1 (some_bytes _ (sym c.is_empty.ensures ∙ c.if-is_empty.false)) c.read_content.ensures

pub returns-in-Err-clause-given : goal.returns-in-Err-clause-given
returns-in-Err-clause-given c = record_of-other c.args.id.now c.args.bytes.now c.in-Err.ensures.cases.0
