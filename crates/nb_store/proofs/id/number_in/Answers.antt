use Rattle.std.proofs.Common.{◌∙◌, sym}
use Rattle.nb_store.proofs.IdLaws.{number_found, number_none, number_other}
use Rattle.nb_store.proofs.id.number_in.Goals as goal

pub returns-then-not-is_index : goal.returns-then-not-is_index
returns-then-not-is_index c = λ n from short. number_other c.args.text.now n (sym c.is_index.ensures ∙ c.if-not-is_index.true) from short

pub returns-in-Ok : goal.returns-in-Ok
returns-in-Ok c = number_found c.args.text.now c.parse.result c.in-Ok.n (sym c.is_index.ensures ∙ c.if-not-is_index.false) c.parse.ensures.value.0 c.in-Ok.is

pub returns-in-Err : goal.returns-in-Err
returns-in-Err c = λ n from short. number_none c.args.text.now c.parse.result c.in-Err.field-0 n c.parse.ensures.value.0 c.in-Err.is from short
