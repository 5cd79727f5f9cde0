use Rattle.std.proofs.lemmas.Result.{err_from_is_err_and}
use Rattle.nb_saga_store.specs.Read.{field_in}
use Rattle.nb_saga_store.proofs.ItemsLaws.{goes_on, ends, is_done}
use Rattle.nb_saga_store.proofs.take.take_each.Goals as goal

pub returns-in_err-field : goal.returns-in_err-field
returns-in_err-field c =
    let p = err_from_is_err_and c.from_residual.result c.from_residual.ensures.1 in
    rw (p.1, p.2) (ends c.in_err-field.field-0.0 field_in _ _ _ _ _ c.loop-test.true c.in_err-field.ensures c.loop.invariant)

pub loop-preserved : goal.loop-preserved
loop-preserved c = rw c.in_ok-push.ensures.ok (goes_on field_in _ _ _ _ _ _ _ c.loop-test.true c.in_ok-field.ensures c.loop.invariant)

pub returns : goal.returns
returns c = is_done field_in _ _ _ _ _ c.loop-test.false c.loop.invariant
