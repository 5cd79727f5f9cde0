use Rattle.nb_base.specs.declared.saga_key.SagaKey.{SagaKey}
use Rattle.nb_store.proofs.OpenLaws.{added_saga}
use Rattle.nb_store.proofs.parts.Parts.add_saga.Goals as goal

pub returns : goal.returns
returns c =
    let place : SagaKey = record { saga = c.in_ok-copy.field-0; corr = c.in_ok-copy-2.field-0 } in
    added_saga c.args.self.now c.put_saga.new.self c.args.stored place c.requires.open (c.fits_saga.ensures.0 c.if-not-fits_saga.false) (λ i. record { saga = c.in_ok-copy.ensures i; corr = c.in_ok-copy-2.ensures i })
    c.in_ok-put_saga.ensures.tables c.in_ok-put_saga.ensures.ids c.in_ok-put_saga.ensures.numbers
