use Rattle.nb_store.specs.Opening.{saga}
use Rattle.nb_store.proofs.OpenLaws.{reads_cell, only_saga, inside}
use Rattle.nb_store.proofs.parts.Parts.join_saga.Goals as goal

pub returns-in-Ok : goal.returns-in-Ok
returns-in-Ok c =
    reads_cell c.args.self.now (saga c.in-Ok.stored) c.args.cell.now c.add_saga.new.self c.add_saga.result c.in-Ok.ensures.found.1
    (only_saga c.args.cell.now c.in-Ok.stored c.requires.space (λ o is e. inside o c.in-Ok.stored (c.in-Ok.ensures.only o is e))) c.add_saga.ensures
