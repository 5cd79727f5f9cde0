use Rattle.nb_store.specs.Opening.{row}
use Rattle.nb_store.proofs.OpenLaws.{reads_cell, only_row, inside}
use Rattle.nb_store.proofs.parts.Parts.join_row.Goals as goal

pub returns-in-Ok : goal.returns-in-Ok
returns-in-Ok c =
    reads_cell c.args.self.now (row c.in-Ok.stored) c.args.cell.now c.add_row.new.self c.add_row.result c.in-Ok.ensures.found.1
    (only_row c.args.cell.now c.in-Ok.stored c.requires.space (λ o is e. inside o c.in-Ok.stored (c.in-Ok.ensures.only o is e))) c.add_row.ensures
