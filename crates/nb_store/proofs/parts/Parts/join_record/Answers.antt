use Rattle.nb_store.proofs.OpenLaws.{reads_record}
use Rattle.nb_store.proofs.parts.Parts.join_record.Goals as goal

pub returns-in_ok-id-in-Ok : goal.returns-in_ok-id-in-Ok
returns-in_ok-id-in-Ok c =
    reads_record c.args.self.now c.add_record.new.self c.args.cell.now c.in_ok-id-in-Ok.id c.in-Ok.row c.add_record.result c.requires.space c.in_ok-id-in-Ok.ensures c.in-Ok.ensures.found.2 c.in-Ok.ensures.only c.add_record.ensures
