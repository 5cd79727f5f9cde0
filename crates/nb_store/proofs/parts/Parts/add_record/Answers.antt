use Rattle.nb_store.proofs.OpenLaws.{added_record}
use Rattle.nb_store.proofs.parts.Parts.add_record.Goals as goal

pub returns : goal.returns
returns c =
    added_record c.args.self.now c.put_record.new.self c.args.id c.args.row c.requires.open (c.fits_record.ensures.0 c.if-not-fits_record.false)
    c.in_ok-put_record.ensures.tables c.in_ok-put_record.ensures.ids c.in_ok-put_record.ensures.numbers
