use Rattle.std.proofs.Common.{sym}
use Rattle.nb_store.proofs.OpenLaws.{reads_count, unread_count, damaged_reads}
use Rattle.nb_store.proofs.parts.Parts.join_count.Goals as goal

pub returns-in-Some : goal.returns-in-Some
returns-in-Some c =
    reads_count c.args.self.now c.add_count.new.self c.args.cell.now c.in-Some.n c.add_count.result c.requires.space (c.is_empty.ensures.0 c.if-not-is_empty.false) (rw c.as_slice.ensures.value at c.count_in.ensures.bytes)
    (rw c.as_slice.ensures.value at (sym c.in-Some.ensures.value)) c.add_count.ensures

pub returns-in-None : goal.returns-in-None
returns-in-None c =
    damaged_reads c.args.self.now c.args.self.now c.args.cell.now c.damaged-in-None.result c.damaged-in-None.ensures
    (unread_count c.args.self.now.tables c.args.cell.now c.requires.space (rw c.as_slice.ensures.value at (sym c.in-None.ensures.value)))
