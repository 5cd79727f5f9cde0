use Rattle.std.proofs.Common.{Some}
use Rattle.nb_cells.proofs.SlotLaws.{shown-updated}
use Rattle.nb_cells.proofs.slots.fill_slot.Goals as goal

pub returns-in-Some-clause-filled : goal.returns-in-Some-clause-filled
returns-in-Some-clause-filled c = shown-updated c.args.slots.now (c.get_mut.follows.lender c.args.bytes) _ (Some c.args.bytes) ((c.get_mut.follows.holds c.args.bytes).3 c.requires)
