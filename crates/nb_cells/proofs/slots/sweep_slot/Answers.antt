use Rattle.std.proofs.Common.{◌∙◌, sym, ap, Some}
use Rattle.std.specs.Option.{option_copied}
use Rattle.nb_cells.proofs.SlotLaws.{shown-swept}
use Rattle.nb_cells.proofs.slots.sweep_slot.Goals as goal

pub returns-in-Some-None : goal.returns-in-Some-None
returns-in-Some-None c = shown-swept c.args.slots.now c.remove.new.self _ (sym c.get.ensures.value ∙ ap option_copied c.in-Some-None.is ∙ ap Some c.in-Some-None.field-0-is) c.remove.ensures.updates
