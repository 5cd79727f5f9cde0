use Rattle.std.proofs.Common.{◌∙◌, sym, ap}
use Rattle.std.specs.BTreeMap.{get}
use Rattle.nb_cells.specs.Place.{place_cmp}
use Rattle.nb_cells.proofs.SlotLaws.{shown-room, absent_if}
use Rattle.nb_cells.proofs.slots.make_slot.Goals as goal

pub returns-clause-same : goal.returns-clause-same
returns-clause-same c =
    let copied = c.in_ok-place.ensures in
    shown-room c.args.slots.now c.insert.new.self _ (ap (get place_cmp c.args.slots.now) copied ∙ absent_if _ (sym c.contains_key.ensures ∙ c.if-contains_key.false)) c.in_ok-insert.ensures.updates
