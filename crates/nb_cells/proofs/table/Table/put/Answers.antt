use Rattle.std.proofs.Common.{◌∙◌, ap, Some}
use Rattle.nb_cells.specs.Table.{with_slot}
use Rattle.nb_cells.proofs.SlotLaws.{shown-updated}
use Rattle.nb_cells.proofs.table.Table.put.Goals as goal

pub returns : goal.returns
returns c =
    shown-updated c.self.inside.slots c.insert.new.self _ (Some (Some c.in_ok-bytes.bytes)) c.in_ok-insert.ensures.updates
    ∙ ap (λ t. with_slot t (record { space = c.args.cell.now.space; key = c.in_ok-copy.field-0 }) (Some c.in_ok-bytes.bytes)) c.self.view_is
    ∙ ap (λ k. with_slot c.args.self.now (record { space = c.args.cell.now.space; key = k }) (Some c.in_ok-bytes.bytes)) c.in_ok-copy.ensures
    ∙ ap (λ b. with_slot c.args.self.now (record { space = c.args.cell.now.space; key = c.args.cell.now.key }) (Some b)) c.in_ok-bytes.ensures
