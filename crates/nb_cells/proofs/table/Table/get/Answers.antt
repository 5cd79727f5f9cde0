use Rattle.std.proofs.Common.{◌∙◌, sym, ap, Some, None}
use Rattle.std.specs.Option.{option_copied}
use Rattle.nb_cells.proofs.SlotLaws.{found}
use Rattle.nb_cells.proofs.table.Table.get.Goals as goal

pub returns-in_err-get : goal.returns-in_err-get
returns-in_err-get c =
    ap option_copied c.from_residual.ensures
    ∙ found c.self.inside.slots c.args.self.now c.args.place.now None c.self.view_is (sym c.get.ensures.value ∙ ap option_copied c.in_err-get.was)

pub returns : goal.returns
returns c =
    c.as_ref.ensures.value
    ∙ found c.self.inside.slots c.args.self.now c.args.place.now (Some c.in_ok-get.field-0.now) c.self.view_is (sym c.get.ensures.value ∙ ap option_copied c.in_ok-get.was)
