use Rattle.std.proofs.Common.{ap, ◌∙◌}
use Rattle.std.specs.FinMap as map
use Rattle.nb_check.specs.Kinds.{local_in}
use Rattle.nb_check.specs.Places.{kind_by}
use Rattle.nb_check.proofs.PlaceLaws.{told}
use Rattle.nb_check.proofs.locals.LocalTable.kind_of.Goals as goal

pub returns : goal.returns
returns c =
    let name = c.args.name.now in
    let places = c.self.inside.places in
    let names = c.self.inside.names in
    c.kind_by.ensures
    ∙ ap (λ o. kind_by name o c.as_slice.result.now) c.place_of-place.ensures
    ∙ ap (λ ls. kind_by name (map.get places name) ls) c.as_slice.ensures
    ∙ told places names name c.self.invariant
    ∙ ap (λ ls. local_in name ls) c.self.view_is
