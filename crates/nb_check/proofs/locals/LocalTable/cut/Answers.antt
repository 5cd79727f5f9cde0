use Rattle.std.proofs.Common.{sym, ap, ◌∙◌}
use Rattle.nb_check.specs.Places.{place_of}
use Rattle.nb_check.proofs.PlaceLaws.{places_cut}
use Rattle.nb_check.proofs.locals.LocalTable.cut.Goals as goal

pub invariant_of-self : goal.invariant_of-self
invariant_of-self c = λ name i e. places_cut c.self.inside.places c.args.count c.self.inside.names c.self.invariant name i (ap (λ ls. place_of name ls) (sym c.cut.ensures) ∙ e)
