use Rattle.std.proofs.Common.{sym, ap, ◌∙◌}
use Rattle.std.specs.FinMap as map
use Rattle.nb_base.proofs.Maps.{names}
use Rattle.nb_base.proofs.Trees.{entries_of}
use Rattle.nb_base.proofs.by_name.ByName.iter.Goals as goal

pub returns : goal.returns
returns g c = c.iter.ensures.rest ∙ sym (ap map.entries (sym c.self.view_is) ∙ entries_of names _ c.iter.ensures.ordered)
