use Rattle.std.proofs.Common.{◌∙◌}
use Rattle.nb_base.specs.MessagesLaws.{header-seen}
use Rattle.nb_base.proofs.headers.Headers.get.Goals as goal

pub returns : goal.returns
returns c = rw (← c.self.view_is) (c.get.ensures.value ∙ header-seen _ c.self.inside.map.entries)
