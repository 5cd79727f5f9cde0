use Rattle.std.proofs.Common.{refl}
use Rattle.nb_base.specs.MessagesLaws.{without_header-seen, IsDistinct-seen}
use Rattle.nb_base.proofs.headers.Headers.remove.Goals as goal

pub invariant_of-self : goal.invariant_of-self
invariant_of-self c = IsDistinct-seen c.shift_remove.new.self.entries c.shift_remove.ensures.unique

pub returns-clause-value : goal.returns-clause-value
returns-clause-value c = rw (c.shift_remove.ensures.entries, without_header-seen c.args.name.now c.self.inside.map.entries, ← c.self.view_is) refl

pub returns-clause-distinct : goal.returns-clause-distinct
returns-clause-distinct c = IsDistinct-seen c.shift_remove.new.self.entries c.shift_remove.ensures.unique
