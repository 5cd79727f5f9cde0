use Rattle.std.proofs.Common.{refl}
use Rattle.nb_base.specs.MessagesLaws.{with_header-seen, IsDistinct-seen}
use Rattle.nb_base.proofs.headers.Headers.set.Goals as goal

pub invariant_of-self : goal.invariant_of-self
invariant_of-self c = IsDistinct-seen c.insert.new.self.entries c.insert.ensures.unique

pub invariant_of-self-2 : goal.invariant_of-self-2
invariant_of-self-2 c = IsDistinct-seen c.insert.new.self.entries c.insert.ensures.unique

pub returns-clause-ok : goal.returns-clause-ok
returns-clause-ok c = rw (c.in_ok-insert.ensures.entries, with_header-seen, c.in_ok-key.ensures.ok, ← c.self.view_is) refl

pub returns-clause-distinct : goal.returns-clause-distinct
returns-clause-distinct c = IsDistinct-seen c.insert.new.self.entries c.insert.ensures.unique
