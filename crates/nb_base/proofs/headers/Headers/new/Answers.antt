use Rattle.nb_base.specs.MessagesLaws.{IsDistinct-seen}
use Rattle.nb_base.proofs.headers.Headers.new.Goals as goal

pub invariant_of-result : goal.invariant_of-result
invariant_of-result c = IsDistinct-seen c.new.result.entries c.new.ensures.unique
