use Rattle.nb_base.specs.Messages.{id_name}
use Rattle.nb_base.specs.MessagesLaws.{test-without_header}
use Rattle.nb_base.proofs.envelope.Envelope.without.Goals as goal

pub invariant_of-self : goal.invariant_of-self
invariant_of-self c = record {
  distinct = c.remove.ensures.distinct;
  id = rw c.remove.ensures.value (test-without_header id_name c.self.inside.headers c.args.name.now c.self.invariant.id c.requires);
}
