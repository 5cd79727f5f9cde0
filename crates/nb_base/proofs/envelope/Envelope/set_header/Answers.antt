use Rattle.nb_base.specs.Messages.{id_name}
use Rattle.nb_base.specs.MessagesLaws.{test-with_header}
use Rattle.nb_base.proofs.envelope.Envelope.set_header.Goals as goal

pub invariant_of-self-2 : goal.invariant_of-self-2
invariant_of-self-2 c = record {
  distinct = c.in_ok-set.ensures.distinct;
  id = rw c.in_ok-set.ensures.ok (test-with_header id_name c.self.inside.headers c.args.name.now c.args.text c.self.invariant.id c.requires);
}
