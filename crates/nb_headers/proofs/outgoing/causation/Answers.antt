use Rattle.nb_headers.proofs.OutgoingLaws.{all_set}
use Rattle.nb_headers.proofs.outgoing.causation.Goals as goal

pub returns : goal.returns
returns c = all_set c.args.incoming.now c.args.made.now _ _ _ c.in_ok-envelope.ensures c.in_ok-name_sender.ensures c.in_ok-address.ensures
