use Rattle.std.proofs.Common.{true, sym, subst}
use Rattle.nb_hub.proofs.Indexing.{indexed_held}
use Rattle.nb_hub.specs.Indexed.{IsIndexed}
use Rattle.nb_hub.proofs.transport.Transport.hold.Goals as goal

pub invariant_of-self : goal.invariant_of-self
invariant_of-self g c =
    let s = c.args.self.now in
    record { indexed = subst (IsIndexed s.own s.post.queues.entries) (sym c.hold.ensures) (indexed_held s.own s.post.queues.entries s.ready c.args.number true c.requires.0 c.requires.1 s.indexed) }
