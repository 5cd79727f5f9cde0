use Rattle.std.proofs.Common.{◌≡◌, ◌∙◌, Some, sym, ap, subst}
use Rattle.std.specs.FinMap as map
use Rattle.std.specs.Option.{option_copied}
use Rattle.nb_base.specs.declared.tables.PostState.{PostState}
use Rattle.nb_hub.proofs.Indexing.{indexed_dropped}
use Rattle.nb_hub.specs.Indexed.{IsIndexed, dropped}
use Rattle.nb_ready.specs.Seats.{Seats}
use Rattle.nb_hub.proofs.transport.Transport.remove.Goals as goal

pub invariant_of-self-2 : goal.invariant_of-self-2
invariant_of-self-2 g c =
    let s = c.args.self.now in
    let q = s.post.queues in
    let e = c.unwrap.result.now in
    let there : map.get q.entries c.args.number ≡ Some e = sym c.entry.ensures ∙ ap option_copied c.unwrap.ensures in
    let index : c.drop_number.new.ready ≡ dropped s.own s.ready c.args.number e.queue = c.drop_number.ensures ∙ ap (dropped s.own s.ready c.args.number) c.in_ok-queue.ensures in
    record { indexed = subst (λ (x : PostState × Seats). IsIndexed s.own x.0.entries x.1) (λ i. (sym c.in_ok-remove.ensures.post i, sym index i)) (indexed_dropped s.own q.entries s.ready c.args.number e s.indexed there) }
