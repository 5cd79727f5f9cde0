use Rattle.std.proofs.Common.{◌≡◌, ◌∙◌, Some, refl, sym, ap, subst}
use Rattle.std.specs.FinMap as map
use Rattle.std.specs.Option.{option_copied}
use Rattle.nb_base.specs.declared.tables.PostState.{PostState}
use Rattle.nb_hub.proofs.Indexing.{indexed_released}
use Rattle.nb_hub.specs.Indexed.{IsIndexed, undelayed}
use Rattle.nb_queue.proofs.PostLaws.{released-there}
use Rattle.nb_queue.specs.Stands.{in_place, stands_now}
use Rattle.nb_ready.specs.Seats.{Seats}
use Rattle.nb_hub.proofs.transport.Transport.release.Goals as goal

pub invariant_of-self-2 : goal.invariant_of-self-2
invariant_of-self-2 g c =
    let s = c.args.self.now in
    let q = s.post.queues in
    let e = c.unwrap.result.now in
    let there : map.get q.entries c.args.number ≡ Some e = sym c.entry.ensures ∙ ap option_copied c.unwrap.ensures in
    let index : c.release-2.new.ready ≡ undelayed s.own s.ready c.args.number e.queue = c.release-2.ensures ∙ ap (undelayed s.own s.ready c.args.number) c.in_ok-queue.ensures in
    let post : c.release.new.self.queues ≡ in_place q c.args.number (stands_now e) = c.in_ok-release.ensures.post ∙ sym (released-there q c.args.number e (stands_now e) there refl) in
    record { indexed = subst (λ (x : PostState × Seats). IsIndexed s.own x.0.entries x.1) (λ i. (sym post i, sym index i)) (indexed_released s.own q.entries s.ready c.args.number e s.indexed there) }
