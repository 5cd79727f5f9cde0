use Rattle.std.proofs.Common.{◌≡◌, ◌∙◌, sym, ap, subst}
use Rattle.std.specs.Prelude.{IsSome}
use Rattle.std.specs.FinMap as map
use Rattle.nb_base.specs.declared.tables.PostState.{PostState}
use Rattle.nb_base.specs.declared.tables.Queued.{Queued}
use Rattle.nb_hub.proofs.Indexing.{none_seated, next_new, noted_there, indexed_noted, dropped_again}
use Rattle.nb_hub.specs.Indexed.{IsIndexed, noted, dropped}
use Rattle.nb_ready.specs.Seats.{Seats}
use Rattle.nb_hub.proofs.transport.Transport.put.Goals as goal

pub note-requires : goal.note-requires
note-requires g c =
    let s = c.args.self.now in
    let q = s.post.queues in
    ap (map.get s.ready) c.next-number.ensures.value ∙ none_seated s.own q.entries s.ready q.next s.indexed (next_new q c.next-number.ensures.sound)

pub invariant_of-self-in-Ok-1 : goal.invariant_of-self-in-Ok-1
invariant_of-self-in-Ok-1 g c =
    let s = c.args.self.now in
    let q = s.post.queues in
    let e : Queued = record { queue = c.args.queue.now; due = c.args.due; envelope = c.args.envelope.now } in
    let index : c.note.new.ready ≡ noted s.own s.ready q.next e.queue e.due = c.in_ok-note.ensures.ok ∙ ap (λ n. noted s.own s.ready n e.queue e.due) c.next-number.ensures.value in
    record { indexed = subst (λ (x : PostState × Seats). IsIndexed s.own x.0.entries x.1) (λ i. (sym c.in-Ok.ensures.post i, sym index i)) (indexed_noted s.own q.entries s.ready q.next e s.indexed (next_new q c.next-number.ensures.sound)) }

pub drop_number-requires : goal.drop_number-requires
drop_number-requires g c is_own =
    let s = c.args.self.now in
    subst (λ (r : Seats). IsSome (map.get r c.next-number.result)) (sym c.in_ok-note.ensures.ok) (noted_there s.own s.ready c.next-number.result c.args.queue.now c.args.due is_own)

pub invariant_of-self-in-Err : goal.invariant_of-self-in-Err
invariant_of-self-in-Err g c =
    let s = c.args.self.now in
    let q = s.post.queues in
    let none = ap (map.get s.ready) c.next-number.ensures.value ∙ none_seated s.own q.entries s.ready q.next s.indexed (next_new q c.next-number.ensures.sound) in
    let index : c.drop_number.new.ready ≡ s.ready = c.drop_number.ensures ∙ ap (λ r. dropped s.own r c.next-number.result c.args.queue.now) c.in_ok-note.ensures.ok ∙ dropped_again s.own s.ready c.next-number.result c.args.queue.now c.args.due none in
    record { indexed = subst (λ (x : PostState × Seats). IsIndexed s.own x.0.entries x.1) (λ i. (sym c.in-Err.ensures.post i, sym index i)) s.indexed }

pub returns-in-Err-clause-ready : goal.returns-in-Err-clause-ready
returns-in-Err-clause-ready g c =
    let s = c.args.self.now in
    let q = s.post.queues in
    let none = ap (map.get s.ready) c.next-number.ensures.value ∙ none_seated s.own q.entries s.ready q.next s.indexed (next_new q c.next-number.ensures.sound) in
    c.drop_number.ensures ∙ ap (λ r. dropped s.own r c.next-number.result c.args.queue.now) c.in_ok-note.ensures.ok ∙ dropped_again s.own s.ready c.next-number.result c.args.queue.now c.args.due none
