use Rattle.std.proofs.Common.{sym, ap, ◌∙◌, ◌≡◌, arith, Some, true, []}
use Rattle.std.specs.FinMap as map
use Rattle.nb_core.proofs.Leases.{at, mark_made}
use Rattle.nb_core.specs.State.{State, Sending}
use Rattle.nb_core.proofs.lease.mark.Goals as goal

pub returns : goal.returns
returns c k =
    let s = c.args.state.now in
    let p = c.in-Some-Sending in
    let row = c.in-Some.row in
    let rest = c.take_phase.ensures.rest in
    let there = ap (λ (m : State). map.get m.tables.outbox p.id) (sym rest) ∙ sym c.take.ensures.value ∙ c.in-Some.is in
    let left = c.take.ensures.rest ∙ ap (λ (m : State). map.remove m.tables.outbox p.id) rest in
    let marked : c.insert.new.self ≡ map.insert (map.remove s.tables.outbox p.id) p.id (record row { sent = true; ops = [] }) =
    c.in_ok-insert.ensures.ok ∙ (λ i. map.insert (left i) p.id (record row { sent = true; ops = c.new.ensures i })) in
    mark_made k s c.args.w p.number p.k p.id p.ops row _ c.set_phase.new.state
    (at s c.args.w (Sending p.number p.id p.ops p.k) c.take_phase.result c.take_phase.ensures.phase (p.is ∙ ap Some p.field-0-is))
    (omega (arith, c.if-k-len.false, c.len.ensures.value))
    there
    (λ i. record (rest i) { tables = record (rest i).tables { outbox = marked i } })
    c.in_ok-set_phase.ensures
