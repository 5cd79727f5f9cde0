use Rattle.std.proofs.Common.{◌≡◌, ◌∙◌, ◌-◌, ◌≤◌, sym, ap, subst, arith}
use Rattle.std.specs.FinMap as map
use Rattle.nb_base.specs.declared.tables.PostState.{PostState}
use Rattle.nb_queue.specs.Stands.{IsPost}
use Rattle.nb_queue.proofs.PostLaws.{is_dropped}
use Rattle.nb_queue.proofs.queues.Queues.drop_last.Goals as goal

pub invariant_of-self : goal.invariant_of-self
invariant_of-self c =
    let s = c.self.inside.state in
    let n = s.next - 1 in
    let two : 2 ≤ s.next = subst (λ (p : PostState). 2 ≤ p.next) (sym c.self.view_is) c.requires in
    let entries : c.self-2.inside.state.entries ≡ map.remove s.entries n = ap (λ (p : PostState). p.entries) (c.self-2.view_is ∙ c.remove.ensures) ∙ ap (λ (p : PostState). map.remove p.entries n) (sym c.self.view_is) in
    let post = is_dropped s n c.self.invariant.post (omega arith) (omega arith) in
    record { post = subst (λ es. IsPost (record { entries = es; next = n })) (sym entries) post; index = c.self-2.invariant.index }
