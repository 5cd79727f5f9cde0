use Rattle.std.proofs.Common.{◌≡◌, ◌∙◌, ◌+◌, ◌<◌, ◌^◌, ◌∷◌, [], sym, ap, subst, refl, arith}
use Rattle.nb_base.specs.declared.tables.PostState.{PostState}
use Rattle.nb_cells.specs.Cells.{AreDistinct}
use Rattle.nb_queue.specs.Applied.{Leads}
use Rattle.nb_queue.specs.Changes.{change_of_entry, change_of_next}
use Rattle.nb_queue.specs.Stands.{with_entry}
use Rattle.nb_queue.proofs.AppliedLaws.{applied_ok, applied_err}
use Rattle.nb_queue.proofs.PostLaws.{distinct_put, leads_put, dropped_again}
use Rattle.nb_queue.proofs.post.Post.put.Goals as goal

pub apply-requires-clause-distinct : goal.apply-requires-clause-distinct
apply-requires-clause-distinct g c = subst AreDistinct (sym c.in_ok-changes.ensures.changes) (distinct_put c.state.result.now.next c.in_ok-entry.entry (c.state.result.now.next + 1))

pub returns-in-Ok-clause-applied : goal.returns-in-Ok-clause-applied
returns-in-Ok-clause-applied g c =
    let s = c.args.self.now.queues in
    let value : c.state.result.now ≡ s = c.state.ensures.value in
    let room : s.next < 2 ^ 62 = subst (λ (p : PostState). p.next < 2 ^ 62) value (omega arith) in
    let e = c.in_ok-entry.entry in
    let changes : c.in_ok-changes.changes ≡ change_of_entry s.next e ∷ change_of_next (s.next + 1) ∷ [] = c.in_ok-changes.ensures.changes ∙ ap (λ (p : PostState). change_of_entry p.next e ∷ change_of_next (p.next + 1) ∷ []) value in
    let leads = subst (λ x. Leads c.in_ok-changes.changes s (with_entry s x)) c.in_ok-entry.ensures (leads_put s e c.in_ok-changes.changes c.state.ensures.post room changes) in
    applied_ok _ _ (c.in-Ok.ensures.applied _ _ leads)

pub returns-clause-applied : goal.returns-clause-applied
returns-clause-applied g c =
    let s = c.args.self.now.queues in
    let value : c.state.result.now ≡ s = c.state.ensures.value in
    let room : s.next < 2 ^ 62 = subst (λ (p : PostState). p.next < 2 ^ 62) value (omega arith) in
    let e = c.in_ok-entry.entry in
    let changes : c.in_ok-changes.changes ≡ change_of_entry s.next e ∷ change_of_next (s.next + 1) ∷ [] = c.in_ok-changes.ensures.changes ∙ ap (λ (p : PostState). change_of_entry p.next e ∷ change_of_next (p.next + 1) ∷ []) value in
    let leads = subst (λ x. Leads c.in_ok-changes.changes s (with_entry s x)) c.in_ok-entry.ensures (leads_put s e c.in_ok-changes.changes c.state.ensures.post room changes) in
    applied_err c.in-Err.fault (c.in-Err.ensures.applied _ _ leads)

pub returns-clause-post : goal.returns-clause-post
returns-clause-post g c = c.drop_last.ensures ∙ dropped_again c.args.self.now.queues c.add.new.self c.in_ok-entry.entry _ c.state.ensures.post c.in_ok-add.ensures.ok refl
