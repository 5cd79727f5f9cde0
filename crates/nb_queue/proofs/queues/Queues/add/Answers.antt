use Rattle.std.proofs.Common.{◌≡◌, ◌∙◌, ◌<◌, ◌^◌, sym, ap, subst}
use Rattle.std.specs.FinMap as map
use Rattle.nb_base.specs.declared.tables.PostState.{PostState}
use Rattle.nb_queue.specs.Dues.{IsKept, noted}
use Rattle.nb_queue.specs.Stands.{with_entry}
use Rattle.nb_queue.proofs.PostLaws.{next_is_new, back_again, is_with_entry}
use Rattle.nb_queue.proofs.DuesLaws.{none_noted, dues_added}
use Rattle.nb_queue.proofs.queues.Queues.add.Goals as goal

pub invariant_of-self : goal.invariant_of-self
invariant_of-self c =
    let kept : IsKept c.self.inside.state c.self.inside.dues = c.self.invariant in
    rw c.in_err-insert.ensures.err kept

pub note-requires : goal.note-requires
note-requires c = let s = c.self.inside.state in none_noted s.entries c.self.inside.dues s.next c.self.invariant.index (next_is_new s c.self.invariant.post)

pub invariant_of-self-in-Ok : goal.invariant_of-self-in-Ok
invariant_of-self-in-Ok c =
    let s = c.self.inside.state in
    let e = c.args.entry in
    let room : s.next < 2 ^ 62 = subst (λ (p : PostState). p.next < 2 ^ 62) (sym c.self.view_is) c.requires.room in
    let kept : IsKept (with_entry s e) (noted c.self.inside.dues s.next e.due) =
    record { post = is_with_entry s e c.self.invariant.post room c.requires.spelled; index = dues_added s.entries c.self.inside.dues s.next e c.self.invariant.index (next_is_new s c.self.invariant.post) } in
    rw (c.in_ok-insert.ensures.ok, c.in-Ok.ensures.ok) kept

pub invariant_of-self-in-Err : goal.invariant_of-self-in-Err
invariant_of-self-in-Err c =
    let s = c.self.inside.state in
    let back : c.remove.new.self ≡ s.entries = c.remove.ensures ∙ ap (λ m. map.remove m s.next) c.in_ok-insert.ensures.ok ∙ back_again s c.args.entry c.self.invariant.post in
    let kept : IsKept s c.self.inside.dues = c.self.invariant in
    rw (back, c.in-Err.ensures.err) kept

pub returns-in-Err-clause-err : goal.returns-in-Err-clause-err
returns-in-Err-clause-err c =
    let s = c.self.inside.state in
    let back : c.remove.new.self ≡ s.entries = c.remove.ensures ∙ ap (λ m. map.remove m s.next) c.in_ok-insert.ensures.ok ∙ back_again s c.args.entry c.self.invariant.post in
    let same : (let p : PostState = record { entries = c.remove.new.self; next = s.next } in p) ≡ s = λ i. record { entries = back i; next = s.next } in
    same ∙ c.self.view_is
