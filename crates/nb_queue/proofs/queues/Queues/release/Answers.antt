use Rattle.std.proofs.Common.{◌≡◌, ◌∙◌, sym, ap, subst, Some}
use Rattle.std.specs.FinMap as map
use Rattle.nb_base.specs.declared.tables.PostState.{PostState}
use Rattle.nb_queue.specs.Dues.{IsKept, dropped}
use Rattle.nb_queue.specs.Stands.{in_place, stands_now}
use Rattle.nb_queue.proofs.PostLaws.{inside, is_in_place}
use Rattle.nb_queue.proofs.DuesLaws.{dues_released}
use Rattle.nb_queue.proofs.queues.Queues.release.Goals as goal

pub invariant_of-self : goal.invariant_of-self
invariant_of-self c =
    let s = c.self.inside.state in
    let n = c.args.number in
    let x = c.in-Some.entry.now in
    let there : map.get s.entries n ≡ Some x = sym c.in-Some.ensures in
    let asked : map.get s.entries n ≡ Some c.requires.0 = subst (λ (p : PostState). map.get p.entries n ≡ Some c.requires.0) (sym c.self.view_is) c.requires.1 in
    let same : c.requires.0 ≡ x = inside c.requires.0 x (sym asked ∙ there) in
    let put : c.insert.new.self ≡ map.insert s.entries n (stands_now x) = c.in-Ok.ensures.ok ∙ ap (map.insert s.entries n) (c.requires.2 ∙ ap stands_now same) in
    let kept : IsKept (in_place s n (stands_now x)) (dropped c.self.inside.dues n x.due) =
    record { post = is_in_place s n x c.self.invariant.post there; index = dues_released s.entries c.self.inside.dues n x c.self.invariant.index there } in
    rw (put, c.forget.ensures) kept
