use Rattle.std.proofs.Common.{◌≡◌, sym, Some, None}
use Rattle.std.specs.FinMap as map
use Rattle.nb_queue.specs.Dues.{IsKept, dropped}
use Rattle.nb_queue.specs.Stands.{without_entry}
use Rattle.nb_queue.proofs.PostLaws.{is_without_entry}
use Rattle.nb_queue.proofs.DuesLaws.{dues_removed, dues_absent}
use Rattle.nb_queue.proofs.queues.Queues.remove.Goals as goal

pub invariant_of-self : goal.invariant_of-self
invariant_of-self c =
    let s = c.self.inside.state in
    let n = c.args.number in
    let x = c.in-Some.entry in
    let there : map.get s.entries n ≡ Some x = sym c.in-Some.ensures.value in
    let kept : IsKept (without_entry s n) (dropped c.self.inside.dues n x.due) =
    record { post = is_without_entry s n c.self.invariant.post; index = dues_removed s.entries c.self.inside.dues n x c.self.invariant.index there } in
    rw (c.in-Some.ensures.rest, c.forget.ensures) kept

pub invariant_of-self-in_default : goal.invariant_of-self-in_default
invariant_of-self-in_default c =
    let s = c.self.inside.state in
    let n = c.args.number in
    let none : map.get s.entries n ≡ None = sym c.in_default.ensures.value in
    let kept : IsKept (without_entry s n) c.self.inside.dues =
    record { post = is_without_entry s n c.self.invariant.post; index = dues_absent s.entries c.self.inside.dues n c.self.invariant.index none } in
    rw c.in_default.ensures.rest kept
