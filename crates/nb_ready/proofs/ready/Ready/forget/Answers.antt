use Rattle.std.proofs.Common.{◌∙◌, ◌-◌, sym, ap, subst, IsSome, arith}
use Rattle.std.specs.FinMap as finite
use Rattle.nb_ready.proofs.CountLaws.{len-gone, some_number}
use Rattle.nb_ready.proofs.ready.Ready.forget.Goals as goal

pub overflow_sub-self : goal.overflow_sub-self
overflow_sub-self c =
    let has = subst (λ m. IsSome (finite.get m c.args.number)) (sym c.self.view_is) c.requires in
    let some = some_number c.self.inside.tree.0 c.args.number has in
    let counted = c.self.invariant.counted in
    omega arith

pub invariant_of-self : goal.invariant_of-self
invariant_of-self c =
    let has = subst (λ m. IsSome (finite.get m c.args.number)) (sym c.self.view_is) c.requires in
    let short = c.self.invariant.short in
    let room = c.self.invariant.room in
    record {
      counted = ap (λ n. n - 1) c.self.invariant.counted ∙ sym (ap finite.len c.remove.ensures ∙ len-gone c.self.inside.tree.0 c.args.number has);
      short = omega arith;
      room = omega arith;
      clear = c.self.invariant.clear;
    }
