use Rattle.std.proofs.Common.{◌≡◌, ◌∙◌, ◌+◌, sym, ap, subst, None, arith}
use Rattle.std.specs.FinMap as finite
use Rattle.nb_ready.proofs.CountLaws.{len-new}
use Rattle.nb_ready.proofs.ready.Ready.add.Goals as goal

pub invariant_of-self-2 : goal.invariant_of-self-2
invariant_of-self-2 c =
    let none = subst (λ m. finite.get m c.args.number ≡ None) (sym c.self.view_is) c.requires in
    let short = c.self.invariant.short in
    let clear = c.self.invariant.clear in
    let room = c.in_ok-reserve.ensures.ok in
    record {
      counted = ap (λ n. n + 1) c.self.invariant.counted ∙ sym (ap finite.len c.in_ok-add.ensures.ok ∙ len-new c.self.inside.tree.0 c.args.number _ none);
      short = omega arith;
      room = omega arith;
      clear = c.in_ok-reserve.ensures.len ∙ clear;
    }
