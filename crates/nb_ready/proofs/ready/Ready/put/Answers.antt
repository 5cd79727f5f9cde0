use Rattle.std.proofs.Common.{◌∙◌, sym, ap, subst, IsSome}
use Rattle.std.specs.FinMap as finite
use Rattle.nb_ready.proofs.CountLaws.{len-set}
use Rattle.nb_ready.proofs.ready.Ready.put.Goals as goal

pub invariant_of-self : goal.invariant_of-self
invariant_of-self c =
    let has = subst (λ m. IsSome (finite.get m c.args.number)) (sym c.self.view_is) c.requires in
    record {
      counted = c.self.invariant.counted ∙ sym (ap finite.len c.set.ensures ∙ len-set c.self.inside.tree.0 c.args.number c.args.seat has);
      short = c.self.invariant.short;
      room = c.self.invariant.room;
      clear = c.self.invariant.clear;
    }
