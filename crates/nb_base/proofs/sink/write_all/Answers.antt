use Rattle.std.proofs.Common.{arith, length-drop}
use Rattle.std.proofs.lemmas.List.{take_rest}
use Rattle.nb_base.proofs.Joins.{take_plus, Appends-more}
use Rattle.nb_base.proofs.sink.write_all.Goals as goal

pub loop-at-preserved : goal.loop-at-preserved
loop-at-preserved g c =
    let bound = rw (take_rest, length-drop) at c.in-Ok.ensures.bound in
    let more = rw take_rest at c.in-Ok.ensures.bytes in
    record {
      within = omega (arith, bound.1);
      appended = rw (take_plus c.args.from.now c.loop-at.at c.in-Ok.n) (Appends-more _ _ _ _ _ c.loop-at.invariant.appended more);
      later = omega (arith, c.in-Ok.ensures.cause.later);
    }
