use Rattle.std.proofs.Common.{◌≡◌, ◌∙◌, ◌<◌, length, get_or, true, arith, sym}
use Rattle.std.specs.Str.{bytes_eq}
use Rattle.nb_eval.proofs.InPlace.{stored_set}
use Rattle.nb_eval.proofs.stmt.store.Goals as goal

pub returns-then-eq : goal.returns-then-eq
returns-then-eq c =
    let lt : c.loop-i.i < length c.loop-i.rows = omega arith in
    let here : bytes_eq (get_or c.loop-i.rows c.loop-i.i c.index-as_slice-i.result).name c.args.name ≡ true = rw (← c.as_slice.ensures) (sym c.eq.ensures ∙ c.if-eq.true) in
    stored_set c.args.name c.args.value c.args.rows.now c.loop-i.rows _ c.loop-i.i c.index-as_slice-i.result c.loop-i.invariant.same c.loop-i.invariant.so_far lt here c.set.ensures
