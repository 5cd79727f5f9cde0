use Rattle.std.proofs.Common.{◌≡◌, ◌∙◌, ◌<◌, ◌≤◌, length, get_or, true, arith, sym}
use Rattle.std.specs.Str.{bytes_eq}
use Rattle.nb_eval.proofs.InPlace.{field_set, field_absent}
use Rattle.nb_eval.proofs.stmt.set_field.Goals as goal

pub returns-then-eq : goal.returns-then-eq
returns-then-eq c =
    let lt : c.loop-i.i < length c.loop-i.fields = omega arith in
    let here : bytes_eq (get_or c.loop-i.fields c.loop-i.i c.index-as_slice-i.result).name c.loop-i.name ≡ true = rw (← c.as_slice.ensures) (sym c.eq.ensures ∙ c.if-eq.true) in
    rw (← c.loop-i.invariant.name) (field_set c.loop-i.name c.args.value c.args.fields.now c.loop-i.fields _ c.loop-i.i c.index-as_slice-i.result c.loop-i.invariant.same c.loop-i.invariant.so_far lt here c.set.ensures)

pub returns : goal.returns
returns c =
    let ge : length c.loop-i.fields ≤ c.loop-i.i = omega arith in
    rw (← c.loop-i.invariant.name) (field_absent c.loop-i.name c.args.value c.args.fields.now c.loop-i.fields c.loop-i.i c.loop-i.invariant.same c.loop-i.invariant.so_far ge)
