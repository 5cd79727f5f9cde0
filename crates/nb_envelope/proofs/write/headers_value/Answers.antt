use Rattle.std.proofs.Common.{◌≤◌, ◌∙◌, length, arith, refl}
use Rattle.serde_json.proofs.Views.{view-Object, members_view-insert_entry}
use Rattle.nb_envelope.proofs.Writing.{by_name-all, put-next}
use Rattle.nb_envelope.proofs.write.headers_value.Goals as goal

pub loop-i-preserved : goal.loop-i-preserved
loop-i-preserved c =
    rw (c.in_ok-insert.ensures.entries, members_view-insert_entry, c.in_ok-key.ensures.ok, c.in_ok-value.ensures, c.as_str.ensures.value, c.loop-i.invariant)
    (put-next c.args.headers.now c.loop-i.i _ _ c.at.ensures)

pub returns : goal.returns
returns c =
    let all : length c.args.headers.now ≤ c.loop-i.i = omega (arith, c.len-i-end.ensures.value) in
    view-Object c.loop-i.members ∙ rw (c.loop-i.invariant, by_name-all c.args.headers.now c.loop-i.i all) refl
