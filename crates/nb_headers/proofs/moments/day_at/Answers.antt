use Rattle.std.proofs.Common.{◌≡◌, ◌∙◌, arith, w64, pos, ◌+ℤ◌}
use Rattle.std.proofs.lemmas.Result.{IfOk-at_ok}
use Rattle.std.proofs.lemmas.Int.{to_z_pos}
use Rattle.jiff.specs.Words.{epoch_day}
use Rattle.jiff.proofs.SpanFacts.{signed_arith, date_add-days, can_add-days}
use Rattle.nb_headers.proofs.Walks.{epoch_start}
use Rattle.nb_headers.proofs.moments.day_at.Goals as goal

pub unwrap-requires : goal.unwrap-requires
unwrap-requires c =
    let first = epoch_start c.date.result c.date.ensures in
    let only = rw (to_z_pos w64 c.args.days (omega arith)) at c.days.ensures in
    let can = can_add-days c.date.result (pos c.args.days) c.days.result only in
    c.checked_add.ensures.succeeds.1 (can.1 (rw first (omega (arith, signed_arith))))

pub returns : goal.returns
returns c =
    let first = epoch_start c.date.result c.date.ensures in
    let only = rw (to_z_pos w64 c.args.days (omega arith)) at c.days.ensures in
    let sum : epoch_day c.date.result +ℤ pos c.args.days ≡ pos c.args.days = omega (arith, signed_arith, first) in
    IfOk-at_ok _ c.unwrap.ensures c.checked_add.ensures.value ∙ date_add-days c.date.result (pos c.args.days) c.days.result only ∙ sum
