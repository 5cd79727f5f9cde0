use Rattle.std.proofs.Common.{◌∙◌, ℕ, pos, sym, ap, ap₂, arith}
use Rattle.nb_headers.specs.Moments.{civil_of}
use Rattle.nb_headers.proofs.Walks.{civil_of-date, civil_small, abs_16, abs_8}
use Rattle.nb_headers.proofs.moments.civil_at.Goals as goal

pub returns-clause-date : goal.returns-clause-date
returns-clause-date c =
    let w = civil_of-date c.day_at-day.result c.args.days c.day_at-day.ensures in
    let small = civil_small c.day_at-day.result (civil_of c.args.days) w.0 w.1 w.2 in
    let year = abs_16 (civil_of c.args.days).0 _ _ (c.year.ensures ∙ sym w.0) (omega (arith, small.0)) c.unsigned_abs.ensures.value in
    let month = abs_8 (civil_of c.args.days).1 _ _ (c.month.ensures ∙ ap pos (sym w.1)) (omega (arith, small.1)) c.unsigned_abs-2.ensures.value in
    let day = abs_8 (civil_of c.args.days).2 _ _ (c.day.ensures ∙ ap pos (sym w.2)) (omega (arith, small.2)) c.unsigned_abs-3.ensures.value in
    ap₂ (λ (a : ℕ) (p : ℕ × ℕ). (a, p.0, p.1)) year (ap₂ (λ a b. (a, b)) month day)
