use Rattle.std.proofs.Common.{◌-◌, ◌+◌, suc, slice_get, length, refl, ap, sym, ◌∙◌, arith}
use Rattle.std.proofs.lemmas.Result.{err_from_is_err_and}
use Rattle.nb_script.specs.Reading.{many, always}
use Rattle.nb_script.specs.ReadingScript as read
use Rattle.nb_script.proofs.Chain.{passes_on}
use Rattle.nb_script.proofs.Rows.{before, many_stops, many_over, many_fault, many_next}
use Rattle.nb_script.proofs.parser.Parser.others.Goals as goal

pub returns-then-no_dot : goal.returns-then-no_dot
returns-then-no_dot c =
    sym c.loop.invariant ∙ many_stops c.loop.others ((suc (length c.args.self.now.lexemes.now)) - c.loop.counter) read.no_dot always read.dotted (slice_get c.args.self.now.lexemes.now) c.loop.here (omega arith) (sym c.no_dot.ensures ∙ c.if-no_dot.true)

pub returns-in_err-dotted : goal.returns-in_err-dotted
returns-in_err-dotted c =
    let p = err_from_is_err_and c.from_residual.result c.from_residual.ensures.1 in
    rw (p.1, p.2) (passes_on c.in_err-dotted.field-0.0 (read.dotted (slice_get c.args.self.now.lexemes.now) c.loop.here) (many (suc (length c.args.self.now.lexemes.now)) read.no_dot always read.dotted (slice_get c.args.self.now.lexemes.now) c.args.at)
    (λ f given. sym c.loop.invariant ∙ many_fault c.loop.others (suc (length c.args.self.now.lexemes.now)) c.loop.counter read.no_dot always read.dotted (slice_get c.args.self.now.lexemes.now) c.loop.here (omega arith) (sym c.no_dot.ensures ∙ c.if-no_dot.false) f given)
    c.in_err-dotted.ensures)

pub loop-preserved : goal.loop-preserved
loop-preserved c =
    ap (λ ys. before ys (many ((suc (length c.args.self.now.lexemes.now)) - (c.loop.counter + 1)) read.no_dot always read.dotted (slice_get c.args.self.now.lexemes.now) c.in_ok-dotted.next)) c.in_ok-push.ensures.ok
    ∙ sym (many_next c.loop.others (suc (length c.args.self.now.lexemes.now)) c.loop.counter read.no_dot always read.dotted (slice_get c.args.self.now.lexemes.now) c.loop.here c.in_ok-dotted.dotted c.in_ok-dotted.next (omega arith) (sym c.no_dot.ensures ∙ c.if-no_dot.false) c.in_ok-dotted.ensures refl)
    ∙ c.loop.invariant

pub returns : goal.returns
returns c =
    sym c.loop.invariant ∙ many_over c.loop.others ((suc (length c.args.self.now.lexemes.now)) - c.loop.counter) read.no_dot always read.dotted (slice_get c.args.self.now.lexemes.now) c.loop.here (omega arith)
