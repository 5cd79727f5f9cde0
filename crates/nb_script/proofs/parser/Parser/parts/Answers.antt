use Rattle.std.proofs.Common.{◌-◌, ◌+◌, suc, slice_get, length, map, refl, ap, sym, ◌∙◌, arith}
use Rattle.std.proofs.lemmas.Result.{err_from_is_err_and}
use Rattle.nb_script.specs.Reading.{many, closes, always}
use Rattle.nb_script.specs.ReadingScript as read
use Rattle.nb_script.specs.Tree.{part}
use Rattle.nb_script.proofs.Chain.{passes_on}
use Rattle.nb_script.proofs.Rows.{before, map_push, many_stops, many_over, many_fault, many_next}
use Rattle.nb_script.proofs.parser.Parser.parts.Goals as goal

pub returns-then-closes : goal.returns-then-closes
returns-then-closes c =
    sym c.loop.invariant ∙ many_stops (map part c.loop.parts) ((suc (length c.args.self.now.lexemes.now)) - c.loop.counter) closes always (read.part (suc (length c.args.self.now.lexemes.now)) c.args.room (read.inside (suc (length c.args.self.now.lexemes.now)) c.args.room)) (slice_get c.args.self.now.lexemes.now) c.loop.here (omega arith) (sym c.closes.ensures ∙ c.if-closes.true)

pub returns-in_err-part : goal.returns-in_err-part
returns-in_err-part c =
    let p = err_from_is_err_and c.from_residual.result c.from_residual.ensures.1 in
    rw (p.1, p.2) (passes_on c.in_err-part.field-0.0 ((read.part (suc (length c.args.self.now.lexemes.now)) c.args.room (read.inside (suc (length c.args.self.now.lexemes.now)) c.args.room)) (slice_get c.args.self.now.lexemes.now) c.loop.here) (many (suc (length c.args.self.now.lexemes.now)) closes always (read.part (suc (length c.args.self.now.lexemes.now)) c.args.room (read.inside (suc (length c.args.self.now.lexemes.now)) c.args.room)) (slice_get c.args.self.now.lexemes.now) c.args.at)
    (λ f given. sym c.loop.invariant ∙ many_fault (map part c.loop.parts) (suc (length c.args.self.now.lexemes.now)) c.loop.counter closes always (read.part (suc (length c.args.self.now.lexemes.now)) c.args.room (read.inside (suc (length c.args.self.now.lexemes.now)) c.args.room)) (slice_get c.args.self.now.lexemes.now) c.loop.here (omega arith) (sym c.closes.ensures ∙ c.if-closes.false) f given)
    c.in_err-part.ensures)

pub loop-preserved : goal.loop-preserved
loop-preserved c =
    ap (λ ys. before ys (many ((suc (length c.args.self.now.lexemes.now)) - (c.loop.counter + 1)) closes always (read.part (suc (length c.args.self.now.lexemes.now)) c.args.room (read.inside (suc (length c.args.self.now.lexemes.now)) c.args.room)) (slice_get c.args.self.now.lexemes.now) c.in_ok-part.next)) (ap (map part) c.in_ok-push.ensures.ok ∙ map_push part c.loop.parts c.in_ok-part.part)
    ∙ sym (many_next (map part c.loop.parts) (suc (length c.args.self.now.lexemes.now)) c.loop.counter closes always (read.part (suc (length c.args.self.now.lexemes.now)) c.args.room (read.inside (suc (length c.args.self.now.lexemes.now)) c.args.room)) (slice_get c.args.self.now.lexemes.now) c.loop.here (part c.in_ok-part.part) c.in_ok-part.next (omega arith) (sym c.closes.ensures ∙ c.if-closes.false) c.in_ok-part.ensures refl)
    ∙ c.loop.invariant

pub returns : goal.returns
returns c =
    sym c.loop.invariant ∙ many_over (map part c.loop.parts) ((suc (length c.args.self.now.lexemes.now)) - c.loop.counter) closes always (read.part (suc (length c.args.self.now.lexemes.now)) c.args.room (read.inside (suc (length c.args.self.now.lexemes.now)) c.args.room)) (slice_get c.args.self.now.lexemes.now) c.loop.here (omega arith)
