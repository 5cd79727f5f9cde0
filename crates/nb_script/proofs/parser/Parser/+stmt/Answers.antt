use Rattle.std.proofs.Common.{◌-◌, ◌+◌, suc, slice_get, length, map, refl, ap, sym, ◌∙◌, arith}
use Rattle.std.proofs.lemmas.Result.{err_from_is_err_and}
use Rattle.nb_script.specs.Reading.{many, closes, always}
use Rattle.nb_script.specs.ReadingScript as read
use Rattle.nb_script.specs.Tree.{phrase}
use Rattle.nb_script.proofs.Chain.{passes_on}
use Rattle.nb_script.proofs.Rows.{before, map_push, many_stops, many_over, many_fault, many_next}
use Rattle.nb_script.proofs.parser.Parser.+stmt.Goals as goal

pub body-returns-then-closes : goal.body-returns-then-closes
body-returns-then-closes t c =
    sym c.loop.invariant ∙ many_stops (map phrase c.loop.body) ((suc (length c.args.self.now.lexemes.now)) - c.loop.counter) closes always (read.statement (suc (length c.args.self.now.lexemes.now)) c.args.room (read.inside (suc (length c.args.self.now.lexemes.now)) c.args.room)) (slice_get c.args.self.now.lexemes.now) c.loop.here (omega arith) (sym c.closes.ensures ∙ c.if-closes.true)

pub body-returns-in_err-stmt : goal.body-returns-in_err-stmt
body-returns-in_err-stmt t c =
    let p = err_from_is_err_and c.from_residual.result c.from_residual.ensures.1 in
    rw (p.1, p.2) (passes_on c.in_err-stmt.field-0.0 ((read.statement (suc (length c.args.self.now.lexemes.now)) c.args.room (read.inside (suc (length c.args.self.now.lexemes.now)) c.args.room)) (slice_get c.args.self.now.lexemes.now) c.loop.here) (many (suc (length c.args.self.now.lexemes.now)) closes always (read.statement (suc (length c.args.self.now.lexemes.now)) c.args.room (read.inside (suc (length c.args.self.now.lexemes.now)) c.args.room)) (slice_get c.args.self.now.lexemes.now) c.args.at)
    (λ f given. sym c.loop.invariant ∙ many_fault (map phrase c.loop.body) (suc (length c.args.self.now.lexemes.now)) c.loop.counter closes always (read.statement (suc (length c.args.self.now.lexemes.now)) c.args.room (read.inside (suc (length c.args.self.now.lexemes.now)) c.args.room)) (slice_get c.args.self.now.lexemes.now) c.loop.here (omega arith) (sym c.closes.ensures ∙ c.if-closes.false) f given)
    c.in_err-stmt.ensures)

pub body-loop-preserved : goal.body-loop-preserved
body-loop-preserved t c =
    ap (λ ys. before ys (many ((suc (length c.args.self.now.lexemes.now)) - (c.loop.counter + 1)) closes always (read.statement (suc (length c.args.self.now.lexemes.now)) c.args.room (read.inside (suc (length c.args.self.now.lexemes.now)) c.args.room)) (slice_get c.args.self.now.lexemes.now) c.in_ok-stmt.next)) (ap (map phrase) c.in_ok-push.ensures.ok ∙ map_push phrase c.loop.body c.in_ok-stmt.stmt)
    ∙ sym (many_next (map phrase c.loop.body) (suc (length c.args.self.now.lexemes.now)) c.loop.counter closes always (read.statement (suc (length c.args.self.now.lexemes.now)) c.args.room (read.inside (suc (length c.args.self.now.lexemes.now)) c.args.room)) (slice_get c.args.self.now.lexemes.now) c.loop.here (phrase c.in_ok-stmt.stmt) c.in_ok-stmt.next (omega arith) (sym c.closes.ensures ∙ c.if-closes.false) c.in_ok-stmt.ensures refl)
    ∙ c.loop.invariant

pub body-returns : goal.body-returns
body-returns t c =
    sym c.loop.invariant ∙ many_over (map phrase c.loop.body) ((suc (length c.args.self.now.lexemes.now)) - c.loop.counter) closes always (read.statement (suc (length c.args.self.now.lexemes.now)) c.args.room (read.inside (suc (length c.args.self.now.lexemes.now)) c.args.room)) (slice_get c.args.self.now.lexemes.now) c.loop.here (omega arith)
