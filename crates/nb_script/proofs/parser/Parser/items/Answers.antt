use Rattle.std.proofs.Common.{◌-◌, ◌+◌, suc, slice_get, length, map, refl, ap, sym, ◌∙◌, arith}
use Rattle.std.proofs.lemmas.Result.{err_from_is_err_and}
use Rattle.nb_script.specs.Reading.{many, always}
use Rattle.nb_script.specs.ReadingScript as read
use Rattle.nb_script.specs.Tree.{item}
use Rattle.nb_script.proofs.Chain.{passes_on}
use Rattle.nb_script.proofs.Rows.{before, map_push, many_stops, many_over, many_fault, many_next}
use Rattle.nb_script.proofs.parser.Parser.items.Goals as goal

pub returns-then-ends : goal.returns-then-ends
returns-then-ends c =
    sym c.loop.invariant ∙ many_stops (map item c.loop.items) ((suc (length c.args.self.now.lexemes.now)) - c.loop.counter) read.is_end always (read.item (suc (length c.args.self.now.lexemes.now)) c.args.room (read.inside (suc (length c.args.self.now.lexemes.now)) c.args.room)) (slice_get c.args.self.now.lexemes.now) c.loop.here (omega arith) (sym c.ends.ensures ∙ c.if-ends.true)

pub returns-in_err-item : goal.returns-in_err-item
returns-in_err-item c =
    let p = err_from_is_err_and c.from_residual.result c.from_residual.ensures.1 in
    rw (p.1, p.2) (passes_on c.in_err-item.field-0.0 ((read.item (suc (length c.args.self.now.lexemes.now)) c.args.room (read.inside (suc (length c.args.self.now.lexemes.now)) c.args.room)) (slice_get c.args.self.now.lexemes.now) c.loop.here) (many (suc (length c.args.self.now.lexemes.now)) read.is_end always (read.item (suc (length c.args.self.now.lexemes.now)) c.args.room (read.inside (suc (length c.args.self.now.lexemes.now)) c.args.room)) (slice_get c.args.self.now.lexemes.now) c.args.at)
    (λ f given. sym c.loop.invariant ∙ many_fault (map item c.loop.items) (suc (length c.args.self.now.lexemes.now)) c.loop.counter read.is_end always (read.item (suc (length c.args.self.now.lexemes.now)) c.args.room (read.inside (suc (length c.args.self.now.lexemes.now)) c.args.room)) (slice_get c.args.self.now.lexemes.now) c.loop.here (omega arith) (sym c.ends.ensures ∙ c.if-ends.false) f given)
    c.in_err-item.ensures)

pub loop-preserved : goal.loop-preserved
loop-preserved c =
    ap (λ ys. before ys (many ((suc (length c.args.self.now.lexemes.now)) - (c.loop.counter + 1)) read.is_end always (read.item (suc (length c.args.self.now.lexemes.now)) c.args.room (read.inside (suc (length c.args.self.now.lexemes.now)) c.args.room)) (slice_get c.args.self.now.lexemes.now) c.in_ok-item.next)) (ap (map item) c.in_ok-push.ensures.ok ∙ map_push item c.loop.items c.in_ok-item.item)
    ∙ sym (many_next (map item c.loop.items) (suc (length c.args.self.now.lexemes.now)) c.loop.counter read.is_end always (read.item (suc (length c.args.self.now.lexemes.now)) c.args.room (read.inside (suc (length c.args.self.now.lexemes.now)) c.args.room)) (slice_get c.args.self.now.lexemes.now) c.loop.here (item c.in_ok-item.item) c.in_ok-item.next (omega arith) (sym c.ends.ensures ∙ c.if-ends.false) c.in_ok-item.ensures refl)
    ∙ c.loop.invariant

pub returns : goal.returns
returns c =
    sym c.loop.invariant ∙ many_over (map item c.loop.items) ((suc (length c.args.self.now.lexemes.now)) - c.loop.counter) read.is_end always (read.item (suc (length c.args.self.now.lexemes.now)) c.args.room (read.inside (suc (length c.args.self.now.lexemes.now)) c.args.room)) (slice_get c.args.self.now.lexemes.now) c.loop.here (omega arith)
