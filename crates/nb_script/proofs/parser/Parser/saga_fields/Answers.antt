use Rattle.std.proofs.Common.{◌-◌, ◌+◌, suc, slice_get, length, Ok, ap, sym, ◌∙◌, arith}
use Rattle.std.proofs.lemmas.Result.{err_from_is_err_and}
use Rattle.nb_script.specs.Reading.{many, closes}
use Rattle.nb_script.specs.ReadingScript as read
use Rattle.nb_script.specs.Spelling.{saga_field_goes_on}
use Rattle.nb_script.proofs.Chain.{passes_on}
use Rattle.nb_script.proofs.Rows.{before, many_stops, many_over, many_fault, many_next, many_last}
use Rattle.nb_script.proofs.parser.Parser.saga_fields.Goals as goal

pub returns-then-closes : goal.returns-then-closes
returns-then-closes c =
    sym c.loop.invariant ∙ many_stops c.loop.fields ((suc (length c.args.self.now.lexemes.now)) - c.loop.counter) closes saga_field_goes_on read.saga_field (slice_get c.args.self.now.lexemes.now) c.loop.here (omega arith) (sym c.closes.ensures ∙ c.if-closes.true)

pub returns-in_err-field : goal.returns-in_err-field
returns-in_err-field c =
    let p = err_from_is_err_and c.from_residual.result c.from_residual.ensures.1 in
    rw (p.1, p.2) (passes_on c.in_err-field.field-0.0 (read.saga_field (slice_get c.args.self.now.lexemes.now) c.loop.here) (many (suc (length c.args.self.now.lexemes.now)) closes saga_field_goes_on read.saga_field (slice_get c.args.self.now.lexemes.now) c.args.at)
    (λ f given. sym c.loop.invariant ∙ many_fault c.loop.fields (suc (length c.args.self.now.lexemes.now)) c.loop.counter closes saga_field_goes_on read.saga_field (slice_get c.args.self.now.lexemes.now) c.loop.here (omega arith) (sym c.closes.ensures ∙ c.if-closes.false) f given)
    c.in_err-field.ensures)

pub loop-preserved : goal.loop-preserved
loop-preserved c =
    ap (λ ys. before ys (many ((suc (length c.args.self.now.lexemes.now)) - (c.loop.counter + 1)) closes saga_field_goes_on read.saga_field (slice_get c.args.self.now.lexemes.now) c.in_ok-field.next)) c.in_ok-push.ensures.ok
    ∙ sym (many_next c.loop.fields (suc (length c.args.self.now.lexemes.now)) c.loop.counter closes saga_field_goes_on read.saga_field (slice_get c.args.self.now.lexemes.now) c.loop.here c.in_ok-field.field c.in_ok-field.next (omega arith) (sym c.closes.ensures ∙ c.if-closes.false) c.in_ok-field.ensures (grind (arith, c.is_there-goes_on.ensures, c.if-not-goes_on.false)))
    ∙ c.loop.invariant

pub returns-then-not-goes_on : goal.returns-then-not-goes_on
returns-then-not-goes_on c =
    sym c.loop.invariant ∙ many_last c.loop.fields (suc (length c.args.self.now.lexemes.now)) c.loop.counter closes saga_field_goes_on read.saga_field (slice_get c.args.self.now.lexemes.now) c.loop.here c.in_ok-field.field c.in_ok-field.next (omega arith) (sym c.closes.ensures ∙ c.if-closes.false) c.in_ok-field.ensures (grind (arith, c.is_there-goes_on.ensures, c.if-not-goes_on.true))
    ∙ ap (λ ys. Ok (ys, c.in_ok-field.next)) (sym c.in_ok-push.ensures.ok)

pub returns : goal.returns
returns c =
    sym c.loop.invariant ∙ many_over c.loop.fields ((suc (length c.args.self.now.lexemes.now)) - c.loop.counter) closes saga_field_goes_on read.saga_field (slice_get c.args.self.now.lexemes.now) c.loop.here (omega arith)
