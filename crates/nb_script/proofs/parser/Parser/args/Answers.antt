use Rattle.std.proofs.Common.{◌-◌, ◌+◌, suc, slice_get, length, map, Ok, ap, sym, ◌∙◌, arith}
use Rattle.std.proofs.lemmas.Result.{err_from_is_err_and}
use Rattle.nb_script.specs.Reading.{many, closes}
use Rattle.nb_script.specs.ReadingScript as read
use Rattle.nb_script.specs.Spelling.{arg_goes_on}
use Rattle.nb_script.specs.Tree as seen
use Rattle.nb_script.proofs.Chain.{passes_on}
use Rattle.nb_script.proofs.Rows.{before, map_push, many_stops, many_over, many_fault, many_next, many_last}
use Rattle.nb_script.proofs.parser.Parser.args.Goals as goal

pub returns-then-closes : goal.returns-then-closes
returns-then-closes c =
    sym c.loop.invariant ∙ many_stops (map seen.arg c.loop.args) ((suc (length c.args.self.now.lexemes.now)) - c.loop.counter) closes arg_goes_on (read.arg c.args.room) (slice_get c.args.self.now.lexemes.now) c.loop.here (omega arith) (sym c.closes.ensures ∙ c.if-closes.true)

pub returns-in_err-arg : goal.returns-in_err-arg
returns-in_err-arg c =
    let p = err_from_is_err_and c.from_residual.result c.from_residual.ensures.1 in
    rw (p.1, p.2) (passes_on c.in_err-arg.field-0.0 ((read.arg c.args.room) (slice_get c.args.self.now.lexemes.now) c.loop.here) (many (suc (length c.args.self.now.lexemes.now)) closes arg_goes_on (read.arg c.args.room) (slice_get c.args.self.now.lexemes.now) c.args.at)
    (λ f given. sym c.loop.invariant ∙ many_fault (map seen.arg c.loop.args) (suc (length c.args.self.now.lexemes.now)) c.loop.counter closes arg_goes_on (read.arg c.args.room) (slice_get c.args.self.now.lexemes.now) c.loop.here (omega arith) (sym c.closes.ensures ∙ c.if-closes.false) f given)
    c.in_err-arg.ensures)

pub loop-preserved : goal.loop-preserved
loop-preserved c =
    ap (λ ys. before ys (many ((suc (length c.args.self.now.lexemes.now)) - (c.loop.counter + 1)) closes arg_goes_on (read.arg c.args.room) (slice_get c.args.self.now.lexemes.now) c.in_ok-arg.next)) (ap (map seen.arg) c.in_ok-push.ensures.ok ∙ map_push seen.arg c.loop.args c.in_ok-arg.arg)
    ∙ sym (many_next (map seen.arg c.loop.args) (suc (length c.args.self.now.lexemes.now)) c.loop.counter closes arg_goes_on (read.arg c.args.room) (slice_get c.args.self.now.lexemes.now) c.loop.here (seen.arg c.in_ok-arg.arg) c.in_ok-arg.next (omega arith) (sym c.closes.ensures ∙ c.if-closes.false) c.in_ok-arg.ensures (grind (arith, c.is_there-goes_on.ensures, c.if-not-goes_on.false)))
    ∙ c.loop.invariant

pub returns-then-not-goes_on : goal.returns-then-not-goes_on
returns-then-not-goes_on c =
    sym c.loop.invariant ∙ many_last (map seen.arg c.loop.args) (suc (length c.args.self.now.lexemes.now)) c.loop.counter closes arg_goes_on (read.arg c.args.room) (slice_get c.args.self.now.lexemes.now) c.loop.here (seen.arg c.in_ok-arg.arg) c.in_ok-arg.next (omega arith) (sym c.closes.ensures ∙ c.if-closes.false) c.in_ok-arg.ensures (grind (arith, c.is_there-goes_on.ensures, c.if-not-goes_on.true))
    ∙ ap (λ ys. Ok (ys, c.in_ok-arg.next)) (sym (ap (map seen.arg) c.in_ok-push.ensures.ok ∙ map_push seen.arg c.loop.args c.in_ok-arg.arg))

pub returns : goal.returns
returns c =
    sym c.loop.invariant ∙ many_over (map seen.arg c.loop.args) ((suc (length c.args.self.now.lexemes.now)) - c.loop.counter) closes arg_goes_on (read.arg c.args.room) (slice_get c.args.self.now.lexemes.now) c.loop.here (omega arith)
