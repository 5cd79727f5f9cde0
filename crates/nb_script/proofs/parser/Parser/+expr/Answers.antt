use Rattle.std.proofs.Common.{ℕ, ◌≡◌, ◌<◌, ◌-◌, ◌+◌, suc, slice_get, ap, sym, subst, ◌∙◌, arith}
use Rattle.std.proofs.lemmas.Result.{err_from_is_err_and}
use Rattle.nb_script.specs.Spelling.{operators}
use Rattle.nb_script.specs.Grammar.{Term}
use Rattle.nb_script.specs.declared.expressions.Counted.{Counted}
use Rattle.nb_script.specs.Tree.{tree, Gives}
use Rattle.nb_script.specs.Reading.{and_then, operand, climb, joined, chain}
use Rattle.nb_script.proofs.Chain.{chain_ends, chain_over, chain_turn, comparison, passes_on}
use Rattle.nb_script.proofs.parser.Parser.+expr.Goals as goal

pub chain-returns-in_default-clause-value : goal.chain-returns-in_default-clause-value
chain-returns-in_default-clause-value t c = sym c.loop.invariant.0 ∙ chain_ends _ _ _ _ _ _ _ (omega arith) (sym c.in_default.ensures)

pub chain-returns-in_err-more-clause-value : goal.chain-returns-in_err-more-clause-value
chain-returns-in_err-more-clause-value t c =
    let p = err_from_is_err_and c.from_residual.result c.from_residual.ensures.1 in
    let next = climb (c.args.level - 1) (operand c.args.room) in
    let g = slice_get c.args.self.now.lexemes.now in
    let e = tree c.loop.so_far.expr in
    rw (p.1, p.2) (passes_on c.in_err-more.field-0.0 (joined c.loop.so_far.left next e c.in-Some.op g c.loop.here) (chain (suc c.args.left) c.args.level next c.args.left (tree c.args.first.expr) g c.args.at)
    (λ f read. sym c.loop.invariant.0
    ∙ chain_turn (suc c.args.left) c.loop.counter c.args.level next c.args.left e c.in-Some.op g c.loop.here (omega arith) (sym c.in-Some.ensures)
    ∙ ap (λ n. and_then (joined n next e c.in-Some.op g c.loop.here) (λ x m. chain (suc c.args.left - (c.loop.counter + 1)) c.args.level next c.args.left x g m)) (sym c.loop.invariant.1)
    ∙ ap (λ r. and_then r (λ x m. chain (suc c.args.left - (c.loop.counter + 1)) c.args.level next c.args.left x g m)) read)
    c.in_err-more.ensures.value)

pub chain-loop-preserved : goal.chain-loop-preserved
chain-loop-preserved t c =
    let next = climb (c.args.level - 1) (operand c.args.room) in
    let g = slice_get c.args.self.now.lexemes.now in
    let e = tree c.loop.so_far.expr in
    let before : c.loop.so_far.left ≡ c.args.left - operators (tree c.loop.so_far.expr) = c.loop.invariant.1 in
    let count : c.in_ok-more.more.left ≡ c.loop.so_far.left - (operators (tree c.in_ok-more.more.expr) - operators (tree c.loop.so_far.expr)) = c.in_ok-more.ensures.count in
    let more : operators (tree c.loop.so_far.expr) < operators (tree c.in_ok-more.more.expr) = c.in_ok-more.ensures.more in (
      sym (chain_turn (suc c.args.left) c.loop.counter c.args.level next c.args.left e c.in-Some.op g c.loop.here (omega arith) (sym c.in-Some.ensures)
          ∙ ap (λ n. and_then (joined n next e c.in-Some.op g c.loop.here) (λ x m. chain (suc c.args.left - (c.loop.counter + 1)) c.args.level next c.args.left x g m)) (sym c.loop.invariant.1)
          ∙ ap (λ r. and_then r (λ x m. chain (suc c.args.left - (c.loop.counter + 1)) c.args.level next c.args.left x g m)) c.in_ok-more.ensures.value)
          ∙ c.loop.invariant.0,
      (omega arith),
    )

pub chain-returns-clause-value : goal.chain-returns-clause-value
chain-returns-clause-value t c = sym c.loop.invariant.0 ∙ chain_over (suc c.args.left - c.loop.counter) _ _ _ _ _ _ (omega arith)

pub comparison-returns-in-Some-clause-value : goal.comparison-returns-in-Some-clause-value
comparison-returns-in-Some-clause-value t c =
    let g = slice_get c.args.self.now.lexemes.now in
    let first = c.in_ok-first.first in
    subst (λ r. Gives {X = Counted × ℕ} {A = Term} (λ x. (tree x.0.expr, x.1)) c.infix.result r)
    (sym (comparison (operand c.args.room) c.args.left (tree first.expr) c.in-Some.op g c.args.at c.in_ok-first.next first.left c.in_ok-first.ensures.value (sym c.in-Some.ensures) c.in_ok-first.ensures.count))
    c.infix.ensures.value
