use Rattle.std.proofs.Common.{◌≡◌, ◌-◌, ◌+◌, ◌*◌, suc, slice_get}
use Rattle.nb_script.specs.Tree.{tree}
use Rattle.nb_script.specs.Spelling.{operators}
use Rattle.nb_script.specs.Reading.{operand, climb, chain}
use Rattle.nb_script.proofs.parser.Parser.+expr.Given as goal

abbrev pub decreases-chain : goal.decreases-chain
decreases-chain l = 32 * l.room + 3 * l.level + 4

abbrev pub decreases-comparison : goal.decreases-comparison
decreases-comparison l = 32 * l.room + 13

abbrev pub decreases-infix : goal.decreases-infix
decreases-infix l = 32 * l.room + 3 * l.below + 6

abbrev pub decreases-climb : goal.decreases-climb
decreases-climb l = 32 * l.room + 3 * l.level + 5

abbrev pub decreases-operand : goal.decreases-operand
decreases-operand l = 32 * l.room + 4

abbrev pub decreases-keyed : goal.decreases-keyed
decreases-keyed l = 32 * l.room + 3

abbrev pub decreases-parens : goal.decreases-parens
decreases-parens l = 32 * l.room + 1

abbrev pub decreases-call : goal.decreases-call
decreases-call l = 32 * l.room + 2

abbrev pub decreases-argument : goal.decreases-argument
decreases-argument l = 32 * l.room + 1

abbrev pub decreases-signed : goal.decreases-signed
decreases-signed l = 32 * l.room + 1

abbrev pub decreases-inner : goal.decreases-inner
decreases-inner l = 32 * l.room

abbrev pub decreases-inner_operand : goal.decreases-inner_operand
decreases-inner_operand l = 32 * l.room

-- what is still to read goes on from the tree so far
abbrev pub invariant-chain-loop : goal.invariant-chain-loop
invariant-chain-loop l =
    (chain (suc l.left - l.counter) l.level (climb (l.level - 1) (operand l.room)) l.left (tree l.so_far.expr) (slice_get l.self.lexemes.now) l.here
    ≡ chain (suc l.left) l.level (climb (l.level - 1) (operand l.room)) l.left (tree l.fn.first.expr) (slice_get l.self.lexemes.now) l.fn.at)
    × (l.so_far.left ≡ l.left - operators (tree l.so_far.expr))
