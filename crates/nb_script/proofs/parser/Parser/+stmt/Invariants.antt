use Rattle.std.proofs.Common.{◌≡◌, ◌-◌, ◌+◌, ◌*◌, suc, slice_get, length, map}
use Rattle.nb_script.specs.Reading.{many, closes, always}
use Rattle.nb_script.specs.ReadingScript as read
use Rattle.nb_script.specs.Tree.{phrase}
use Rattle.nb_script.proofs.Rows.{before}
use Rattle.nb_script.proofs.parser.Parser.+stmt.Given as goal

abbrev pub decreases-inside : goal.decreases-inside
decreases-inside l = 16 * l.room

abbrev pub decreases-inside_branch : goal.decreases-inside_branch
decreases-inside_branch l = 16 * l.room

abbrev pub decreases-block : goal.decreases-block
decreases-block l = 16 * l.room + 1

abbrev pub decreases-else_block : goal.decreases-else_block
decreases-else_block l = 16 * l.room + 2

abbrev pub decreases-else_if : goal.decreases-else_if
decreases-else_if l = 16 * l.room + 2

abbrev pub decreases-else_part : goal.decreases-else_part
decreases-else_part l = 16 * l.room + 3

abbrev pub decreases-otherwise : goal.decreases-otherwise
decreases-otherwise l = 16 * l.room + 4

abbrev pub decreases-branch : goal.decreases-branch
decreases-branch l = 16 * l.room + 5

abbrev pub decreases-if_statement : goal.decreases-if_statement
decreases-if_statement l = 16 * l.room + 6

abbrev pub decreases-statement_of : goal.decreases-statement_of
decreases-statement_of l = 16 * l.room + 7

abbrev pub decreases-statement : goal.decreases-statement
decreases-statement l = 16 * l.room + 8

abbrev pub decreases-body : goal.decreases-body
decreases-body l = 16 * l.room + 9

-- what was read, before the rest, is the whole body
abbrev pub invariant-body-loop : goal.invariant-body-loop
invariant-body-loop l =
    before (map phrase l.body) (many (suc (length l.self.lexemes.now) - l.counter) closes always (read.statement (suc (length l.self.lexemes.now)) l.room (read.inside (suc (length l.self.lexemes.now)) l.room)) (slice_get l.self.lexemes.now) l.here)
    ≡ many (suc (length l.self.lexemes.now)) closes always (read.statement (suc (length l.self.lexemes.now)) l.room (read.inside (suc (length l.self.lexemes.now)) l.room)) (slice_get l.self.lexemes.now) l.fn.at
