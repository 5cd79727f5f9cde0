use Rattle.std.proofs.Common.{◌≡◌, ◌-◌, suc, slice_get, length, map}
use Rattle.nb_script.specs.Spelling.{arg_goes_on}
use Rattle.nb_script.specs.Reading.{many, closes}
use Rattle.nb_script.specs.ReadingScript as read
use Rattle.nb_script.specs.Tree.{arg}
use Rattle.nb_script.proofs.Rows.{before}
use Rattle.nb_script.proofs.parser.Parser.args.Given as goal

abbrev pub invariant-loop : goal.invariant-loop
invariant-loop l =
    before (map arg l.args) (many (suc (length l.self.lexemes.now) - l.counter) closes arg_goes_on (read.arg l.room) (slice_get l.self.lexemes.now) l.here)
    ≡ many (suc (length l.self.lexemes.now)) closes arg_goes_on (read.arg l.room) (slice_get l.self.lexemes.now) l.fn.at
