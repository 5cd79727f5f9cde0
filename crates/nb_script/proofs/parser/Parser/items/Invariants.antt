use Rattle.std.proofs.Common.{◌≡◌, ◌-◌, suc, slice_get, length, map}
use Rattle.nb_script.specs.Reading.{many, always}
use Rattle.nb_script.specs.ReadingScript as read
use Rattle.nb_script.specs.Tree.{item}
use Rattle.nb_script.proofs.Rows.{before}
use Rattle.nb_script.proofs.parser.Parser.items.Given as goal

abbrev pub invariant-loop : goal.invariant-loop
invariant-loop l =
    before (map item l.items) (many (suc (length l.self.lexemes.now) - l.counter) read.is_end always (read.item (suc (length l.self.lexemes.now)) l.room (read.inside (suc (length l.self.lexemes.now)) l.room)) (slice_get l.self.lexemes.now) l.here)
    ≡ many (suc (length l.self.lexemes.now)) read.is_end always (read.item (suc (length l.self.lexemes.now)) l.room (read.inside (suc (length l.self.lexemes.now)) l.room)) (slice_get l.self.lexemes.now) l.fn.at
