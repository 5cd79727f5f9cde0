use Rattle.std.proofs.Common.{◌≡◌, ◌-◌, suc, slice_get, length}
use Rattle.nb_script.specs.Reading.{many, always}
use Rattle.nb_script.specs.ReadingScript.{no_dot, dotted}
use Rattle.nb_script.proofs.Rows.{before}
use Rattle.nb_script.proofs.parser.Parser.others.Given as goal

abbrev pub invariant-loop : goal.invariant-loop
invariant-loop l =
    before l.others (many (suc (length l.self.lexemes.now) - l.counter) no_dot always dotted (slice_get l.self.lexemes.now) l.here)
    ≡ many (suc (length l.self.lexemes.now)) no_dot always dotted (slice_get l.self.lexemes.now) l.fn.at
