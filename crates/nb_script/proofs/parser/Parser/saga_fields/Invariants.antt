use Rattle.std.proofs.Common.{◌≡◌, ◌-◌, suc, slice_get, length}
use Rattle.nb_script.specs.Reading.{many, closes}
use Rattle.nb_script.specs.ReadingScript as read
use Rattle.nb_script.specs.Spelling.{saga_field_goes_on}
use Rattle.nb_script.proofs.Rows.{before}
use Rattle.nb_script.proofs.parser.Parser.saga_fields.Given as goal

abbrev pub invariant-loop : goal.invariant-loop
invariant-loop l =
    before l.fields (many (suc (length l.self.lexemes.now) - l.counter) closes saga_field_goes_on read.saga_field (slice_get l.self.lexemes.now) l.here)
    ≡ many (suc (length l.self.lexemes.now)) closes saga_field_goes_on read.saga_field (slice_get l.self.lexemes.now) l.fn.at
