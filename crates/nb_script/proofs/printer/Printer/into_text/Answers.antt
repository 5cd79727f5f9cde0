use Rattle.std.proofs.Common.{string_bytes}
use Rattle.std.proofs.lemmas.Str.{IsUtf8-had}
use Rattle.nb_script.proofs.Reprinting.{utf8_kept}
use Rattle.nb_script.proofs.printer.Printer.into_text.Goals as goal

pub returns-in-Ok-clause-utf8 : goal.returns-in-Ok-clause-utf8
returns-in-Ok-clause-utf8 c = utf8_kept c.of_string.result (string_bytes c.in-Ok.text) c.of_string.ensures (IsUtf8-had _ c.in-Ok.text.ok)
