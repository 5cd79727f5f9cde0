-- The items that are read from a text.
use Rattle.std.specs.Prelude.{ℕ, suc, List, length, slice_get, Option, Some, None, Ok, Err}
use Rattle.nb_script.specs.declared.lexeme.Lexeme.{Lexeme}
use Rattle.nb_script.specs.Grammar.{ItemTerm}
use Rattle.nb_script.specs.Lexing.{lexemes_of}
use Rattle.nb_script.specs.Reading.{Outcome}
use Rattle.nb_script.specs.ReadingScript.{whole}

abbrev pub items_read : Outcome (List ItemTerm) → Option (List ItemTerm)
items_read (Ok r) = Some r.0
items_read (Err e) = None

abbrev pub reads_tokens : List Lexeme → Option (List ItemTerm)
reads_tokens ts = items_read (whole (suc (length ts)) 100 (slice_get ts) 0)

-- the items of a text, where its tokens are those of a script
unfoldable pub reads : List ℕ → Option (List ItemTerm)
reads text = reads_tokens (lexemes_of text)
