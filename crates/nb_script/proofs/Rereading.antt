-- What is read from a text is its script.
use Rattle.std.proofs.Common.{◌≡◌, ℕ, suc, ◌≤◌, Some, Ok, Err, List, length, slice_get, refl, ap, sym, ◌∙◌}
use Rattle.std.proofs.Math.Logic.{∥∥₁_map, ∥∥₁_elim}
use Rattle.std.specs.Str.{IsUtf8}
use Rattle.nb_script.specs.declared.lexer.Tail.TheVariants as tail
use Rattle.nb_script.specs.declared.lexeme.Lexeme.{Lexeme}
use Rattle.nb_script.specs.Grammar.{ItemTerm}
use Rattle.nb_script.specs.Lexing.{lexed, lexemes_of}
use Rattle.nb_script.specs.Reading.{Outcome}
use Rattle.nb_script.specs.ReadingScript.{whole}
use Rattle.nb_script.specs.Reads.{items_read, reads_tokens, reads}
use Rattle.nb_script.specs.Parsing.{IsScriptText}
use Rattle.nb_script.proofs.Parsed.{parse_ok}

-- what the tokens of a text give
pub read_is : (text : List ℕ) (ts : List Lexeme) (xs : List ItemTerm) (m : ℕ) → ts ≡ lexemes_of text → whole (suc (length ts)) 100 (slice_get ts) 0 ≡ Ok (xs, m) → reads text ≡ Some xs
unfolding reads
read_is text ts xs m same read = ap reads_tokens (sym same) ∙ ap items_read read

spelled_by : (text : List ℕ) (xs : List ItemTerm) (r : Outcome (List ItemTerm)) → IsUtf8 text → length text ≤ 1048576 → (lexed text).tail ≡ tail.End → whole (suc (length (lexemes_of text))) 100 (slice_get (lexemes_of text)) 0 ≡ r → items_read r ≡ Some xs → IsScriptText text xs
spelled_by text xs (Ok r) utf8 short readable read e =
    let both : Some r.0 ≡ Some xs = e in
    let same : r.0 ≡ xs = cc in
    parse_ok text (lexed text) (lexemes_of text) xs r.1 (record { text_is = record { short = short; utf8 = utf8 }; scanned = refl; lexemes_are = refl }) (read ∙ ap (λ ys. Ok (ys, r.1)) same) readable
spelled_by text xs (Err f) utf8 short readable read e = cc

text_of_script : (text : List ℕ) (xs : List ItemTerm) → IsUtf8 text → length text ≤ 1048576 → (lexed text).tail ≡ tail.End → reads text ≡ Some xs → IsScriptText text xs
unfolding reads
text_of_script text xs utf8 short readable e = spelled_by text xs (whole (suc (length (lexemes_of text))) 100 (slice_get (lexemes_of text)) 0) utf8 short readable refl e

pub is_script_text : (text : List ℕ) (xs : List ItemTerm) → IsUtf8 text → length text ≤ 1048576 → (lexed text).tail ≡ tail.End → ∥ reads text ≡ Some xs ∥₁ → ∥ IsScriptText text xs ∥₁
is_script_text text xs utf8 short readable it = ∥∥₁_map it (text_of_script text xs utf8 short readable)

read_once : (text again : List ℕ) (xs ys : List ItemTerm) → again ≡ text → reads text ≡ Some xs → reads again ≡ Some ys → ys ≡ xs
read_once text again xs ys same e f = (let both : Some ys ≡ Some xs = sym f ∙ ap reads same ∙ e in cc)

-- A text is read in one way.
pub same_read : (text again : List ℕ) (xs ys : List ItemTerm) → again ≡ text → ∥ reads text ≡ Some xs ∥₁ → ∥ reads again ≡ Some ys ∥₁ → ∥ ys ≡ xs ∥₁
same_read text again xs ys same it other = ∥∥₁_elim it squash₁ (λ e. ∥∥₁_map other (read_once text again xs ys same e))
