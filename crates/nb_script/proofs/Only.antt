-- A text is that of one script at most, and is then not refused.
use Rattle.std.proofs.Common.{◌≡◌, ℕ, suc, ◌+◌, ◌≤◌, arith, List, length, slice_get, Ok, Err, refl, ap, sym, ◌∙◌}
use Rattle.nb_script.specs.declared.lexeme.Lexeme.{Lexeme}
use Rattle.nb_script.specs.declared.lexer.Tail.TheVariants as tail
use Rattle.nb_script.specs.declared.lexer.LexFault.{LexFault}
use Rattle.nb_script.specs.declared.fault.Fault.{Fault}
use Rattle.nb_script.specs.declared.script.ScriptFault.{ScriptFault}
use Rattle.nb_script.specs.declared.script.ScriptKind.{ScriptKind}
use Rattle.nb_script.specs.declared.script.ScriptKind.TheVariants as k
use Rattle.nb_script.specs.Grammar.{ItemTerm}
use Rattle.nb_script.specs.Spelling.{script_marks, IsItem}
use Rattle.nb_script.specs.Lexing.{lexemes_of}
use Rattle.nb_script.specs.Reading.{Outcome}
use Rattle.nb_script.specs.ReadingScript.{whole}
use Rattle.nb_script.specs.Answer.{Starts, Spells}
use Rattle.nb_script.specs.Parsing.{IsScriptText, IsUnreadable, IsStuck, IsFaultOf, IsFault}
use Rattle.nb_script.proofs.Complete.{Reads, Gets, Stops, Excuse}
use Rattle.nb_script.proofs.CompleteScript.{every_strung}
use Rattle.nb_script.proofs.CompleteItems.{whole_complete}
use Rattle.nb_script.proofs.First.{plus, list_meets, after_list, halts}

-- a script begins with its tokens, the end counted as one
starts_so : (ts : List Lexeme) (s : List ItemTerm) (n : ℕ) → Spells ts s → Starts ts n
starts_so ts s n it = record { whole = s; grammatical = it.grammatical; agrees = λ j lt. ap (λ xs. slice_get xs j) (sym it.spelled); keeps = λ j x lt e. it.keeps j x e }

any : Excuse
any = λ f j. Unit {0}

read_whole : (ts : List Lexeme) (s : List ItemTerm) → Spells ts s → Reads any (whole (suc (length ts)) 100) (slice_get ts) 0 s (0 + length (script_marks s))
unfolding any
read_whole ts s it =
    whole_complete any (suc (length ts)) (λ j le. tt) 100 s (every_strung IsItem s it.grammatical) (slice_get ts) (0 + length (script_marks s))
    (list_meets any (slice_get ts) 0 (script_marks s) (λ j. ap (slice_get ts) (plus j) ∙ ap (λ xs. slice_get xs j) it.spelled) (λ j x e p. tt))
    (ap (slice_get ts) (plus (length (script_marks s))) ∙ ap (λ xs. slice_get xs (length (script_marks s))) it.spelled ∙ after_list (script_marks s))

-- what is read is the script
got : (ts : List Lexeme) (s : List ItemTerm) (r : Outcome (List ItemTerm)) → whole (suc (length ts)) 100 (slice_get ts) 0 ≡ r → Spells ts s → Reads any (whole (suc (length ts)) 100) (slice_get ts) 0 s (0 + length (script_marks s))
    → whole (suc (length ts)) 100 (slice_get ts) 0 ≡ Ok (s, 0 + length (script_marks s))
got ts s r read it (Gets e) = e
got ts s (Ok p) read it (Stops x) = (let clash : Ok p ≡ Err (x.fault, x.at) = sym read ∙ x.is in cc)
got ts s (Err p) read it (Stops x) = absurd ((halts ts p.0 p.1 read).stuck (starts_so ts s (suc p.1) it))

is_read : (ts : List Lexeme) (s : List ItemTerm) → Spells ts s → whole (suc (length ts)) 100 (slice_get ts) 0 ≡ Ok (s, 0 + length (script_marks s))
is_read ts s it = got ts s (whole (suc (length ts)) 100 (slice_get ts) 0) refl it (read_whole ts s it)

same_ok : (a b : List ItemTerm × ℕ) (r : Outcome (List ItemTerm)) → r ≡ Ok a → r ≡ Ok b → a ≡ b
same_ok a b r p q = cc

first_of : List ItemTerm × ℕ → List ItemTerm
first_of p = p.0

one_tree : (ts : List Lexeme) (s t : List ItemTerm) → Spells ts s → Spells ts t → t ≡ s
unfolding first_of
one_tree ts s t it other = ap first_of (same_ok (t, 0 + length (script_marks t)) (s, 0 + length (script_marks s)) (whole (suc (length ts)) 100 (slice_get ts) 0) (is_read ts t other) (is_read ts s it))

pub one_script : (text : List ℕ) (s t : List ItemTerm) → IsScriptText text s → IsScriptText text t → t ≡ s
one_script text s t it other = one_tree (lexemes_of text) s t it.spells other.spells

readable_bad : (text : List ℕ) (s : List ItemTerm) (b : LexFault) (f : ScriptFault) → IsScriptText text s → IsUnreadable text b f → ⊥
readable_bad text s b f it bad = (let clash : tail.End ≡ tail.Bad b bad.at = sym it.readable ∙ bad.tail_is in cc)

never_stuck : (text : List ℕ) (s : List ItemTerm) (x : Fault) (f : ScriptFault) → IsScriptText text s → IsStuck text x f → ⊥
never_stuck text s x f it stuck = stuck.first.stuck (starts_so (lexemes_of text) s (suc stuck.token) it.spells)

no_fault : (text : List ℕ) (s : List ItemTerm) (f : ScriptFault) (kind : ScriptKind) → IsScriptText text s → IsFaultOf text f kind → kind ≡ k.NoMemory
no_fault text s f k.NoMemory it fault = refl
no_fault text s f k.TooLong it fault = (let short : length text ≤ 1048576 = it.text_is.short in let long = fault.long in absurd (omega arith))
no_fault text s f k.NotUtf8 it fault = absurd (fault.broken it.text_is.utf8)
no_fault text s f k.BadToken it fault = absurd (readable_bad text s _ f it fault)
no_fault text s f k.BadText it fault = absurd (readable_bad text s _ f it fault)
no_fault text s f k.BadNumber it fault = absurd (readable_bad text s _ f it fault)
no_fault text s f k.TooDeep it fault = absurd (never_stuck text s _ f it fault)
no_fault text s f k.Expected it fault = absurd (never_stuck text s _ f it fault)

-- The text of a script is refused for want of memory alone.
pub never_refused : (text : List ℕ) (s : List ItemTerm) (f : ScriptFault) → IsScriptText text s → IsFault text f → f.kind ≡ k.NoMemory
never_refused text s f it fault = no_fault text s f f.kind it fault
