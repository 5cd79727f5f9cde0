-- What is printed of a script that was read from a text.
use Rattle.std.proofs.Common.{◌≡◌, ℕ, zero, suc, ◌≤◌, arith, Some, Result, Ok, Err, IfOk, List, [], ◌∷◌, length, slice_get, map, refl, ap, sym, subst, ◌∙◌}
use Rattle.std.specs.Str.{IsUtf8}
use Rattle.std.proofs.Math.Logic.{∥∥₁_map}
use Rattle.nb_script.specs.declared.lexeme.Lexeme.{Lexeme}
use Rattle.nb_script.specs.Grammar.{ItemTerm}
use Rattle.nb_script.specs.declared.lexeme.Content.{Content}
use Rattle.nb_script.specs.declared.lexer.Token.{Token}
use Rattle.nb_script.specs.Lexing.{lexed, lexemes_of, lexeme_of, content_of, slice_of}
use Rattle.nb_script.specs.Spelling.{Mark, lexeme, lexemes, script_marks, Every}
use Rattle.nb_script.specs.Printing.{all_of, item, printed}
use Rattle.nb_script.specs.Parsing.{IsScriptText}
use Rattle.nb_script.specs.ReadBack.{IsReadBack}
use Rattle.nb_script.specs.Reading.{Outcome}
use Rattle.nb_script.specs.ReadingScript.{whole}
use Rattle.nb_script.specs.Reads.{items_read, reads}
use Rattle.nb_script.specs.Answer.{Spells}
use Rattle.nb_script.specs.Respelling.{placed, IsRespelled}
use Rattle.nb_script.proofs.First.{found}
use Rattle.nb_script.proofs.Only.{one_script, never_refused}
use Rattle.nb_script.proofs.LexBack.{IsPrintable, Lexes, printed_lexes}
use Rattle.nb_script.proofs.PrintableText.{text_tokens_good}
use Rattle.nb_script.proofs.AgainItems.{AllSay, IsReprinted, respelled_of}

outcome_spells : (ts : List Lexeme) (xs : List ItemTerm) (r : Outcome (List ItemTerm)) → whole (suc (length ts)) 100 (slice_get ts) 0 ≡ r → items_read r ≡ Some xs → Spells ts xs
outcome_spells ts xs (Ok r) read e = (
    let both : Some r.0 ≡ Some xs = e in
    let same : r.0 ≡ xs = cc in
    found (suc (length ts)) ts xs r.1 (read ∙ ap (λ ys. Ok (ys, r.1)) same))
outcome_spells ts xs (Err f) read e = cc

read_spells : (text : List ℕ) (xs : List ItemTerm) → reads text ≡ Some xs → Spells (lexemes_of text) xs
unfolding reads
read_spells text xs e = outcome_spells (lexemes_of text) xs (whole (suc (length (lexemes_of text))) 100 (slice_get (lexemes_of text)) 0) refl e

-- ---- what its tokens say

lexemes_say : (text : List ℕ) (ts : List Token) → map (λ l. l.content) (map (lexeme_of text) ts) ≡ map (λ t. content_of t.kind (slice_of text t)) ts
lexemes_say text [] = refl
lexemes_say text (t ∷ ts) = ap (λ xs. content_of t.kind (slice_of text t) ∷ xs) (lexemes_say text ts)

marks_say : (ms : List Mark) → Every IsPrintable (map (λ l. l.content) (lexemes ms)) → AllSay ms
marks_say [] all = tt
marks_say (m ∷ ms) all = (all.0, marks_say ms all.1)

text_says : (text : List ℕ) → Every IsPrintable (map (λ l. l.content) (lexemes_of text))
text_says text = subst (Every IsPrintable) (sym (lexemes_say text (lexed text).tokens)) (text_tokens_good text)

items_reprinted : (f : ℕ → ℕ) (text : List ℕ) (items : List ItemTerm) → Spells (lexemes_of text) items → IsReprinted f items
items_reprinted f text items it = respelled_of f (lexemes_of text) items it (marks_say (script_marks items) (subst (λ ls. Every IsPrintable (map (λ l. l.content) ls)) it.spelled (text_says text)))

pub reprinted : (text : List ℕ) (xs : List ItemTerm) → ∥ reads text ≡ Some xs ∥₁ → (f : ℕ → ℕ) → ∥ IsRespelled f xs ∥₁
reprinted text xs it f = ∥∥₁_map it (λ e. (items_reprinted f text xs (read_spells text xs e)).respelled)

-- ---- the places of its tokens

place_in : List Lexeme → ℕ → ℕ
place_in [] i = 0
place_in (t ∷ ts) zero = t.at
place_in (t ∷ ts) (suc i) = place_in ts i

placed_later : (f : ℕ → ℕ) (k : ℕ) (xs : List Content) → placed (λ i. f (suc i)) k xs ≡ placed f (suc k) xs
placed_later f k [] = refl
placed_later f k (x ∷ xs) = ap (λ ls. lexeme x (f (suc k)) ∷ ls) (placed_later f (suc k) xs)

placed_there : (ts : List Lexeme) → ts ≡ placed (place_in ts) 0 (map (λ l. l.content) ts)
unfolding place_in
placed_there [] = refl
placed_there (t ∷ ts) = ap (λ ls. t ∷ ls) (placed_there ts ∙ placed_later (place_in (t ∷ ts)) 0 (map (λ l. l.content) ts))

-- ---- reading it back

back_of : (text printed_text : List ℕ) (items : List ItemTerm) → printed_text ≡ printed items → IsUtf8 printed_text → length printed_text ≤ 1048576 → reads text ≡ Some items → IsReadBack printed_text items
back_of text out items is utf8 short e =
    let source = read_spells text items e in
    let lexes = subst (λ t. Lexes t 0 t (all_of item items)) (sym is) (printed_lexes items ((items_reprinted (λ i. i) text items source).says)) in
    let says : map (λ l. l.content) (lexemes_of out) ≡ all_of item items = lexemes_say out (lexed out).tokens ∙ lexes.tokens (length out) (omega arith) in
    let it = (items_reprinted (place_in (lexemes_of out)) text items source).respelled in
    let is_text : IsScriptText out it.again = record {
      text_is = record { short = short; utf8 = utf8 };
      readable = lexes.ends (length out) (omega arith);
      spells = subst (λ ts. Spells ts it.again) (sym (placed_there (lexemes_of out) ∙ ap (placed (place_in (lexemes_of out)) 0) says)) it.spells;
    } in
    record { again = it.again; is_text = is_text; same = it.same; only = λ other script. one_script out it.again other is_text script; refused = λ f fault. never_refused out it.again f is_text fault }

pub read_back : (text printed_text : List ℕ) (items : List ItemTerm) → printed_text ≡ printed items → IsUtf8 printed_text → ∥ reads text ≡ Some items ∥₁ → length printed_text ≤ 1048576 → ∥ IsReadBack printed_text items ∥₁
read_back text out items is utf8 it short = ∥∥₁_map it (back_of text out items is utf8 short)

-- what holds of bytes holds of the text that has them
pub utf8_kept : {E : Type 0} (r : Result (List ℕ) E) (bs : List ℕ) → IfOk r (λ t. t ≡ bs) → IsUtf8 bs → IfOk r (λ t. IsUtf8 t)
utf8_kept (Ok t) bs e it = subst IsUtf8 (sym e) it
utf8_kept (Err e) bs it is = tt
