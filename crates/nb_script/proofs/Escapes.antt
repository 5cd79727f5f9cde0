-- A text that is printed in quotes is read as one token, which says the same.
use Rattle.std.proofs.Common.{◌≡◌, ℕ, suc, ◌+◌, ◌-◌, ◌≤◌, ◌==◌, ◌||◌, nat_le, nat_lt, Bool, true, false, List, [], ◌∷◌, ◌++◌, length, take, Some, None, refl, ap, sym, subst, ◌∙◌, arith, append_assoc, if◌then◌else◌}
use Rattle.std.specs.List.{list_all}
use Rattle.std.proofs.Math.Seq.{take-append_seam}
use Rattle.std.proofs.lemmas.Bool.{eqb-true, leb-true, lt-leb}
use Rattle.std.proofs.lemmas.List.{length-append}
use Rattle.nb_script.specs.declared.lexer.Piece.{Piece}
use Rattle.nb_script.specs.declared.lexer.Piece.TheVariants.{Token}
use Rattle.nb_script.specs.declared.lexer.TokenKind.TheVariants as kind
use Rattle.nb_script.specs.Lexing.{is_comment, is_blank, is_letter, is_digit, is_escape, is_escaped, inside_len, text_from, text_len, text_piece, escape, unescaped, within_quotes, symbol_len, symbol_piece, piece}
use Rattle.nb_script.specs.Printing.{escape_of, escaped}
use Rattle.nb_script.proofs.TextLen.{plus, text_step, text_closes}
use Rattle.nb_script.proofs.Printable.{both, pieces, piece_cases, not_comment, comment_gap, blank_gap, word_token, number_token}

-- what may stand in a text
abbrev pub is_plain : ℕ → Bool
is_plain b = nat_le 32 b || b == 9 || b == 10 || b == 13

abbrev escapes : (quote slash feed carriage tab : Bool) → ℕ → List ℕ
escapes quote slash feed carriage tab b = if quote then 92 ∷ 34 ∷ [] else
    if slash then 92 ∷ 92 ∷ [] else
    if feed then 92 ∷ 110 ∷ [] else
    if carriage then 92 ∷ 114 ∷ [] else
    if tab then 92 ∷ 116 ∷ [] else b ∷ []

-- how a byte is printed
data Shape (b : ℕ) : Type 0 where
  Slashed : (x : ℕ) → escape_of b ≡ 92 ∷ x ∷ [] → escape x ≡ b → is_escape x ≡ true → Shape b
  AsIs : escape_of b ≡ b ∷ [] → (b == 34) ≡ false → (b == 92) ≡ false → nat_lt b 32 ≡ false → Shape b

as_is : (b : ℕ) (u v w x y : Bool) → u ≡ false → v ≡ false → w ≡ false → x ≡ false → y ≡ false → escapes u v w x y b ≡ b ∷ []
as_is b u v w x y p q r s t =
    ap (λ u. escapes u v w x y b) p ∙ ap (λ v. escapes false v w x y b) q ∙ ap (λ w. escapes false false w x y b) r ∙ ap (λ x. escapes false false false x y b) s ∙ ap (λ y. escapes false false false false y b) t

first_true : (a c d e : Bool) → (a || c || d || e) ≡ true → c ≡ false → d ≡ false → e ≡ false → a ≡ true
first_true true c d e all p q r = refl
first_true false true d e all p q r = cc
first_true false false true e all p q r = cc
first_true false false false true all p q r = cc
first_true false false false false all p q r = all

shape_by : (b : ℕ) (u v w x y : Bool) → (b == 34) ≡ u → (b == 92) ≡ v → (b == 10) ≡ w → (b == 13) ≡ x → (b == 9) ≡ y → is_plain b ≡ true → Shape b
shape_by b true v w x y p q r s t plain = subst Shape (sym (eqb-true b 34 p)) (Slashed 34 refl refl refl)
shape_by b false true w x y p q r s t plain = subst Shape (sym (eqb-true b 92 q)) (Slashed 92 refl refl refl)
shape_by b false false true x y p q r s t plain = subst Shape (sym (eqb-true b 10 r)) (Slashed 110 refl refl refl)
shape_by b false false false true y p q r s t plain = subst Shape (sym (eqb-true b 13 s)) (Slashed 114 refl refl refl)
shape_by b false false false false true p q r s t plain = subst Shape (sym (eqb-true b 9 t)) (Slashed 116 refl refl refl)
shape_by b false false false false false p q r s t plain =
    let low : 32 ≤ b = leb-true 32 b (first_true (nat_le 32 b) (b == 9) (b == 10) (b == 13) plain t r s) in
    AsIs (as_is b (b == 34) (b == 92) (b == 10) (b == 13) (b == 9) p q r s t) p q (lt-leb (suc b) 32 (omega arith))

shape : (b : ℕ) → is_plain b ≡ true → Shape b
shape b plain = shape_by b (b == 34) (b == 92) (b == 10) (b == 13) (b == 9) refl refl refl refl refl plain

-- ---- its length

inside_one : (b : ℕ) (ys : List ℕ) → (b == 34) ≡ false → (b == 92) ≡ false → nat_lt b 32 ≡ false → inside_len b ys ≡ Some 1
inside_one b ys p q r =
    ap (λ v. if v then Some 0 else (if b == 92 then (if is_escaped ys then Some 2 else None) else (if nat_lt b 32 then None else Some 1))) p
    ∙ ap (λ v. if v then (if is_escaped ys then Some 2 else None) else (if nat_lt b 32 then None else Some 1)) q ∙ ap (λ v. if v then None else Some 1) r

abbrev Closes : List ℕ → List ℕ → Type 0
Closes es rest = text_from 0 (es ++ 34 ∷ rest) ≡ Some (suc (length es))

closes_one : (b : ℕ) (es rest : List ℕ) → inside_len b (es ++ 34 ∷ rest) ≡ Some 1 → Closes es rest → Closes (b ∷ es) rest
closes_one b es rest one it = text_step 0 b (es ++ 34 ∷ rest) one (omega arith) ∙ ap (plus 1) it ∙ ap Some (let e : suc (length es) + 1 ≡ suc (suc (length es)) = omega arith in e)

closes_two : (x : ℕ) (es rest : List ℕ) → is_escape x ≡ true → Closes es rest → Closes (92 ∷ x ∷ es) rest
closes_two x es rest e it =
    text_step 1 92 (x ∷ (es ++ 34 ∷ rest)) (ap (λ v. if v then Some 2 else None) e) (let le : 1 ≤ suc (length (es ++ 34 ∷ rest)) = omega arith in le)
    ∙ ap (plus 2) it ∙ ap Some (let f : suc (length es) + 2 ≡ suc (suc (suc (length es))) = omega arith in f)

closes_by : (b : ℕ) (es rest : List ℕ) → Shape b → Closes es rest → Closes (escape_of b ++ es) rest
closes_by b es rest (Slashed x e back is) it = subst (λ w. Closes (w ++ es) rest) (sym e) (closes_two x es rest is it)
closes_by b es rest (AsIs e p q r) it = subst (λ w. Closes (w ++ es) rest) (sym e) (closes_one b es rest (inside_one b (es ++ 34 ∷ rest) p q r) it)

escaped_closes : (t rest : List ℕ) → list_all is_plain t ≡ true → Closes (escaped t) rest
escaped_closes [] rest all = text_closes 34 rest refl
escaped_closes (b ∷ bs) rest all = (let parts = both (is_plain b) (list_all is_plain bs) all in closes_by b (escaped bs) rest (shape b parts.0) (escaped_closes bs rest parts.1))

-- ---- what it says

back_by : (b : ℕ) (es : List ℕ) → Shape b → unescaped false (escape_of b ++ es) ≡ b ∷ unescaped false es
back_by b es (Slashed x e back is) = ap (λ w. unescaped false (w ++ es)) e ∙ ap (λ y. y ∷ unescaped false es) back
back_by b es (AsIs e p q r) = ap (λ w. unescaped false (w ++ es)) e ∙ ap (λ v. if v then unescaped true es else b ∷ unescaped false es) q

escaped_back : (t : List ℕ) → list_all is_plain t ≡ true → unescaped false (escaped t) ≡ t
escaped_back [] all = refl
escaped_back (b ∷ bs) all = (let parts = both (is_plain b) (list_all is_plain bs) all in back_by b (escaped bs) (shape b parts.0) ∙ ap (λ ys. b ∷ ys) (escaped_back bs parts.1))

abbrev quoted_text : List ℕ → List ℕ
quoted_text t = 34 ∷ (escaped t ++ 34 ∷ [])

at_quote : (c q h l d : Bool) (g t i w n s : Piece) → c ≡ false → q ≡ true → pieces c q h l d g t i w n s ≡ t
at_quote false true h l d g t i w n s p r = refl
at_quote false false h l d g t i w n s p r = cc
at_quote true q h l d g t i w n s p r = cc

pub quoted_read : (t rest : List ℕ) → list_all is_plain t ≡ true → piece (quoted_text t ++ 32 ∷ rest) ≡ Token kind.Text (length (quoted_text t))
quoted_read t rest all =
    let ys : List ℕ = (escaped t ++ 34 ∷ []) ++ 32 ∷ rest in
    let size : suc (length (escaped t)) + 1 ≡ suc (length (escaped t ++ 34 ∷ [])) = omega (arith, length-append (escaped t) (34 ∷ [])) in
    piece_cases 34 ys
    ∙ at_quote (is_comment (34 ∷ ys)) true (is_blank 34) (is_letter 34) (is_digit 34) (comment_gap (34 ∷ ys)) (text_piece (text_len ys)) (blank_gap (34 ∷ ys)) (word_token (34 ∷ ys)) (number_token (34 ∷ ys)) (symbol_piece (symbol_len (34 ∷ ys))) (not_comment 34 ys refl) refl
    ∙ ap (λ zs. text_piece (text_len zs)) (append_assoc (escaped t) (34 ∷ []) (32 ∷ rest)) ∙ ap text_piece (escaped_closes t (32 ∷ rest) all) ∙ ap (λ m. Token kind.Text m) size

pub quoted_back : (t : List ℕ) → list_all is_plain t ≡ true → unescaped false (within_quotes (quoted_text t)) ≡ t
quoted_back t all =
    let size : suc (length (escaped t ++ 34 ∷ [])) - 2 ≡ length (escaped t) = omega (arith, length-append (escaped t) (34 ∷ [])) in
    ap (λ m. unescaped false (take m (escaped t ++ 34 ∷ []))) size ∙ ap (unescaped false) (take-append_seam (escaped t) (34 ∷ [])) ∙ escaped_back t all
