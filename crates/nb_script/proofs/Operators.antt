-- Operators as tokens, and the levels at which they may stand.
use Rattle.std.proofs.Common.{◌≡◌, ◌≢◌, inl, inr, ℕ, suc, ◌-◌, ◌==◌, ◌≤◌, ◌<◌, Option, Some, None, Bool, true, false, refl, ap, sym, subst, ◌∙◌, arith}
use Rattle.std.proofs.lemmas.Bool.{eqb-true}
use Rattle.std.proofs.lemmas.Bool.Decides.{eqb_tells}
use Rattle.nb_script.specs.declared.lexeme.Keyword.{Keyword}
use Rattle.nb_script.specs.declared.lexeme.Symbol.{Symbol}
use Rattle.nb_script.specs.declared.lexeme.Lexeme.{Lexeme}
use Rattle.nb_script.specs.declared.lexeme.Seen.{Seen}
use Rattle.nb_script.specs.declared.lexeme.Seen.TheVariants as see
use Rattle.nb_script.specs.declared.expr.Binary.{Binary}
use Rattle.nb_script.specs.declared.expr.Binary.TheVariants as binary
use Rattle.nb_script.specs.Words.{keyword_of}
use Rattle.nb_script.specs.Grammar.{Term, Number, Quoted, Constant, Field, Name, Call, Paren, Prefix, Infix}
use Rattle.nb_script.specs.Spelling.{binary_symbol, level, is_alone, left_of, left_level, IsWithin}
use Rattle.nb_script.specs.Reading.{seen, seen_word, kept, at_level, operator_of, operator_in, operator}
use Rattle.nb_script.proofs.OneToken.{symbol_token, word_token}

-- ---- what is seen as an operator

kept_level : (b : Bool) (n : ℕ) (o op : Binary) → (b ≡ true → level o ≡ n) → kept b o ≡ Some op → level op ≡ n
kept_level true n o op at e = let both : Some o ≡ Some op = e in let same : o ≡ op = cc in subst (λ o. level o ≡ n) same (at refl)
kept_level false n o op at e = cc

at_level_is : (n : ℕ) (o : Option Binary) (op : Binary) → at_level n o ≡ Some op → level op ≡ n
at_level_is n None op e = cc
at_level_is n (Some o) op e = kept_level (level o == n) n o op (eqb-true (level o) n) e

pub operator_level : (n : ℕ) (s : Seen) (op : Binary) → operator_in n s ≡ Some op → level op ≡ n
operator_level n (see.Symbol s) op e = at_level_is n (operator_of s) op e
operator_level n _ op e = cc

-- the token of an operator is one of its level and of no other
operator_token : (op : Binary) (n p : ℕ) → operator n (Some (symbol_token (binary_symbol op) p)) ≡ kept (level op == n) op
unfolding seen
operator_token binary.Times n p = refl
operator_token binary.Plus n p = refl
operator_token binary.Minus n p = refl
operator_token binary.Join n p = refl
operator_token binary.Equal n p = refl
operator_token binary.Unequal n p = refl
operator_token binary.Less n p = refl
operator_token binary.LessOrEqual n p = refl
operator_token binary.Greater n p = refl
operator_token binary.GreaterOrEqual n p = refl
operator_token binary.And n p = refl
operator_token binary.Or n p = refl

pub own_operator : (op : Binary) (n p : ℕ) → level op ≡ n → operator n (Some (symbol_token (binary_symbol op) p)) ≡ Some op
own_operator op n p e = elim (eqb_tells (level op) n) [ inl h ↦ operator_token op n p ∙ ap (λ b. kept b op) h.0 | inr h ↦ absurd (h.1 e) ]

pub other_operator : (op : Binary) (n p : ℕ) → level op ≢ n → operator n (Some (symbol_token (binary_symbol op) p)) ≡ None
other_operator op n p ne = elim (eqb_tells (level op) n) [ inl h ↦ absurd (ne h.1) | inr h ↦ operator_token op n p ∙ ap (λ b. kept b op) h.0 ]

-- no operator up to a level comes next
abbrev pub Ends : ℕ → Option Lexeme → Type 0
Ends n o = (i : ℕ) → i ≤ n → operator i o ≡ None

-- no operator comes next
abbrev pub EndsAll : Option Lexeme → Type 0
EndsAll o = (i : ℕ) → operator i o ≡ None

pub ends_operator : (op : Binary) (n p : ℕ) → level op ≡ suc n → Ends n (Some (symbol_token (binary_symbol op) p))
ends_operator op n p e i le = other_operator op i p (λ same. (let a : level op ≡ i = same in absurd (omega arith)))

no_word : (n : ℕ) (w : Option Keyword) → operator_in n (seen_word w) ≡ None
no_word n None = refl
no_word n (Some k) = refl

pub ends_word : (x : _) (p : ℕ) → EndsAll (Some (word_token x p))
unfolding seen
ends_word x p i = no_word i (keyword_of x)

pub ends_symbol : (s : Symbol) (p : ℕ) → operator_of s ≡ None → EndsAll (Some (symbol_token s p))
unfolding seen
ends_symbol s p e i = ap (at_level i) e

-- ---- where expressions may stand

pub level_some : (op : Binary) → 0 < level op
level_some binary.Times = omega arith
level_some binary.Plus = omega arith
level_some binary.Minus = omega arith
level_some binary.Join = omega arith
level_some binary.Equal = omega arith
level_some binary.Unequal = omega arith
level_some binary.Less = omega arith
level_some binary.LessOrEqual = omega arith
level_some binary.Greater = omega arith
level_some binary.GreaterOrEqual = omega arith
level_some binary.And = omega arith
level_some binary.Or = omega arith

-- what may stand at a level may stand at the next
pub within_more : (n : ℕ) (e : Term) → IsWithin n e → IsWithin (suc n) e
within_more n (Number p v) w = w
within_more n (Quoted p s) w = w
within_more n (Constant p s) w = w
within_more n (Field p h d q x) w = w
within_more n (Name p s) w = w
within_more n (Call p f o e q) w = w
within_more n (Paren p e q) w = w
within_more n (Prefix p op e) w = w
within_more n (Infix a p op b) w = let le : level op ≤ n = w.0 in ((omega arith), w.1, w.2)

abbrev pub beside : ℕ → ℕ
beside n = left_of (is_alone (suc n)) (suc n)

-- an operator of a level between what may stand on its sides
pub infix_within : (n : ℕ) (a : Term) (p : ℕ) (op : Binary) (b : Term) → level op ≡ suc n → IsWithin (beside n) a → IsWithin n b → IsWithin (suc n) (Infix a p op b)
infix_within n a p op b e wa wb =
    let le : level op ≤ suc n = omega arith in
    let below : n ≡ level op - 1 = omega arith in
    (le, subst (λ l. IsWithin (left_of (is_alone l) l) a) (sym e) wa, subst (λ l. IsWithin l b) below wb)

pub left_within : (n : ℕ) (a : Term) (op : Binary) → level op ≡ suc n → IsWithin (left_level op) a → IsWithin (beside n) a
left_within n a op e wa = subst (λ l. IsWithin (left_of (is_alone l) l) a) e wa

pub right_within : (n : ℕ) (b : Term) (op : Binary) → level op ≡ suc n → IsWithin (level op - 1) b → IsWithin n b
right_within n b op e wb = let below : level op - 1 ≡ n = omega arith in subst (λ l. IsWithin l b) below wb
