-- What is read of an expression is explained by expressions.
use Rattle.std.proofs.Common.{◌≡◌, ℕ, zero, suc, ◌-◌, ◌||◌, Option, Some, None, Bool, true, false, [], pos, refl, sym, subst, arith, append_assoc}
use Rattle.std.proofs.lemmas.List.{append-nil}
use Rattle.nb_script.specs.declared.lexeme.Keyword.{Keyword}
use Rattle.nb_script.specs.declared.lexeme.Keyword.TheVariants as k
use Rattle.nb_script.specs.declared.lexeme.Symbol.TheVariants as sym'
use Rattle.nb_script.specs.declared.lexeme.Seen.{Seen}
use Rattle.nb_script.specs.declared.lexeme.Seen.TheVariants as see
use Rattle.nb_script.specs.declared.expr.Unary.{Unary}
use Rattle.nb_script.specs.declared.expr.Unary.TheVariants as unary
use Rattle.nb_script.specs.declared.expr.Binary.{Binary}
use Rattle.nb_script.specs.declared.expr.Constant.{Constant as ConstantWord}
use Rattle.nb_script.specs.declared.expr.Constant.TheVariants as constant
use Rattle.nb_script.specs.declared.expr.Holder.{Holder}
use Rattle.nb_script.specs.declared.expr.Holder.TheVariants as holder
use Rattle.nb_script.specs.declared.expr.Function.{Function}
use Rattle.nb_script.specs.declared.expr.Function.TheVariants as function
use Rattle.nb_script.specs.Grammar.{Term, Number, Quoted, Constant, Field, Name, Call, Paren, Prefix, Infix}
use Rattle.nb_script.specs.Spelling.{is_zero, one_less, unary_symbol, binary_symbol, constant_key, holder_key, function_key, operators, spelling, expression, level, is_alone, left_of, IsWithin}
use Rattle.nb_script.specs.Reading.{Parser, ret, Deeper, parens, signed, call, constant_word, holder_field, keyed, operand_of, operand_in, operator, turn, chain, once, rest_by, climb, deeper, operand, expr, seen}
use Rattle.nb_script.proofs.Laws.{Sound, Extends, ret_sound, stop_sound, look_sound, bind_sound}
use Rattle.nb_script.proofs.OneToken.{past_symbol_sound, symbol_sound, key_sound, word_sound, name_sound, number_sound, quoted_sound}
use Rattle.nb_script.proofs.Operators.{operator_level, within_more, beside, infix_within}

-- an expression that may stand at a level
abbrev pub Expr : (room left n : ℕ) → Parser Term → Type 0
Expr room left n p = Sound (spelling room left) (IsWithin n) [] p

abbrev pub Begins : (room left n : ℕ) → Type 0
Begins room left n = Extends (spelling room left) (IsWithin n) []

no_operand : (room left n : ℕ) → Begins room left n
no_operand room left n = record { whole = Number 0 (pos 0); more = spelling room left (Number 0 (pos 0)); fits = tt; spelled = refl }

pub record DeeperSound (room : ℕ) (d : Deeper) : Type 0 where
  pub inner : (left : ℕ) → Expr room left 5 (d.inner left)
  pub operand : (left : ℕ) → Expr room left 0 (d.operand left)

parens_sound : (room : ℕ) (d : Deeper) (left : ℕ) → DeeperSound (one_less room) d → Expr room left 0 (parens (is_zero room) d left)
parens_sound room d left l = bind_sound (past_symbol_sound (is_zero room) sym'.Open) (λ o u. bind_sound (l.inner left) (λ e fits. bind_sound (symbol_sound sym'.Close) (λ q v. ret_sound (Paren o e q) fits refl)))

signed_sound : (room : ℕ) (d : Deeper) (left : ℕ) (op : Unary) → DeeperSound (one_less room) d → Expr room left 0 (signed (is_zero room) d left op)
signed_sound room d left op l = bind_sound (past_symbol_sound (is_zero room || is_zero left) (unary_symbol op)) (λ p u. bind_sound (l.operand (left - 1)) (λ e fits. ret_sound (Prefix p op e) fits refl))

call_sound : (room : ℕ) (d : Deeper) (left : ℕ) (f : Function) → DeeperSound (one_less room) d → Expr room left 0 (call (is_zero room) d left f)
unfolding call
call_sound room d left f l =
    bind_sound (key_sound (function_key f)) (λ p t. bind_sound (past_symbol_sound (is_zero room) sym'.Open) (λ o u. bind_sound (l.inner left) (λ e fits. bind_sound (symbol_sound sym'.Close) (λ q v. ret_sound (Call p f o e q) fits refl))))

constant_sound : (room left : ℕ) (w : ConstantWord) → Expr room left 0 (constant_word w)
unfolding constant_word
constant_sound room left w = bind_sound (key_sound (constant_key w)) (λ p u. ret_sound (Constant p w) tt refl)

field_sound : (room left : ℕ) (h : Holder) → Expr room left 0 (holder_field h)
unfolding holder_field
field_sound room left h = bind_sound (key_sound (holder_key h)) (λ p u. bind_sound (symbol_sound sym'.Dot) (λ d v. bind_sound word_sound (λ n w. ret_sound (Field p h d n.0 n.1) tt refl)))

keyed_sound : (room : ℕ) (d : Deeper) (left : ℕ) → DeeperSound (one_less room) d → (w : Keyword) → Expr room left 0 (keyed (is_zero room) d left w)
keyed_sound room d left l k.True = constant_sound room left constant.True
keyed_sound room d left l k.False = constant_sound room left constant.False
keyed_sound room d left l k.Retries = constant_sound room left constant.Retries
keyed_sound room d left l k.Now = constant_sound room left constant.Now
keyed_sound room d left l k.Sent = constant_sound room left constant.Sent
keyed_sound room d left l k.Id = constant_sound room left constant.Id
keyed_sound room d left l k.Msg = field_sound room left holder.Message
keyed_sound room d left l k.Saga = field_sound room left holder.Saga
keyed_sound room d left l k.Row = call_sound room d left function.Row l
keyed_sound room d left l k.Has = call_sound room d left function.Has l
keyed_sound room d left l k.Text = call_sound room d left function.Text l
keyed_sound room d left l k.Len = call_sound room d left function.Len l
keyed_sound room d left l _ = stop_sound (no_operand room left 0)

operand_of_sound : (room : ℕ) (d : Deeper) (left : ℕ) → DeeperSound (one_less room) d → (s : Seen) → Expr room left 0 (operand_of (is_zero room) d left s)
operand_of_sound room d left l see.Number = bind_sound number_sound (λ n u. ret_sound (Number n.0 n.1) tt refl)
operand_of_sound room d left l see.Quoted = bind_sound quoted_sound (λ t u. ret_sound (Quoted t.0 t.1) tt refl)
operand_of_sound room d left l see.Name = bind_sound name_sound (λ x free. ret_sound (Name x.0 x.1) free refl)
operand_of_sound room d left l (see.Key w) = keyed_sound room d left l w
operand_of_sound room d left l (see.Symbol sym'.Open) = parens_sound room d left l
operand_of_sound room d left l (see.Symbol sym'.Minus) = signed_sound room d left unary.Negative l
operand_of_sound room d left l (see.Symbol sym'.Not) = signed_sound room d left unary.Not l
operand_of_sound room d left l _ = stop_sound (no_operand room left 0)

operand_in_sound : (room : ℕ) (d : Deeper) (left : ℕ) → DeeperSound (one_less room) d → Expr room left 0 (operand_in (is_zero room) d left)
unfolding operand_in
operand_in_sound room d left l = look_sound (λ o. operand_of_sound room d left l (seen o))

-- ---- operators

-- what goes on from a left operand
abbrev From : (room left n : ℕ) → Term → Parser Term → Type 0
From room left n e p = Sound (spelling room left) (IsWithin n) (spelling room left e) p

turn_sound : (room n : ℕ) (next : ℕ → Parser Term) (left : ℕ) (e : Term) (again : Term → Parser Term) → ((left : ℕ) → Expr room left n (next left)) → IsWithin (suc n) e → IsWithin (beside n) e
    → ((x : Term) → IsWithin (suc n) x → From room left (suc n) x (again x)) → (o : Option Binary) → ((op : Binary) → o ≡ Some op → level op ≡ suc n) → From room left (suc n) e (turn next left e again o)
turn_sound room n next left e again l w beside goes None at = ret_sound e w refl
turn_sound room n next left e again l w beside goes (Some op) at =
    bind_sound (past_symbol_sound (is_zero (left - operators e)) (binary_symbol op)) (λ p u. bind_sound (l (left - operators e - 1)) (λ r fits.
    subst (λ b. Sound (spelling room left) (IsWithin (suc n)) b (again (Infix e p op r))) (sym (append_assoc (spelling room left e) _ (spelling room (left - operators e - 1) r)))
    (goes (Infix e p op r) (infix_within n e p op r (at op refl) beside fits))))

whole_left : (room left n : ℕ) (e : Term) → IsWithin n e → Extends (spelling room left) (IsWithin n) (spelling room left e)
whole_left room left n e w = record { whole = e; more = []; fits = w; spelled = sym (append-nil (spelling room left e)) }

chain_sound : (turns room n : ℕ) (next : ℕ → Parser Term) (left : ℕ) → ((left : ℕ) → Expr room left n (next left)) → is_alone (suc n) ≡ false → (e : Term) → IsWithin (suc n) e → From room left (suc n) e (chain turns (suc n) next left e)
unfolding chain
chain_sound zero room n next left l more e w = stop_sound (whole_left room left (suc n) e w)
chain_sound (suc turns) room n next left l more e w =
    look_sound (λ o. turn_sound room n next left e (chain turns (suc n) next left) l w (subst (λ b. IsWithin (left_of b (suc n)) e) (sym more) w) (λ x wx. chain_sound turns room n next left l more x wx) (operator (suc n) o)
    (operator_level (suc n) (seen o)))

once_sound : (room n : ℕ) (next : ℕ → Parser Term) (left : ℕ) → ((left : ℕ) → Expr room left n (next left)) → is_alone (suc n) ≡ true → (e : Term) → IsWithin n e → From room left (suc n) e (once (suc n) next left e)
unfolding once
once_sound room n next left l one e w =
    let below : n ≡ suc n - 1 = omega arith in
    look_sound (λ o. turn_sound room n next left e ret l (within_more n e w) (subst (λ b. IsWithin (left_of b (suc n)) e) (sym one) (subst (λ i. IsWithin i e) below w)) (λ x wx. ret_sound x wx refl) (operator (suc n) o)
    (operator_level (suc n) (seen o)))

rest_sound : (b : Bool) (room n : ℕ) (next : ℕ → Parser Term) (left : ℕ) → ((left : ℕ) → Expr room left n (next left)) → is_alone (suc n) ≡ b → (e : Term) → IsWithin n e → From room left (suc n) e (rest_by b (suc n) next left e)
rest_sound true room n next left l alone e w = once_sound room n next left l alone e w
rest_sound false room n next left l alone e w = chain_sound (suc left) room n next left l alone e (within_more n e w)

climb_sound : (n room : ℕ) (first : ℕ → Parser Term) → ((left : ℕ) → Expr room left 0 (first left)) → (left : ℕ) → Expr room left n (climb n first left)
unfolding climb
climb_sound zero room first l left = l left
climb_sound (suc n) room first l left = bind_sound (climb_sound n room first l left) (λ e w. rest_sound (is_alone (suc n)) room n (climb n first) left (climb_sound n room first l) refl e w)

deeper_sound : (room : ℕ) → DeeperSound (one_less room) (deeper room)
unfolding deeper
deeper_sound zero = record { inner = λ left. stop_sound (no_operand zero left 5); operand = λ left. stop_sound (no_operand zero left 0) }
deeper_sound (suc room) =
    let l = λ (left : ℕ). operand_in_sound room (deeper room) left (deeper_sound room) in
    record { inner = climb_sound 5 room (operand_in (is_zero room) (deeper room)) l; operand = l }

pub expr_sound : (room : ℕ) → Sound (expression room) (IsWithin 5) [] (expr room)
unfolding expr
expr_sound room = climb_sound 5 room (operand room) (λ left. operand_in_sound room (deeper room) left (deeper_sound room)) 1000
