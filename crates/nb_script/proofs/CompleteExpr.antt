-- What is spelled of an expression is read.
use Rattle.std.proofs.Common.{◌≡◌, ◌≢◌, inl, inr, ℕ, zero, suc, ◌-◌, ◌≤◌, ◌<◌, Option, Some, None, Bool, true, false, List, [], ◌∷◌, ◌++◌, refl, ap, sym, subst, ◌∙◌, arith}
use Rattle.std.proofs.lemmas.Bool.Decides.{eqb_tells}
use Rattle.nb_script.specs.declared.lexeme.Symbol.TheVariants as sym'
use Rattle.nb_script.specs.declared.lexeme.Lexeme.{Lexeme}
use Rattle.nb_script.specs.declared.expr.Unary.{Unary}
use Rattle.nb_script.specs.declared.expr.Unary.TheVariants as unary
use Rattle.nb_script.specs.declared.expr.Binary.{Binary}
use Rattle.nb_script.specs.declared.expr.Constant.{Constant as ConstantWord}
use Rattle.nb_script.specs.declared.expr.Constant.TheVariants as constant
use Rattle.nb_script.specs.declared.expr.Holder.{Holder}
use Rattle.nb_script.specs.declared.expr.Holder.TheVariants as holder
use Rattle.nb_script.specs.declared.expr.Function.{Function}
use Rattle.nb_script.specs.declared.expr.Function.TheVariants as function
use Rattle.nb_script.specs.Words.{keyword_text, keyword_of}
use Rattle.nb_script.specs.Grammar.{Term, Number, Quoted, Constant, Field, Name, Call, Paren, Prefix, Infix}
use Rattle.nb_script.specs.Spelling.{is_zero, one_less, unary_symbol, binary_symbol, constant_key, holder_key, function_key, operators, spelling, expression, level, is_alone, left_of, IsName, IsWithin, symbol}
use Rattle.nb_script.specs.Reading.{Source, Parser, ret, look, ◌>>=◌, take, want_symbol, Deeper, parens, signed, call, constant_word, holder_field, operand_of, operand_in, operator, operator_of, turn, chain, once, rest_by, climb, deeper, operand, expr, seen, seen_word, key, number, quoted, name, word}
use Rattle.nb_script.specs.Reading as read
use Rattle.nb_script.proofs.Complete.{Excuse, Meets, split, Halts, Reads, Gets, ret_reads, bind_reads, bind_stops, look_reads, same_reads}
use Rattle.nb_script.proofs.OneToken.{symbol_token, word_token, past_symbol_reads, past_symbol_stops, symbol_reads, key_reads, word_reads, name_reads, number_reads, quoted_reads}
use Rattle.nb_script.proofs.Operators.{Ends, EndsAll, ends_operator, own_operator, ends_symbol, level_some, beside, left_within, right_within}

-- An expression at a level is read, where no operator follows that could go on with it.
abbrev pub Whole : Excuse → (room left n : ℕ) → (Option Lexeme → Type 0) → Parser Term → Type 0
Whole E room left n Follow p = (e : Term) → IsWithin n e → (g : Source) (k m : ℕ) → Meets E g k (spelling room left e) m → Follow (g m) → Reads E p g k e m

abbrev pub Anything : Option Lexeme → Type 0
Anything o = Unit {0}

pub record DeeperComplete (E : Excuse) (room : ℕ) (d : Deeper) : Type 0 where
  pub inner : (left : ℕ) → Whole E room left 5 EndsAll (d.inner left)
  pub operand : (left : ℕ) → Whole E room left 0 Anything (d.operand left)

-- ---- operands

closed : (q : ℕ) (g : Source) (m : ℕ) → g m ≡ Some (symbol_token sym'.Close q) → EndsAll (g m)
closed q g m at = subst EndsAll (sym at) (ends_symbol sym'.Close q refl)

inner_reads : (E : Excuse) (room left : ℕ) (d : Deeper) (made : ℕ → Term → ℕ → Term) (o q : ℕ) (e : Term) → DeeperComplete E room d → IsWithin 5 e → (g : Source) (k m : ℕ) → Meets E g k (spelling room left e ++ symbol sym'.Close q ∷ []) m
    → Reads E (d.inner left >>= λ e. read.symbol sym'.Close >>= λ q. ret (made o e q)) g k (made o e q) m
inner_reads E room left d made o q e l w g k m s =
    let parts = split E g k (spelling room left e) (symbol sym'.Close q ∷ []) m s in
    bind_reads _ (l.inner left e w g k parts.mid parts.front (closed q g parts.mid parts.back.0)) (bind_reads _ (symbol_reads sym'.Close parts.back.0) (ret_reads E _ g _ m parts.back.2))

parens_reads : (E : Excuse) (room left : ℕ) (d : Deeper) (o q : ℕ) (e : Term) → (is_zero room ≡ false → DeeperComplete E (one_less room) d) → IsWithin 5 e → (g : Source) (k m : ℕ) → Meets E g k (spelling room left (Paren o e q)) m
    → Reads E (parens (is_zero room) d left) g k (Paren o e q) m
parens_reads E zero left d o q e l w g k m s = bind_stops _ (past_symbol_stops E sym'.Open o g k s.0 (s.1 refl))
parens_reads E (suc room) left d o q e l w g k m s = bind_reads _ (past_symbol_reads E false sym'.Open o g k s.0 s.1) (inner_reads E room left d Paren o q e (l refl) w g (suc k) m s.2)

call_reads : (E : Excuse) (room left : ℕ) (d : Deeper) (p : ℕ) (f : Function) (o q : ℕ) (e : Term) → (is_zero room ≡ false → DeeperComplete E (one_less room) d) → IsWithin 5 e → (g : Source) (k m : ℕ) → Meets E g k (spelling room left (Call p f o e q)) m
    → Reads E (call (is_zero room) d left f) g k (Call p f o e q) m
unfolding call
call_reads E zero left d p f o q e l w g k m s = bind_reads _ (key_reads (function_key f) s.0) (bind_stops _ (past_symbol_stops E sym'.Open o g (suc k) s.2.0 (s.2.1 refl)))
call_reads E (suc room) left d p f o q e l w g k m s =
    bind_reads _ (key_reads (function_key f) s.0) (bind_reads _ (past_symbol_reads E false sym'.Open o g (suc k) s.2.0 s.2.1) (inner_reads E room left d (λ o e q. Call p f o e q) o q e (l refl) w g (suc (suc k)) m s.2.2))

signed_reads : (E : Excuse) (room left : ℕ) (d : Deeper) (p : ℕ) (op : Unary) (e : Term) → (is_zero room ≡ false → DeeperComplete E (one_less room) d) → IsWithin 0 e → (g : Source) (k m : ℕ) → Meets E g k (spelling room left (Prefix p op e)) m
    → Reads E (signed (is_zero room) d left op) g k (Prefix p op e) m
signed_reads E zero left d p op e l w g k m s = bind_stops _ (past_symbol_stops E (unary_symbol op) p g k s.0 (s.1 refl))
signed_reads E (suc room) left d p op e l w g k m s =
    bind_reads _ (past_symbol_reads E (is_zero left) (unary_symbol op) p g k s.0 s.1) (bind_reads _ ((l refl).operand (left - 1) e w g (suc k) m s.2 tt) (ret_reads E _ g m m refl))

constant_reads : (E : Excuse) (p : ℕ) (w : ConstantWord) (g : Source) (k m : ℕ) → g k ≡ Some (word_token (keyword_text (constant_key w)) p) → suc k ≡ m → Reads E (constant_word w) g k (Constant p w) m
unfolding constant_word
constant_reads E p w g k m at e = bind_reads _ (key_reads (constant_key w) at) (ret_reads E _ g (suc k) m e)

field_reads : (E : Excuse) (p : ℕ) (h : Holder) (d q : ℕ) (x : List ℕ) (g : Source) (k m : ℕ) → Meets E g k (spelling 0 0 (Field p h d q x)) m → Reads E (holder_field h) g k (Field p h d q x) m
unfolding holder_field
field_reads E p h d q x g k m s =
    bind_reads _ (key_reads (holder_key h) s.0) (bind_reads _ (symbol_reads sym'.Dot s.2.0) (bind_reads _ (word_reads (q, x) s.2.2.0) (ret_reads E _ g _ m s.2.2.2)))

-- as the first token is seen
at_seen : (E : Excuse) (full : Bool) (d : Deeper) (left : ℕ) (e : Term) (g : Source) (k m : ℕ) (t : Lexeme) → g k ≡ Some t → Reads E (operand_of full d left (seen (Some t))) g k e m → Reads E (operand_in full d left) g k e m
unfolding operand_in
at_seen E full d left e g k m t at h = look_reads (λ o. operand_of full d left (seen o)) (Some t) at h

seen_name : (x : List ℕ) (p : ℕ) → IsName x → seen (Some (word_token x p)) ≡ seen_word None
unfolding seen
seen_name x p free = ap seen_word free

constant_operand : (E : Excuse) (full : Bool) (d : Deeper) (left : ℕ) (p : ℕ) (w : ConstantWord) (g : Source) (k m : ℕ) → g k ≡ Some (word_token (keyword_text (constant_key w)) p) → suc k ≡ m → Reads E (operand_in full d left) g k (Constant p w) m
unfolding seen keyword_of
constant_operand E full d left p constant.True g k m at e = at_seen E full d left _ g k m _ at (constant_reads E p constant.True g k m at e)
constant_operand E full d left p constant.False g k m at e = at_seen E full d left _ g k m _ at (constant_reads E p constant.False g k m at e)
constant_operand E full d left p constant.Retries g k m at e = at_seen E full d left _ g k m _ at (constant_reads E p constant.Retries g k m at e)
constant_operand E full d left p constant.Now g k m at e = at_seen E full d left _ g k m _ at (constant_reads E p constant.Now g k m at e)
constant_operand E full d left p constant.Sent g k m at e = at_seen E full d left _ g k m _ at (constant_reads E p constant.Sent g k m at e)
constant_operand E full d left p constant.Id g k m at e = at_seen E full d left _ g k m _ at (constant_reads E p constant.Id g k m at e)

field_operand : (E : Excuse) (full : Bool) (d : Deeper) (left p : ℕ) (h : Holder) (u q : ℕ) (x : List ℕ) (g : Source) (k m : ℕ) → Meets E g k (spelling 0 0 (Field p h u q x)) m → Reads E (operand_in full d left) g k (Field p h u q x) m
unfolding seen keyword_of
field_operand E full d left p holder.Message u q x g k m s = at_seen E full d left _ g k m _ s.0 (field_reads E p holder.Message u q x g k m s)
field_operand E full d left p holder.Saga u q x g k m s = at_seen E full d left _ g k m _ s.0 (field_reads E p holder.Saga u q x g k m s)

call_operand : (E : Excuse) (room left : ℕ) (d : Deeper) (p : ℕ) (f : Function) (o q : ℕ) (e : Term) (g : Source) (k m : ℕ) → g k ≡ Some (word_token (keyword_text (function_key f)) p)
    → Reads E (call (is_zero room) d left f) g k (Call p f o e q) m → Reads E (operand_in (is_zero room) d left) g k (Call p f o e q) m
unfolding seen keyword_of
call_operand E room left d p function.Row o q e g k m at h = at_seen E (is_zero room) d left _ g k m _ at h
call_operand E room left d p function.Has o q e g k m at h = at_seen E (is_zero room) d left _ g k m _ at h
call_operand E room left d p function.Text o q e g k m at h = at_seen E (is_zero room) d left _ g k m _ at h
call_operand E room left d p function.Len o q e g k m at h = at_seen E (is_zero room) d left _ g k m _ at h

sign_operand : (E : Excuse) (room left : ℕ) (d : Deeper) (p : ℕ) (op : Unary) (e : Term) (g : Source) (k m : ℕ) → g k ≡ Some (symbol_token (unary_symbol op) p)
    → Reads E (signed (is_zero room) d left op) g k (Prefix p op e) m → Reads E (operand_in (is_zero room) d left) g k (Prefix p op e) m
unfolding seen
sign_operand E room left d p unary.Negative e g k m at h = at_seen E (is_zero room) d left _ g k m _ at h
sign_operand E room left d p unary.Not e g k m at h = at_seen E (is_zero room) d left _ g k m _ at h

operand_complete : (E : Excuse) (room left : ℕ) (d : Deeper) → (is_zero room ≡ false → DeeperComplete E (one_less room) d) → Whole E room left 0 Anything (operand_in (is_zero room) d left)
unfolding seen
operand_complete E room left d l (Number p n) w g k m s ends = at_seen E (is_zero room) d left _ g k m _ s.0 (bind_reads _ (number_reads (p, n) s.0) (ret_reads E _ g _ m s.2))
operand_complete E room left d l (Quoted p t) w g k m s ends = at_seen E (is_zero room) d left _ g k m _ s.0 (bind_reads _ (quoted_reads (p, t) s.0) (ret_reads E _ g _ m s.2))
operand_complete E room left d l (Constant p x) w g k m s ends = constant_operand E (is_zero room) d left p x g k m s.0 s.2
operand_complete E room left d l (Field p h u q x) w g k m s ends = field_operand E (is_zero room) d left p h u q x g k m s
operand_complete E room left d l (Name p x) w g k m s ends =
    at_seen E (is_zero room) d left _ g k m _ s.0 (subst (λ v. Reads E (operand_of (is_zero room) d left v) g k (Name p x) m) (sym (seen_name x p w)) (bind_reads _ (name_reads (p, x) w s.0) (ret_reads E _ g _ m s.2)))
operand_complete E room left d l (Call p f o e q) w g k m s ends = call_operand E room left d p f o q e g k m s.0 (call_reads E room left d p f o q e l w g k m s)
operand_complete E room left d l (Paren o e q) w g k m s ends = at_seen E (is_zero room) d left _ g k m _ s.0 (parens_reads E room left d o q e l w g k m s)
operand_complete E room left d l (Prefix p op e) w g k m s ends = sign_operand E room left d p op e g k m s.0 (signed_reads E room left d p op e l w g k m s)
operand_complete E room left d l (Infix a p op b) w g k m s ends = let le : level op ≤ 0 = w.0 in let some : 0 < level op = level_some op in absurd (omega arith)

-- ---- operators

-- where an operator follows
turn_reads : (E : Excuse) (room n : ℕ) (next : ℕ → Parser Term) (left : ℕ) (a : Term) (p : ℕ) (op : Binary) (b : Term) (again : Term → Parser Term) (g : Source) (k m : ℕ) (r : Term) (last : ℕ)
    → Meets E g k (record { lexeme = symbol_token (binary_symbol op) p; past = is_zero (left - operators a) } ∷ spelling room (left - operators a - 1) b) m
    → (next_reads : Reads E (next (left - operators a - 1)) g (suc k) b m) → (is_zero (left - operators a) ≡ false → Reads E (again (Infix a p op b)) g m r last) → (z : Bool) → is_zero (left - operators a) ≡ z
    → Reads E (turn next left a again (Some op)) g k r last
turn_reads E room n next left a p op b again g k m r last s h goes true z =
    let x : is_zero (left - operators a) ≡ true = z in
    bind_stops _ (subst (λ y. Halts E (take y (want_symbol (binary_symbol op))) g k) (sym x) (past_symbol_stops E (binary_symbol op) p g k s.0 (s.1 x)))
turn_reads E room n next left a p op b again g k m r last s h goes false z =
    bind_reads _ (past_symbol_reads E (is_zero (left - operators a)) (binary_symbol op) p g k s.0 s.1) (bind_reads _ h (goes z))

not_zero : (n : ℕ) → is_zero n ≡ false → 0 < n
not_zero zero e = cc
not_zero (suc n) e = omega arith

-- where no operator follows
chain_ends : (E : Excuse) (turns n : ℕ) (next : ℕ → Parser Term) (left : ℕ) (e : Term) (g : Source) (k : ℕ) → operator n (g k) ≡ None → Reads E (chain (suc turns) n next left e) g k e k
unfolding chain
chain_ends E turns n next left e g k none = Gets (ap (λ o. turn next left e (chain turns n next left) o g k) none)

chain_goes : (E : Excuse) (turns n : ℕ) (next : ℕ → Parser Term) (left : ℕ) (e : Term) (op : Binary) (g : Source) (k : ℕ) (r : Term) (last : ℕ) → operator n (g k) ≡ Some op → Reads E (turn next left e (chain turns n next left) (Some op)) g k r last
    → Reads E (chain (suc turns) n next left e) g k r last
unfolding chain
chain_goes E turns n next left e op g k r last seen h = same_reads E (chain (suc turns) n next left e) (turn next left e (chain turns n next left) (Some op)) g k k r last (ap (λ o. turn next left e (chain turns n next left) o g k) seen) h

once_ends : (E : Excuse) (n : ℕ) (next : ℕ → Parser Term) (left : ℕ) (e : Term) (g : Source) (k : ℕ) → operator n (g k) ≡ None → Reads E (once n next left e) g k e k
unfolding once
once_ends E n next left e g k none = Gets (ap (λ o. turn next left e ret o g k) none)

once_goes : (E : Excuse) (n : ℕ) (next : ℕ → Parser Term) (left : ℕ) (e : Term) (op : Binary) (g : Source) (k : ℕ) (r : Term) (last : ℕ) → operator n (g k) ≡ Some op → Reads E (turn next left e ret (Some op)) g k r last → Reads E (once n next left e) g k r last
unfolding once
once_goes E n next left e op g k r last seen h = same_reads E (once n next left e) (turn next left e ret (Some op)) g k k r last (ap (λ o. turn next left e ret o g k) seen) h

climb_step : (E : Excuse) (n : ℕ) (first : ℕ → Parser Term) (left : ℕ) (g : Source) (k : ℕ) (e : Term) (m : ℕ) (r : Term) (last : ℕ) → Reads E (climb n first left) g k e m → (b : Bool) → is_alone (suc n) ≡ b
    → Reads E (rest_by b (suc n) (climb n first) left e) g m r last → Reads E (climb (suc n) first left) g k r last
unfolding climb
climb_step E n first left g k e m r last h b alone rest = bind_reads _ h (subst (λ b. Reads E (rest_by b (suc n) (climb n first) left e) g m r last) (sym alone) rest)

-- what is read at a level, for each number of operators
abbrev Level : Excuse → (room n : ℕ) → (ℕ → Parser Term) → Type 0
Level E room n p = (left : ℕ) → Whole E room left n (Ends n) (p left)

ends_less : (n : ℕ) (o : Option Lexeme) → Ends (suc n) o → Ends n o
ends_less n o ends i le = ends i (omega arith)

-- an operator of its own level, between its parts
pub record IsOwn (n : ℕ) (a : Term) (op : Binary) (b : Term) : Type 0 where
  pub level_is : level op ≡ suc n
  pub left_in : IsWithin (beside n) a
  pub right_in : IsWithin n b

own : (n : ℕ) (a : Term) (p : ℕ) (op : Binary) (b : Term) → IsWithin (suc n) (Infix a p op b) → level op ≡ suc n → IsOwn n a op b
own n a p op b w e = record { level_is = e; left_in = left_within n a op e w.1; right_in = right_within n b op e w.2 }

lower : (n : ℕ) (a : Term) (p : ℕ) (op : Binary) (b : Term) → IsWithin (suc n) (Infix a p op b) → level op ≢ suc n → IsWithin n (Infix a p op b)
lower n a p op b w ne = let le : level op ≤ suc n = w.0 in ((omega arith), w.1, w.2)

-- An expression of a level leads to what goes on from it.
abbrev Leads : Excuse → (room n : ℕ) → (ℕ → Parser Term) → (left : ℕ) → Term → Type 0
Leads E room n first left e =
    (g : Source) (k m : ℕ) (r : Term) (last : ℕ) → Meets E g k (spelling room left e) m → Ends n (g m)
    → ((turns : ℕ) → left - operators e < turns → Reads E (chain turns (suc n) (climb n first) left e) g m r last) → Reads E (climb (suc n) first left) g k r last

leads_below : (E : Excuse) (room n : ℕ) (first : ℕ → Parser Term) (left : ℕ) (e : Term) → Level E room n (climb n first) → is_alone (suc n) ≡ false → IsWithin n e → Leads E room n first left e
leads_below E room n first left e l more w g k m r last s ends goes = climb_step E n first left g k e m r last (l left e w g k m s ends) false more (goes (suc left) (omega arith))

go_on : (E : Excuse) (room n : ℕ) (first : ℕ → Parser Term) (left : ℕ) (a : Term) (p : ℕ) (op : Binary) (b : Term) → Level E room n (climb n first) → IsOwn n a op b → (turns : ℕ) → left - operators a < turns
    → (g : Source) (k m : ℕ) (r : Term) (last : ℕ) → Meets E g k (record { lexeme = symbol_token (binary_symbol op) p; past = is_zero (left - operators a) } ∷ spelling room (left - operators a - 1) b) m → Ends n (g m)
    → ((turns : ℕ) → left - operators (Infix a p op b) < turns → Reads E (chain turns (suc n) (climb n first) left (Infix a p op b)) g m r last) → Reads E (chain turns (suc n) (climb n first) left a) g k r last
go_on E room n first left a p op b l is zero lt g k m r last s ends goes = absurd (omega arith)
go_on E room n first left a p op b l is (suc turns) lt g k m r last s ends goes =
    let seen : operator (suc n) (g k) ≡ Some op = ap (operator (suc n)) s.0 ∙ own_operator op (suc n) p is.level_is in
    let right = l (left - operators a - 1) b is.right_in g (suc k) m s.2 ends in
    chain_goes E turns (suc n) (climb n first) left a op g k r last seen
    (turn_reads E room n (climb n first) left a p op b (chain turns (suc n) (climb n first) left) g k m r last s right
    (λ room_left. (let some : 0 < left - operators a = not_zero (left - operators a) room_left in goes turns (omega arith))) (is_zero (left - operators a)) refl)

leads : (E : Excuse) (room n : ℕ) (first : ℕ → Parser Term) (left : ℕ) → Level E room n (climb n first) → is_alone (suc n) ≡ false → (e : Term) → IsWithin (suc n) e → Leads E room n first left e
leads E room n first left l more (Number p v) w = leads_below E room n first left (Number p v) l more w
leads E room n first left l more (Quoted p v) w = leads_below E room n first left (Quoted p v) l more w
leads E room n first left l more (Constant p v) w = leads_below E room n first left (Constant p v) l more w
leads E room n first left l more (Field p h d q x) w = leads_below E room n first left (Field p h d q x) l more w
leads E room n first left l more (Name p v) w = leads_below E room n first left (Name p v) l more w
leads E room n first left l more (Call p f o e q) w = leads_below E room n first left (Call p f o e q) l more w
leads E room n first left l more (Paren o e q) w = leads_below E room n first left (Paren o e q) l more w
leads E room n first left l more (Prefix p op e) w = leads_below E room n first left (Prefix p op e) l more w
leads E room n first left l more (Infix a p op b) w = elim (eqb_tells (level op) (suc n)) [
  | inl h ↦ (λ g k m r last s ends goes. (
      let is = own n a p op b w h.1 in
      let parts = split E g k (spelling room left a) _ m s in
      let stop : Ends n (g parts.mid) = subst (Ends n) (sym parts.back.0) (ends_operator op n p h.1) in
      leads E room n first left l more a (subst (λ b. IsWithin (left_of b (suc n)) a) more is.left_in) g k parts.mid r last parts.front stop
      (λ turns lt. go_on E room n first left a p op b l is turns lt g parts.mid m r last parts.back ends goes)))
  | inr h ↦ leads_below E room n first left (Infix a p op b) l more (lower n a p op b w h.1)
]

chain_last : (E : Excuse) (turns n : ℕ) (first : ℕ → Parser Term) (left : ℕ) (e : Term) (g : Source) (m : ℕ) → left - operators e < turns → operator (suc n) (g m) ≡ None → Reads E (chain turns (suc n) (climb n first) left e) g m e m
chain_last E zero n first left e g m lt none = absurd (omega arith)
chain_last E (suc turns) n first left e g m lt none = chain_ends E turns (suc n) (climb n first) left e g m none

alone_below : (E : Excuse) (room n : ℕ) (first : ℕ → Parser Term) (left : ℕ) → Level E room n (climb n first) → is_alone (suc n) ≡ true → (e : Term) → IsWithin n e → (g : Source) (k m : ℕ) → Meets E g k (spelling room left e) m → Ends (suc n) (g m)
    → Reads E (climb (suc n) first left) g k e m
alone_below E room n first left l alone e w g k m s ends =
    climb_step E n first left g k e m e m (l left e w g k m s (ends_less n (g m) ends)) true alone (once_ends E (suc n) (climb n first) left e g m (ends (suc n) (omega arith)))

alone_reads : (E : Excuse) (room n : ℕ) (first : ℕ → Parser Term) (left : ℕ) → Level E room n (climb n first) → is_alone (suc n) ≡ true → (e : Term) → IsWithin (suc n) e → (g : Source) (k m : ℕ) → Meets E g k (spelling room left e) m → Ends (suc n) (g m)
    → Reads E (climb (suc n) first left) g k e m
alone_reads E room n first left l alone (Number p v) w = alone_below E room n first left l alone (Number p v) w
alone_reads E room n first left l alone (Quoted p v) w = alone_below E room n first left l alone (Quoted p v) w
alone_reads E room n first left l alone (Constant p v) w = alone_below E room n first left l alone (Constant p v) w
alone_reads E room n first left l alone (Field p h d q x) w = alone_below E room n first left l alone (Field p h d q x) w
alone_reads E room n first left l alone (Name p v) w = alone_below E room n first left l alone (Name p v) w
alone_reads E room n first left l alone (Call p f o e q) w = alone_below E room n first left l alone (Call p f o e q) w
alone_reads E room n first left l alone (Paren o e q) w = alone_below E room n first left l alone (Paren o e q) w
alone_reads E room n first left l alone (Prefix p op e) w = alone_below E room n first left l alone (Prefix p op e) w
alone_reads E room n first left l alone (Infix a p op b) w = elim (eqb_tells (level op) (suc n)) [
  | inl h ↦ (λ g k m s ends. (
      let is = own n a p op b w h.1 in
      let parts = split E g k (spelling room left a) _ m s in
      let stop : Ends n (g parts.mid) = subst (Ends n) (sym parts.back.0) (ends_operator op n p h.1) in
      let below : suc n - 1 ≡ n = omega arith in
      let in_left : IsWithin n a = subst (λ i. IsWithin i a) below (subst (λ b. IsWithin (left_of b (suc n)) a) alone is.left_in) in
      let seen : operator (suc n) (g parts.mid) ≡ Some op = ap (operator (suc n)) parts.back.0 ∙ own_operator op (suc n) p is.level_is in
      let right = l (left - operators a - 1) b is.right_in g (suc parts.mid) m parts.back.2 (ends_less n (g m) ends) in
      climb_step E n first left g k a parts.mid (Infix a p op b) m (l left a in_left g k parts.mid parts.front stop) true alone
      (once_goes E (suc n) (climb n first) left a op g parts.mid (Infix a p op b) m seen
      (turn_reads E room n (climb n first) left a p op b ret g parts.mid m (Infix a p op b) m parts.back right (λ z. ret_reads E (Infix a p op b) g m m refl) (is_zero (left - operators a)) refl))))
  | inr h ↦ alone_below E room n first left l alone (Infix a p op b) (lower n a p op b w h.1)
]

next_level : (E : Excuse) (room n : ℕ) (first : ℕ → Parser Term) → Level E room n (climb n first) → (alone : Bool) → is_alone (suc n) ≡ alone → Level E room (suc n) (climb (suc n) first)
next_level E room n first l false more left e w g k m s ends =
    leads E room n first left l more e w g k m e m s (ends_less n (g m) ends) (λ turns lt. chain_last E turns n first left e g m lt (ends (suc n) (omega arith)))
next_level E room n first l true alone left e w g k m s ends = alone_reads E room n first left l alone e w g k m s ends

climb_complete : (E : Excuse) (n room : ℕ) (first : ℕ → Parser Term) → ((left : ℕ) → Whole E room left 0 Anything (first left)) → Level E room n (climb n first)
unfolding climb
climb_complete E zero room first l left e w g k m s ends = l left e w g k m s tt
climb_complete E (suc n) room first l left e w g k m s ends = next_level E room n first (climb_complete E n room first l) (is_alone (suc n)) refl left e w g k m s ends

deeper_complete : (E : Excuse) (room : ℕ) → is_zero room ≡ false → DeeperComplete E (one_less room) (deeper room)
unfolding deeper
deeper_complete E zero none = cc
deeper_complete E (suc room) some =
    let l = λ (left : ℕ). operand_complete E room left (deeper room) (deeper_complete E room) in
    record { inner = λ left e w g k m s ends. climb_complete E 5 room (operand room) l left e w g k m s (λ i le. ends i); operand = l }

pub expr_complete : (E : Excuse) (room : ℕ) → (e : Term) → IsWithin 5 e → (g : Source) (k m : ℕ) → Meets E g k (expression room e) m → EndsAll (g m) → Reads E (expr room) g k e m
unfolding expr
expr_complete E room e w g k m s ends = climb_complete E 5 room (operand room) (λ left. operand_complete E room left (deeper room) (deeper_complete E room)) 1000 e w g k m s (λ i le. ends i)
