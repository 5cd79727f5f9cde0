-- What is read of statements and items is explained by them.
use Rattle.std.proofs.Common.{◌≡◌, ℕ, zero, suc, Option, Some, None, Bool, true, false, List, [], ◌∷◌, ◌++◌, pos, refl, ap, sym, ◌∙◌, append_assoc}
use Rattle.nb_script.specs.declared.lexeme.Keyword.{Keyword}
use Rattle.nb_script.specs.declared.lexeme.Keyword.TheVariants as k
use Rattle.nb_script.specs.declared.lexeme.Symbol.TheVariants as sym'
use Rattle.nb_script.specs.declared.lexeme.Content.TheVariants as c
use Rattle.nb_script.specs.declared.lexeme.Seen.{Seen}
use Rattle.nb_script.specs.declared.lexeme.Seen.TheVariants as see
use Rattle.nb_script.specs.declared.stmt.Destination.{Destination}
use Rattle.nb_script.specs.declared.stmt.Destination.TheVariants as destination
use Rattle.nb_script.specs.declared.stmt.Refusal.{Refusal}
use Rattle.nb_script.specs.declared.stmt.Refusal.TheVariants as refusal
use Rattle.nb_script.specs.Words.{keyword_text}
use Rattle.nb_script.specs.Grammar.{Number, AfterTerm}
use Rattle.nb_script.specs.Grammar.{Phrase, Let, Set, Put, Add, Erase, Send, Publish, Reply, Timeout, Complete, Refuse, If, Nil, Brace, Nothing, Last, Chain}
use Rattle.nb_script.specs.Spelling as spell
use Rattle.nb_script.specs.Spelling.{Mark, each, Every, Strung, Always, is_zero, one_less, IsName, IsWithin, IsDotted, IsTypeName, IsArg, IsMake, IsRowName, IsDelay, IsStatement, AreStatements, IsBlock, IsAlternative, IsPart, IsSaga, IsItem, arg_goes_on, message_field_goes_on, saga_field_goes_on, destination_key, refusal_key, kind_key, truth_key, finder_key, answer_key}
use Rattle.nb_script.specs.Reading.{Parser, always, closes, seen}
use Rattle.nb_script.specs.ReadingScript as read
use Rattle.nb_script.specs.ReadingScript.{in_row, Branch, Inside}
use Rattle.nb_script.proofs.Laws.{Sound, Extends, ret_sound, stop_sound, look_sound, bind_sound, many_sound}
use Rattle.nb_script.proofs.OneToken.{past_symbol_sound, past_word_sound, symbol_sound, key_sound, word_sound, name_sound}
use Rattle.nb_script.proofs.SoundExpr.{expr_sound}

pub strung_every : {A : Type 0} (P : A → Type 0) (xs : List A) → Strung always P xs → Every P xs
strung_every P [] s = tt
strung_every P (x ∷ xs) s = (s.0, strung_every P xs s.2)

-- ---- types, and messages that are made

dotted_sound : Sound spell.dotted IsDotted [] read.dotted
unfolding read.dotted
dotted_sound = bind_sound (symbol_sound sym'.Dot) (λ d u. bind_sound name_sound (λ n free. ret_sound (record { dot_at = d; at = n.0; name = n.1 }) free refl))

pub type_name_sound : (lines : ℕ) → Sound spell.type_name IsTypeName [] (read.type_name lines)
unfolding read.type_name
type_name_sound lines = bind_sound name_sound (λ n free. bind_sound (many_sound lines read.no_dot always dotted_sound) (λ ds all. ret_sound (record { at = n.0; name = n.1; others = ds }) (free, strung_every IsDotted ds all) refl))

comma_by_sound : (b : Bool) → Sound spell.comma Always [] (read.comma_by b)
comma_by_sound true = bind_sound (symbol_sound sym'.Comma) (λ p u. ret_sound (Some p) tt refl)
comma_by_sound false = ret_sound None tt refl

pub comma_sound : Sound spell.comma Always [] read.comma
unfolding read.comma
comma_sound = look_sound (λ o. comma_by_sound (read.is_comma (seen o)))

arg_sound : (room : ℕ) → Sound (spell.arg room) IsArg [] (read.arg room)
unfolding read.arg
arg_sound room =
    bind_sound word_sound (λ n u. bind_sound (symbol_sound sym'.Colon) (λ c v. bind_sound (expr_sound room) (λ e fits. bind_sound comma_sound (λ q w.
    ret_sound (record { at = n.0; name = n.1; colon_at = c; value = e; comma_at = q }) fits refl))))

pub make_sound : (lines room : ℕ) → Sound (spell.make room) IsMake [] (read.make lines room)
unfolding read.make
make_sound lines room =
    bind_sound (type_name_sound lines) (λ t ft. bind_sound (symbol_sound sym'.OpenBrace) (λ o u. bind_sound (many_sound lines closes arg_goes_on (arg_sound room)) (λ xs fits. bind_sound (symbol_sound sym'.CloseBrace) (λ q v.
    ret_sound (record { name = t; open_at = o; args = xs; close_at = q }) (record { name = ft; args = fits })
    (sym (append_assoc (spell.type_name t ++ _ ∷ []) (each (spell.arg room) xs) _ ∙ append_assoc (spell.type_name t) (_ ∷ []) _))))))

-- ---- statements

row_sound : (room : ℕ) → Sound (spell.row_name room) IsRowName [] (read.row_name room)
unfolding read.row_name
row_sound room =
    bind_sound (key_sound k.Row) (λ p t. bind_sound (symbol_sound sym'.Open) (λ o u. bind_sound (expr_sound room) (λ e fits. bind_sound (symbol_sound sym'.Close) (λ q v.
    ret_sound (record { at = p; open_at = o; name = e; close_at = q }) fits refl))))

abbrev Reads : (room : ℕ) → Parser Phrase → Type 0
Reads room p = Sound (spell.statement room) IsStatement [] p

let_sound : (room : ℕ) → Reads room (read.let_statement room)
unfolding read.let_statement
let_sound room =
    bind_sound (key_sound k.Let) (λ p t. bind_sound name_sound (λ n free. bind_sound (symbol_sound sym'.Assign) (λ u v. bind_sound (expr_sound room) (λ e fits. bind_sound (symbol_sound sym'.Semi) (λ s w.
    ret_sound (Let p n.0 n.1 u e s) (free, fits) refl)))))

set_sound : (room : ℕ) → Reads room (read.set_statement room)
unfolding read.set_statement
set_sound room =
    bind_sound (key_sound k.Set) (λ p t. bind_sound word_sound (λ n free. bind_sound (symbol_sound sym'.Assign) (λ u v. bind_sound (expr_sound room) (λ e fits. bind_sound (symbol_sound sym'.Semi) (λ s w.
    ret_sound (Set p n.0 n.1 u e s) fits refl)))))

-- four rows of tokens, of which the second and the fourth are single ones
four : (a xs : List Mark) (b : Mark) (ys cs : List Mark) → (((a ++ xs) ++ b ∷ []) ++ ys) ++ cs ≡ a ++ (xs ++ b ∷ (ys ++ cs))
four a xs b ys cs = append_assoc ((a ++ xs) ++ b ∷ []) ys cs ∙ append_assoc (a ++ xs) (b ∷ []) (ys ++ cs) ∙ append_assoc a xs (b ∷ (ys ++ cs))

put_sound : (room : ℕ) → Reads room (read.put_statement room)
unfolding read.put_statement
put_sound room =
    bind_sound (key_sound k.Put) (λ p t. bind_sound (row_sound room) (λ r fr. bind_sound (symbol_sound sym'.Assign) (λ u v. bind_sound (expr_sound room) (λ e fits. bind_sound (symbol_sound sym'.Semi) (λ s w.
    ret_sound (Put p r u e s) (fr, fits) (sym (four (spell.key k.Put p ∷ []) (spell.row_name room r) _ (spell.expression room e) _)))))))

add_sound : (room : ℕ) → Reads room (read.add_statement room)
unfolding read.add_statement
add_sound room =
    bind_sound (key_sound k.Add) (λ p t. bind_sound (row_sound room) (λ r fr. bind_sound (key_sound k.By) (λ u v. bind_sound (expr_sound room) (λ e fits. bind_sound (symbol_sound sym'.Semi) (λ s w.
    ret_sound (Add p r u e s) (fr, fits) (sym (four (spell.key k.Add p ∷ []) (spell.row_name room r) _ (spell.expression room e) _)))))))

erase_sound : (room : ℕ) → Reads room (read.erase_statement room)
unfolding read.erase_statement
erase_sound room = bind_sound (key_sound k.Erase) (λ p t. bind_sound (row_sound room) (λ r fr. bind_sound (symbol_sound sym'.Semi) (λ s w. ret_sound (Erase p r s) fr refl)))

-- behind some tokens: a key, a row and a last one
three : (a b xs cs : List Mark) → ((a ++ b) ++ xs) ++ cs ≡ a ++ (b ++ (xs ++ cs))
three a b xs cs = append_assoc (a ++ b) xs cs ∙ append_assoc a b (xs ++ cs)

sent_sound : (lines room : ℕ) (a : Option AfterTerm) → IsDelay a → (to : Destination) → Sound (spell.statement room) IsStatement (spell.delay room a) (read.sent lines room a to)
unfolding read.sent
sent_sound lines room a fa to =
    bind_sound (key_sound (destination_key to)) (λ p t. bind_sound (make_sound lines room) (λ m fm. bind_sound (symbol_sound sym'.Semi) (λ s w.
    ret_sound (Send a p to m s) (fa, fm) (sym (three (spell.delay room a) (spell.key (destination_key to) p ∷ []) (spell.make room m) _)))))

some_sent : (lines room : ℕ) (a : Option AfterTerm) → IsDelay a → Extends (spell.statement room) IsStatement (spell.delay room a)
some_sent lines room a fa = (sent_sound lines room a fa destination.Route).extends

sent_by_sound : (lines room : ℕ) (a : Option AfterTerm) → IsDelay a → (s : Seen) → Sound (spell.statement room) IsStatement (spell.delay room a) (read.sent_by lines room a s)
sent_by_sound lines room a fa (see.Key k.Send) = sent_sound lines room a fa destination.Route
sent_by_sound lines room a fa (see.Key k.Local) = sent_sound lines room a fa destination.Local
sent_by_sound lines room a fa _ = stop_sound (some_sent lines room a fa)

abbrev after_marks : (room : ℕ) → AfterTerm → List Mark
after_marks room a = spell.delay room (Some a)

after_sound : (room : ℕ) → Sound (after_marks room) (λ a. IsWithin 5 a.delay) [] (read.after room)
unfolding read.after
after_sound room = bind_sound (key_sound k.After) (λ p t. bind_sound (expr_sound room) (λ e fits. ret_sound (record { at = p; delay = e }) fits refl))

after_statement_sound : (lines room : ℕ) → Reads room (read.after_statement lines room)
unfolding read.after_statement
after_statement_sound lines room = bind_sound (after_sound room) (λ a fits. look_sound (λ o. sent_by_sound lines room (Some a) fits (seen o)))

publish_sound : (lines room : ℕ) → Reads room (read.publish_statement lines room)
unfolding read.publish_statement
publish_sound lines room = bind_sound (key_sound k.Publish) (λ p t. bind_sound (make_sound lines room) (λ m fm. bind_sound (symbol_sound sym'.Semi) (λ s w. ret_sound (Publish p m s) fm refl)))

originator_by_sound : (s : Seen) → Sound spell.originator Always [] (read.originator_by s)
originator_by_sound (see.Key k.Originator) = bind_sound (key_sound k.Originator) (λ p t. ret_sound (Some p) tt refl)
originator_by_sound _ = ret_sound None tt refl

originator_sound : Sound spell.originator Always [] read.originator
unfolding read.originator
originator_sound = look_sound (λ o. originator_by_sound (seen o))

reply_sound : (lines room : ℕ) → Reads room (read.reply_statement lines room)
unfolding read.reply_statement
reply_sound lines room =
    bind_sound (key_sound k.Reply) (λ p t. bind_sound originator_sound (λ o u. bind_sound (make_sound lines room) (λ m fm. bind_sound (symbol_sound sym'.Semi) (λ s w.
    ret_sound (Reply p o m s) fm (sym (three (spell.key k.Reply p ∷ []) (spell.originator o) (spell.make room m) _))))))

timeout_sound : (lines room : ℕ) → Reads room (read.timeout_statement lines room)
unfolding read.timeout_statement
timeout_sound lines room =
    bind_sound (key_sound k.Timeout) (λ p t. bind_sound (expr_sound room) (λ e fits. bind_sound (make_sound lines room) (λ m fm. bind_sound (symbol_sound sym'.Semi) (λ s w.
    ret_sound (Timeout p e m s) (fits, fm) (sym (three (spell.key k.Timeout p ∷ []) (spell.expression room e) (spell.make room m) _))))))

complete_sound : (room : ℕ) → Reads room read.complete_statement
unfolding read.complete_statement
complete_sound room = bind_sound (key_sound k.Complete) (λ p t. bind_sound (symbol_sound sym'.Semi) (λ s w. ret_sound (Complete p s) tt refl))

refuse_sound : (room : ℕ) (r : Refusal) → Reads room (read.refuse_statement room r)
unfolding read.refuse_statement
refuse_sound room r =
    bind_sound (key_sound (refusal_key r)) (λ p t. bind_sound name_sound (λ n free. bind_sound (expr_sound room) (λ e fits. bind_sound (symbol_sound sym'.Semi) (λ s w.
    ret_sound (Refuse p r n.0 n.1 e s) (free, fits) refl))))

-- ---- blocks

row_marks : (room : ℕ) (xs : List Phrase) → spell.statements room (in_row xs) ≡ each (spell.statement room) xs
row_marks room [] = refl
row_marks room (x ∷ xs) = ap (λ ys. spell.statement room x ++ ys) (row_marks room xs)

row_fits : (xs : List Phrase) → Strung always IsStatement xs → AreStatements (in_row xs)
row_fits [] s = tt
row_fits (x ∷ xs) s = (s.0, row_fits xs s.2)

abbrev branch_marks : (room : ℕ) → Branch → List Mark
branch_marks room b = spell.expression room b.test ++ (spell.block room b.block ++ spell.alternative room b.otherwise)

abbrev IsBranch : Branch → Type 0
IsBranch b = IsWithin 5 b.test × IsBlock b.block × IsAlternative b.otherwise

pub record InsideSound (room : ℕ) (i : Inside) : Type 0 where
  pub body : Sound (each (spell.statement room)) (Strung always IsStatement) [] i.body
  pub branch : Sound (branch_marks room) IsBranch [] i.branch

pub block_sound : (room : ℕ) (i : Inside) → InsideSound (one_less room) i → Sound (spell.block room) IsBlock [] (read.block room i)
unfolding read.block
block_sound room i l =
    bind_sound (past_symbol_sound (is_zero room) sym'.OpenBrace) (λ o t. bind_sound l.body (λ xs fits. bind_sound (symbol_sound sym'.CloseBrace) (λ q u.
    ret_sound (Brace o (in_row xs) q) (row_fits xs fits) (ap (λ ys. spell.marked (is_zero room) (c.Symbol sym'.OpenBrace) o ∷ (ys ++ spell.symbol sym'.CloseBrace q ∷ [])) (row_marks (one_less room) xs)))))

else_if_sound : (room : ℕ) (i : Inside) → InsideSound (one_less room) i → (p : ℕ) → Sound (spell.alternative room) IsAlternative (spell.key k.Else p ∷ []) (read.else_if room i p)
unfolding read.else_if
else_if_sound room i l p = bind_sound (past_word_sound (is_zero room) (keyword_text k.If)) (λ q t. bind_sound l.branch (λ b fits. ret_sound (Chain p q b.test b.block b.otherwise) fits refl))

else_block_sound : (room : ℕ) (i : Inside) → InsideSound (one_less room) i → (p : ℕ) → Sound (spell.alternative room) IsAlternative (spell.key k.Else p ∷ []) (read.else_block room i p)
unfolding read.else_block
else_block_sound room i l p = bind_sound (block_sound room i l) (λ b fits. ret_sound (Last p b) fits refl)

else_by_sound : (room : ℕ) (i : Inside) → InsideSound (one_less room) i → (p : ℕ) (s : Seen) → Sound (spell.alternative room) IsAlternative (spell.key k.Else p ∷ []) (read.else_by room i p s)
else_by_sound room i l p (see.Key k.If) = else_if_sound room i l p
else_by_sound room i l p _ = else_block_sound room i l p

alternative_by_sound : (room : ℕ) (i : Inside) → InsideSound (one_less room) i → (s : Seen) → Sound (spell.alternative room) IsAlternative [] (read.alternative_by room i s)
alternative_by_sound room i l (see.Key k.Else) = bind_sound (key_sound k.Else) (λ p t. look_sound (λ o. else_by_sound room i l p (seen o)))
alternative_by_sound room i l _ = ret_sound Nothing tt refl

alternative_sound : (room : ℕ) (i : Inside) → InsideSound (one_less room) i → Sound (spell.alternative room) IsAlternative [] (read.alternative room i)
unfolding read.alternative
alternative_sound room i l = look_sound (λ o. alternative_by_sound room i l (seen o))

branch_sound : (room : ℕ) (i : Inside) → InsideSound (one_less room) i → Sound (branch_marks room) IsBranch [] (read.branch room i)
unfolding read.branch
branch_sound room i l =
    bind_sound (expr_sound room) (λ e fe. bind_sound (block_sound room i l) (λ b fb. bind_sound (alternative_sound room i l) (λ o fo.
    ret_sound (record { test = e; block = b; otherwise = o }) (fe, fb, fo) (sym (append_assoc (spell.expression room e) (spell.block room b) (spell.alternative room o))))))

if_sound : (room : ℕ) (i : Inside) → InsideSound (one_less room) i → Reads room (read.if_statement room i)
unfolding read.if_statement
if_sound room i l = bind_sound (key_sound k.If) (λ p t. bind_sound (branch_sound room i l) (λ b fits. ret_sound (If p b.test b.block b.otherwise) fits refl))

no_statement : (room : ℕ) → Extends (spell.statement room) IsStatement []
no_statement room = record { whole = Complete 0 0; more = spell.statement room (Complete 0 0); fits = tt; spelled = refl }

statement_of_sound : (lines room : ℕ) (i : Inside) → InsideSound (one_less room) i → (w : Keyword) → Reads room (read.statement_of lines room i w)
statement_of_sound lines room i l k.Let = let_sound room
statement_of_sound lines room i l k.Set = set_sound room
statement_of_sound lines room i l k.Put = put_sound room
statement_of_sound lines room i l k.Add = add_sound room
statement_of_sound lines room i l k.Erase = erase_sound room
statement_of_sound lines room i l k.After = after_statement_sound lines room
statement_of_sound lines room i l k.Send = sent_sound lines room None tt destination.Route
statement_of_sound lines room i l k.Local = sent_sound lines room None tt destination.Local
statement_of_sound lines room i l k.Publish = publish_sound lines room
statement_of_sound lines room i l k.Reply = reply_sound lines room
statement_of_sound lines room i l k.Timeout = timeout_sound lines room
statement_of_sound lines room i l k.Complete = complete_sound room
statement_of_sound lines room i l k.Fail = refuse_sound room refusal.Fail
statement_of_sound lines room i l k.Reject = refuse_sound room refusal.Reject
statement_of_sound lines room i l k.If = if_sound room i l
statement_of_sound lines room i l _ = stop_sound (no_statement room)

statement_by_sound : (lines room : ℕ) (i : Inside) → InsideSound (one_less room) i → (s : Seen) → Reads room (read.statement_by lines room i s)
statement_by_sound lines room i l (see.Key w) = statement_of_sound lines room i l w
statement_by_sound lines room i l _ = stop_sound (no_statement room)

statement_sound : (lines room : ℕ) (i : Inside) → InsideSound (one_less room) i → Reads room (read.statement lines room i)
unfolding read.statement
statement_sound lines room i l = look_sound (λ o. statement_by_sound lines room i l (seen o))

no_body : (room : ℕ) → Extends (each (spell.statement room)) (Strung always IsStatement) []
no_body room = record { whole = []; more = []; fits = tt; spelled = refl }

no_branch : (room : ℕ) → Extends (branch_marks room) IsBranch []
no_branch room =
    let it : Branch = record { test = Number 0 (pos 0); block = Brace 0 Nil 0; otherwise = Nothing } in
    record { whole = it; more = branch_marks room it; fits = (tt, tt, tt); spelled = refl }

pub inside_sound : (lines room : ℕ) → InsideSound (one_less room) (read.inside lines room)
unfolding read.inside
inside_sound lines zero = record { body = stop_sound (no_body zero); branch = stop_sound (no_branch zero) }
inside_sound lines (suc room) =
    let l : InsideSound (one_less room) (read.inside lines room) = inside_sound lines room in
    record { body = many_sound lines closes always (statement_sound lines room (read.inside lines room) l); branch = branch_sound room (read.inside lines room) l }
