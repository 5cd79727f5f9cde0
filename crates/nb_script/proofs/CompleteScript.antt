-- What is spelled of statements is read.
use Rattle.std.proofs.Common.{◌≡◌, ◌≤◌, ℕ, zero, suc, ◌+◌, Ok, arith, Option, Some, None, Bool, true, false, List, [], ◌∷◌, ◌++◌, refl, ap, sym, subst, ◌∙◌}
use Rattle.nb_script.specs.declared.lexeme.Keyword.{Keyword}
use Rattle.nb_script.specs.declared.lexeme.Keyword.TheVariants as kw
use Rattle.nb_script.specs.declared.lexeme.Symbol.TheVariants as sym'
use Rattle.nb_script.specs.declared.lexeme.Content.TheVariants as c
use Rattle.nb_script.specs.declared.lexeme.Seen.{Seen}
use Rattle.nb_script.specs.declared.lexeme.Seen.TheVariants as see
use Rattle.nb_script.specs.declared.expr.TypeName.{TypeName}
use Rattle.nb_script.specs.declared.stmt.Destination.{Destination}
use Rattle.nb_script.specs.declared.stmt.Destination.TheVariants as destination
use Rattle.nb_script.specs.declared.stmt.Refusal.{Refusal}
use Rattle.nb_script.specs.declared.stmt.Refusal.TheVariants as refusal
use Rattle.nb_script.specs.Words.{keyword_text, keyword_of}
use Rattle.nb_script.specs.Grammar.{Term, MakeTerm, RowTerm, AfterTerm}
use Rattle.nb_script.specs.Grammar.{Phrase, Let, Set, Put, Add, Erase, Send, Publish, Reply, Timeout, Complete, Refuse, If, Phrases, Nil, Then, Braces, Brace, Otherwise, Nothing, Last, Chain}
use Rattle.nb_script.specs.Spelling as spell
use Rattle.nb_script.specs.Spelling.{Mark, each, Every, Strung, Always, is_zero, one_less, IsName, IsWithin, IsDotted, IsTypeName, IsArg, IsMake, IsRowName, IsDelay, IsStatement, AreStatements, IsBlock, IsAlternative, IsPart, IsSaga, IsItem, arg_goes_on, message_field_goes_on, saga_field_goes_on, destination_key, refusal_key, kind_key, truth_key, finder_key, answer_key}
use Rattle.nb_script.specs.Reading.{Source, Parser, ret, look, ◌>>=◌, take, want_symbol, always, closes, is_close_brace, many, seen, seen_word, by_seen, expr}
use Rattle.nb_script.specs.ReadingScript as read
use Rattle.nb_script.specs.ReadingScript.{in_row, Branch, Inside}
use Rattle.nb_script.specs.declared.lexeme.Lexeme.{Lexeme}
use Rattle.nb_script.specs.declared.lexeme.Content.{Content}
use Rattle.nb_script.specs.declared.fault.Fault.TheVariants.{Expected}
use Rattle.nb_script.specs.Spelling.{MayPrecede, lexeme, is_there}
use Rattle.nb_script.proofs.Complete as law
use Rattle.nb_script.proofs.Complete.{Excuse, Meets, split, Reads, ret_reads, bind_reads, bind_stops, look_reads, same_reads, Opens, IsRow, many_complete}
use Rattle.nb_script.proofs.OneToken.{symbol_token, word_token, past_symbol_reads, past_symbol_stops, past_word_reads, past_word_stops, symbol_reads, key_reads, word_reads, name_reads}
use Rattle.nb_script.proofs.Operators.{EndsAll, ends_symbol, ends_word}
use Rattle.nb_script.proofs.CompleteExpr.{expr_complete}
use Rattle.nb_script.specs.Reading as reading

pub every_strung : {A : Type 0} (P : A → Type 0) (xs : List A) → Every P xs → Strung always P xs
every_strung P [] s = tt
every_strung P (x ∷ xs) s = (s.0, tt, every_strung P xs s.1)

-- running out of lines is excused
abbrev pub Far : Excuse → ℕ → Type 0
Far E lines = (j : ℕ) → lines ≤ j → E Expected j

pub enough : (lines k : ℕ) → lines ≤ lines + k
enough lines k = omega arith

-- ---- what follows

pub record Closing (o : Option Lexeme) : Type 0 where
  pub at : ℕ
  pub is : o ≡ Some (symbol_token sym'.CloseBrace at)

closing_word : (w : Option Keyword) → is_close_brace (seen_word w) ≡ true → ⊥
closing_word None e = cc
closing_word (Some w) e = cc

closing_content : (x : Content) (p : ℕ) → closes (Some (lexeme x p)) ≡ true → Closing (Some (lexeme x p))
unfolding seen
closing_content (c.Word x) p e = absurd (closing_word (keyword_of x) e)
closing_content (c.Number n) p e = cc
closing_content (c.Quoted x) p e = cc
closing_content (c.Symbol sym'.CloseBrace) p e = record { at = p; is = refl }
closing_content (c.Symbol _) p e = cc

pub closing : (o : Option Lexeme) → closes o ≡ true → Closing o
unfolding seen
closing None e = cc
closing (Some t) e = closing_content t.content t.at e

never_closes : (w : Option Keyword) → is_close_brace (seen_word w) ≡ false
never_closes None = refl
never_closes (Some w) = refl

pub no_closing : (x : List ℕ) (p : ℕ) → closes (Some (word_token x p)) ≡ false
unfolding seen
no_closing x p = never_closes (keyword_of x)

-- ---- types

dotted_complete : (E : Excuse) → law.Complete E spell.dotted IsDotted (λ d o. Unit {0}) read.dotted
unfolding read.dotted
dotted_complete E d free g k m s f = bind_reads _ (symbol_reads sym'.Dot s.0) (bind_reads _ (name_reads (d.at, d.name) free s.2.0) (ret_reads E _ g _ m s.2.2))

dotted_row : IsRow spell.dotted IsDotted (λ d o. Unit {0}) read.no_dot always
unfolding seen
dotted_row = record {
  opens = λ d free. record { first = spell.symbol sym'.Dot d.dot_at; others = spell.word d.name d.at ∷ []; are = refl; goes = refl };
  between = λ x y fx fy more t ts e. tt;
  ending = λ x fx o e. tt;
}

pub type_name_complete : (E : Excuse) (lines : ℕ) → Far E lines → (t : TypeName) → IsTypeName t → (g : Source) (k m : ℕ) → Meets E g k (spell.type_name t) m → read.no_dot (g m) ≡ true → Reads E (read.type_name lines) g k t m
unfolding read.type_name
type_name_complete E lines far t typed g k m s ends =
    bind_reads _ (name_reads (t.at, t.name) typed.0 s.0)
    (bind_reads _ (many_complete {Follow = λ d o. Unit {0}} E read.no_dot always lines dotted_row (dotted_complete E) far t.others (every_strung IsDotted t.others typed.1) g (suc k) m s.2 ends lines (enough lines (suc k))) (ret_reads E _ g m m refl))

-- ---- messages that are made

abbrev pub AfterComma : Option ℕ → Option Lexeme → Type 0
AfterComma None o = Closing o
AfterComma (Some p) o = Unit {0}

comma_at : (E : Excuse) (b : Bool) (g : Source) (k : ℕ) (q : Option ℕ) (m : ℕ) → read.is_comma (seen (g k)) ≡ b → Reads E (read.comma_by b) g k q m → Reads E read.comma g k q m
unfolding read.comma
comma_at E b g k q m at h = same_reads E read.comma (read.comma_by b) g k k q m (ap (λ b. read.comma_by b g k) at) h

pub comma_reads : (E : Excuse) (q : Option ℕ) (g : Source) (k m : ℕ) → Meets E g k (spell.comma q) m → AfterComma q (g m) → Reads E read.comma g k q m
unfolding seen
comma_reads E None g k m s f = comma_at E false g k None m (ap (λ i. read.is_comma (seen (g i))) s ∙ ap (λ o. read.is_comma (seen o)) f.is) (ret_reads E None g k m s)
comma_reads E (Some p) g k m s f = comma_at E true g k (Some p) m (ap (λ o. read.is_comma (seen o)) s.0) (bind_reads _ (symbol_reads sym'.Comma s.0) (ret_reads E (Some p) g _ m s.2))

-- what comes where a comma may stand ends an expression
comma_ends : (E : Excuse) (q : Option ℕ) (g : Source) (k m : ℕ) → Meets E g k (spell.comma q) m → AfterComma q (g m) → EndsAll (g k)
comma_ends E None g k m s f = subst (λ i. EndsAll (g i)) (sym s) (subst EndsAll (sym f.is) (ends_symbol sym'.CloseBrace f.at refl))
comma_ends E (Some p) g k m s f = subst EndsAll (sym s.0) (ends_symbol sym'.Comma p refl)

arg_complete : (E : Excuse) (room : ℕ) → law.Complete E (spell.arg room) IsArg (λ a o. AfterComma a.comma_at o) (read.arg room)
unfolding read.arg
arg_complete E room a fits g k m s f =
    let parts = split E g (suc (suc k)) (spell.expression room a.value) (spell.comma a.comma_at) m s.2.2 in
    bind_reads _ (word_reads (a.at, a.name) s.0) (bind_reads _ (symbol_reads sym'.Colon s.2.0)
    (bind_reads _ (expr_complete E room a.value fits g (suc (suc k)) parts.mid parts.front (comma_ends E a.comma_at g parts.mid m parts.back f)) (bind_reads _ (comma_reads E a.comma_at g parts.mid m parts.back f) (ret_reads E a g m m refl))))

pub there_follows : (q : Option ℕ) (o : Option Lexeme) → is_there q ≡ true → AfterComma q o
there_follows None o e = cc
there_follows (Some p) o e = tt

pub end_follows : (q : Option ℕ) (o : Option Lexeme) → closes o ≡ true → AfterComma q o
end_follows None o e = closing o e
end_follows (Some p) o e = tt

arg_row : (room : ℕ) → IsRow (spell.arg room) IsArg (λ a o. AfterComma a.comma_at o) closes arg_goes_on
arg_row room = record {
  opens = λ a fits. record { first = spell.word a.name a.at; others = spell.symbol sym'.Colon a.colon_at ∷ (spell.expression room a.value ++ spell.comma a.comma_at); are = refl; goes = no_closing a.name a.at };
  between = λ x y fx fy more t ts e. there_follows x.comma_at (Some t.lexeme) more;
  ending = λ x fx o e. end_follows x.comma_at o e;
}

pub closes_at : (g : Source) (m q : ℕ) → g m ≡ Some (symbol_token sym'.CloseBrace q) → closes (g m) ≡ true
unfolding seen
closes_at g m q at = ap closes at

pub no_dot_symbol : (g : Source) (m q : ℕ) → g m ≡ Some (symbol_token sym'.OpenBrace q) → read.no_dot (g m) ≡ true
unfolding seen
no_dot_symbol g m q at = ap read.no_dot at

pub make_complete : (E : Excuse) (lines : ℕ) → Far E lines → (room : ℕ) (x : MakeTerm) → IsMake x → (g : Source) (k m : ℕ) → Meets E g k (spell.make room x) m → Reads E (read.make lines room) g k x m
unfolding read.make
make_complete E lines far room x fits g k m s =
    let parts = split E g k (spell.type_name x.name) _ m s in
    let args = split E g (suc parts.mid) (each (spell.arg room) x.args) (spell.symbol sym'.CloseBrace x.close_at ∷ []) m parts.back.2 in
    bind_reads _ (type_name_complete E lines far x.name fits.name g k parts.mid parts.front (no_dot_symbol g parts.mid x.open_at parts.back.0))
    (bind_reads _ (symbol_reads sym'.OpenBrace parts.back.0)
    (bind_reads _ (many_complete {Follow = λ a o. AfterComma a.comma_at o} E closes arg_goes_on lines (arg_row room) (arg_complete E room) far x.args fits.args g (suc parts.mid) args.mid args.front (closes_at g args.mid x.close_at args.back.0) lines (enough lines (suc parts.mid)))
    (bind_reads _ (symbol_reads sym'.CloseBrace args.back.0) (ret_reads E x g _ m args.back.2))))

-- ---- statements

ends_at : (t : Lexeme) (g : Source) (m : ℕ) → EndsAll (Some t) → g m ≡ Some t → EndsAll (g m)
ends_at t g m ends at = subst EndsAll (sym at) ends

semi_ends : (s : ℕ) → EndsAll (Some (symbol_token sym'.Semi s))
semi_ends s = ends_symbol sym'.Semi s refl

row_complete : (E : Excuse) (room : ℕ) (r : RowTerm) → IsRowName r → (g : Source) (k m : ℕ) → Meets E g k (spell.row_name room r) m → Reads E (read.row_name room) g k r m
unfolding read.row_name
row_complete E room r fits g k m s =
    let parts = split E g (suc (suc k)) (spell.expression room r.name) (spell.symbol sym'.Close r.close_at ∷ []) m s.2.2 in
    bind_reads _ (key_reads kw.Row s.0) (bind_reads _ (symbol_reads sym'.Open s.2.0)
    (bind_reads _ (expr_complete E room r.name fits g (suc (suc k)) parts.mid parts.front (ends_at _ g parts.mid (ends_symbol sym'.Close r.close_at refl) parts.back.0)) (bind_reads _ (symbol_reads sym'.Close parts.back.0) (ret_reads E r g _ m parts.back.2))))

-- an expression and a semicolon, at the end of a statement
value_reads : (E : Excuse) (room : ℕ) (made : Term → ℕ → Phrase) (e : Term) (s : ℕ) → IsWithin 5 e → (g : Source) (k m : ℕ) → Meets E g k (spell.expression room e ++ spell.symbol sym'.Semi s ∷ []) m
    → Reads E (expr room >>= λ e. reading.symbol sym'.Semi >>= λ s. ret (made e s)) g k (made e s) m
value_reads E room made e s fits g k m h =
    let parts = split E g k (spell.expression room e) (spell.symbol sym'.Semi s ∷ []) m h in
    bind_reads _ (expr_complete E room e fits g k parts.mid parts.front (ends_at _ g parts.mid (semi_ends s) parts.back.0)) (bind_reads _ (symbol_reads sym'.Semi parts.back.0) (ret_reads E _ g _ m parts.back.2))

-- a message that is made and a semicolon, at the end of a statement
made_reads : (E : Excuse) (lines : ℕ) → Far E lines → (room : ℕ) (made : MakeTerm → ℕ → Phrase) (x : MakeTerm) (s : ℕ) → IsMake x → (g : Source) (k m : ℕ) → Meets E g k (spell.make room x ++ spell.symbol sym'.Semi s ∷ []) m
    → Reads E (read.make lines room >>= λ x. reading.symbol sym'.Semi >>= λ s. ret (made x s)) g k (made x s) m
made_reads E lines far room made x s fits g k m h =
    let parts = split E g k (spell.make room x) (spell.symbol sym'.Semi s ∷ []) m h in
    bind_reads _ (make_complete E lines far room x fits g k parts.mid parts.front) (bind_reads _ (symbol_reads sym'.Semi parts.back.0) (ret_reads E _ g _ m parts.back.2))

let_reads : (E : Excuse) (room p q : ℕ) (x : List ℕ) (u : ℕ) (e : Term) (s : ℕ) → IsStatement (Let p q x u e s) → (g : Source) (k m : ℕ) → Meets E g k (spell.statement room (Let p q x u e s)) m → Reads E (read.let_statement room) g k (Let p q x u e s) m
unfolding read.let_statement
let_reads E room p q x u e s fits g k m h =
    bind_reads _ (key_reads kw.Let h.0) (bind_reads _ (name_reads (q, x) fits.0 h.2.0) (bind_reads _ (symbol_reads sym'.Assign h.2.2.0) (value_reads E room (λ e s. Let p q x u e s) e s fits.1 g (suc (suc (suc k))) m h.2.2.2)))

set_reads : (E : Excuse) (room p q : ℕ) (x : List ℕ) (u : ℕ) (e : Term) (s : ℕ) → IsStatement (Set p q x u e s) → (g : Source) (k m : ℕ) → Meets E g k (spell.statement room (Set p q x u e s)) m → Reads E (read.set_statement room) g k (Set p q x u e s) m
unfolding read.set_statement
set_reads E room p q x u e s fits g k m h =
    bind_reads _ (key_reads kw.Set h.0) (bind_reads _ (word_reads (q, x) h.2.0) (bind_reads _ (symbol_reads sym'.Assign h.2.2.0) (value_reads E room (λ e s. Set p q x u e s) e s fits g (suc (suc (suc k))) m h.2.2.2)))

put_reads : (E : Excuse) (room p : ℕ) (r : RowTerm) (u : ℕ) (e : Term) (s : ℕ) → IsStatement (Put p r u e s) → (g : Source) (k m : ℕ) → Meets E g k (spell.statement room (Put p r u e s)) m → Reads E (read.put_statement room) g k (Put p r u e s) m
unfolding read.put_statement
put_reads E room p r u e s fits g k m h =
    let parts = split E g (suc k) (spell.row_name room r) (spell.symbol sym'.Assign u ∷ (spell.expression room e ++ spell.symbol sym'.Semi s ∷ [])) m h.2 in
    bind_reads _ (key_reads kw.Put h.0) (bind_reads _ (row_complete E room r fits.0 g (suc k) parts.mid parts.front) (bind_reads _ (symbol_reads sym'.Assign parts.back.0) (value_reads E room (λ e s. Put p r u e s) e s fits.1 g (suc parts.mid) m parts.back.2)))

add_reads : (E : Excuse) (room p : ℕ) (r : RowTerm) (u : ℕ) (e : Term) (s : ℕ) → IsStatement (Add p r u e s) → (g : Source) (k m : ℕ) → Meets E g k (spell.statement room (Add p r u e s)) m → Reads E (read.add_statement room) g k (Add p r u e s) m
unfolding read.add_statement
add_reads E room p r u e s fits g k m h =
    let parts = split E g (suc k) (spell.row_name room r) (spell.key kw.By u ∷ (spell.expression room e ++ spell.symbol sym'.Semi s ∷ [])) m h.2 in
    bind_reads _ (key_reads kw.Add h.0) (bind_reads _ (row_complete E room r fits.0 g (suc k) parts.mid parts.front) (bind_reads _ (key_reads kw.By parts.back.0) (value_reads E room (λ e s. Add p r u e s) e s fits.1 g (suc parts.mid) m parts.back.2)))

erase_reads : (E : Excuse) (room p : ℕ) (r : RowTerm) (s : ℕ) → IsStatement (Erase p r s) → (g : Source) (k m : ℕ) → Meets E g k (spell.statement room (Erase p r s)) m → Reads E (read.erase_statement room) g k (Erase p r s) m
unfolding read.erase_statement
erase_reads E room p r s fits g k m h =
    let parts = split E g (suc k) (spell.row_name room r) (spell.symbol sym'.Semi s ∷ []) m h.2 in
    bind_reads _ (key_reads kw.Erase h.0) (bind_reads _ (row_complete E room r fits g (suc k) parts.mid parts.front) (bind_reads _ (symbol_reads sym'.Semi parts.back.0) (ret_reads E _ g _ m parts.back.2)))

sent_reads : (E : Excuse) (lines : ℕ) → Far E lines → (room : ℕ) (a : Option AfterTerm) (p : ℕ) (to : Destination) (x : MakeTerm) (s : ℕ) → IsMake x → (g : Source) (k m : ℕ) → Meets E g k (spell.key (destination_key to) p ∷ (spell.make room x ++ spell.symbol sym'.Semi s ∷ [])) m
    → Reads E (read.sent lines room a to) g k (Send a p to x s) m
unfolding read.sent
sent_reads E lines far room a p to x s fits g k m h = bind_reads _ (key_reads (destination_key to) h.0) (made_reads E lines far room (λ x s. Send a p to x s) x s fits g (suc k) m h.2)

seen_sent : (E : Excuse) (lines room : ℕ) (a : Option AfterTerm) (p : ℕ) (to : Destination) (g : Source) (k : ℕ) (r : Phrase) (m : ℕ) → g k ≡ Some (word_token (keyword_text (destination_key to)) p) → Reads E (read.sent lines room a to) g k r m
    → Reads E (by_seen (read.sent_by lines room a)) g k r m
unfolding seen keyword_of
seen_sent E lines room a p destination.Route g k r m at h = look_reads (λ o. read.sent_by lines room a (seen o)) _ at h
seen_sent E lines room a p destination.Local g k r m at h = look_reads (λ o. read.sent_by lines room a (seen o)) _ at h

after_reads : (E : Excuse) (lines : ℕ) → Far E lines → (room : ℕ) (a : AfterTerm) (p : ℕ) (to : Destination) (x : MakeTerm) (s : ℕ) → IsStatement (Send (Some a) p to x s) → (g : Source) (k m : ℕ) → Meets E g k (spell.statement room (Send (Some a) p to x s)) m
    → Reads E (read.after_statement lines room) g k (Send (Some a) p to x s) m
unfolding read.after_statement read.after
after_reads E lines far room a p to x s fits g k m h =
    let parts = split E g (suc k) (spell.expression room a.delay) (spell.key (destination_key to) p ∷ (spell.make room x ++ spell.symbol sym'.Semi s ∷ [])) m h.2 in
    let delay : Reads E (read.after room) g k a parts.mid =
    bind_reads _ (key_reads kw.After h.0) (bind_reads _ (expr_complete E room a.delay fits.0 g (suc k) parts.mid parts.front (ends_at _ g parts.mid (ends_word (keyword_text (destination_key to)) p) parts.back.0)) (ret_reads E a g parts.mid parts.mid refl)) in
    bind_reads _ delay (seen_sent E lines room (Some a) p to g parts.mid _ m parts.back.0 (sent_reads E lines far room (Some a) p to x s fits.1 g parts.mid m parts.back))

publish_reads : (E : Excuse) (lines : ℕ) → Far E lines → (room p : ℕ) (x : MakeTerm) (s : ℕ) → IsMake x → (g : Source) (k m : ℕ) → Meets E g k (spell.statement room (Publish p x s)) m → Reads E (read.publish_statement lines room) g k (Publish p x s) m
unfolding read.publish_statement
publish_reads E lines far room p x s fits g k m h = bind_reads _ (key_reads kw.Publish h.0) (made_reads E lines far room (λ x s. Publish p x s) x s fits g (suc k) m h.2)

pub free_seen : (x : List ℕ) (p : ℕ) → IsName x → seen (Some (word_token x p)) ≡ see.Name
unfolding seen
free_seen x p free = ap seen_word free

originator_reads : (E : Excuse) (room : ℕ) (o : Option ℕ) (x : MakeTerm) → IsMake x → (ys : List Mark) (g : Source) (k m : ℕ) → Meets E g k (spell.originator o ++ (spell.make room x ++ ys)) m → (n : ℕ) → Meets E g k (spell.originator o) n → Reads E read.originator g k o n
unfolding read.originator seen keyword_of
originator_reads E room None x fits ys g k m s n h =
    same_reads E read.originator (ret None) g k k None n (ap (λ v. read.originator_by v g k) (ap seen s.0 ∙ free_seen x.name.name x.name.at fits.name.0)) (ret_reads E None g k n h)
originator_reads E room (Some p) x fits ys g k m s n h = look_reads (λ o. read.originator_by (seen o)) _ h.0 (bind_reads _ (key_reads kw.Originator h.0) (ret_reads E (Some p) g _ n h.2))

reply_reads : (E : Excuse) (lines : ℕ) → Far E lines → (room p : ℕ) (o : Option ℕ) (x : MakeTerm) (s : ℕ) → IsMake x → (g : Source) (k m : ℕ) → Meets E g k (spell.statement room (Reply p o x s)) m → Reads E (read.reply_statement lines room) g k (Reply p o x s) m
unfolding read.reply_statement
reply_reads E lines far room p o x s fits g k m h =
    let parts = split E g (suc k) (spell.originator o) (spell.make room x ++ spell.symbol sym'.Semi s ∷ []) m h.2 in
    bind_reads _ (key_reads kw.Reply h.0) (bind_reads _ (originator_reads E room o x fits (spell.symbol sym'.Semi s ∷ []) g (suc k) m h.2 parts.mid parts.front) (made_reads E lines far room (λ x s. Reply p o x s) x s fits g parts.mid m parts.back))

timeout_reads : (E : Excuse) (lines : ℕ) → Far E lines → (room p : ℕ) (e : Term) (x : MakeTerm) (s : ℕ) → IsStatement (Timeout p e x s) → (g : Source) (k m : ℕ) → Meets E g k (spell.statement room (Timeout p e x s)) m → Reads E (read.timeout_statement lines room) g k (Timeout p e x s) m
unfolding read.timeout_statement
timeout_reads E lines far room p e x s fits g k m h =
    let parts = split E g (suc k) (spell.expression room e) (spell.make room x ++ spell.symbol sym'.Semi s ∷ []) m h.2 in
    bind_reads _ (key_reads kw.Timeout h.0) (bind_reads _ (expr_complete E room e fits.0 g (suc k) parts.mid parts.front (ends_at _ g parts.mid (ends_word x.name.name x.name.at) parts.back.0)) (made_reads E lines far room (λ x s. Timeout p e x s) x s fits.1 g parts.mid m parts.back))

complete_reads : (E : Excuse) (room p s : ℕ) (g : Source) (k m : ℕ) → Meets E g k (spell.statement room (Complete p s)) m → Reads E read.complete_statement g k (Complete p s) m
unfolding read.complete_statement
complete_reads E room p s g k m h = bind_reads _ (key_reads kw.Complete h.0) (bind_reads _ (symbol_reads sym'.Semi h.2.0) (ret_reads E _ g _ m h.2.2))

refuse_reads : (E : Excuse) (room p : ℕ) (r : Refusal) (q : ℕ) (x : List ℕ) (e : Term) (s : ℕ) → IsStatement (Refuse p r q x e s) → (g : Source) (k m : ℕ) → Meets E g k (spell.statement room (Refuse p r q x e s)) m → Reads E (read.refuse_statement room r) g k (Refuse p r q x e s) m
unfolding read.refuse_statement
refuse_reads E room p r q x e s fits g k m h = bind_reads _ (key_reads (refusal_key r) h.0) (bind_reads _ (name_reads (q, x) fits.0 h.2.0) (value_reads E room (λ e s. Refuse p r q x e s) e s fits.1 g (suc (suc k)) m h.2.2))

-- ---- blocks

abbrev pub is_else : Seen → Bool
is_else (see.Key kw.Else) = true
is_else _ = false

-- no `else` comes next
abbrev pub NoElse : Option Lexeme → Type 0
NoElse o = is_else (seen o) ≡ false

-- the first token of a statement
pub record Starts (xs : List Mark) : Type 0 where
  pub first : Mark
  pub others : List Mark
  pub are : xs ≡ first ∷ others
  pub goes : closes (Some first.lexeme) ≡ false
  pub no_else : NoElse (Some first.lexeme)

starts : (room : ℕ) (x : Phrase) → Starts (spell.statement room x)
unfolding seen keyword_of
starts room (Let p q x u e s) = record { first = spell.key kw.Let p; others = _; are = refl; goes = refl; no_else = refl }
starts room (Set p q x u e s) = record { first = spell.key kw.Set p; others = _; are = refl; goes = refl; no_else = refl }
starts room (Put p r u e s) = record { first = spell.key kw.Put p; others = _; are = refl; goes = refl; no_else = refl }
starts room (Add p r u e s) = record { first = spell.key kw.Add p; others = _; are = refl; goes = refl; no_else = refl }
starts room (Erase p r s) = record { first = spell.key kw.Erase p; others = _; are = refl; goes = refl; no_else = refl }
starts room (Send None p destination.Route m s) = record { first = spell.key kw.Send p; others = _; are = refl; goes = refl; no_else = refl }
starts room (Send None p destination.Local m s) = record { first = spell.key kw.Local p; others = _; are = refl; goes = refl; no_else = refl }
starts room (Send (Some a) p to m s) = record { first = spell.key kw.After a.at; others = _; are = refl; goes = refl; no_else = refl }
starts room (Publish p m s) = record { first = spell.key kw.Publish p; others = _; are = refl; goes = refl; no_else = refl }
starts room (Reply p o m s) = record { first = spell.key kw.Reply p; others = _; are = refl; goes = refl; no_else = refl }
starts room (Timeout p e m s) = record { first = spell.key kw.Timeout p; others = _; are = refl; goes = refl; no_else = refl }
starts room (Complete p s) = record { first = spell.key kw.Complete p; others = _; are = refl; goes = refl; no_else = refl }
starts room (Refuse p refusal.Fail q x e s) = record { first = spell.key kw.Fail p; others = _; are = refl; goes = refl; no_else = refl }
starts room (Refuse p refusal.Reject q x e s) = record { first = spell.key kw.Reject p; others = _; are = refl; goes = refl; no_else = refl }
starts room (If p e b o) = record { first = spell.key kw.If p; others = _; are = refl; goes = refl; no_else = refl }

first_of_two : (x y : Mark) (xs ys : List Mark) → x ∷ xs ≡ y ∷ ys → x ≡ y
first_of_two x y xs ys e = cc

closing_no_else : (o : Option Lexeme) → Closing o → NoElse o
unfolding seen
closing_no_else o e = ap (λ o. is_else (seen o)) e.is

statement_row : (room : ℕ) → IsRow (spell.statement room) IsStatement (λ x o. NoElse o) closes always
statement_row room = record {
  opens = λ x fits. (let it = starts room x in record { first = it.first; others = it.others; are = it.are; goes = it.goes });
  between = λ x y fx fy more t ts e. (let it = starts room y in subst (λ t. NoElse (Some t.lexeme)) (first_of_two it.first t it.others ts (sym it.are ∙ e)) it.no_else);
  ending = λ x fx o e. closing_no_else o (closing o e);
}

abbrev branch_marks : (room : ℕ) → Branch → List Mark
branch_marks room b = spell.expression room b.test ++ (spell.block room b.block ++ spell.alternative room b.otherwise)

abbrev IsBranch : Branch → Type 0
IsBranch b = IsWithin 5 b.test × IsBlock b.block × IsAlternative b.otherwise

pub record InsideComplete (E : Excuse) (room : ℕ) (i : Inside) : Type 0 where
  pub body : (xs : List Phrase) → Strung always IsStatement xs → (g : Source) (k m : ℕ) → Meets E g k (each (spell.statement room) xs) m → closes (g m) ≡ true → Reads E i.body g k xs m
  pub branch : (b : Branch) → IsBranch b → (g : Source) (k m : ℕ) → Meets E g k (branch_marks room b) m → NoElse (g m) → Reads E i.branch g k b m

row_of : Phrases → List Phrase
row_of Nil = []
row_of (Then x xs) = x ∷ row_of xs

row_back : (b : Phrases) → in_row (row_of b) ≡ b
unfolding row_of
row_back Nil = refl
row_back (Then x xs) = ap (Then x) (row_back xs)

row_spelled : (room : ℕ) (b : Phrases) → spell.statements room b ≡ each (spell.statement room) (row_of b)
unfolding row_of
row_spelled room Nil = refl
row_spelled room (Then x xs) = ap (λ ys. spell.statement room x ++ ys) (row_spelled room xs)

row_all : (b : Phrases) → AreStatements b → Strung always IsStatement (row_of b)
unfolding row_of
row_all Nil all = tt
row_all (Then x xs) all = (all.0, tt, row_all xs all.1)

-- what may stand one level deeper, where there is a level
abbrev pub InRoom : Excuse → (room : ℕ) → Inside → Type 0
InRoom E room i = is_zero room ≡ false → InsideComplete E (one_less room) i

pub block_complete : (E : Excuse) (room : ℕ) (i : Inside) → InRoom E room i → (b : Braces) → IsBlock b → (g : Source) (k m : ℕ) → Meets E g k (spell.block room b) m → Reads E (read.block room i) g k b m
unfolding read.block
block_complete E zero i l (Brace o b q) fits g k m s = bind_stops _ (past_symbol_stops E sym'.OpenBrace o g k s.0 (s.1 refl))
block_complete E (suc room) i l (Brace o b q) fits g k m s =
    let parts = split E g (suc k) (spell.statements room b) (spell.symbol sym'.CloseBrace q ∷ []) m s.2 in
    let body = (l refl).body (row_of b) (row_all b fits) g (suc k) parts.mid (subst (λ xs. Meets E g (suc k) xs parts.mid) (row_spelled room b) parts.front) (closes_at g parts.mid q parts.back.0) in
    let whole : Reads E (read.block (suc room) i) g k (Brace o (in_row (row_of b)) q) m =
    bind_reads _ (past_symbol_reads E false sym'.OpenBrace o g k s.0 s.1) (bind_reads _ body (bind_reads _ (symbol_reads sym'.CloseBrace parts.back.0) (ret_reads E _ g _ m parts.back.2))) in
    subst (λ b. Reads E (read.block (suc room) i) g k (Brace o b q) m) (row_back b) whole

else_if_reads : (E : Excuse) (room : ℕ) (i : Inside) → InRoom E room i → (p q : ℕ) (e : Term) (b : Braces) (o : Otherwise) → IsAlternative (Chain p q e b o) → (g : Source) (k m : ℕ)
    → Meets E g k (spell.marked (is_zero room) (c.Word (keyword_text kw.If)) q ∷ branch_marks (one_less room) (record { test = e; block = b; otherwise = o })) m → NoElse (g m) → Reads E (read.else_if room i p) g k (Chain p q e b o) m
unfolding read.else_if
else_if_reads E zero i l p q e b o fits g k m s f = bind_stops _ (past_word_stops E (keyword_text kw.If) q g k s.0 (s.1 refl))
else_if_reads E (suc room) i l p q e b o fits g k m s f =
    bind_reads _ (past_word_reads E false (keyword_text kw.If) q g k s.0 s.1) (bind_reads _ ((l refl).branch (record { test = e; block = b; otherwise = o }) fits g (suc k) m s.2 f) (ret_reads E _ g m m refl))

else_block_reads : (E : Excuse) (room : ℕ) (i : Inside) → InRoom E room i → (p : ℕ) (b : Braces) → IsBlock b → (g : Source) (k m : ℕ) → Meets E g k (spell.block room b) m → Reads E (by_seen (read.else_by room i p)) g k (Last p b) m
unfolding read.else_block seen
else_block_reads E room i l p (Brace o b q) fits g k m s =
    look_reads (λ x. read.else_by room i p (seen x)) _ s.0 (bind_reads _ (block_complete E room i l (Brace o b q) fits g k m s) (ret_reads E _ g m m refl))

nothing_by : (room : ℕ) (i : Inside) (s : Seen) (g : Source) (k : ℕ) → is_else s ≡ false → read.alternative_by room i s g k ≡ Ok (Nothing, k)
nothing_by room i (see.Key kw.Else) g k e = cc
nothing_by room i _ g k e = refl

alternative_complete : (E : Excuse) (room : ℕ) (i : Inside) → InRoom E room i → (o : Otherwise) → IsAlternative o → (g : Source) (k m : ℕ) → Meets E g k (spell.alternative room o) m → NoElse (g m) → Reads E (read.alternative room i) g k o m
unfolding read.alternative seen keyword_of
alternative_complete E room i l Nothing fits g k m s f = law.Gets (nothing_by room i (seen (g k)) g k (ap (λ i. is_else (seen (g i))) s ∙ f) ∙ ap (λ i. Ok (Nothing, i)) s)
alternative_complete E room i l (Last p b) fits g k m s f = look_reads (λ x. read.alternative_by room i (seen x)) _ s.0 (bind_reads _ (key_reads kw.Else s.0) (else_block_reads E room i l p b fits g (suc k) m s.2))
alternative_complete E room i l (Chain p q e b o) fits g k m s f =
    look_reads (λ x. read.alternative_by room i (seen x)) _ s.0 (bind_reads _ (key_reads kw.Else s.0) (look_reads (λ x. read.else_by room i p (seen x)) _ s.2.0 (else_if_reads E room i l p q e b o fits g (suc k) m s.2 f)))

block_ends : (E : Excuse) (room : ℕ) (b : Braces) (ys : List Mark) (g : Source) (k m : ℕ) → Meets E g k (spell.block room b ++ ys) m → EndsAll (g k)
block_ends E room (Brace o b q) ys g k m s = ends_at _ g k (ends_symbol sym'.OpenBrace o refl) s.0

branch_complete : (E : Excuse) (room : ℕ) (i : Inside) → InRoom E room i → (b : Branch) → IsBranch b → (g : Source) (k m : ℕ) → Meets E g k (branch_marks room b) m → NoElse (g m) → Reads E (read.branch room i) g k b m
unfolding read.branch
branch_complete E room i l b fits g k m s f =
    let parts = split E g k (spell.expression room b.test) (spell.block room b.block ++ spell.alternative room b.otherwise) m s in
    let more = split E g parts.mid (spell.block room b.block) (spell.alternative room b.otherwise) m parts.back in
    bind_reads _ (expr_complete E room b.test fits.0 g k parts.mid parts.front (block_ends E room b.block (spell.alternative room b.otherwise) g parts.mid m parts.back))
    (bind_reads _ (block_complete E room i l b.block fits.1 g parts.mid more.mid more.front) (bind_reads _ (alternative_complete E room i l b.otherwise fits.2 g more.mid m more.back f) (ret_reads E b g m m refl)))

if_reads : (E : Excuse) (room : ℕ) (i : Inside) → InRoom E room i → (p : ℕ) (e : Term) (b : Braces) (o : Otherwise) → IsStatement (If p e b o) → (g : Source) (k m : ℕ) → Meets E g k (spell.statement room (If p e b o)) m → NoElse (g m) → Reads E (read.if_statement room i) g k (If p e b o) m
unfolding read.if_statement
if_reads E room i l p e b o fits g k m h f = bind_reads _ (key_reads kw.If h.0) (bind_reads _ (branch_complete E room i l (record { test = e; block = b; otherwise = o }) fits g (suc k) m h.2 f) (ret_reads E _ g m m refl))

pub as_seen : (E : Excuse) (lines room : ℕ) (i : Inside) (g : Source) (k : ℕ) (x : Phrase) (m : ℕ) (t : Lexeme) → g k ≡ Some t → Reads E (read.statement_by lines room i (seen (Some t))) g k x m → Reads E (read.statement lines room i) g k x m
unfolding read.statement
as_seen E lines room i g k x m t at h = look_reads (λ o. read.statement_by lines room i (seen o)) (Some t) at h

statement_complete : (E : Excuse) (lines : ℕ) → Far E lines → (room : ℕ) (i : Inside) → InRoom E room i → law.Complete E (spell.statement room) IsStatement (λ x o. NoElse o) (read.statement lines room i)
unfolding seen keyword_of
statement_complete E lines far room i l (Let p q x u e s) fits g k m h f = as_seen E lines room i g k _ m _ h.0 (let_reads E room p q x u e s fits g k m h)
statement_complete E lines far room i l (Set p q x u e s) fits g k m h f = as_seen E lines room i g k _ m _ h.0 (set_reads E room p q x u e s fits g k m h)
statement_complete E lines far room i l (Put p r u e s) fits g k m h f = as_seen E lines room i g k _ m _ h.0 (put_reads E room p r u e s fits g k m h)
statement_complete E lines far room i l (Add p r u e s) fits g k m h f = as_seen E lines room i g k _ m _ h.0 (add_reads E room p r u e s fits g k m h)
statement_complete E lines far room i l (Erase p r s) fits g k m h f = as_seen E lines room i g k _ m _ h.0 (erase_reads E room p r s fits g k m h)
statement_complete E lines far room i l (Send None p destination.Route x s) fits g k m h f = as_seen E lines room i g k _ m _ h.0 (sent_reads E lines far room None p destination.Route x s fits.1 g k m h)
statement_complete E lines far room i l (Send None p destination.Local x s) fits g k m h f = as_seen E lines room i g k _ m _ h.0 (sent_reads E lines far room None p destination.Local x s fits.1 g k m h)
statement_complete E lines far room i l (Send (Some a) p to x s) fits g k m h f = as_seen E lines room i g k _ m _ h.0 (after_reads E lines far room a p to x s fits g k m h)
statement_complete E lines far room i l (Publish p x s) fits g k m h f = as_seen E lines room i g k _ m _ h.0 (publish_reads E lines far room p x s fits g k m h)
statement_complete E lines far room i l (Reply p o x s) fits g k m h f = as_seen E lines room i g k _ m _ h.0 (reply_reads E lines far room p o x s fits g k m h)
statement_complete E lines far room i l (Timeout p e x s) fits g k m h f = as_seen E lines room i g k _ m _ h.0 (timeout_reads E lines far room p e x s fits g k m h)
statement_complete E lines far room i l (Complete p s) fits g k m h f = as_seen E lines room i g k _ m _ h.0 (complete_reads E room p s g k m h)
statement_complete E lines far room i l (Refuse p refusal.Fail q x e s) fits g k m h f = as_seen E lines room i g k _ m _ h.0 (refuse_reads E room p refusal.Fail q x e s fits g k m h)
statement_complete E lines far room i l (Refuse p refusal.Reject q x e s) fits g k m h f = as_seen E lines room i g k _ m _ h.0 (refuse_reads E room p refusal.Reject q x e s fits g k m h)
statement_complete E lines far room i l (If p e b o) fits g k m h f = as_seen E lines room i g k _ m _ h.0 (if_reads E room i l p e b o fits g k m h f)

pub inside_complete : (E : Excuse) (lines : ℕ) → Far E lines → (room : ℕ) → InRoom E room (read.inside lines room)
unfolding read.inside
inside_complete E lines far zero some = cc
inside_complete E lines far (suc room) some =
    let l : InRoom E room (read.inside lines room) = inside_complete E lines far room in
    record {
      body = λ xs fits g k m s ends. many_complete {Follow = λ x o. NoElse o} E closes always lines (statement_row room) (statement_complete E lines far room (read.inside lines room) l) far xs fits g k m s ends lines (enough lines k);
      branch = branch_complete E room (read.inside lines room) l;
    }
