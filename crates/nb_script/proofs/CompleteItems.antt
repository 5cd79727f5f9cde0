-- What is spelled of items is read.
use Rattle.std.proofs.Common.{◌≡◌, ℕ, suc, Option, Some, None, Bool, true, false, List, [], ◌∷◌, ◌++◌, refl, ap, ◌∙◌, codes}
use Rattle.nb_script.specs.declared.lexeme.Keyword.{Keyword}
use Rattle.nb_script.specs.declared.lexeme.Keyword.TheVariants as kw
use Rattle.nb_script.specs.declared.lexeme.Symbol.TheVariants as sym'
use Rattle.nb_script.specs.declared.expr.TypeName.{TypeName}
use Rattle.nb_script.specs.declared.item.FieldKind.{FieldKind}
use Rattle.nb_script.specs.declared.item.FieldKind.TheVariants as kind
use Rattle.nb_script.specs.declared.item.Field.{Field as FieldLine}
use Rattle.nb_script.specs.declared.item.Literal.{Literal}
use Rattle.nb_script.specs.declared.item.Literal.TheVariants as literal
use Rattle.nb_script.specs.declared.item.Since.{Since}
use Rattle.nb_script.specs.declared.item.Revision.{Revision}
use Rattle.nb_script.specs.declared.item.Finder.{Finder}
use Rattle.nb_script.specs.declared.item.Finder.TheVariants as finder
use Rattle.nb_script.specs.declared.item.Answer.{Answer}
use Rattle.nb_script.specs.declared.item.Answer.TheVariants as answer
use Rattle.nb_script.specs.Words.{keyword_text, keyword_of}
use Rattle.nb_script.specs.Grammar.{Braces, Brace}
use Rattle.nb_script.specs.Grammar.{PartTerm, ByField, ById, SagaTerm, ItemTerm, Message, Handler, Saga}
use Rattle.nb_script.specs.Spelling as spell
use Rattle.nb_script.specs.Spelling.{Mark, each, Every, Strung, Always, is_zero, one_less, IsName, IsWithin, IsDotted, IsTypeName, IsArg, IsMake, IsRowName, IsDelay, IsStatement, AreStatements, IsBlock, IsAlternative, IsPart, IsSaga, IsItem, arg_goes_on, message_field_goes_on, saga_field_goes_on, destination_key, refusal_key, kind_key, truth_key, finder_key, answer_key}
use Rattle.nb_script.specs.Reading.{Source, always, closes, seen, seen_word}
use Rattle.nb_script.specs.ReadingScript as read
use Rattle.nb_script.specs.ReadingScript.{in_row, Branch, Inside}
use Rattle.nb_script.specs.Spelling.{MayPrecede, lexeme, is_there}
use Rattle.nb_script.proofs.Complete as law
use Rattle.nb_script.proofs.Complete.{Excuse, Meets, split, Reads, ret_reads, bind_reads, bind_stops, look_reads, same_reads, Opens, IsRow, many_complete}
use Rattle.nb_script.proofs.OneToken.{word_token, symbol_reads, this_reads, key_reads, word_reads, name_reads, number_reads, quoted_reads}
use Rattle.nb_script.proofs.CompleteScript.{every_strung, Far, enough, no_closing, type_name_complete, AfterComma, comma_reads, there_follows, end_follows, closes_at, no_dot_symbol, InRoom, block_complete, inside_complete}

-- ---- fields

abbrev kind_marks : ℕ × FieldKind → List Mark
kind_marks x = spell.key (kind_key x.1) x.0 ∷ []

kind_reads : (E : Excuse) (x : ℕ × FieldKind) (g : Source) (k m : ℕ) → Meets E g k (kind_marks x) m → Reads E (read.kind_is x.1) g k x m
kind_reads E x g k m s = bind_reads _ (key_reads (kind_key x.1) s.0) (ret_reads E x g _ m s.2)

kind_complete : (E : Excuse) (p : ℕ) (x : FieldKind) (g : Source) (k m : ℕ) → Meets E g k (kind_marks (p, x)) m → Reads E read.field_kind g k (p, x) m
unfolding read.field_kind seen keyword_of
kind_complete E p kind.Int g k m s = look_reads (λ o. read.kind_by (seen o)) _ s.0 (kind_reads E (p, kind.Int) g k m s)
kind_complete E p kind.Text g k m s = look_reads (λ o. read.kind_by (seen o)) _ s.0 (kind_reads E (p, kind.Text) g k m s)
kind_complete E p kind.Bool g k m s = look_reads (λ o. read.kind_by (seen o)) _ s.0 (kind_reads E (p, kind.Bool) g k m s)

field_complete : (E : Excuse) (f : FieldLine) (g : Source) (k m : ℕ) → Meets E g k (spell.field f) m → Reads E read.field g k f m
unfolding read.field
field_complete E f g k m s =
    bind_reads _ (word_reads (f.at, f.name) s.0) (bind_reads _ (symbol_reads sym'.Colon s.2.0) (bind_reads _ (kind_complete E f.kind_at f.kind g (suc (suc k)) m s.2.2) (ret_reads E f g m m refl)))

message_field_complete : (E : Excuse) → law.Complete E spell.message_field Always (λ f o. AfterComma f.comma_at o) read.message_field
unfolding read.message_field
message_field_complete E f fits g k m s ends =
    let parts = split E g k (spell.field f.field) (spell.comma f.comma_at) m s in
    bind_reads _ (field_complete E f.field g k parts.mid parts.front) (bind_reads _ (comma_reads E f.comma_at g parts.mid m parts.back ends) (ret_reads E f g m m refl))

message_field_row : IsRow spell.message_field Always (λ f o. AfterComma f.comma_at o) closes message_field_goes_on
message_field_row = record {
  opens = λ f fits. record { first = spell.word f.field.name f.field.at; others = _; are = refl; goes = no_closing f.field.name f.field.at };
  between = λ x y fx fy more t ts e. there_follows x.comma_at (Some t.lexeme) more;
  ending = λ x fx o e. end_follows x.comma_at o e;
}

-- ---- literals

literal_complete : (E : Excuse) (x : Literal) (g : Source) (k m : ℕ) → Meets E g k (spell.literal_spelling x) m → Reads E read.literal_value g k x m
unfolding read.literal_value read.negative_literal seen keyword_of
literal_complete E (literal.Number None p n) g k m s = look_reads (λ o. read.literal_by (seen o)) _ s.0 (bind_reads _ (number_reads (p, n) s.0) (ret_reads E _ g _ m s.2))
literal_complete E (literal.Number (Some q) p n) g k m s =
    look_reads (λ o. read.literal_by (seen o)) _ s.0 (bind_reads _ (symbol_reads sym'.Minus s.0) (bind_reads _ (number_reads (p, n) s.2.0) (ret_reads E _ g _ m s.2.2)))
literal_complete E (literal.Quoted p t) g k m s = look_reads (λ o. read.literal_by (seen o)) _ s.0 (bind_reads _ (quoted_reads (p, t) s.0) (ret_reads E _ g _ m s.2))
literal_complete E (literal.Truth p true) g k m s = look_reads (λ o. read.literal_by (seen o)) _ s.0 (bind_reads _ (key_reads kw.True s.0) (ret_reads E _ g _ m s.2))
literal_complete E (literal.Truth p false) g k m s = look_reads (λ o. read.literal_by (seen o)) _ s.0 (bind_reads _ (key_reads kw.False s.0) (ret_reads E _ g _ m s.2))

since_at : (E : Excuse) (b : Bool) (g : Source) (k : ℕ) (x : Option Since) (m : ℕ) → read.is_next (codes "since") (g k) ≡ b → Reads E (read.since_by b) g k x m → Reads E read.since g k x m
unfolding read.since
since_at E b g k x m at h = same_reads E read.since (read.since_by b) g k k x m (ap (λ b. read.since_by b g k) at) h

-- what comes behind a field's kind
no_since : (E : Excuse) (q : Option ℕ) (g : Source) (k m : ℕ) → Meets E g k (spell.comma q) m → AfterComma q (g m) → read.is_next (codes "since") (g k) ≡ false
no_since E None g k m s f = ap (λ i. read.is_next (codes "since") (g i)) s ∙ ap (read.is_next (codes "since")) f.is
no_since E (Some p) g k m s f = ap (read.is_next (codes "since")) s.0

since_complete : (E : Excuse) (x : Option Since) (q : Option ℕ) (g : Source) (k j m : ℕ) → Meets E g k (spell.since x) j → Meets E g j (spell.comma q) m → AfterComma q (g m) → Reads E read.since g k x j
since_complete E None q g k j m s t f = since_at E false g k None j (ap (λ i. read.is_next (codes "since") (g i)) s ∙ no_since E q g j m t f) (ret_reads E None g k j s)
since_complete E (Some x) q g k j m s t f =
    since_at E true g k (Some x) j (ap (read.is_next (codes "since")) s.0)
    (bind_reads _ (this_reads (codes "since") s.0) (bind_reads _ (number_reads (x.number_at, x.revision) s.2.0) (bind_reads _ (symbol_reads sym'.Assign s.2.2.0) (bind_reads _ (literal_complete E x.literal g (suc (suc (suc k))) j s.2.2.2) (ret_reads E (Some x) g j j refl)))))

saga_field_complete : (E : Excuse) → law.Complete E spell.saga_field Always (λ f o. AfterComma f.comma_at o) read.saga_field
unfolding read.saga_field
saga_field_complete E f fits g k m s ends =
    let parts = split E g k (spell.field f.field) (spell.since f.since ++ spell.comma f.comma_at) m s in
    let more = split E g parts.mid (spell.since f.since) (spell.comma f.comma_at) m parts.back in
    bind_reads _ (field_complete E f.field g k parts.mid parts.front) (bind_reads _ (since_complete E f.since f.comma_at g parts.mid more.mid m more.front more.back ends) (bind_reads _ (comma_reads E f.comma_at g more.mid m more.back ends) (ret_reads E f g m m refl)))

saga_field_row : IsRow spell.saga_field Always (λ f o. AfterComma f.comma_at o) closes saga_field_goes_on
saga_field_row = record {
  opens = λ f fits. record { first = spell.word f.field.name f.field.at; others = _; are = refl; goes = no_closing f.field.name f.field.at };
  between = λ x y fx fy more t ts e. there_follows x.comma_at (Some t.lexeme) more;
  ending = λ x fx o e. end_follows x.comma_at o e;
}

-- ---- parts

no_dot_word : (w : Option Keyword) → read.no_dot_by (read.is_dot (seen_word w)) ≡ true
no_dot_word None = refl
no_dot_word (Some w) = refl

no_dot_key : (w : Keyword) (g : Source) (m q : ℕ) → g m ≡ Some (word_token (keyword_text w) q) → read.no_dot (g m) ≡ true
unfolding seen
no_dot_key w g m q at = ap read.no_dot at ∙ no_dot_word (keyword_of (keyword_text w))

no_dot_block : (E : Excuse) (room : ℕ) (b : Braces) (g : Source) (k m : ℕ) → Meets E g k (spell.block room b) m → read.no_dot (g k) ≡ true
no_dot_block E room (Brace o b q) g k m s = no_dot_symbol g k o s.0

by_field_reads : (E : Excuse) (lines : ℕ) → Far E lines → (room : ℕ) (i : Inside) → InRoom E room i → (p : ℕ) (f : Finder) (t : TypeName) (q u : ℕ) (x : List ℕ) (b : Braces) → IsPart (ByField p f t q u x b) → (g : Source) (k m : ℕ) → Meets E g k (spell.part room (ByField p f t q u x b)) m
    → Reads E (read.by_field lines room i f) g k (ByField p f t q u x b) m
unfolding read.by_field
by_field_reads E lines far room i l p f t q u x b fits g k m s =
    let parts = split E g (suc k) (spell.type_name t) (spell.key kw.By q ∷ spell.word x u ∷ spell.block room b) m s.2 in
    bind_reads _ (key_reads (finder_key f) s.0) (bind_reads _ (type_name_complete E lines far t fits.0 g (suc k) parts.mid parts.front (no_dot_key kw.By g parts.mid q parts.back.0))
    (bind_reads _ (key_reads kw.By parts.back.0) (bind_reads _ (word_reads (u, x) parts.back.2.0) (bind_reads _ (block_complete E room i l b fits.1 g (suc (suc parts.mid)) m parts.back.2.2) (ret_reads E _ g m m refl)))))

by_id_reads : (E : Excuse) (lines : ℕ) → Far E lines → (room : ℕ) (i : Inside) → InRoom E room i → (p : ℕ) (a : Answer) (t : TypeName) (b : Braces) → IsPart (ById p a t b) → (g : Source) (k m : ℕ) → Meets E g k (spell.part room (ById p a t b)) m
    → Reads E (read.by_id lines room i a) g k (ById p a t b) m
unfolding read.by_id
by_id_reads E lines far room i l p a t b fits g k m s =
    let parts = split E g (suc k) (spell.type_name t) (spell.block room b) m s.2 in
    bind_reads _ (key_reads (answer_key a) s.0) (bind_reads _ (type_name_complete E lines far t fits.0 g (suc k) parts.mid parts.front (no_dot_block E room b g parts.mid m parts.back)) (bind_reads _ (block_complete E room i l b fits.1 g parts.mid m parts.back) (ret_reads E _ g m m refl)))

part_complete : (E : Excuse) (lines : ℕ) → Far E lines → (room : ℕ) (i : Inside) → InRoom E room i → law.Complete E (spell.part room) IsPart (λ x o. Unit {0}) (read.part lines room i)
unfolding read.part seen keyword_of
part_complete E lines far room i l (ByField p finder.Start t q u x b) fits g k m s f = look_reads (λ o. read.part_by lines room i (seen o)) _ s.0 (by_field_reads E lines far room i l p finder.Start t q u x b fits g k m s)
part_complete E lines far room i l (ByField p finder.Find t q u x b) fits g k m s f = look_reads (λ o. read.part_by lines room i (seen o)) _ s.0 (by_field_reads E lines far room i l p finder.Find t q u x b fits g k m s)
part_complete E lines far room i l (ById p answer.Reply t b) fits g k m s f = look_reads (λ o. read.part_by lines room i (seen o)) _ s.0 (by_id_reads E lines far room i l p answer.Reply t b fits g k m s)
part_complete E lines far room i l (ById p answer.Timeout t b) fits g k m s f = look_reads (λ o. read.part_by lines room i (seen o)) _ s.0 (by_id_reads E lines far room i l p answer.Timeout t b fits g k m s)

part_opens : (room : ℕ) (x : PartTerm) → Opens closes (spell.part room x)
part_opens room (ByField p f t q u x b) = record { first = spell.key (finder_key f) p; others = _; are = refl; goes = no_closing (keyword_text (finder_key f)) p }
part_opens room (ById p a t b) = record { first = spell.key (answer_key a) p; others = _; are = refl; goes = no_closing (keyword_text (answer_key a)) p }

part_row : (room : ℕ) → IsRow (spell.part room) IsPart (λ x o. Unit {0}) closes always
part_row room = record { opens = λ x fits. part_opens room x; between = λ x y fx fy more t ts e. tt; ending = λ x fx o e. tt }

-- ---- items

message_reads : (E : Excuse) (lines : ℕ) → Far E lines → (room p : ℕ) (t : TypeName) (o : ℕ) (fs : List _) (q : ℕ) → IsItem (Message p t o fs q) → (g : Source) (k m : ℕ) → Meets E g k (spell.item room (Message p t o fs q)) m → Reads E (read.message lines) g k (Message p t o fs q) m
unfolding read.message
message_reads E lines far room p t o fs q fits g k m s =
    let parts = split E g (suc k) (spell.type_name t) (spell.symbol sym'.OpenBrace o ∷ (each spell.message_field fs ++ spell.symbol sym'.CloseBrace q ∷ [])) m s.2 in
    let fields = split E g (suc parts.mid) (each spell.message_field fs) (spell.symbol sym'.CloseBrace q ∷ []) m parts.back.2 in
    bind_reads _ (key_reads kw.Message s.0) (bind_reads _ (type_name_complete E lines far t fits.0 g (suc k) parts.mid parts.front (no_dot_symbol g parts.mid o parts.back.0)) (bind_reads _ (symbol_reads sym'.OpenBrace parts.back.0)
    (bind_reads _ (many_complete {Follow = λ f o. AfterComma f.comma_at o} E closes message_field_goes_on lines message_field_row (message_field_complete E) far fs fits.1 g (suc parts.mid) fields.mid fields.front (closes_at g fields.mid q fields.back.0) lines (enough lines (suc parts.mid)))
    (bind_reads _ (symbol_reads sym'.CloseBrace fields.back.0) (ret_reads E _ g _ m fields.back.2)))))

handler_reads : (E : Excuse) (lines : ℕ) → Far E lines → (room : ℕ) (i : Inside) → InRoom E room i → (p : ℕ) (t : TypeName) (b : Braces) → IsItem (Handler p t b) → (g : Source) (k m : ℕ) → Meets E g k (spell.item room (Handler p t b)) m → Reads E (read.handler lines room i) g k (Handler p t b) m
unfolding read.handler
handler_reads E lines far room i l p t b fits g k m s =
    let parts = split E g (suc k) (spell.type_name t) (spell.block room b) m s.2 in
    bind_reads _ (key_reads kw.Handler s.0) (bind_reads _ (type_name_complete E lines far t fits.0 g (suc k) parts.mid parts.front (no_dot_block E room b g parts.mid m parts.back)) (bind_reads _ (block_complete E room i l b fits.1 g parts.mid m parts.back) (ret_reads E _ g m m refl)))

revision_at : (E : Excuse) (b : Bool) (g : Source) (k : ℕ) (x : Option Revision) (m : ℕ) → read.is_next (codes "revision") (g k) ≡ b → Reads E (read.revision_by b) g k x m → Reads E read.revision g k x m
unfolding read.revision
revision_at E b g k x m at h = same_reads E read.revision (read.revision_by b) g k k x m (ap (λ b. read.revision_by b g k) at) h

revision_complete : (E : Excuse) (x : Option Revision) (q : ℕ) (g : Source) (k m : ℕ) → Meets E g k (spell.revision x) m → g m ≡ Some (word_token (keyword_text kw.On) q) → Reads E read.revision g k x m
revision_complete E None q g k m s on = revision_at E false g k None m (ap (λ i. read.is_next (codes "revision") (g i)) s ∙ ap (read.is_next (codes "revision")) on) (ret_reads E None g k m s)
revision_complete E (Some x) q g k m s on =
    revision_at E true g k (Some x) m (ap (read.is_next (codes "revision")) s.0) (bind_reads _ (this_reads (codes "revision") s.0) (bind_reads _ (number_reads (x.number_at, x.number) s.2.0) (ret_reads E (Some x) g _ m s.2.2)))

abbrev head_of : SagaTerm → read.Head
head_of s = record { at = s.at; name = (s.name_at, s.name); revision = s.revision; on_at = s.on_at; correlation = s.correlation; open_at = s.open_at; fields_at = s.fields_at; fields_open_at = s.fields_open_at }

-- what stands behind a saga's head
abbrev tail_marks : (room : ℕ) → SagaTerm → List Mark
tail_marks room s = each spell.saga_field s.fields ++ spell.symbol sym'.CloseBrace s.fields_close_at ∷ (each (spell.part room) s.parts ++ spell.symbol sym'.CloseBrace s.close_at ∷ [])

abbrev behind_field : (room : ℕ) → SagaTerm → List Mark
behind_field room s = spell.symbol sym'.OpenBrace s.open_at ∷ spell.key kw.Fields s.fields_at ∷ spell.symbol sym'.OpenBrace s.fields_open_at ∷ tail_marks room s

pub record HeadRead (E : Excuse) (room : ℕ) (x : SagaTerm) (g : Source) (k m : ℕ) : Type 0 where
  pub mid : ℕ
  pub head : Reads E read.head g k (head_of x) mid
  pub tail : Meets E g mid (tail_marks room x) m

head_reads : (E : Excuse) (room : ℕ) (x : SagaTerm) → IsName x.name → (g : Source) (k m : ℕ) → Meets E g k (spell.saga room x) m → HeadRead E room x g k m
unfolding read.head
head_reads E room x free g k m s =
    let parts = split E g (suc (suc k)) (spell.revision x.revision) (spell.key kw.On x.on_at ∷ (spell.field x.correlation ++ behind_field room x)) m s.2.2 in
    let field = split E g (suc parts.mid) (spell.field x.correlation) (behind_field room x) m parts.back.2 in
    record {
      mid = suc (suc (suc field.mid));
      head = bind_reads _ (key_reads kw.Saga s.0) (bind_reads _ (name_reads (x.name_at, x.name) free s.2.0) (bind_reads _ (revision_complete E x.revision x.on_at g (suc (suc k)) parts.mid parts.front parts.back.0)
          (bind_reads _ (key_reads kw.On parts.back.0) (bind_reads _ (field_complete E x.correlation g (suc parts.mid) field.mid field.front) (bind_reads _ (symbol_reads sym'.OpenBrace field.back.0)
          (bind_reads _ (key_reads kw.Fields field.back.2.0) (bind_reads _ (symbol_reads sym'.OpenBrace field.back.2.2.0) (ret_reads E (head_of x) g _ _ refl))))))));
      tail = field.back.2.2.2;
    }

saga_reads : (E : Excuse) (lines : ℕ) → Far E lines → (room : ℕ) (i : Inside) → InRoom E room i → (x : SagaTerm) → IsSaga x → (g : Source) (k m : ℕ) → Meets E g k (spell.saga room x) m → Reads E (read.saga lines room i) g k (Saga x) m
unfolding read.saga
saga_reads E lines far room i l x fits g k m s =
    let front = head_reads E room x fits.name g k m s in
    let fields = split E g front.mid (each spell.saga_field x.fields) (spell.symbol sym'.CloseBrace x.fields_close_at ∷ (each (spell.part room) x.parts ++ spell.symbol sym'.CloseBrace x.close_at ∷ [])) m front.tail in
    let parts = split E g (suc fields.mid) (each (spell.part room) x.parts) (spell.symbol sym'.CloseBrace x.close_at ∷ []) m fields.back.2 in
    bind_reads _ front.head
    (bind_reads _ (many_complete {Follow = λ f o. AfterComma f.comma_at o} E closes saga_field_goes_on lines saga_field_row (saga_field_complete E) far x.fields fits.fields g front.mid fields.mid fields.front (closes_at g fields.mid x.fields_close_at fields.back.0) lines (enough lines front.mid))
    (bind_reads _ (symbol_reads sym'.CloseBrace fields.back.0)
    (bind_reads _ (many_complete {Follow = λ f o. Unit {0}} E closes always lines (part_row room) (part_complete E lines far room i l) far x.parts (every_strung IsPart x.parts fits.parts) g (suc fields.mid) parts.mid parts.front (closes_at g parts.mid x.close_at parts.back.0) lines (enough lines (suc fields.mid)))
    (bind_reads _ (symbol_reads sym'.CloseBrace parts.back.0) (ret_reads E (Saga x) g _ m parts.back.2)))))

item_complete : (E : Excuse) (lines : ℕ) → Far E lines → (room : ℕ) (i : Inside) → InRoom E room i → law.Complete E (spell.item room) IsItem (λ x o. Unit {0}) (read.item lines room i)
unfolding read.item seen keyword_of
item_complete E lines far room i l (Message p t o fs q) fits g k m s f = look_reads (λ o. read.item_by lines room i (seen o)) _ s.0 (message_reads E lines far room p t o fs q fits g k m s)
item_complete E lines far room i l (Handler p t b) fits g k m s f = look_reads (λ o. read.item_by lines room i (seen o)) _ s.0 (handler_reads E lines far room i l p t b fits g k m s)
item_complete E lines far room i l (Saga x) fits g k m s f = look_reads (λ o. read.item_by lines room i (seen o)) _ s.0 (saga_reads E lines far room i l x fits g k m s)

item_opens : (room : ℕ) (x : ItemTerm) → Opens read.is_end (spell.item room x)
item_opens room (Message p t o fs q) = record { first = spell.key kw.Message p; others = _; are = refl; goes = refl }
item_opens room (Handler p t b) = record { first = spell.key kw.Handler p; others = _; are = refl; goes = refl }
item_opens room (Saga s) = record { first = spell.key kw.Saga s.at; others = _; are = refl; goes = refl }

item_row : (room : ℕ) → IsRow (spell.item room) IsItem (λ x o. Unit {0}) read.is_end always
item_row room = record { opens = λ x fits. item_opens room x; between = λ x y fx fy more t ts e. tt; ending = λ x fx o e. tt }

-- what is spelled of a whole script is read
pub whole_complete : (E : Excuse) (lines : ℕ) → Far E lines → (room : ℕ) (xs : List ItemTerm) → Strung always IsItem xs → (g : Source) (m : ℕ) → Meets E g 0 (each (spell.item room) xs) m → g m ≡ None → Reads E (read.whole lines room) g 0 xs m
unfolding read.whole
whole_complete E lines far room xs all g m s none =
    bind_reads _ (many_complete {Follow = λ x o. Unit {0}} E read.is_end always lines (item_row room) (item_complete E lines far room (read.inside lines room) (inside_complete E lines far room)) far xs all g 0 m s (ap read.is_end none) lines (enough lines 0))
    (look_reads (λ o. read.finished xs (read.is_end o)) None none (ret_reads E xs g m m refl))
