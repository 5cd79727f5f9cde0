-- How statements and items are read, token by token.
use Rattle.std.specs.Prelude.{ℕ, zero, suc, Bool, true, false, List, [], ◌∷◌, Option, Some, None, codes}
use Rattle.nb_script.specs.declared.lexeme.Keyword.{Keyword}
use Rattle.nb_script.specs.declared.lexeme.Keyword.TheVariants as k
use Rattle.nb_script.specs.declared.lexeme.Symbol.TheVariants as sym
use Rattle.nb_script.specs.declared.lexeme.Lexeme.{Lexeme}
use Rattle.nb_script.specs.declared.lexeme.Seen.{Seen}
use Rattle.nb_script.specs.declared.lexeme.Seen.TheVariants as see
use Rattle.nb_script.specs.declared.fault.Fault.TheVariants.{Expected}
use Rattle.nb_script.specs.declared.expr.Dotted.{Dotted}
use Rattle.nb_script.specs.declared.expr.TypeName.{TypeName}
use Rattle.nb_script.specs.declared.stmt.Destination.{Destination}
use Rattle.nb_script.specs.declared.stmt.Destination.TheVariants as destination
use Rattle.nb_script.specs.declared.stmt.Refusal.{Refusal}
use Rattle.nb_script.specs.declared.stmt.Refusal.TheVariants as refusal
use Rattle.nb_script.specs.declared.item.FieldKind.{FieldKind}
use Rattle.nb_script.specs.declared.item.FieldKind.TheVariants as kind
use Rattle.nb_script.specs.declared.item.Field.{Field as FieldLine}
use Rattle.nb_script.specs.declared.item.MessageField.{MessageField}
use Rattle.nb_script.specs.declared.item.Literal.{Literal}
use Rattle.nb_script.specs.declared.item.Literal.TheVariants as literal
use Rattle.nb_script.specs.declared.item.Since.{Since}
use Rattle.nb_script.specs.declared.item.SagaField.{SagaField}
use Rattle.nb_script.specs.declared.item.Revision.{Revision}
use Rattle.nb_script.specs.declared.item.Finder.{Finder}
use Rattle.nb_script.specs.declared.item.Finder.TheVariants as finder
use Rattle.nb_script.specs.declared.item.Answer.{Answer}
use Rattle.nb_script.specs.declared.item.Answer.TheVariants as answer
use Rattle.nb_script.specs.Words.{keyword_text}
use Rattle.nb_script.specs.Grammar.{ArgTerm, MakeTerm, RowTerm, AfterTerm, Term}
use Rattle.nb_script.specs.Grammar.{Phrase, Let, Set, Put, Add, Erase, Send, Publish, Reply, Timeout, Complete, Refuse, If, Phrases, Nil, Then, Braces, Brace, Otherwise, Nothing, Last, Chain}
use Rattle.nb_script.specs.Grammar.{PartTerm, ByField, ById, ItemTerm, Message, Handler, Saga}
use Rattle.nb_script.specs.Spelling.{is_zero, arg_goes_on, destination_key, refusal_key, kind_key, truth_key, finder_key, answer_key, message_field_goes_on, saga_field_goes_on}
use Rattle.nb_script.specs.Reading.{Parser, ret, fail, ◌>>=◌, look, by_seen, seen, take, want_this, want_symbol, symbol, this, key, word, name, number, quoted, many, closes, always, is_word, expr}

-- ---- types, and messages that are made; a list has at most so many lines

abbrev pub is_dot : Seen → Bool
is_dot (see.Symbol sym.Dot) = true
is_dot _ = false

abbrev pub no_dot_by : Bool → Bool
no_dot_by true = false
no_dot_by false = true

abbrev pub no_dot : Option Lexeme → Bool
no_dot o = no_dot_by (is_dot (seen o))

unfoldable pub dotted : Parser Dotted
dotted = do
  d ← symbol sym.Dot
  n ← name
  ret (record { dot_at = d; at = n.0; name = n.1 })

unfoldable pub type_name : (lines : ℕ) → Parser TypeName
type_name lines = do
  n ← name
  ds ← many lines no_dot always dotted
  ret (record { at = n.0; name = n.1; others = ds })

abbrev pub is_comma : Seen → Bool
is_comma (see.Symbol sym.Comma) = true
is_comma _ = false

abbrev pub comma_by : Bool → Parser (Option ℕ)
comma_by true = symbol sym.Comma >>= λ p. ret (Some p)
comma_by false = ret None

unfoldable pub comma : Parser (Option ℕ)
comma = by_seen (λ s. comma_by (is_comma s))

unfoldable pub arg : (room : ℕ) → Parser ArgTerm
arg room = do
  n ← word
  c ← symbol sym.Colon
  e ← expr room
  q ← comma
  ret (record { at = n.0; name = n.1; colon_at = c; value = e; comma_at = q })

unfoldable pub make : (lines room : ℕ) → Parser MakeTerm
make lines room = do
  t ← type_name lines
  o ← symbol sym.OpenBrace
  xs ← many lines closes arg_goes_on (arg room)
  q ← symbol sym.CloseBrace
  ret (record { name = t; open_at = o; args = xs; close_at = q })

-- ---- statements

abbrev pub in_row : List Phrase → Phrases
in_row [] = Nil
in_row (x ∷ xs) = Then x (in_row xs)

-- what stands behind an `if`
pub record Branch : Type 0 where
  pub test : Term
  pub block : Braces
  pub otherwise : Otherwise

-- one level deeper: what stands in a block, and behind the `if` of an `else if`
pub record Inside : Type 0 where
  pub body : Parser (List Phrase)
  pub branch : Parser Branch

unfoldable pub row_name : (room : ℕ) → Parser RowTerm
row_name room = do
  p ← key k.Row
  o ← symbol sym.Open
  e ← expr room
  q ← symbol sym.Close
  ret (record { at = p; open_at = o; name = e; close_at = q })

unfoldable pub let_statement : (room : ℕ) → Parser Phrase
let_statement room = do
  p ← key k.Let
  n ← name
  u ← symbol sym.Assign
  e ← expr room
  s ← symbol sym.Semi
  ret (Let p n.0 n.1 u e s)

unfoldable pub set_statement : (room : ℕ) → Parser Phrase
set_statement room = do
  p ← key k.Set
  n ← word
  u ← symbol sym.Assign
  e ← expr room
  s ← symbol sym.Semi
  ret (Set p n.0 n.1 u e s)

unfoldable pub put_statement : (room : ℕ) → Parser Phrase
put_statement room = do
  p ← key k.Put
  r ← row_name room
  u ← symbol sym.Assign
  e ← expr room
  s ← symbol sym.Semi
  ret (Put p r u e s)

unfoldable pub add_statement : (room : ℕ) → Parser Phrase
add_statement room = do
  p ← key k.Add
  r ← row_name room
  u ← key k.By
  e ← expr room
  s ← symbol sym.Semi
  ret (Add p r u e s)

unfoldable pub erase_statement : (room : ℕ) → Parser Phrase
erase_statement room = do
  p ← key k.Erase
  r ← row_name room
  s ← symbol sym.Semi
  ret (Erase p r s)

-- a message that is sent, behind its delay
unfoldable pub sent : (lines room : ℕ) → Option AfterTerm → Destination → Parser Phrase
sent lines room a to = do
  p ← key (destination_key to)
  m ← make lines room
  s ← symbol sym.Semi
  ret (Send a p to m s)

abbrev pub sent_by : (lines room : ℕ) → Option AfterTerm → Seen → Parser Phrase
sent_by lines room a (see.Key k.Send) = sent lines room a destination.Route
sent_by lines room a (see.Key k.Local) = sent lines room a destination.Local
sent_by lines room a _ = fail Expected

unfoldable pub after : (room : ℕ) → Parser AfterTerm
after room = do
  p ← key k.After
  e ← expr room
  ret (record { at = p; delay = e })

unfoldable pub after_statement : (lines room : ℕ) → Parser Phrase
after_statement lines room = after room >>= λ a. by_seen (sent_by lines room (Some a))

unfoldable pub publish_statement : (lines room : ℕ) → Parser Phrase
publish_statement lines room = do
  p ← key k.Publish
  m ← make lines room
  s ← symbol sym.Semi
  ret (Publish p m s)

abbrev pub originator_by : Seen → Parser (Option ℕ)
originator_by (see.Key k.Originator) = key k.Originator >>= λ p. ret (Some p)
originator_by _ = ret None

unfoldable pub originator : Parser (Option ℕ)
originator = by_seen originator_by

unfoldable pub reply_statement : (lines room : ℕ) → Parser Phrase
reply_statement lines room = do
  p ← key k.Reply
  o ← originator
  m ← make lines room
  s ← symbol sym.Semi
  ret (Reply p o m s)

unfoldable pub timeout_statement : (lines room : ℕ) → Parser Phrase
timeout_statement lines room = do
  p ← key k.Timeout
  e ← expr room
  m ← make lines room
  s ← symbol sym.Semi
  ret (Timeout p e m s)

unfoldable pub complete_statement : Parser Phrase
complete_statement = do
  p ← key k.Complete
  s ← symbol sym.Semi
  ret (Complete p s)

unfoldable pub refuse_statement : (room : ℕ) → Refusal → Parser Phrase
refuse_statement room r = do
  p ← key (refusal_key r)
  n ← name
  e ← expr room
  s ← symbol sym.Semi
  ret (Refuse p r n.0 n.1 e s)

-- a block, by what may stand in it
unfoldable pub block : (room : ℕ) → Inside → Parser Braces
block room inside = do
  o ← take (is_zero room) (want_symbol sym.OpenBrace)
  xs ← inside.body
  q ← symbol sym.CloseBrace
  ret (Brace o (in_row xs) q)

unfoldable pub else_if : (room : ℕ) → Inside → ℕ → Parser Otherwise
else_if room inside p = do
  q ← take (is_zero room) (want_this (keyword_text k.If))
  b ← inside.branch
  ret (Chain p q b.test b.block b.otherwise)

unfoldable pub else_block : (room : ℕ) → Inside → ℕ → Parser Otherwise
else_block room inside p = block room inside >>= λ b. ret (Last p b)

abbrev pub else_by : (room : ℕ) → Inside → ℕ → Seen → Parser Otherwise
else_by room inside p (see.Key k.If) = else_if room inside p
else_by room inside p _ = else_block room inside p

abbrev pub else_part : (room : ℕ) → Inside → Parser Otherwise
else_part room inside = key k.Else >>= λ p. by_seen (else_by room inside p)

abbrev pub alternative_by : (room : ℕ) → Inside → Seen → Parser Otherwise
alternative_by room inside (see.Key k.Else) = else_part room inside
alternative_by room inside _ = ret Nothing

unfoldable pub alternative : (room : ℕ) → Inside → Parser Otherwise
alternative room inside = by_seen (alternative_by room inside)

unfoldable pub branch : (room : ℕ) → Inside → Parser Branch
branch room inside = do
  e ← expr room
  b ← block room inside
  o ← alternative room inside
  ret (record { test = e; block = b; otherwise = o })

unfoldable pub if_statement : (room : ℕ) → Inside → Parser Phrase
if_statement room inside = do
  p ← key k.If
  b ← branch room inside
  ret (If p b.test b.block b.otherwise)

abbrev pub statement_of : (lines room : ℕ) → Inside → Keyword → Parser Phrase
statement_of lines room inside k.Let = let_statement room
statement_of lines room inside k.Set = set_statement room
statement_of lines room inside k.Put = put_statement room
statement_of lines room inside k.Add = add_statement room
statement_of lines room inside k.Erase = erase_statement room
statement_of lines room inside k.After = after_statement lines room
statement_of lines room inside k.Send = sent lines room None destination.Route
statement_of lines room inside k.Local = sent lines room None destination.Local
statement_of lines room inside k.Publish = publish_statement lines room
statement_of lines room inside k.Reply = reply_statement lines room
statement_of lines room inside k.Timeout = timeout_statement lines room
statement_of lines room inside k.Complete = complete_statement
statement_of lines room inside k.Fail = refuse_statement room refusal.Fail
statement_of lines room inside k.Reject = refuse_statement room refusal.Reject
statement_of lines room inside k.If = if_statement room inside
statement_of lines room inside _ = fail Expected

abbrev pub statement_by : (lines room : ℕ) → Inside → Seen → Parser Phrase
statement_by lines room inside (see.Key w) = statement_of lines room inside w
statement_by lines room inside _ = fail Expected

unfoldable pub statement : (lines room : ℕ) → Inside → Parser Phrase
statement lines room inside = by_seen (statement_by lines room inside)

-- what may stand one level deeper, with room for so many levels
unfoldable pub inside : (lines room : ℕ) → Inside
inside lines zero = record { body = fail Expected; branch = fail Expected }
inside lines (suc room) = record { body = many lines closes always (statement lines room (inside lines room)); branch = branch room (inside lines room) }

-- ---- items

abbrev pub kind_is : FieldKind → Parser (ℕ × FieldKind)
kind_is x = key (kind_key x) >>= λ p. ret (p, x)

abbrev pub kind_by : Seen → Parser (ℕ × FieldKind)
kind_by (see.Key k.Int) = kind_is kind.Int
kind_by (see.Key k.Text) = kind_is kind.Text
kind_by (see.Key k.Bool) = kind_is kind.Bool
kind_by _ = fail Expected

unfoldable pub field_kind : Parser (ℕ × FieldKind)
field_kind = by_seen kind_by

unfoldable pub field : Parser FieldLine
field = do
  n ← word
  c ← symbol sym.Colon
  x ← field_kind
  ret (record { at = n.0; name = n.1; colon_at = c; kind_at = x.0; kind = x.1 })

unfoldable pub message_field : Parser MessageField
message_field = do
  f ← field
  q ← comma
  ret (record { field = f; comma_at = q })

unfoldable pub negative_literal : Parser Literal
negative_literal = do
  m ← symbol sym.Minus
  n ← number
  ret (literal.Number (Some m) n.0 n.1)

abbrev pub truth_literal : Bool → Parser Literal
truth_literal b = key (truth_key b) >>= λ p. ret (literal.Truth p b)

abbrev pub literal_by : Seen → Parser Literal
literal_by (see.Symbol sym.Minus) = negative_literal
literal_by see.Number = number >>= λ n. ret (literal.Number None n.0 n.1)
literal_by see.Quoted = quoted >>= λ t. ret (literal.Quoted t.0 t.1)
literal_by (see.Key k.True) = truth_literal true
literal_by (see.Key k.False) = truth_literal false
literal_by _ = fail Expected

unfoldable pub literal_value : Parser Literal
literal_value = by_seen literal_by

abbrev pub is_next : List ℕ → Option Lexeme → Bool
is_next w None = false
is_next w (Some t) = is_word w t.content

abbrev pub since_part : Parser (Option Since)
since_part = do
  p ← this (codes "since")
  n ← number
  u ← symbol sym.Assign
  x ← literal_value
  ret (Some (record { at = p; number_at = n.0; revision = n.1; equals_at = u; literal = x }))

abbrev pub since_by : Bool → Parser (Option Since)
since_by true = since_part
since_by false = ret None

unfoldable pub since : Parser (Option Since)
since = look (λ o. since_by (is_next (codes "since") o))

unfoldable pub saga_field : Parser SagaField
saga_field = do
  f ← field
  s ← since
  q ← comma
  ret (record { field = f; since = s; comma_at = q })

abbrev pub revision_part : Parser (Option Revision)
revision_part = do
  p ← this (codes "revision")
  n ← number
  ret (Some (record { at = p; number_at = n.0; number = n.1 }))

abbrev pub revision_by : Bool → Parser (Option Revision)
revision_by true = revision_part
revision_by false = ret None

unfoldable pub revision : Parser (Option Revision)
revision = look (λ o. revision_by (is_next (codes "revision") o))

unfoldable pub by_field : (lines room : ℕ) → Inside → Finder → Parser PartTerm
by_field lines room inside f = do
  p ← key (finder_key f)
  t ← type_name lines
  q ← key k.By
  n ← word
  b ← block room inside
  ret (ByField p f t q n.0 n.1 b)

unfoldable pub by_id : (lines room : ℕ) → Inside → Answer → Parser PartTerm
by_id lines room inside a = do
  p ← key (answer_key a)
  t ← type_name lines
  b ← block room inside
  ret (ById p a t b)

abbrev pub part_by : (lines room : ℕ) → Inside → Seen → Parser PartTerm
part_by lines room inside (see.Key k.Start) = by_field lines room inside finder.Start
part_by lines room inside (see.Key k.Find) = by_field lines room inside finder.Find
part_by lines room inside (see.Key k.Reply) = by_id lines room inside answer.Reply
part_by lines room inside (see.Key k.Timeout) = by_id lines room inside answer.Timeout
part_by lines room inside _ = fail Expected

unfoldable pub part : (lines room : ℕ) → Inside → Parser PartTerm
part lines room inside = by_seen (part_by lines room inside)

unfoldable pub message : (lines : ℕ) → Parser ItemTerm
message lines = do
  p ← key k.Message
  t ← type_name lines
  o ← symbol sym.OpenBrace
  fs ← many lines closes message_field_goes_on message_field
  q ← symbol sym.CloseBrace
  ret (Message p t o fs q)

unfoldable pub handler : (lines room : ℕ) → Inside → Parser ItemTerm
handler lines room inside = do
  p ← key k.Handler
  t ← type_name lines
  b ← block room inside
  ret (Handler p t b)

-- a saga up to the fields' opening brace
pub record Head : Type 0 where
  pub at : ℕ
  pub name : ℕ × List ℕ
  pub revision : Option Revision
  pub on_at : ℕ
  pub correlation : FieldLine
  pub open_at : ℕ
  pub fields_at : ℕ
  pub fields_open_at : ℕ

unfoldable pub head : Parser Head
head = do
  p ← key k.Saga
  n ← name
  r ← revision
  q ← key k.On
  f ← field
  o ← symbol sym.OpenBrace
  w ← key k.Fields
  x ← symbol sym.OpenBrace
  ret (record { at = p; name = n; revision = r; on_at = q; correlation = f; open_at = o; fields_at = w; fields_open_at = x })

unfoldable pub saga : (lines room : ℕ) → Inside → Parser ItemTerm
saga lines room inside = do
  h ← head
  fs ← many lines closes saga_field_goes_on saga_field
  y ← symbol sym.CloseBrace
  ps ← many lines closes always (part lines room inside)
  q ← symbol sym.CloseBrace
  ret (Saga (record {
    at = h.at;
    name_at = h.name.0;
    name = h.name.1;
    revision = h.revision;
    on_at = h.on_at;
    correlation = h.correlation;
    open_at = h.open_at;
    fields_at = h.fields_at;
    fields_open_at = h.fields_open_at;
    fields = fs;
    fields_close_at = y;
    parts = ps;
    close_at = q;
  }))

abbrev pub item_by : (lines room : ℕ) → Inside → Seen → Parser ItemTerm
item_by lines room inside (see.Key k.Message) = message lines
item_by lines room inside (see.Key k.Handler) = handler lines room inside
item_by lines room inside (see.Key k.Saga) = saga lines room inside
item_by lines room inside _ = fail Expected

unfoldable pub item : (lines room : ℕ) → Inside → Parser ItemTerm
item lines room inside = by_seen (item_by lines room inside)

abbrev pub is_end : Option Lexeme → Bool
is_end None = true
is_end (Some t) = false

abbrev pub finished : List ItemTerm → Bool → Parser (List ItemTerm)
finished xs true = ret xs
finished xs false = fail Expected

-- items, and nothing behind them
unfoldable pub whole : (lines room : ℕ) → Parser (List ItemTerm)
whole lines room = do
  xs ← many lines is_end always (item lines room (inside lines room))
  look (λ o. finished xs (is_end o))
