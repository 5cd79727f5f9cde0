-- The text that is printed: the tokens of a script with the parentheses that it needs, and without its last commas.
use Rattle.std.specs.Prelude.{ℕ, ℤ, zero, pos, ◌-◌, ◌==◌, nat_le, Bool, true, false, List, [], ◌∷◌, ◌++◌, Option, Some, None, codes, if◌then◌else◌}
use Rattle.std.specs.Fmt.{signed_decimal}
use Rattle.nb_script.specs.declared.lexeme.Keyword.{Keyword}
use Rattle.nb_script.specs.declared.lexeme.Keyword.TheVariants as k
use Rattle.nb_script.specs.declared.lexeme.Symbol.{Symbol}
use Rattle.nb_script.specs.declared.lexeme.Symbol.TheVariants as sym
use Rattle.nb_script.specs.declared.lexeme.Content.{Content}
use Rattle.nb_script.specs.declared.lexeme.Content.TheVariants as c
use Rattle.nb_script.specs.declared.expr.Dotted.{Dotted}
use Rattle.nb_script.specs.declared.expr.TypeName.{TypeName}
use Rattle.nb_script.specs.declared.item.Field.{Field as FieldLine}
use Rattle.nb_script.specs.declared.item.MessageField.{MessageField}
use Rattle.nb_script.specs.declared.item.Literal.{Literal}
use Rattle.nb_script.specs.declared.item.Literal.TheVariants as literal
use Rattle.nb_script.specs.declared.item.Since.{Since}
use Rattle.nb_script.specs.declared.item.SagaField.{SagaField}
use Rattle.nb_script.specs.declared.item.Revision.{Revision}
use Rattle.nb_script.specs.Words.{keyword_text}
use Rattle.nb_script.specs.Grammar.{Term, Number, Quoted, Constant, Field, Name, Call, Paren, Prefix, Infix, ArgTerm, MakeTerm, RowTerm, AfterTerm}
use Rattle.nb_script.specs.Grammar.{Phrase, Let, Set, Put, Add, Erase, Send, Publish, Reply, Timeout, Complete, Refuse, If, Phrases, Nil, Then, Braces, Brace, Otherwise, Nothing, Last, Chain}
use Rattle.nb_script.specs.Grammar.{PartTerm, ByField, ById, SagaTerm, ItemTerm, Message, Handler, Saga}
use Rattle.nb_script.specs.Spelling.{unary_symbol, binary_symbol, constant_key, holder_key, function_key, level, left_level, destination_key, refusal_key, kind_key, truth_key, finder_key, answer_key}

-- ---- the text of a token

abbrev pub symbol_text : Symbol → List ℕ
symbol_text sym.OpenBrace = codes "{"
symbol_text sym.CloseBrace = codes "}"
symbol_text sym.Open = codes "("
symbol_text sym.Close = codes ")"
symbol_text sym.Comma = codes ","
symbol_text sym.Semi = codes ";"
symbol_text sym.Colon = codes ":"
symbol_text sym.Dot = codes "."
symbol_text sym.Assign = codes "="
symbol_text sym.Equal = codes "=="
symbol_text sym.Unequal = codes "!="
symbol_text sym.Less = codes "<"
symbol_text sym.LessOrEqual = codes "<="
symbol_text sym.Greater = codes ">"
symbol_text sym.GreaterOrEqual = codes ">="
symbol_text sym.Plus = codes "+"
symbol_text sym.Join = codes "++"
symbol_text sym.Minus = codes "-"
symbol_text sym.Star = codes "*"
symbol_text sym.And = codes "&&"
symbol_text sym.Or = codes "||"
symbol_text sym.Not = codes "!"

-- a byte of a text in quotes
abbrev pub escape_of : ℕ → List ℕ
escape_of b = if b == 34 then 92 ∷ 34 ∷ [] else
    if b == 92 then 92 ∷ 92 ∷ [] else
    if b == 10 then 92 ∷ 110 ∷ [] else
    if b == 13 then 92 ∷ 114 ∷ [] else
    if b == 9 then 92 ∷ 116 ∷ [] else b ∷ []

abbrev pub escaped : List ℕ → List ℕ
escaped [] = []
escaped (b ∷ bs) = escape_of b ++ escaped bs

unfoldable pub token_text : Content → List ℕ
token_text (c.Word w) = w
token_text (c.Number n) = signed_decimal n
token_text (c.Quoted t) = 34 ∷ (escaped t ++ 34 ∷ [])
token_text (c.Symbol s) = symbol_text s

-- each token, and a space behind it
abbrev pub texts : List Content → List ℕ
texts [] = []
texts (t ∷ ts) = token_text t ++ 32 ∷ texts ts

abbrev pub key : Keyword → Content
key w = c.Word (keyword_text w)

-- the tokens of all of a list
abbrev pub all_of : {A : Type 0} → (A → List Content) → List A → List Content
all_of f [] = []
all_of f (x ∷ xs) = f x ++ all_of f xs

-- with a comma in front
abbrev pub behind_comma : {A : Type 0} → (A → List Content) → A → List Content
behind_comma f x = c.Symbol sym.Comma ∷ f x

-- with a comma between each two
abbrev pub listed : {A : Type 0} → (A → List Content) → List A → List Content
listed f [] = []
listed f (x ∷ xs) = f x ++ all_of (behind_comma f) xs

-- ---- expressions

abbrev pub open_unless : Bool → List Content
open_unless true = []
open_unless false = c.Symbol sym.Open ∷ []

abbrev pub close_unless : Bool → List Content
close_unless true = []
close_unless false = c.Symbol sym.Close ∷ []

-- an expression, where operators up to this level need no parentheses
abbrev pub expr : ℕ → Term → List Content
expr n (Number p v) = c.Number v ∷ []
expr n (Quoted p t) = c.Quoted t ∷ []
expr n (Constant p w) = key (constant_key w) ∷ []
expr n (Field p h d q x) = key (holder_key h) ∷ c.Symbol sym.Dot ∷ c.Word x ∷ []
expr n (Name p x) = c.Word x ∷ []
expr n (Call p f o e q) = key (function_key f) ∷ c.Symbol sym.Open ∷ (expr 5 e ++ c.Symbol sym.Close ∷ [])
expr n (Paren o e q) = expr n e
expr n (Prefix p op e) = c.Symbol (unary_symbol op) ∷ expr 0 e
expr n (Infix a p op b) =
    open_unless (nat_le (level op) n) ++ (expr (left_level op) a ++ c.Symbol (binary_symbol op) ∷ (expr (level op - 1) b ++ close_unless (nat_le (level op) n)))

-- ---- types, and messages that are made

abbrev pub dotted : Dotted → List Content
dotted d = c.Symbol sym.Dot ∷ c.Word d.name ∷ []

abbrev pub type_name : TypeName → List Content
type_name t = c.Word t.name ∷ all_of dotted t.others

abbrev pub arg : ArgTerm → List Content
arg a = c.Word a.name ∷ c.Symbol sym.Colon ∷ expr 5 a.value

abbrev pub make : MakeTerm → List Content
make m = type_name m.name ++ c.Symbol sym.OpenBrace ∷ (listed arg m.args ++ c.Symbol sym.CloseBrace ∷ [])

-- ---- statements

abbrev pub row_name : RowTerm → List Content
row_name r = key k.Row ∷ c.Symbol sym.Open ∷ (expr 5 r.name ++ c.Symbol sym.Close ∷ [])

abbrev pub delay : Option AfterTerm → List Content
delay None = []
delay (Some a) = key k.After ∷ expr 5 a.delay

abbrev pub originator : Option ℕ → List Content
originator None = []
originator (Some p) = key k.Originator ∷ []

-- a value and the end of its statement
abbrev pub ended : Term → List Content
ended e = expr 5 e ++ c.Symbol sym.Semi ∷ []

-- a message that is made, and the end of its statement
abbrev pub made : MakeTerm → List Content
made m = make m ++ c.Symbol sym.Semi ∷ []

-- a keyword, a word, and what it gets
abbrev pub assignment : Keyword → List ℕ → Term → List Content
assignment w x e = key w ∷ c.Word x ∷ c.Symbol sym.Assign ∷ ended e

abbrev mutual
  pub statement : Phrase → List Content
  statement (Let p q x u e s) = assignment k.Let x e
  statement (Set p q x u e s) = assignment k.Set x e
  statement (Put p r u e s) = key k.Put ∷ (row_name r ++ c.Symbol sym.Assign ∷ ended e)
  statement (Add p r u e s) = key k.Add ∷ (row_name r ++ key k.By ∷ ended e)
  statement (Erase p r s) = key k.Erase ∷ (row_name r ++ c.Symbol sym.Semi ∷ [])
  statement (Send a p to m s) = delay a ++ key (destination_key to) ∷ made m
  statement (Publish p m s) = key k.Publish ∷ made m
  statement (Reply p o m s) = key k.Reply ∷ (originator o ++ made m)
  statement (Timeout p e m s) = key k.Timeout ∷ (expr 5 e ++ made m)
  statement (Complete p s) = key k.Complete ∷ c.Symbol sym.Semi ∷ []
  statement (Refuse p r q x e s) = key (refusal_key r) ∷ c.Word x ∷ ended e
  statement (If p e b o) = key k.If ∷ (expr 5 e ++ (block b ++ alternative o))

  pub statements : Phrases → List Content
  statements Nil = []
  statements (Then x xs) = statement x ++ statements xs

  pub block : Braces → List Content
  block (Brace o b q) = c.Symbol sym.OpenBrace ∷ (statements b ++ c.Symbol sym.CloseBrace ∷ [])

  pub alternative : Otherwise → List Content
  alternative Nothing = []
  alternative (Last p b) = key k.Else ∷ block b
  alternative (Chain p q e b o) = key k.Else ∷ key k.If ∷ (expr 5 e ++ (block b ++ alternative o))

-- ---- items

abbrev pub field : FieldLine → List Content
field f = c.Word f.name ∷ c.Symbol sym.Colon ∷ key (kind_key f.kind) ∷ []

abbrev pub message_field : MessageField → List Content
message_field f = field f.field

-- The sign of zero isn't printed.
abbrev pub sign : Option ℕ → ℤ → List Content
sign None n = []
sign (Some p) (pos zero) = []
sign (Some p) n = c.Symbol sym.Minus ∷ []

abbrev pub literal_tokens : Literal → List Content
literal_tokens (literal.Number m p n) = sign m n ++ c.Number n ∷ []
literal_tokens (literal.Quoted p t) = c.Quoted t ∷ []
literal_tokens (literal.Truth p b) = key (truth_key b) ∷ []

abbrev pub since : Option Since → List Content
since None = []
since (Some s) = c.Word (codes "since") ∷ c.Number s.revision ∷ c.Symbol sym.Assign ∷ literal_tokens s.literal

abbrev pub saga_field : SagaField → List Content
saga_field f = field f.field ++ since f.since

abbrev pub revision : Option Revision → List Content
revision None = []
revision (Some r) = c.Word (codes "revision") ∷ c.Number r.number ∷ []

abbrev pub part : PartTerm → List Content
part (ByField p f t q u x b) = key (finder_key f) ∷ (type_name t ++ key k.By ∷ c.Word x ∷ block b)
part (ById p a t b) = key (answer_key a) ∷ (type_name t ++ block b)

-- up to its fields
abbrev pub saga_head : SagaTerm → List Content
saga_head s = key k.Saga ∷ c.Word s.name ∷ (revision s.revision ++ key k.On ∷ field s.correlation)

-- its fields and what it does
abbrev pub saga_body : SagaTerm → List Content
saga_body s =
    c.Symbol sym.OpenBrace ∷ key k.Fields ∷ c.Symbol sym.OpenBrace ∷ (listed saga_field s.fields
    ++ c.Symbol sym.CloseBrace ∷ (all_of part s.parts ++ c.Symbol sym.CloseBrace ∷ []))

abbrev pub saga : SagaTerm → List Content
saga s = saga_head s ++ saga_body s

abbrev pub message : TypeName → List MessageField → List Content
message t fs = key k.Message ∷ (type_name t ++ c.Symbol sym.OpenBrace ∷ (listed message_field fs ++ c.Symbol sym.CloseBrace ∷ []))

abbrev pub item : ItemTerm → List Content
item (Message p t o fs q) = message t fs
item (Handler p t b) = key k.Handler ∷ (type_name t ++ block b)
item (Saga s) = saga s

-- ---- scripts

-- each item, and a line feed behind it
abbrev pub printed : List ItemTerm → List ℕ
printed [] = []
printed (x ∷ xs) = texts (item x) ++ 10 ∷ printed xs
