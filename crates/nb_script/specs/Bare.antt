-- A script but for places: without parentheses and last commas too.
use Rattle.std.specs.Prelude.{ℕ, ℤ, zero, pos, List, map, option_map, Option, Some, None}
use Rattle.nb_script.specs.declared.expr.Dotted.{Dotted}
use Rattle.nb_script.specs.declared.expr.TypeName.{TypeName}
use Rattle.nb_script.specs.declared.item.Field.{Field as FieldLine}
use Rattle.nb_script.specs.declared.item.MessageField.{MessageField}
use Rattle.nb_script.specs.declared.item.Literal.{Literal}
use Rattle.nb_script.specs.declared.item.Literal.TheVariants as literal
use Rattle.nb_script.specs.declared.item.Since.{Since}
use Rattle.nb_script.specs.declared.item.SagaField.{SagaField}
use Rattle.nb_script.specs.declared.item.Revision.{Revision}
use Rattle.nb_script.specs.Grammar.{Term, Number, Quoted, Constant, Field, Name, Call, Paren, Prefix, Infix, ArgTerm, MakeTerm, RowTerm, AfterTerm}
use Rattle.nb_script.specs.Grammar.{Phrase, Let, Set, Put, Add, Erase, Send, Publish, Reply, Timeout, Complete, Refuse, If, Phrases, Nil, Then, Braces, Brace, Otherwise, Nothing, Last, Chain}
use Rattle.nb_script.specs.Grammar.{PartTerm, ByField, ById, SagaTerm, ItemTerm, Message, Handler, Saga}

abbrev pub term : Term → Term
term (Number p n) = Number 0 n
term (Quoted p t) = Quoted 0 t
term (Constant p w) = Constant 0 w
term (Field p h d q x) = Field 0 h 0 0 x
term (Name p x) = Name 0 x
term (Call p f o e q) = Call 0 f 0 (term e) 0
term (Paren o e q) = term e
term (Prefix p op e) = Prefix 0 op (term e)
term (Infix a p op b) = Infix (term a) 0 op (term b)

abbrev pub dotted : Dotted → Dotted
dotted d = record { dot_at = 0; at = 0; name = d.name }

abbrev pub type_name : TypeName → TypeName
type_name t = record { at = 0; name = t.name; others = map dotted t.others }

abbrev pub arg : ArgTerm → ArgTerm
arg a = record { at = 0; name = a.name; colon_at = 0; value = term a.value; comma_at = None }

abbrev pub make : MakeTerm → MakeTerm
make m = record { name = type_name m.name; open_at = 0; args = map arg m.args; close_at = 0 }

abbrev pub row_name : RowTerm → RowTerm
row_name r = record { at = 0; open_at = 0; name = term r.name; close_at = 0 }

abbrev pub after : AfterTerm → AfterTerm
after a = record { at = 0; delay = term a.delay }

abbrev pub nowhere : ℕ → ℕ
nowhere p = 0

abbrev mutual
  pub phrase : Phrase → Phrase
  phrase (Let p q x u e s) = Let 0 0 x 0 (term e) 0
  phrase (Set p q x u e s) = Set 0 0 x 0 (term e) 0
  phrase (Put p r u e s) = Put 0 (row_name r) 0 (term e) 0
  phrase (Add p r u e s) = Add 0 (row_name r) 0 (term e) 0
  phrase (Erase p r s) = Erase 0 (row_name r) 0
  phrase (Send a p to m s) = Send (option_map after a) 0 to (make m) 0
  phrase (Publish p m s) = Publish 0 (make m) 0
  phrase (Reply p o m s) = Reply 0 (option_map nowhere o) (make m) 0
  phrase (Timeout p e m s) = Timeout 0 (term e) (make m) 0
  phrase (Complete p s) = Complete 0 0
  phrase (Refuse p r q x e s) = Refuse 0 r 0 x (term e) 0
  phrase (If p e b o) = If 0 (term e) (braces b) (otherwise o)

  pub phrases : Phrases → Phrases
  phrases Nil = Nil
  phrases (Then x xs) = Then (phrase x) (phrases xs)

  pub braces : Braces → Braces
  braces (Brace o b q) = Brace 0 (phrases b) 0

  pub otherwise : Otherwise → Otherwise
  otherwise Nothing = Nothing
  otherwise (Last p b) = Last 0 (braces b)
  otherwise (Chain p q e b o) = Chain 0 0 (term e) (braces b) (otherwise o)

abbrev pub field : FieldLine → FieldLine
field f = record { at = 0; name = f.name; colon_at = 0; kind_at = 0; kind = f.kind }

abbrev pub message_field : MessageField → MessageField
message_field f = record { field = field f.field; comma_at = None }

-- Zero has no sign.
abbrev pub sign : Option ℕ → ℤ → Option ℕ
sign None n = None
sign (Some p) (pos zero) = None
sign (Some p) n = Some 0

abbrev pub literal_of : Literal → Literal
literal_of (literal.Number m p n) = literal.Number (sign m n) 0 n
literal_of (literal.Quoted p t) = literal.Quoted 0 t
literal_of (literal.Truth p b) = literal.Truth 0 b

abbrev pub since : Since → Since
since s = record { at = 0; number_at = 0; revision = s.revision; equals_at = 0; literal = literal_of s.literal }

abbrev pub saga_field : SagaField → SagaField
saga_field f = record { field = field f.field; since = option_map since f.since; comma_at = None }

abbrev pub revision : Revision → Revision
revision r = record { at = 0; number_at = 0; number = r.number }

abbrev pub part : PartTerm → PartTerm
part (ByField p f t q u x b) = ByField 0 f (type_name t) 0 0 x (braces b)
part (ById p a t b) = ById 0 a (type_name t) (braces b)

abbrev pub saga : SagaTerm → SagaTerm
saga s = record {
  at = 0;
  name_at = 0;
  name = s.name;
  revision = option_map revision s.revision;
  on_at = 0;
  correlation = field s.correlation;
  open_at = 0;
  fields_at = 0;
  fields_open_at = 0;
  fields = map saga_field s.fields;
  fields_close_at = 0;
  parts = map part s.parts;
  close_at = 0;
}

abbrev pub item : ItemTerm → ItemTerm
item (Message p t o fs q) = Message 0 (type_name t) 0 (map message_field fs) 0
item (Handler p t b) = Handler 0 (type_name t) (braces b)
item (Saga s) = Saga (saga s)

-- the items of a script
abbrev pub script : List ItemTerm → List ItemTerm
script items = map item items
