-- What a script declares: messages and sagas in the order of the script, and the blocks that messages meet.
use Rattle.std.specs.Prelude.{ℕ, ℤ, pos, neg_ℤ, List, [], ◌∷◌, ◌++◌, false, Option, Some, None}
use Rattle.nb_base.specs.declared.value.Value.{Value}
use Rattle.nb_base.specs.declared.value.Value.TheVariants as value
use Rattle.nb_script.specs.declared.expr.TypeName.{TypeName}
use Rattle.nb_script.specs.declared.expr.Dotted.{Dotted}
use Rattle.nb_script.specs.declared.item.Answer.TheVariants as answer
use Rattle.nb_script.specs.declared.item.Field.{Field as FieldLine}
use Rattle.nb_script.specs.declared.item.FieldKind.{FieldKind}
use Rattle.nb_script.specs.declared.item.FieldKind.TheVariants as kind
use Rattle.nb_script.specs.declared.item.Literal.{Literal}
use Rattle.nb_script.specs.declared.item.Literal.TheVariants as literal
use Rattle.nb_script.specs.declared.item.MessageField.{MessageField}
use Rattle.nb_script.specs.declared.item.Revision.{Revision}
use Rattle.nb_script.specs.declared.item.SagaField.{SagaField}
use Rattle.nb_script.specs.declared.item.Since.{Since}
use Rattle.nb_script.specs.Grammar.{PartTerm, ByField, ById, SagaTerm, ItemTerm, Message, Handler, Saga}
use Rattle.nb_check.specs.declared.types.Declared.{Declared}
use Rattle.nb_check.specs.declared.types.MessageType.{MessageType}
use Rattle.nb_check.specs.declared.types.SagaType.{SagaType}
use Rattle.nb_check.specs.declared.types.StateField.{StateField}

-- ---- names

abbrev pub dotted : List Dotted → List ℕ
dotted [] = []
dotted (d ∷ ds) = 46 ∷ d.name ++ dotted ds

-- the text of a message's type: its names, with a dot before each but the first
abbrev pub type_text : TypeName → List ℕ
type_text t = t.name ++ dotted t.others

-- ---- messages

abbrev pub field_of : FieldLine → Declared
field_of f = record { name = f.name; kind = f.kind }

abbrev pub declared_all : List MessageField → List Declared
declared_all [] = []
declared_all (f ∷ fs) = field_of f.field ∷ declared_all fs

abbrev pub message_type : TypeName → List MessageField → MessageType
message_type n fs = record { name = type_text n; fields = declared_all fs }

-- the messages that an item declares, which are one or none
abbrev pub message_of : ItemTerm → List MessageType
message_of (Message at n o fs c) = message_type n fs ∷ []
message_of (Handler at n b) = []
message_of (Saga s) = []

-- the declared messages, in the order of the script
abbrev pub messages : List ItemTerm → List MessageType
messages [] = []
messages (i ∷ items) = message_of i ++ messages items

-- their names
abbrev pub names_of : List MessageType → List (List ℕ)
names_of [] = []
names_of (m ∷ ms) = m.name ∷ names_of ms

-- ---- sagas

-- the value of a field where nothing else is said
abbrev pub default_of : FieldKind → Value
default_of kind.Int = value.Int (pos 0)
default_of kind.Text = value.Text []
default_of kind.Bool = value.Bool false

abbrev pub number_of : Option ℕ → ℤ → ℤ
number_of None n = n
number_of (Some at) n = neg_ℤ n

abbrev pub literal_value : Literal → Value
literal_value (literal.Number minus_at at n) = value.Int (number_of minus_at n)
literal_value (literal.Quoted at t) = value.Text t
literal_value (literal.Truth at b) = value.Bool b

-- the revision from which a field is there
abbrev pub since_of : Option Since → ℤ
since_of None = pos 1
since_of (Some s) = s.revision

-- the value of a field in a new saga, and in one that was stored before the field was there
abbrev pub first_value : FieldKind → Option Since → Value
first_value k None = default_of k
first_value k (Some s) = literal_value s.literal

abbrev pub state_field : SagaField → StateField
state_field f = record { name = f.field.name; kind = f.field.kind; since = since_of f.since; first = first_value f.field.kind f.since }

abbrev pub state_fields : List SagaField → List StateField
state_fields [] = []
state_fields (f ∷ fs) = state_field f ∷ state_fields fs

abbrev pub revision_of : Option Revision → ℤ
revision_of None = pos 1
revision_of (Some r) = r.number

-- the message of a part that is a timeout
abbrev pub timeout_of : PartTerm → List (List ℕ)
timeout_of (ByField at f n q u w b) = []
timeout_of (ById at answer.Reply n b) = []
timeout_of (ById at answer.Timeout n b) = type_text n ∷ []

-- the messages of a saga's timeouts
abbrev pub timeouts : List PartTerm → List (List ℕ)
timeouts [] = []
timeouts (p ∷ ps) = timeout_of p ++ timeouts ps

abbrev pub saga_type : SagaTerm → SagaType
saga_type s = record {
  name = s.name;
  revision = revision_of s.revision;
  correlation = field_of s.correlation;
  fields = state_fields s.fields;
  timeouts = timeouts s.parts;
}

abbrev pub saga_of : ItemTerm → List SagaType
saga_of (Message at n o fs c) = []
saga_of (Handler at n b) = []
saga_of (Saga s) = saga_type s ∷ []

-- the declared sagas, in the order of the script
abbrev pub sagas : List ItemTerm → List SagaType
sagas [] = []
sagas (i ∷ items) = saga_of i ++ sagas items
