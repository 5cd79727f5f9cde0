-- The rules that a script breaks.
use Rattle.std.specs.Prelude.{ℕ, ℤ, pos, int_le, List, [], ◌∷◌, ◌++◌, Bool, not, ◌&&◌, Option, Some, None}
use Rattle.nb_script.specs.declared.expr.TypeName.{TypeName}
use Rattle.nb_script.specs.declared.item.Answer.TheVariants as answer
use Rattle.nb_script.specs.declared.item.Field.{Field as FieldLine}
use Rattle.nb_script.specs.declared.item.FieldKind.{FieldKind}
use Rattle.nb_script.specs.declared.item.FieldKind.TheVariants.{Int, Text, Bool as Truth}
use Rattle.nb_script.specs.declared.item.Literal.{Literal}
use Rattle.nb_script.specs.declared.item.Literal.TheVariants as literal
use Rattle.nb_script.specs.declared.item.MessageField.{MessageField}
use Rattle.nb_script.specs.declared.item.Revision.{Revision}
use Rattle.nb_script.specs.declared.item.SagaField.{SagaField}
use Rattle.nb_script.specs.declared.item.Since.{Since}
use Rattle.nb_script.specs.Grammar.{Braces, PartTerm, ByField, ById, SagaTerm, ItemTerm, Message, Handler, Saga}
use Rattle.nb_check.specs.Breaches.{breach, unless_true, twice}
use Rattle.nb_check.specs.Declarations.{type_text, field_of, messages, revision_of, timeouts}
use Rattle.nb_check.specs.Kinds.{is_kind, kind_in, unless_kind}
use Rattle.nb_check.specs.Statements.{fields_of, unless_known, braces_faults}
use Rattle.nb_check.specs.declared.breach.Breach.{Breach}
use Rattle.nb_check.specs.declared.breach.CheckKind.TheVariants.{MessageTwice, SagaTwice, FieldTwice, BadCorrelation, BadRevision, PartTwice, UnknownField}
use Rattle.nb_check.specs.declared.breach.Placed.{Placed}
use Rattle.nb_check.specs.declared.sight.SagaSight.{SagaSight}
use Rattle.nb_check.specs.declared.sight.Sight.{Sight}
use Rattle.nb_check.specs.declared.types.Declared.{Declared}
use Rattle.nb_check.specs.declared.types.MessageType.{MessageType}

-- ---- names with their places

abbrev pub placed_type : TypeName → Placed
placed_type n = record { name = type_text n; at = n.at }

abbrev pub placed_field : FieldLine → Placed
placed_field f = record { name = f.name; at = f.at }

abbrev pub placed_message : ItemTerm → List Placed
placed_message (Message at n o fs c) = placed_type n ∷ []
placed_message (Handler at n b) = []
placed_message (Saga s) = []

abbrev pub placed_messages : List ItemTerm → List Placed
placed_messages [] = []
placed_messages (i ∷ items) = placed_message i ++ placed_messages items

abbrev pub placed_saga : ItemTerm → List Placed
placed_saga (Message at n o fs c) = []
placed_saga (Handler at n b) = []
placed_saga (Saga s) = record { name = s.name; at = s.name_at } ∷ []

abbrev pub placed_sagas : List ItemTerm → List Placed
placed_sagas [] = []
placed_sagas (i ∷ items) = placed_saga i ++ placed_sagas items

abbrev pub placed_fields : List MessageField → List Placed
placed_fields [] = []
placed_fields (f ∷ fs) = placed_field f.field ∷ placed_fields fs

abbrev pub placed_state : List SagaField → List Placed
placed_state [] = []
placed_state (f ∷ fs) = placed_field f.field ∷ placed_state fs

-- the part of a message that is no timeout
abbrev pub placed_part : PartTerm → List Placed
placed_part (ByField at f n q u field b) = placed_type n ∷ []
placed_part (ById at answer.Reply n b) = placed_type n ∷ []
placed_part (ById at answer.Timeout n b) = []

abbrev pub placed_parts : List PartTerm → List Placed
placed_parts [] = []
placed_parts (p ∷ ps) = placed_part p ++ placed_parts ps

abbrev pub placed_timeout : PartTerm → List Placed
placed_timeout (ByField at f n q u field b) = []
placed_timeout (ById at answer.Reply n b) = []
placed_timeout (ById at answer.Timeout n b) = placed_type n ∷ []

abbrev pub placed_timeouts : List PartTerm → List Placed
placed_timeouts [] = []
placed_timeouts (p ∷ ps) = placed_timeout p ++ placed_timeouts ps

-- ---- declarations of sagas

abbrev pub correlation_faults : FieldLine → List Breach
correlation_faults f = unless_true (not (is_kind f.kind Truth)) f.at BadCorrelation

abbrev pub lies_in : ℤ → ℤ → ℤ → Bool
lies_in low high n = int_le low n && int_le n high

abbrev pub revision_faults : Option Revision → List Breach
revision_faults None = []
revision_faults (Some r) = unless_true (lies_in (pos 1) (pos 1000) r.number) r.number_at BadRevision

abbrev pub literal_kind : Literal → FieldKind
literal_kind (literal.Number minus_at at n) = Int
literal_kind (literal.Quoted at t) = Text
literal_kind (literal.Truth at b) = Truth

abbrev pub first_of_two : Option ℕ → ℕ → ℕ
first_of_two None at = at
first_of_two (Some minus_at) at = minus_at

-- the place of the first token
abbrev pub literal_place : Literal → ℕ
literal_place (literal.Number minus_at at n) = first_of_two minus_at at
literal_place (literal.Quoted at t) = at
literal_place (literal.Truth at b) = at

abbrev pub since_faults : ℤ → FieldKind → Option Since → List Breach
since_faults revision k None = []
since_faults revision k (Some s) = unless_true (lies_in (pos 2) revision s.revision) s.number_at BadRevision ++ unless_kind k (Some (literal_kind s.literal)) (literal_place s.literal)

abbrev pub state_faults : ℤ → List SagaField → List Breach
state_faults revision [] = []
state_faults revision (f ∷ fs) = since_faults revision f.field.kind f.since ++ state_faults revision fs

-- ---- blocks

abbrev pub state_kinds : List SagaField → List Declared
state_kinds [] = []
state_kinds (f ∷ fs) = field_of f.field ∷ state_kinds fs

-- what a part of a saga sees of it
abbrev pub saga_sight : SagaTerm → SagaSight
saga_sight s = record { correlation = s.correlation.name; fields = field_of s.correlation ∷ state_kinds s.fields; timeouts = timeouts s.parts }

abbrev pub sight : Option (List Declared) → Option SagaSight → Sight
sight ds s = record { message = ds; saga = s; names = [] }

-- a block of a message of this type
abbrev pub block_faults : List MessageType → TypeName → Option SagaSight → Braces → List Breach
block_faults ms n s b = unless_known (fields_of (type_text n) ms) n.at ++ braces_faults ms b (sight (fields_of (type_text n) ms) s)

-- the property by which a saga is found has the kind of the correlation property
abbrev pub found_by : Option FieldKind → ℕ → FieldKind → List Breach
found_by None at corr = breach at UnknownField
found_by (Some k) at corr = unless_kind corr (Some k) at

abbrev pub by_faults : Option (List Declared) → List ℕ → ℕ → FieldKind → List Breach
by_faults None field at corr = []
by_faults (Some ds) field at corr = found_by (kind_in field ds) at corr

abbrev pub part_faults : List MessageType → SagaSight → FieldKind → PartTerm → List Breach
part_faults ms s corr (ByField at f n q u field b) = by_faults (fields_of (type_text n) ms) field u corr ++ block_faults ms n (Some s) b
part_faults ms s corr (ById at a n b) = block_faults ms n (Some s) b

abbrev pub parts_faults : List MessageType → SagaSight → FieldKind → List PartTerm → List Breach
parts_faults ms s corr [] = []
parts_faults ms s corr (p ∷ ps) = part_faults ms s corr p ++ parts_faults ms s corr ps

-- ---- items

abbrev pub declared_faults : SagaTerm → List Breach
declared_faults s = twice FieldTwice (placed_field s.correlation ∷ placed_state s.fields) ++ (correlation_faults s.correlation ++ (revision_faults s.revision ++ state_faults (revision_of s.revision) s.fields))

abbrev pub saga_faults : List MessageType → SagaTerm → List Breach
saga_faults ms s = declared_faults s ++ (twice PartTwice (placed_parts s.parts) ++ (twice PartTwice (placed_timeouts s.parts) ++ parts_faults ms (saga_sight s) s.correlation.kind s.parts))

abbrev pub item_faults : List MessageType → ItemTerm → List Breach
item_faults ms (Message at n o fs c) = twice FieldTwice (placed_fields fs)
item_faults ms (Handler at n b) = block_faults ms n None b
item_faults ms (Saga s) = saga_faults ms s

abbrev pub items_faults : List MessageType → List ItemTerm → List Breach
items_faults ms [] = []
items_faults ms (i ∷ items) = item_faults ms i ++ items_faults ms items

-- each rule that a script breaks, with its place
abbrev pub script_faults : List ItemTerm → List Breach
script_faults items = twice MessageTwice (placed_messages items) ++ (twice SagaTwice (placed_sagas items) ++ items_faults (messages items) items)
