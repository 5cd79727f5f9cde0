-- Kinds of expressions, and the rules that expressions break.
use Rattle.std.specs.Prelude.{ℕ, List, [], ◌∷◌, ◌++◌, Bool, true, false, not, ◌&&◌, ◌||◌, bytes_eq, if◌then◌else◌, Option, Some, None}
use Rattle.nb_script.specs.declared.expr.Binary.{Binary}
use Rattle.nb_script.specs.declared.expr.Binary.TheVariants as binary
use Rattle.nb_script.specs.declared.expr.Constant.{Constant as ConstantWord}
use Rattle.nb_script.specs.declared.expr.Constant.TheVariants as word
use Rattle.nb_script.specs.declared.expr.Function.{Function}
use Rattle.nb_script.specs.declared.expr.Function.TheVariants as function
use Rattle.nb_script.specs.declared.expr.Holder.{Holder}
use Rattle.nb_script.specs.declared.expr.Holder.TheVariants as holder
use Rattle.nb_script.specs.declared.expr.Unary.{Unary}
use Rattle.nb_script.specs.declared.expr.Unary.TheVariants as unary
use Rattle.nb_script.specs.declared.item.FieldKind.{FieldKind}
use Rattle.nb_script.specs.declared.item.FieldKind.TheVariants.{Int, Text, Bool as Truth}
use Rattle.nb_script.specs.Grammar.{Term, Number, Quoted, Constant, Field, Name, Call, Paren, Prefix, Infix}
use Rattle.nb_check.specs.Breaches.{breach, unless_true, unless_some}
use Rattle.nb_check.specs.Keys.{is_join}
use Rattle.nb_check.specs.declared.breach.Breach.{Breach}
use Rattle.nb_check.specs.declared.breach.CheckKind.TheVariants.{UnknownField, NoSaga, UnknownName, RowName, WrongType}
use Rattle.nb_check.specs.declared.sight.Judgement.{Judgement}
use Rattle.nb_check.specs.declared.sight.Local.{Local}
use Rattle.nb_check.specs.declared.sight.SagaSight.{SagaSight}
use Rattle.nb_check.specs.declared.sight.Sight.{Sight}
use Rattle.nb_check.specs.declared.sight.Taken.{Taken}
use Rattle.nb_check.specs.declared.sight.Taken.TheVariants as taken
use Rattle.nb_check.specs.declared.types.Declared.{Declared}

-- ---- what is in sight

abbrev pub is_kind : FieldKind → FieldKind → Bool
is_kind Int Int = true
is_kind Text Text = true
is_kind Truth Truth = true
is_kind _ _ = false

-- the kind of the first field of this name
abbrev pub kind_in : List ℕ → List Declared → Option FieldKind
kind_in name [] = None
kind_in name (d ∷ ds) = if bytes_eq d.name name then Some d.kind else kind_in name ds

-- the kind of the first name that is the same; it may be unknown
abbrev pub local_in : List ℕ → List Local → Option (Option FieldKind)
local_in name [] = None
local_in name (l ∷ ls) = if bytes_eq l.name name then Some l.kind else local_in name ls

abbrev pub known : Option (Option FieldKind) → Option FieldKind
known None = None
known (Some k) = k

-- the kind of a message's field; the fields of an undeclared message aren't known
abbrev pub message_kind : List ℕ → Option (List Declared) → Option FieldKind
message_kind f None = None
message_kind f (Some ds) = kind_in f ds

abbrev pub saga_kind : List ℕ → Option SagaSight → Option FieldKind
saga_kind f None = None
saga_kind f (Some s) = kind_in f s.fields

-- ---- kinds that are wanted

-- A kind that isn't known is taken everywhere.
abbrev pub unless_kind : FieldKind → Option FieldKind → ℕ → List Breach
unless_kind k None at = []
unless_kind k (Some j) at = unless_true (is_kind j k) at WrongType

abbrev pub wants : FieldKind → Judgement → List Breach
wants k e = unless_kind k e.kind e.at

abbrev pub both : FieldKind → Judgement → Judgement → List Breach
both k a b = wants k a ++ wants k b

-- two of one kind; where they differ the right one is at fault
abbrev pub unless_same : Option FieldKind → Judgement → List Breach
unless_same None b = []
unless_same (Some k) b = wants k b

abbrev pub is_truth : Option FieldKind → Bool
is_truth None = false
is_truth (Some k) = is_kind k Truth

-- no truth value
abbrev pub unless_truth : Judgement → List Breach
unless_truth e = unless_true (not (is_truth e.kind)) e.at WrongType

-- two numbers or two texts
abbrev pub ordered : Judgement → Judgement → List Breach
ordered a b = if is_truth a.kind || is_truth b.kind then unless_truth a ++ unless_truth b else unless_same a.kind b

-- no text
abbrev pub is_text : Option FieldKind → Bool
is_text None = false
is_text (Some k) = is_kind k Text

abbrev pub unless_text : Judgement → List Breach
unless_text e = unless_true (not (is_text e.kind)) e.at WrongType

-- ---- operators

abbrev pub taken_by : Binary → Taken
taken_by binary.Times = taken.Two Int
taken_by binary.Plus = taken.Two Int
taken_by binary.Minus = taken.Two Int
taken_by binary.Join = taken.Two Text
taken_by binary.Equal = taken.Same
taken_by binary.Unequal = taken.Same
taken_by binary.Less = taken.Ordered
taken_by binary.LessOrEqual = taken.Ordered
taken_by binary.Greater = taken.Ordered
taken_by binary.GreaterOrEqual = taken.Ordered
taken_by binary.And = taken.Two Truth
taken_by binary.Or = taken.Two Truth

abbrev pub made_by : Binary → FieldKind
made_by binary.Times = Int
made_by binary.Plus = Int
made_by binary.Minus = Int
made_by binary.Join = Text
made_by binary.Equal = Truth
made_by binary.Unequal = Truth
made_by binary.Less = Truth
made_by binary.LessOrEqual = Truth
made_by binary.Greater = Truth
made_by binary.GreaterOrEqual = Truth
made_by binary.And = Truth
made_by binary.Or = Truth

abbrev pub operands : Taken → Judgement → Judgement → List Breach
operands (taken.Two k) a b = both k a b
operands taken.Same a b = unless_same a.kind b
operands taken.Ordered a b = ordered a b

-- an operator in front takes the kind that it makes
abbrev pub prefix_kind : Unary → FieldKind
prefix_kind unary.Negative = Int
prefix_kind unary.Not = Truth

abbrev pub constant_kind : ConstantWord → FieldKind
constant_kind word.True = Truth
constant_kind word.False = Truth
constant_kind word.Retries = Int
constant_kind word.Now = Int
constant_kind word.Sent = Int
constant_kind word.Id = Text

abbrev pub call_kind : Function → FieldKind
call_kind function.Row = Int
call_kind function.Has = Truth
call_kind function.Text = Text
call_kind function.Len = Int

-- ---- expressions

-- the place of the first token
abbrev pub first_place : Term → ℕ
first_place (Number at n) = at
first_place (Quoted at t) = at
first_place (Constant at w) = at
first_place (Field at h d q f) = at
first_place (Name at x) = at
first_place (Call at f o a c) = at
first_place (Paren o a c) = o
first_place (Prefix at op a) = at
first_place (Infix a at op b) = first_place a

abbrev pub field_kind : Holder → List ℕ → Sight → Option FieldKind
field_kind holder.Message f g = message_kind f g.message
field_kind holder.Saga f g = saga_kind f g.saga

abbrev pub kind : Term → Sight → Option FieldKind
kind (Number at n) g = Some Int
kind (Quoted at t) g = Some Text
kind (Constant at w) g = Some (constant_kind w)
kind (Field at h d q f) g = field_kind h f g
kind (Name at x) g = known (local_in x g.names)
kind (Call at f o a c) g = Some (call_kind f)
kind (Paren o a c) g = kind a g
kind (Prefix at op a) g = Some (prefix_kind op)
kind (Infix a at op b) g = Some (made_by op)

abbrev pub judgement : Term → Sight → Judgement
judgement e g = record { at = first_place e; kind = kind e g }

-- ---- names of rows

-- a field of the message, in parentheses or not
abbrev pub is_message_field : Term → Bool
is_message_field (Number at n) = false
is_message_field (Quoted at t) = false
is_message_field (Constant at w) = false
is_message_field (Field at holder.Message d q f) = true
is_message_field (Field at holder.Saga d q f) = false
is_message_field (Name at x) = false
is_message_field (Call at f o a c) = false
is_message_field (Paren o a c) = is_message_field a
is_message_field (Prefix at op a) = false
is_message_field (Infix a at op b) = false

abbrev pub is_id : ConstantWord → Bool
is_id word.True = false
is_id word.False = false
is_id word.Retries = false
is_id word.Now = false
is_id word.Sent = false
is_id word.Id = true

abbrev pub is_text_function : Function → Bool
is_text_function function.Row = false
is_text_function function.Has = false
is_text_function function.Text = true
is_text_function function.Len = false

-- a field of kind text; one that isn't known breaks its own rule alone
abbrev pub piece_kind : Option FieldKind → ℕ → List Breach
piece_kind None at = []
piece_kind (Some k) at = unless_true (is_kind k Text) at RowName

abbrev pub piece_field : Holder → List ℕ → ℕ → Sight → List Breach
piece_field holder.Message f at g = piece_kind (message_kind f g.message) at
piece_field holder.Saga f at g = breach at RowName

-- the tokens that can't stand in a row's name, which is built of texts, `id`, fields of the message, parentheses and `++`
abbrev pub name_faults : Term → Sight → List Breach
name_faults (Number at n) g = breach at RowName
name_faults (Quoted at t) g = []
name_faults (Constant at w) g = unless_true (is_id w) at RowName
name_faults (Field at h d q f) g = piece_field h f at g
name_faults (Name at x) g = breach at RowName
name_faults (Call at f o a c) g = unless_true (is_text_function f && is_message_field a) at RowName
name_faults (Paren o a c) g = name_faults a g
name_faults (Prefix at op a) g = breach at RowName
name_faults (Infix a at op b) g = name_faults a g ++ (unless_true (is_join op) at RowName ++ name_faults b g)

-- ---- faults of expressions

abbrev pub message_field_faults : ℕ → List ℕ → Option (List Declared) → List Breach
message_field_faults q f None = []
message_field_faults q f (Some ds) = unless_some (kind_in f ds) q UnknownField

abbrev pub saga_field_faults : ℕ → ℕ → List ℕ → Option SagaSight → List Breach
saga_field_faults at q f None = breach at NoSaga
saga_field_faults at q f (Some s) = unless_some (kind_in f s.fields) q UnknownField

abbrev pub field_faults : Holder → ℕ → ℕ → List ℕ → Sight → List Breach
field_faults holder.Message at q f g = message_field_faults q f g.message
field_faults holder.Saga at q f g = saga_field_faults at q f g.saga

abbrev pub argument_faults : Function → Term → Sight → List Breach
argument_faults function.Row a g = name_faults a g
argument_faults function.Has a g = name_faults a g
argument_faults function.Text a g = unless_text (judgement a g)
argument_faults function.Len a g = wants Text (judgement a g)

abbrev pub faults : Term → Sight → List Breach
faults (Number at n) g = []
faults (Quoted at t) g = []
faults (Constant at w) g = []
faults (Field at h d q f) g = field_faults h at q f g
faults (Name at x) g = unless_some (local_in x g.names) at UnknownName
faults (Call at f o a c) g = faults a g ++ argument_faults f a g
faults (Paren o a c) g = faults a g
faults (Prefix at op a) g = faults a g ++ wants (prefix_kind op) (judgement a g)
faults (Infix a at op b) g = (faults a g ++ faults b g) ++ operands (taken_by op) (judgement a g) (judgement b g)
