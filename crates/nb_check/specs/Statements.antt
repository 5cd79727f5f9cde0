-- The rules that statements break.
use Rattle.std.specs.Prelude.{ℕ, List, [], ◌∷◌, ◌++◌, Bool, true, false, not, ◌&&◌, bytes_eq, if◌then◌else◌, Option, Some, None, is_none}
use Rattle.nb_script.specs.declared.expr.TypeName.{TypeName}
use Rattle.nb_script.specs.declared.item.FieldKind.{FieldKind}
use Rattle.nb_script.specs.declared.item.FieldKind.TheVariants.{Int, Text, Bool as Truth}
use Rattle.nb_script.specs.Grammar.{Term, ArgTerm, MakeTerm, RowTerm, AfterTerm}
use Rattle.nb_script.specs.Grammar.{Phrase, Let, Set, Put, Add, Erase, Send, Publish, Reply, Timeout, Complete, Refuse, If, Phrases, Nil, Then, Braces, Brace, Otherwise, Nothing, Last, Chain}
use Rattle.nb_check.specs.Breaches.{breach, unless_true, twice}
use Rattle.nb_check.specs.Declarations.{type_text}
use Rattle.nb_check.specs.Kinds.{kind, judgement, faults, name_faults, kind_in, local_in, wants}
use Rattle.nb_check.specs.declared.breach.Breach.{Breach}
use Rattle.nb_check.specs.declared.breach.CheckKind.TheVariants.{FieldTwice, UnknownMessage, UnknownField, FieldMissing, NoSaga, SetsCorrelation, NoTimeoutPart, NameTwice}
use Rattle.nb_check.specs.declared.breach.Placed.{Placed}
use Rattle.nb_check.specs.declared.sight.Judgement.{Judgement}
use Rattle.nb_check.specs.declared.sight.SagaSight.{SagaSight}
use Rattle.nb_check.specs.declared.sight.Sight.{Sight}
use Rattle.nb_check.specs.declared.types.Declared.{Declared}
use Rattle.nb_check.specs.declared.types.MessageType.{MessageType}

-- ---- messages that are named

-- the fields of the first message of this name
abbrev pub fields_of : List ℕ → List MessageType → Option (List Declared)
fields_of name [] = None
fields_of name (m ∷ ms) = if bytes_eq m.name name then Some m.fields else fields_of name ms

abbrev pub unless_known : Option (List Declared) → ℕ → List Breach
unless_known None at = breach at UnknownMessage
unless_known (Some ds) at = []

-- ---- messages that are made

abbrev pub placed_args : List ArgTerm → List Placed
placed_args [] = []
placed_args (a ∷ more) = record { name = a.name; at = a.at } ∷ placed_args more

abbrev pub is_given : List ℕ → List ArgTerm → Bool
is_given name [] = false
is_given name (a ∷ more) = if bytes_eq a.name name then true else is_given name more

abbrev pub all_given : List Declared → List ArgTerm → Bool
all_given [] args = true
all_given (d ∷ ds) args = is_given d.name args && all_given ds args

-- a value for a field of this kind, where there is such a field
abbrev pub takes : Option FieldKind → ℕ → Judgement → List Breach
takes None at e = breach at UnknownField
takes (Some k) at e = wants k e

abbrev pub takes_in : Option (List Declared) → List ℕ → ℕ → Judgement → List Breach
takes_in None name at e = []
takes_in (Some ds) name at e = takes (kind_in name ds) at e

abbrev pub args_faults : Option (List Declared) → List ArgTerm → Sight → List Breach
args_faults ds [] g = []
args_faults ds (a ∷ more) g = (faults a.value g ++ takes_in ds a.name a.at (judgement a.value g)) ++ args_faults ds more g

abbrev pub missing_faults : Option (List Declared) → MakeTerm → List Breach
missing_faults None m = breach m.name.at UnknownMessage
missing_faults (Some ds) m = unless_true (all_given ds m.args) m.name.at FieldMissing

abbrev pub made_faults : Option (List Declared) → MakeTerm → Sight → List Breach
made_faults ds m g = missing_faults ds m ++ (twice FieldTwice (placed_args m.args) ++ args_faults ds m.args g)

abbrev pub make_faults : List MessageType → MakeTerm → Sight → List Breach
make_faults ms m g = made_faults (fields_of (type_text m.name) ms) m g

-- ---- parts of statements

abbrev pub value_faults : FieldKind → Term → Sight → List Breach
value_faults k e g = faults e g ++ wants k (judgement e g)

abbrev pub row_faults : RowTerm → Sight → List Breach
row_faults r g = faults r.name g ++ name_faults r.name g

abbrev pub delay_faults : Option AfterTerm → Sight → List Breach
delay_faults None g = []
delay_faults (Some a) g = value_faults Int a.delay g

abbrev pub needs_saga : ℕ → Option SagaSight → List Breach
needs_saga at None = breach at NoSaga
needs_saga at (Some s) = []

abbrev pub originator_faults : ℕ → Option ℕ → Option SagaSight → List Breach
originator_faults at None s = []
originator_faults at (Some q) s = needs_saga at s

-- `set` of a field
abbrev pub set_faults : ℕ → ℕ → List ℕ → Judgement → Option SagaSight → List Breach
set_faults at q f e None = breach at NoSaga
set_faults at q f e (Some s) = unless_true (not (bytes_eq s.correlation f)) q SetsCorrelation ++ takes (kind_in f s.fields) q e

abbrev pub has_name : List ℕ → List (List ℕ) → Bool
has_name name [] = false
has_name name (n ∷ ns) = if bytes_eq n name then true else has_name name ns

-- a timeout of this type in the saga
abbrev pub timeout_faults : TypeName → Option SagaSight → List Breach
timeout_faults n None = []
timeout_faults n (Some s) = unless_true (has_name (type_text n) s.timeouts) n.at NoTimeoutPart

-- ---- statements

-- what is in sight after a `let`
abbrev pub after_let : List ℕ → Term → Sight → Sight
after_let n x g = record g { names = g.names ++ record { name = n; kind = kind x g } ∷ [] }

abbrev pub let_faults : ℕ → List ℕ → Term → Sight → List Breach
let_faults q n x g = faults x g ++ unless_true (is_none (local_in n g.names)) q NameTwice

abbrev pub set_value_faults : ℕ → ℕ → List ℕ → Term → Sight → List Breach
set_value_faults at q n x g = faults x g ++ set_faults at q n (judgement x g) g.saga

abbrev pub put_faults : RowTerm → Term → Sight → List Breach
put_faults r x g = row_faults r g ++ value_faults Int x g

abbrev pub send_faults : List MessageType → Option AfterTerm → MakeTerm → Sight → List Breach
send_faults ms a m g = delay_faults a g ++ make_faults ms m g

abbrev pub reply_faults : List MessageType → ℕ → Option ℕ → MakeTerm → Sight → List Breach
reply_faults ms at o m g = originator_faults at o g.saga ++ make_faults ms m g

abbrev pub timed_faults : List MessageType → ℕ → Term → MakeTerm → Sight → List Breach
timed_faults ms at x m g = needs_saga at g.saga ++ (value_faults Int x g ++ (timeout_faults m.name g.saga ++ make_faults ms m g))

-- what is in sight after a statement
abbrev pub after : Phrase → Sight → Sight
after (Let at q n u x c) g = after_let n x g
after (Set at q n u x c) g = g
after (Put at r u x c) g = g
after (Add at r u x c) g = g
after (Erase at r c) g = g
after (Send a at to m c) g = g
after (Publish at m c) g = g
after (Reply at o m c) g = g
after (Timeout at x m c) g = g
after (Complete at c) g = g
after (Refuse at r q n x c) g = g
after (If at x b o) g = g

abbrev pub all_after : Phrases → Sight → Sight
all_after Nil g = g
all_after (Then d more) g = all_after more (after d g)

abbrev mutual
  pub phrase_faults : List MessageType → Phrase → Sight → List Breach
  phrase_faults ms (Let at q n u x c) g = let_faults q n x g
  phrase_faults ms (Set at q n u x c) g = set_value_faults at q n x g
  phrase_faults ms (Put at r u x c) g = put_faults r x g
  phrase_faults ms (Add at r u x c) g = put_faults r x g
  phrase_faults ms (Erase at r c) g = row_faults r g
  phrase_faults ms (Send a at to m c) g = send_faults ms a m g
  phrase_faults ms (Publish at m c) g = make_faults ms m g
  phrase_faults ms (Reply at o m c) g = reply_faults ms at o m g
  phrase_faults ms (Timeout at x m c) g = timed_faults ms at x m g
  phrase_faults ms (Complete at c) g = needs_saga at g.saga
  phrase_faults ms (Refuse at r q n x c) g = value_faults Text x g
  phrase_faults ms (If at x b o) g = value_faults Truth x g ++ (braces_faults ms b g ++ otherwise_faults ms o g)

  pub phrases_faults : List MessageType → Phrases → Sight → List Breach
  phrases_faults ms Nil g = []
  phrases_faults ms (Then d more) g = phrase_faults ms d g ++ phrases_faults ms more (after d g)

  -- the names that a block makes are gone at its end
  pub braces_faults : List MessageType → Braces → Sight → List Breach
  braces_faults ms (Brace o body c) g = phrases_faults ms body g

  pub otherwise_faults : List MessageType → Otherwise → Sight → List Breach
  otherwise_faults ms Nothing g = []
  otherwise_faults ms (Last at b) g = braces_faults ms b g
  otherwise_faults ms (Chain at q x b o) g = value_faults Truth x g ++ (braces_faults ms b g ++ otherwise_faults ms o g)
