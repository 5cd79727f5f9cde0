-- The keys that a message reads: those of the sagas and of the rows that stand in the text of the blocks that it meets.
use Rattle.std.specs.Prelude.{ℕ, List, [], ◌∷◌, ◌++◌, length, Bool, true, false, not, ◌&&◌, bytes_eq, nat_lt, if◌then◌else◌, Option, Some, None, codes, slice_get, option_and_then}
use Rattle.std.specs.Fmt.{signed_decimal}
use Rattle.std.specs.Ordering.{int_eq}
use Rattle.nb_base.specs.Messages.{Message}
use Rattle.nb_base.specs.declared.value.Field.{Field as FieldValue}
use Rattle.nb_base.specs.declared.value.Key.{Key}
use Rattle.nb_base.specs.declared.value.Key.TheVariants as key
use Rattle.nb_base.specs.declared.value.Value.{Value}
use Rattle.nb_base.specs.declared.value.Value.TheVariants as value
use Rattle.nb_headers.specs.Reads.{id_of}
use Rattle.nb_script.specs.declared.expr.Binary.{Binary}
use Rattle.nb_script.specs.declared.expr.Binary.TheVariants as binary
use Rattle.nb_script.specs.declared.expr.Constant.{Constant as ConstantWord}
use Rattle.nb_script.specs.declared.expr.Constant.TheVariants as word
use Rattle.nb_script.specs.declared.expr.Function.{Function}
use Rattle.nb_script.specs.declared.expr.Function.TheVariants as function
use Rattle.nb_script.specs.declared.expr.Holder.{Holder}
use Rattle.nb_script.specs.declared.expr.Holder.TheVariants as holder
use Rattle.nb_script.specs.Grammar.{Term, Number, Quoted, Constant, Field, Name, Call, Paren, Prefix, Infix, ArgTerm, RowTerm, AfterTerm, ItemTerm}
use Rattle.nb_script.specs.Grammar.{Phrase, Let, Set, Put, Add, Erase, Send, Publish, Reply, Timeout, Complete, Refuse, If, Phrases, Nil, Then, Braces, Brace, Otherwise, Nothing, Last, Chain}
use Rattle.nb_check.specs.Bodies.{decoded}
use Rattle.nb_check.specs.Blocks.{Role, Handles, Finds, Answers, BlockTerm, blocks}
use Rattle.nb_check.specs.Declarations.{names_of}
use Rattle.nb_check.specs.Meets.{incoming, is_met}
use Rattle.nb_check.specs.declared.incoming.Address.{Address}
use Rattle.nb_check.specs.declared.incoming.Incoming.{Incoming}
use Rattle.nb_check.specs.declared.known.Known.{Known}
use Rattle.nb_check.specs.declared.types.MessageType.{MessageType}

-- ---- names of rows

-- the value of the first field of this name
abbrev pub value_in : List ℕ → List FieldValue → Option Value
value_in name [] = None
value_in name (f ∷ fs) = if bytes_eq f.name name then Some f.value else value_in name fs

abbrev pub text_in : Value → Option (List ℕ)
text_in (value.Int n) = None
text_in (value.Text t) = Some t
text_in (value.Bool b) = None

-- what `text(..)` makes of a number or a truth value
abbrev pub shown : Value → Option (List ℕ)
shown (value.Int n) = Some (signed_decimal n)
shown (value.Text t) = None
shown (value.Bool b) = Some (if b then codes "true" else codes "false")

-- the value of a field of the message
abbrev pub field_value : Holder → List ℕ → Known → Option Value
field_value holder.Message f k = value_in f k.fields
field_value holder.Saga f k = None

-- the value of an expression that is a field of the message, in parentheses or not
abbrev pub message_value : Term → Known → Option Value
message_value (Field at h d q f) k = field_value h f k
message_value (Paren o a c) k = message_value a k
message_value (Number at n) k = None
message_value (Quoted at t) k = None
message_value (Constant at w) k = None
message_value (Name at x) k = None
message_value (Call at f o a c) k = None
message_value (Prefix at op a) k = None
message_value (Infix a at op b) k = None

abbrev pub constant_text : ConstantWord → Known → Option (List ℕ)
constant_text word.True k = None
constant_text word.False k = None
constant_text word.Retries k = None
constant_text word.Now k = None
constant_text word.Sent k = None
constant_text word.Id k = Some k.id

abbrev pub call_text : Function → Option Value → Option (List ℕ)
call_text function.Row v = None
call_text function.Has v = None
call_text function.Text v = option_and_then shown v
call_text function.Len v = None

abbrev pub is_join : Binary → Bool
is_join binary.Times = false
is_join binary.Plus = false
is_join binary.Minus = false
is_join binary.Join = true
is_join binary.Equal = false
is_join binary.Unequal = false
is_join binary.Less = false
is_join binary.LessOrEqual = false
is_join binary.Greater = false
is_join binary.GreaterOrEqual = false
is_join binary.And = false
is_join binary.Or = false

abbrev pub joined : Option (List ℕ) → Option (List ℕ) → Option (List ℕ)
joined (Some a) (Some b) = Some (a ++ b)
joined (Some a) None = None
joined None b = None

-- what an expression that may name a row says, by the message alone
abbrev pub static_text : Term → Known → Option (List ℕ)
static_text (Number at n) k = None
static_text (Quoted at t) k = Some t
static_text (Constant at w) k = constant_text w k
static_text (Field at h d q f) k = option_and_then text_in (field_value h f k)
static_text (Name at x) k = None
static_text (Call at f o a c) k = call_text f (message_value a k)
static_text (Paren o a c) k = static_text a k
static_text (Prefix at op a) k = None
static_text (Infix a at op b) k = if is_join op then joined (static_text a k) (static_text b k) else None

-- ---- keys of expressions

-- a name of more than 65536 bytes names no row
abbrev pub key_if_short : List ℕ → List Key
key_if_short name = if nat_lt 65536 (length name) then [] else key.Row name ∷ []

abbrev pub key_of : Option (List ℕ) → List Key
key_of None = []
key_of (Some name) = key_if_short name

abbrev pub row_key : Term → Known → List Key
row_key e k = key_of (static_text e k)

abbrev pub call_key : Function → Term → Known → List Key
call_key function.Row e k = row_key e k
call_key function.Has e k = row_key e k
call_key function.Text e k = []
call_key function.Len e k = []

abbrev pub term_keys : Term → Known → List Key
term_keys (Number at n) k = []
term_keys (Quoted at t) k = []
term_keys (Constant at w) k = []
term_keys (Field at h d q f) k = []
term_keys (Name at x) k = []
term_keys (Call at f o a c) k = term_keys a k ++ call_key f a k
term_keys (Paren o a c) k = term_keys a k
term_keys (Prefix at op a) k = term_keys a k
term_keys (Infix a at op b) k = term_keys a k ++ term_keys b k

-- ---- keys of statements

abbrev pub named_row_keys : RowTerm → Known → List Key
named_row_keys r k = term_keys r.name k ++ row_key r.name k

abbrev pub args_keys : List ArgTerm → Known → List Key
args_keys [] k = []
args_keys (a ∷ more) k = term_keys a.value k ++ args_keys more k

abbrev pub delay_keys : Option AfterTerm → Known → List Key
delay_keys None k = []
delay_keys (Some a) k = term_keys a.delay k

abbrev mutual
  pub phrase_keys : Phrase → Known → List Key
  phrase_keys (Let at q n u x c) k = term_keys x k
  phrase_keys (Set at q n u x c) k = term_keys x k
  phrase_keys (Put at r u x c) k = named_row_keys r k ++ term_keys x k
  phrase_keys (Add at r u x c) k = named_row_keys r k ++ term_keys x k
  phrase_keys (Erase at r c) k = named_row_keys r k
  phrase_keys (Send a at to m c) k = delay_keys a k ++ args_keys m.args k
  phrase_keys (Publish at m c) k = args_keys m.args k
  phrase_keys (Reply at o m c) k = args_keys m.args k
  phrase_keys (Timeout at x m c) k = term_keys x k ++ args_keys m.args k
  phrase_keys (Complete at c) k = []
  phrase_keys (Refuse at r q n x c) k = term_keys x k
  phrase_keys (If at x b o) k = term_keys x k ++ (braces_keys b k ++ otherwise_keys o k)

  pub phrases_keys : Phrases → Known → List Key
  phrases_keys Nil k = []
  phrases_keys (Then d more) k = phrase_keys d k ++ phrases_keys more k

  pub braces_keys : Braces → Known → List Key
  braces_keys (Brace o body c) k = phrases_keys body k

  pub otherwise_keys : Otherwise → Known → List Key
  otherwise_keys Nothing k = []
  otherwise_keys (Last at b) k = braces_keys b k
  otherwise_keys (Chain at q x b o) k = term_keys x k ++ (braces_keys b k ++ otherwise_keys o k)

-- ---- keys of blocks

abbrev pub corr_key : List ℕ → Option Value → List Key
corr_key saga None = []
corr_key saga (Some v) = key.ByCorr saga v ∷ []

abbrev pub id_key : List ℕ → Option Address → List Key
id_key saga None = []
id_key saga (Some a) = key.ById saga a.id ∷ []

-- the key of the saga that a block works on
abbrev pub role_keys : Incoming → Known → Role → List Key
role_keys m k Handles = []
role_keys m k (Finds f saga field) = corr_key saga (value_in field k.fields)
role_keys m k (Answers a saga) = id_key saga m.address

abbrev pub block_keys : Incoming → Known → BlockTerm → List Key
block_keys m k b = role_keys m k b.role ++ braces_keys b.body k

abbrev pub keys_if_met : Incoming → Known → BlockTerm → List Key
keys_if_met m k b = if is_met m b then block_keys m k b else []

-- the keys of the blocks met, in order
abbrev pub met_keys : Incoming → Known → List BlockTerm → List Key
met_keys m k [] = []
met_keys m k (b ∷ bs) = keys_if_met m k b ++ met_keys m k bs

-- ---- each key once

abbrev pub same_value : Value → Value → Bool
same_value (value.Int m) (value.Int n) = int_eq m n
same_value (value.Text s) (value.Text t) = bytes_eq s t
same_value (value.Bool b) (value.Bool c) = if b then c else not c
same_value _ _ = false

abbrev pub same_key : Key → Key → Bool
same_key (key.ByCorr s v) (key.ByCorr t w) = bytes_eq s t && same_value v w
same_key (key.ById s v) (key.ById t w) = bytes_eq s t && bytes_eq v w
same_key (key.Row s) (key.Row t) = bytes_eq s t
same_key _ _ = false

abbrev pub has_key : Key → List Key → Bool
has_key x [] = false
has_key x (k ∷ ks) = if same_key k x then true else has_key x ks

abbrev pub with_key : List Key → Key → List Key
with_key ks x = if has_key x ks then ks else ks ++ x ∷ []

-- further keys, each where it isn't there yet
abbrev pub with_keys : List Key → List Key → List Key
with_keys ks [] = ks
with_keys ks (x ∷ more) = with_keys (with_key ks x) more

-- ---- the read set

abbrev pub keys_for : List ItemTerm → Message → Incoming → Option (List FieldValue) → List Key
keys_for items e m None = []
keys_for items e m (Some fields) = with_keys [] (met_keys m (record { id = id_of e; fields = fields }) (blocks items))

abbrev pub fields_for : Message → Option MessageType → Option (List FieldValue)
fields_for e None = None
fields_for e (Some t) = decoded t.fields e.body

abbrev pub keys_by : List ItemTerm → List MessageType → Message → Option Incoming → List Key
keys_by items types e None = []
keys_by items types e (Some m) = keys_for items e m (fields_for e (slice_get types m.message))

-- each key once, in the order of first use; none where the body doesn't decode or no block is met
abbrev pub read_set : List ItemTerm → List MessageType → Message → List Key
read_set items types e = keys_by items types e (incoming (names_of types) e)
