-- The grammar: how a script is spelled, and which trees may be written.
use Rattle.std.specs.Prelude.{◌≡◌, ℕ, ◌+◌, ◌-◌, ◌≤◌, zero, suc, ◌||◌, Bool, true, false, List, [], ◌∷◌, ◌++◌, Option, Some, None, codes, map}
use Rattle.nb_script.specs.declared.lexeme.Keyword.{Keyword}
use Rattle.nb_script.specs.declared.lexeme.Keyword.TheVariants as k
use Rattle.nb_script.specs.declared.lexeme.Symbol.{Symbol}
use Rattle.nb_script.specs.declared.lexeme.Symbol.TheVariants as sym
use Rattle.nb_script.specs.declared.lexeme.Content.{Content}
use Rattle.nb_script.specs.declared.lexeme.Content.TheVariants as c
use Rattle.nb_script.specs.declared.lexeme.Lexeme.{Lexeme}
use Rattle.nb_script.specs.declared.expr.Unary.{Unary}
use Rattle.nb_script.specs.declared.expr.Unary.TheVariants as unary
use Rattle.nb_script.specs.declared.expr.Binary.{Binary}
use Rattle.nb_script.specs.declared.expr.Binary.TheVariants as binary
use Rattle.nb_script.specs.declared.expr.Constant.{Constant as ConstantWord}
use Rattle.nb_script.specs.declared.expr.Constant.TheVariants as constant
use Rattle.nb_script.specs.declared.expr.Holder.{Holder}
use Rattle.nb_script.specs.declared.expr.Holder.TheVariants as holder
use Rattle.nb_script.specs.declared.expr.Function.{Function}
use Rattle.nb_script.specs.declared.expr.Function.TheVariants as function
use Rattle.nb_script.specs.declared.expr.Dotted.{Dotted}
use Rattle.nb_script.specs.declared.expr.TypeName.{TypeName}
use Rattle.nb_script.specs.declared.stmt.Destination.{Destination}
use Rattle.nb_script.specs.declared.stmt.Destination.TheVariants as destination
use Rattle.nb_script.specs.declared.stmt.Refusal.{Refusal}
use Rattle.nb_script.specs.declared.stmt.Refusal.TheVariants as refusal
use Rattle.nb_script.specs.declared.item.FieldKind.{FieldKind}
use Rattle.nb_script.specs.declared.item.FieldKind.TheVariants as kind
use Rattle.nb_script.specs.declared.item.Field.{Field as FieldLine}
use Rattle.nb_script.specs.declared.item.MessageField.{MessageField}
use Rattle.nb_script.specs.declared.item.Literal.{Literal}
use Rattle.nb_script.specs.declared.item.Literal.TheVariants as literal
use Rattle.nb_script.specs.declared.item.Since.{Since}
use Rattle.nb_script.specs.declared.item.SagaField.{SagaField}
use Rattle.nb_script.specs.declared.item.Revision.{Revision}
use Rattle.nb_script.specs.declared.item.Finder.{Finder}
use Rattle.nb_script.specs.declared.item.Finder.TheVariants as finder
use Rattle.nb_script.specs.declared.item.Answer.{Answer}
use Rattle.nb_script.specs.declared.item.Answer.TheVariants as answer
use Rattle.nb_script.specs.Words.{keyword_text, keyword_of}
use Rattle.nb_script.specs.Grammar.{Term, Number, Quoted, Constant, Field, Name, Call, Paren, Prefix, Infix, ArgTerm, MakeTerm, RowTerm, AfterTerm}
use Rattle.nb_script.specs.Grammar.{Phrase, Let, Set, Put, Add, Erase, Send, Publish, Reply, Timeout, Complete, Refuse, If, Phrases, Nil, Then, Braces, Brace, Otherwise, Nothing, Last, Chain}
use Rattle.nb_script.specs.Grammar.{PartTerm, ByField, ById, SagaTerm, ItemTerm, Message, Handler, Saga}

-- ---- tokens

-- a token of a tree, and whether it opens a level past the last one or is an operator past the last one
pub record Mark : Type 0 where
  pub lexeme : Lexeme
  pub past : Bool

abbrev pub lexeme : Content → ℕ → Lexeme
lexeme content p = record { at = p; content = content }

abbrev pub marked : Bool → Content → ℕ → Mark
marked past content p = record { lexeme = lexeme content p; past = past }

abbrev pub word : List ℕ → ℕ → Mark
word w p = marked false (c.Word w) p

abbrev pub key : Keyword → ℕ → Mark
key w p = word (keyword_text w) p

abbrev pub symbol : Symbol → ℕ → Mark
symbol s p = marked false (c.Symbol s) p

abbrev pub is_zero : ℕ → Bool
is_zero zero = true
is_zero (suc n) = false

abbrev pub one_less : ℕ → ℕ
one_less zero = zero
one_less (suc n) = n

-- the tokens of all of a list
abbrev pub each : {A : Type 0} → (A → List Mark) → List A → List Mark
each f [] = []
each f (x ∷ xs) = f x ++ each f xs

-- a comma that may be there
abbrev pub comma : Option ℕ → List Mark
comma None = []
comma (Some p) = symbol sym.Comma p ∷ []

-- ---- expressions

abbrev pub unary_symbol : Unary → Symbol
unary_symbol unary.Negative = sym.Minus
unary_symbol unary.Not = sym.Not

abbrev pub binary_symbol : Binary → Symbol
binary_symbol binary.Times = sym.Star
binary_symbol binary.Plus = sym.Plus
binary_symbol binary.Minus = sym.Minus
binary_symbol binary.Join = sym.Join
binary_symbol binary.Equal = sym.Equal
binary_symbol binary.Unequal = sym.Unequal
binary_symbol binary.Less = sym.Less
binary_symbol binary.LessOrEqual = sym.LessOrEqual
binary_symbol binary.Greater = sym.Greater
binary_symbol binary.GreaterOrEqual = sym.GreaterOrEqual
binary_symbol binary.And = sym.And
binary_symbol binary.Or = sym.Or

abbrev pub constant_key : ConstantWord → Keyword
constant_key constant.True = k.True
constant_key constant.False = k.False
constant_key constant.Retries = k.Retries
constant_key constant.Now = k.Now
constant_key constant.Sent = k.Sent
constant_key constant.Id = k.Id

abbrev pub holder_key : Holder → Keyword
holder_key holder.Message = k.Msg
holder_key holder.Saga = k.Saga

abbrev pub function_key : Function → Keyword
function_key function.Row = k.Row
function_key function.Has = k.Has
function_key function.Text = k.Text
function_key function.Len = k.Len

-- how many operators stand in an expression
abbrev pub operators : Term → ℕ
operators (Number p n) = 0
operators (Quoted p t) = 0
operators (Constant p w) = 0
operators (Field p h d q x) = 0
operators (Name p x) = 0
operators (Call p f o e q) = operators e
operators (Paren o e q) = operators e
operators (Prefix p op e) = suc (operators e)
operators (Infix a p op b) = suc (operators a + operators b)

-- the tokens of an expression, where so many more levels may be opened and so many more operators may come
abbrev pub spelling : (room left : ℕ) → Term → List Mark
spelling room left (Number p n) = marked false (c.Number n) p ∷ []
spelling room left (Quoted p t) = marked false (c.Quoted t) p ∷ []
spelling room left (Constant p w) = key (constant_key w) p ∷ []
spelling room left (Field p h d q x) = key (holder_key h) p ∷ symbol sym.Dot d ∷ word x q ∷ []
spelling room left (Name p x) = word x p ∷ []
spelling room left (Call p f o e q) = key (function_key f) p ∷ marked (is_zero room) (c.Symbol sym.Open) o ∷ (spelling (one_less room) left e ++ symbol sym.Close q ∷ [])
spelling room left (Paren o e q) = marked (is_zero room) (c.Symbol sym.Open) o ∷ (spelling (one_less room) left e ++ symbol sym.Close q ∷ [])
spelling room left (Prefix p op e) = marked (is_zero room || is_zero left) (c.Symbol (unary_symbol op)) p ∷ spelling (one_less room) (left - 1) e
spelling room left (Infix a p op b) =
    spelling room left a ++ marked (is_zero (left - operators a)) (c.Symbol (binary_symbol op)) p ∷ spelling room (left - operators a - 1) b

-- how loosely an operator binds
abbrev pub level : Binary → ℕ
level binary.Times = 1
level binary.Plus = 2
level binary.Minus = 2
level binary.Join = 2
level binary.Equal = 3
level binary.Unequal = 3
level binary.Less = 3
level binary.LessOrEqual = 3
level binary.Greater = 3
level binary.GreaterOrEqual = 3
level binary.And = 4
level binary.Or = 5

-- Comparisons stand alone, the others of one level group to the left.
abbrev pub is_alone : ℕ → Bool
is_alone (suc (suc (suc zero))) = true
is_alone _ = false

abbrev pub left_of : Bool → ℕ → ℕ
left_of true n = n - 1
left_of false n = n

-- how loosely the operators on the left of one may bind
abbrev pub left_level : Binary → ℕ
left_level op = left_of (is_alone (level op)) (level op)

abbrev pub IsName : List ℕ → Type 0
IsName x = keyword_of x ≡ None

-- The expression may stand where operators up to this level may.
abbrev pub IsWithin : ℕ → Term → Type 0
IsWithin n (Number p v) = Unit {0}
IsWithin n (Quoted p t) = Unit {0}
IsWithin n (Constant p w) = Unit {0}
IsWithin n (Field p h d q x) = Unit {0}
IsWithin n (Name p x) = IsName x
IsWithin n (Call p f o e q) = IsWithin 5 e
IsWithin n (Paren o e q) = IsWithin 5 e
IsWithin n (Prefix p op e) = IsWithin 0 e
IsWithin n (Infix a p op b) = (level op ≤ n) × IsWithin (left_level op) a × IsWithin (level op - 1) b

-- one whole expression
abbrev pub expression : (room : ℕ) → Term → List Mark
expression room e = spelling room 1000 e

-- ---- types, and messages that are made

abbrev pub dotted : Dotted → List Mark
dotted d = symbol sym.Dot d.dot_at ∷ word d.name d.at ∷ []

abbrev pub type_name : TypeName → List Mark
type_name t = word t.name t.at ∷ each dotted t.others

abbrev pub IsDotted : Dotted → Type 0
IsDotted d = IsName d.name

abbrev pub Every : {A : Type 0} → (A → Type 0) → List A → Type 0
Every P [] = Unit {0}
Every P (x ∷ xs) = P x × Every P xs

abbrev pub IsTypeName : TypeName → Type 0
IsTypeName t = IsName t.name × Every IsDotted t.others

abbrev pub is_there : Option ℕ → Bool
is_there None = false
is_there (Some p) = true

-- Others may follow only what has a comma.
abbrev pub MayPrecede : {A : Type 0} → Bool → List A → Type 0
MayPrecede true xs = Unit {0}
MayPrecede false [] = Unit {0}
MayPrecede false (x ∷ xs) = ⊥

-- Each is such a one, and has what others need in front of them.
abbrev pub Strung : {A : Type 0} → (A → Bool) → (A → Type 0) → List A → Type 0
Strung more P [] = Unit {0}
Strung more P (x ∷ xs) = P x × MayPrecede (more x) xs × Strung more P xs

abbrev pub arg : (room : ℕ) → ArgTerm → List Mark
arg room a = word a.name a.at ∷ symbol sym.Colon a.colon_at ∷ (expression room a.value ++ comma a.comma_at)

abbrev pub IsArg : ArgTerm → Type 0
IsArg a = IsWithin 5 a.value

abbrev pub arg_goes_on : ArgTerm → Bool
arg_goes_on a = is_there a.comma_at

abbrev pub make : (room : ℕ) → MakeTerm → List Mark
make room m = type_name m.name ++ symbol sym.OpenBrace m.open_at ∷ (each (arg room) m.args ++ symbol sym.CloseBrace m.close_at ∷ [])

pub record IsMake (m : MakeTerm) : Type 0 where
  pub name : IsTypeName m.name
  pub args : Strung arg_goes_on IsArg m.args

-- ---- statements

abbrev pub row_name : (room : ℕ) → RowTerm → List Mark
row_name room r = key k.Row r.at ∷ symbol sym.Open r.open_at ∷ (expression room r.name ++ symbol sym.Close r.close_at ∷ [])

abbrev pub delay : (room : ℕ) → Option AfterTerm → List Mark
delay room None = []
delay room (Some a) = key k.After a.at ∷ expression room a.delay

abbrev pub originator : Option ℕ → List Mark
originator None = []
originator (Some p) = key k.Originator p ∷ []

abbrev pub destination_key : Destination → Keyword
destination_key destination.Route = k.Send
destination_key destination.Local = k.Local

abbrev pub refusal_key : Refusal → Keyword
refusal_key refusal.Fail = k.Fail
refusal_key refusal.Reject = k.Reject

abbrev mutual
  pub statement : (room : ℕ) → Phrase → List Mark
  statement room (Let p q x u e s) = key k.Let p ∷ word x q ∷ symbol sym.Assign u ∷ (expression room e ++ symbol sym.Semi s ∷ [])
  statement room (Set p q x u e s) = key k.Set p ∷ word x q ∷ symbol sym.Assign u ∷ (expression room e ++ symbol sym.Semi s ∷ [])
  statement room (Put p r u e s) = key k.Put p ∷ (row_name room r ++ symbol sym.Assign u ∷ (expression room e ++ symbol sym.Semi s ∷ []))
  statement room (Add p r u e s) = key k.Add p ∷ (row_name room r ++ key k.By u ∷ (expression room e ++ symbol sym.Semi s ∷ []))
  statement room (Erase p r s) = key k.Erase p ∷ (row_name room r ++ symbol sym.Semi s ∷ [])
  statement room (Send a p to m s) = delay room a ++ key (destination_key to) p ∷ (make room m ++ symbol sym.Semi s ∷ [])
  statement room (Publish p m s) = key k.Publish p ∷ (make room m ++ symbol sym.Semi s ∷ [])
  statement room (Reply p o m s) = key k.Reply p ∷ (originator o ++ (make room m ++ symbol sym.Semi s ∷ []))
  statement room (Timeout p e m s) = key k.Timeout p ∷ (expression room e ++ (make room m ++ symbol sym.Semi s ∷ []))
  statement room (Complete p s) = key k.Complete p ∷ symbol sym.Semi s ∷ []
  statement room (Refuse p r q x e s) = key (refusal_key r) p ∷ word x q ∷ (expression room e ++ symbol sym.Semi s ∷ [])
  statement room (If p e b o) = key k.If p ∷ (expression room e ++ (block room b ++ alternative room o))

  pub statements : (room : ℕ) → Phrases → List Mark
  statements room Nil = []
  statements room (Then x xs) = statement room x ++ statements room xs

  pub block : (room : ℕ) → Braces → List Mark
  block room (Brace o b q) = marked (is_zero room) (c.Symbol sym.OpenBrace) o ∷ (statements (one_less room) b ++ symbol sym.CloseBrace q ∷ [])

  pub alternative : (room : ℕ) → Otherwise → List Mark
  alternative room Nothing = []
  alternative room (Last p b) = key k.Else p ∷ block room b
  alternative room (Chain p q e b o) =
      key k.Else p ∷ marked (is_zero room) (c.Word (keyword_text k.If)) q ∷ (expression (one_less room) e ++ (block (one_less room) b ++ alternative (one_less room) o))

abbrev pub IsRowName : RowTerm → Type 0
IsRowName r = IsWithin 5 r.name

abbrev pub IsDelay : Option AfterTerm → Type 0
IsDelay None = Unit {0}
IsDelay (Some a) = IsWithin 5 a.delay

abbrev mutual
  pub IsStatement : Phrase → Type 0
  IsStatement (Let p q x u e s) = IsName x × IsWithin 5 e
  IsStatement (Set p q x u e s) = IsWithin 5 e
  IsStatement (Put p r u e s) = IsRowName r × IsWithin 5 e
  IsStatement (Add p r u e s) = IsRowName r × IsWithin 5 e
  IsStatement (Erase p r s) = IsRowName r
  IsStatement (Send a p to m s) = IsDelay a × IsMake m
  IsStatement (Publish p m s) = IsMake m
  IsStatement (Reply p o m s) = IsMake m
  IsStatement (Timeout p e m s) = IsWithin 5 e × IsMake m
  IsStatement (Complete p s) = Unit {0}
  IsStatement (Refuse p r q x e s) = IsName x × IsWithin 5 e
  IsStatement (If p e b o) = IsWithin 5 e × IsBlock b × IsAlternative o

  pub AreStatements : Phrases → Type 0
  AreStatements Nil = Unit {0}
  AreStatements (Then x xs) = IsStatement x × AreStatements xs

  pub IsBlock : Braces → Type 0
  IsBlock (Brace o b q) = AreStatements b

  pub IsAlternative : Otherwise → Type 0
  IsAlternative Nothing = Unit {0}
  IsAlternative (Last p b) = IsBlock b
  IsAlternative (Chain p q e b o) = IsWithin 5 e × IsBlock b × IsAlternative o

-- ---- items

abbrev pub kind_key : FieldKind → Keyword
kind_key kind.Int = k.Int
kind_key kind.Text = k.Text
kind_key kind.Bool = k.Bool

abbrev pub field : FieldLine → List Mark
field f = word f.name f.at ∷ symbol sym.Colon f.colon_at ∷ key (kind_key f.kind) f.kind_at ∷ []

abbrev pub message_field : MessageField → List Mark
message_field f = field f.field ++ comma f.comma_at

abbrev pub truth_key : Bool → Keyword
truth_key true = k.True
truth_key false = k.False

abbrev pub sign : Option ℕ → List Mark
sign None = []
sign (Some p) = symbol sym.Minus p ∷ []

abbrev pub literal_spelling : Literal → List Mark
literal_spelling (literal.Number m p n) = sign m ++ marked false (c.Number n) p ∷ []
literal_spelling (literal.Quoted p t) = marked false (c.Quoted t) p ∷ []
literal_spelling (literal.Truth p b) = key (truth_key b) p ∷ []

abbrev pub since : Option Since → List Mark
since None = []
since (Some s) = word (codes "since") s.at ∷ marked false (c.Number s.revision) s.number_at ∷ symbol sym.Assign s.equals_at ∷ literal_spelling s.literal

abbrev pub saga_field : SagaField → List Mark
saga_field f = field f.field ++ (since f.since ++ comma f.comma_at)

abbrev pub revision : Option Revision → List Mark
revision None = []
revision (Some r) = word (codes "revision") r.at ∷ marked false (c.Number r.number) r.number_at ∷ []

abbrev pub finder_key : Finder → Keyword
finder_key finder.Start = k.Start
finder_key finder.Find = k.Find

abbrev pub answer_key : Answer → Keyword
answer_key answer.Reply = k.Reply
answer_key answer.Timeout = k.Timeout

abbrev pub part : (room : ℕ) → PartTerm → List Mark
part room (ByField p f t q u x b) = key (finder_key f) p ∷ (type_name t ++ key k.By q ∷ word x u ∷ block room b)
part room (ById p a t b) = key (answer_key a) p ∷ (type_name t ++ block room b)

abbrev pub saga : (room : ℕ) → SagaTerm → List Mark
saga room s =
    key k.Saga s.at ∷ word s.name s.name_at ∷ (revision s.revision ++ key k.On s.on_at ∷ (field s.correlation
    ++ symbol sym.OpenBrace s.open_at ∷ key k.Fields s.fields_at ∷ symbol sym.OpenBrace s.fields_open_at ∷ (each saga_field s.fields
    ++ symbol sym.CloseBrace s.fields_close_at ∷ (each (part room) s.parts ++ symbol sym.CloseBrace s.close_at ∷ []))))

abbrev pub item : (room : ℕ) → ItemTerm → List Mark
item room (Message p t o fs q) = key k.Message p ∷ (type_name t ++ symbol sym.OpenBrace o ∷ (each message_field fs ++ symbol sym.CloseBrace q ∷ []))
item room (Handler p t b) = key k.Handler p ∷ (type_name t ++ block room b)
item room (Saga s) = saga room s

abbrev pub message_field_goes_on : MessageField → Bool
message_field_goes_on f = is_there f.comma_at

abbrev pub saga_field_goes_on : SagaField → Bool
saga_field_goes_on f = is_there f.comma_at

abbrev pub Always : {A : Type 0} → A → Type 0
Always a = Unit {0}

abbrev pub IsPart : PartTerm → Type 0
IsPart (ByField p f t q u x b) = IsTypeName t × IsBlock b
IsPart (ById p a t b) = IsTypeName t × IsBlock b

pub record IsSaga (s : SagaTerm) : Type 0 where
  pub name : IsName s.name
  pub fields : Strung saga_field_goes_on Always s.fields
  pub parts : Every IsPart s.parts

abbrev pub IsItem : ItemTerm → Type 0
IsItem (Message p t o fs q) = IsTypeName t × Strung message_field_goes_on Always fs
IsItem (Handler p t b) = IsTypeName t × IsBlock b
IsItem (Saga s) = IsSaga s

-- ---- scripts

-- the tokens of a script
abbrev pub script_marks : List ItemTerm → List Mark
script_marks items = each (item 100) items

abbrev pub lexemes : List Mark → List Lexeme
lexemes ms = map (λ m. m.lexeme) ms

abbrev pub IsScript : List ItemTerm → Type 0
IsScript items = Every IsItem items
