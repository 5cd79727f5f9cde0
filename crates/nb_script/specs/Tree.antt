-- The script that a tree in memory is.
use Rattle.std.specs.Prelude.{◌≡◌, ℕ, List, map, option_map, Result, Ok, Err}
use Rattle.nb_script.specs.declared.fault.Halt.{Halt}
use Rattle.nb_script.specs.declared.fault.Halt.TheVariants.{Memory, Stopped}
use Rattle.nb_script.specs.Reading.{Outcome}
use Rattle.nb_script.specs.ReadingScript.{in_row}
use Rattle.nb_script.specs.declared.expr.Expr.{Expr}
use Rattle.nb_script.specs.declared.expr.Expr.TheOpen as e
use Rattle.nb_script.specs.declared.expr.Expr.TheOpen.{Expr-F}
use Rattle.nb_script.specs.declared.expr.Expr.TheFolds.{fold-Expr}
use Rattle.nb_script.specs.declared.expr.Arg.{Arg}
use Rattle.nb_script.specs.declared.expr.Make.{Make}
use Rattle.nb_script.specs.declared.stmt.RowName.{RowName}
use Rattle.nb_script.specs.declared.stmt.After.{After}
use Rattle.nb_script.specs.declared.stmt.Block.{Block}
use Rattle.nb_script.specs.declared.stmt.Stmt.{Stmt}
use Rattle.nb_script.specs.declared.stmt.Else.{Else}
use Rattle.nb_script.specs.declared.stmt.Else.TheOpen as s
use Rattle.nb_script.specs.declared.stmt.Else.TheOpen.{Block-F, Stmt-F, Else-F}
use Rattle.nb_script.specs.declared.stmt.Else.TheFolds.{fold-Block, fold-Stmt, fold-Else}
use Rattle.nb_script.specs.declared.item.Part.{Part}
use Rattle.nb_script.specs.declared.item.Part.TheVariants as p
use Rattle.nb_script.specs.declared.item.Saga.{Saga as SagaTree}
use Rattle.nb_script.specs.declared.item.Item.{Item}
use Rattle.nb_script.specs.declared.item.Item.TheVariants as i
use Rattle.nb_script.specs.Grammar.{Term, Number, Quoted, Constant, Field, Name, Call, Paren, Prefix, Infix, ArgTerm, MakeTerm, RowTerm, AfterTerm}
use Rattle.nb_script.specs.Grammar.{Phrase, Let, Set, Put, Add, Erase, Send, Publish, Reply, Timeout, Complete, Refuse, If, Phrases, Braces, Brace, Otherwise, Nothing, Last, Chain}
use Rattle.nb_script.specs.Grammar.{PartTerm, ByField, ById, SagaTerm, ItemTerm, Message, Handler, Saga}

-- ---- expressions

abbrev pub node_term : Expr-F Term → Term
node_term (e.Number at n) = Number at n
node_term (e.Quoted at t) = Quoted at t
node_term (e.Constant at c) = Constant at c
node_term (e.Field at h d q f) = Field at h d q f
node_term (e.Name at x) = Name at x
node_term (e.Call at f o a c) = Call at f o a c
node_term (e.Paren o a c) = Paren o a c
node_term (e.Prefix at op a) = Prefix at op a
node_term (e.Infix a at op b) = Infix a at op b

abbrev pub tree : Expr → Term
tree = fold-Expr Term node_term

abbrev pub arg : Arg → ArgTerm
arg a = record { at = a.at; name = a.name; colon_at = a.colon_at; value = tree a.value; comma_at = a.comma_at }

abbrev pub make : Make → MakeTerm
make m = record { name = m.name; open_at = m.open_at; args = map arg m.args; close_at = m.close_at }

-- ---- statements

abbrev pub row_name : RowName → RowTerm
row_name r = record { at = r.at; open_at = r.open_at; name = tree r.name; close_at = r.close_at }

abbrev pub after : After → AfterTerm
after a = record { at = a.at; delay = tree a.delay }

abbrev pub node_block : Block-F Otherwise Phrase Braces → Braces
node_block b = Brace b.open_at (in_row b.body) b.close_at

abbrev pub node_otherwise : Else-F Otherwise Phrase Braces → Otherwise
node_otherwise s.Nothing = Nothing
node_otherwise (s.Last at b) = Last at b
node_otherwise (s.Chain at q x b o) = Chain at q (tree x) b o

abbrev pub node_phrase : Stmt-F Otherwise Phrase Braces → Phrase
node_phrase (s.Let at q n u x c) = Let at q n u (tree x) c
node_phrase (s.Set at q n u x c) = Set at q n u (tree x) c
node_phrase (s.Put at r u x c) = Put at (row_name r) u (tree x) c
node_phrase (s.Add at r u x c) = Add at (row_name r) u (tree x) c
node_phrase (s.Erase at r c) = Erase at (row_name r) c
node_phrase (s.Send a at to m c) = Send (option_map after a) at to (make m) c
node_phrase (s.Publish at m c) = Publish at (make m) c
node_phrase (s.Reply at o m c) = Reply at o (make m) c
node_phrase (s.Timeout at x m c) = Timeout at (tree x) (make m) c
node_phrase (s.Complete at c) = Complete at c
node_phrase (s.Refuse at r q n x c) = Refuse at r q n (tree x) c
node_phrase (s.If at x b o) = If at (tree x) b o

abbrev pub phrase : Stmt → Phrase
phrase = fold-Stmt Otherwise Phrase Braces node_otherwise node_phrase node_block

abbrev pub otherwise : Else → Otherwise
otherwise = fold-Else Otherwise Phrase Braces node_otherwise node_phrase node_block

abbrev pub block : Block → Braces
block = fold-Block Otherwise Phrase Braces node_otherwise node_phrase node_block

abbrev pub listed : List Stmt → Phrases
listed body = in_row (map phrase body)

-- ---- items

abbrev pub part : Part → PartTerm
part (p.ByField at f n q u w b) = ByField at f n q u w (block b)
part (p.ById at a n b) = ById at a n (block b)

abbrev pub saga : SagaTree → SagaTerm
saga s = record {
  at = s.at;
  name_at = s.name_at;
  name = s.name;
  revision = s.revision;
  on_at = s.on_at;
  correlation = s.correlation;
  open_at = s.open_at;
  fields_at = s.fields_at;
  fields_open_at = s.fields_open_at;
  fields = s.fields;
  fields_close_at = s.fields_close_at;
  parts = map part s.parts;
  close_at = s.close_at;
}

abbrev pub item : Item → ItemTerm
item (i.Message at n o f c) = Message at n o f c
item (i.Handler at n b) = Handler at n (block b)
item (i.Saga s) = Saga (saga s)

-- the items of a script
abbrev pub script : List Item → List ItemTerm
script items = map item items

-- ---- what a function that parses gives

-- a function that stopped so read this, unless memory ran out
abbrev pub Fails : {A : Type 0} → Halt → Outcome A → Type 0
Fails Memory read = Unit {0}
Fails (Stopped f k) read = read ≡ Err (f, k)

-- what a function returned is what is read, unless memory ran out
abbrev pub Gives : {X A : Type 0} → (X → A × ℕ) → Result X Halt → Outcome A → Type 0
Gives view (Ok x) read = read ≡ Ok (view x)
Gives view (Err e) read = Fails e read
