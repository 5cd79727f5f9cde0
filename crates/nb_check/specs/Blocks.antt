-- The blocks of a script that messages meet: those of handlers and of parts of sagas, in the order of the text.
use Rattle.std.specs.Prelude.{ℕ, List, [], ◌∷◌, ◌++◌}
use Rattle.nb_script.specs.declared.expr.TypeName.{TypeName}
use Rattle.nb_script.specs.declared.item.Answer.{Answer}
use Rattle.nb_script.specs.declared.item.Finder.{Finder}
use Rattle.nb_script.specs.Grammar.{Braces, PartTerm, ByField, ById, ItemTerm, Message, Handler, Saga}
use Rattle.nb_check.specs.Declarations.{type_text}

-- what a message must be to meet a block: the names are those of the saga and of the message's field
pub data Role : Type 0 where
  Handles : Role
  Finds : (finder : Finder) (saga field : List ℕ) → Role
  Answers : (answer : Answer) (saga : List ℕ) → Role

pub record BlockTerm : Type 0 where
  -- the message's type
  pub name : List ℕ
  pub role : Role
  pub body : Braces

abbrev pub handler_block : TypeName → Braces → BlockTerm
handler_block n b = record { name = type_text n; role = Handles; body = b }

abbrev pub part_block : List ℕ → PartTerm → BlockTerm
part_block saga (ByField at f n q u field b) = record { name = type_text n; role = Finds f saga field; body = b }
part_block saga (ById at a n b) = record { name = type_text n; role = Answers a saga; body = b }

abbrev pub part_blocks : List ℕ → List PartTerm → List BlockTerm
part_blocks saga [] = []
part_blocks saga (p ∷ ps) = part_block saga p ∷ part_blocks saga ps

abbrev pub item_blocks : ItemTerm → List BlockTerm
item_blocks (Message at n o fs c) = []
item_blocks (Handler at n b) = handler_block n b ∷ []
item_blocks (Saga s) = part_blocks s.name s.parts

-- a block's number is its place in this list
abbrev pub blocks : List ItemTerm → List BlockTerm
blocks [] = []
blocks (i ∷ items) = item_blocks i ++ blocks items
