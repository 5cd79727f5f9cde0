-- What is found by its name: of several with one name the first.
use Rattle.std.specs.Prelude.{◌≡◌, ℕ, List, Bool, is_some, if◌then◌else◌}
use Rattle.std.specs.FinMap as map
use Rattle.nb_base.specs.Orders.{ByName}
use Rattle.nb_script.specs.declared.item.FieldKind.{FieldKind}
use Rattle.nb_script.specs.Grammar.{ArgTerm}
use Rattle.nb_check.specs.Kinds.{kind_in}
use Rattle.nb_check.specs.Statements.{fields_of, is_given, has_name}
use Rattle.nb_check.specs.declared.types.Declared.{Declared}
use Rattle.nb_check.specs.declared.types.MessageType.{MessageType}

-- a value under a name that has none yet
abbrev pub with_first : {V : Type 0} → ByName V → List ℕ → V → ByName V
with_first table name v = if is_some (map.get table name) then table else map.insert table name v

-- under each name the kind of its first field
abbrev pub AreKinds : ByName FieldKind → List Declared → Type 0
AreKinds table ds = (name : List ℕ) → map.get table name ≡ kind_in name ds

-- under each name the fields of its first message
abbrev pub AreFields : ByName (List Declared) → List MessageType → Type 0
AreFields table ms = (name : List ℕ) → map.get table name ≡ fields_of name ms

-- the names that are given to a message that is made
abbrev pub AreGiven : ByName ℕ → List ArgTerm → Type 0
AreGiven table args = (name : List ℕ) → is_some (map.get table name) ≡ is_given name args

-- the names of a list
abbrev pub AreNames : ByName Bool → List (List ℕ) → Type 0
AreNames table names = (name : List ℕ) → is_some (map.get table name) ≡ has_name name names
