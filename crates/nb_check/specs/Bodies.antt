-- What a message's body says, by the kinds of the fields that its type declares.
use Rattle.std.specs.Prelude.{◌≡◌, ℕ, List, [], ◌∷◌, ◌++◌, take, drop, bytes_eq, if◌then◌else◌, Option, Some, None, Result, Ok, Err, option_map, option_and_then}
use Rattle.std.specs.Str.{is_utf8}
use Rattle.serde_json.specs.Data.{Data, null, boolean, number, string, array, object}
use Rattle.serde_json.specs.Find.{get, as_bool, as_i64, as_number, as_str}
use Rattle.serde_json.specs.Read.{read}
use Rattle.serde_json.specs.View.{view}
use Rattle.serde_json.specs.declared.value.Value.{Value as Json}
use Rattle.nb_base.specs.declared.value.Field.{Field}
use Rattle.nb_base.specs.declared.value.Value.{Value}
use Rattle.nb_base.specs.declared.value.Value.TheVariants.{Int, Text, Bool}
use Rattle.nb_script.specs.declared.item.FieldKind.{FieldKind}
use Rattle.nb_script.specs.declared.item.FieldKind.TheVariants as kind
use Rattle.nb_check.specs.Declarations.{default_of}
use Rattle.nb_check.specs.declared.bodies.BodyFault.{BodyFault}
use Rattle.nb_check.specs.declared.bodies.BodyFault.TheVariants as fault
use Rattle.nb_check.specs.declared.types.Declared.{Declared}

-- U+FEFF in UTF-8
abbrev pub mark : List ℕ
mark = 239 ∷ 187 ∷ 191 ∷ []

-- the body without one byte order mark at its start
abbrev pub without_mark : List ℕ → List ℕ
without_mark body = if bytes_eq (take 3 body) mark then drop 3 body else body

-- what `serde_json` reads of the bytes: nothing where they are no UTF-8
abbrev pub json_of : List ℕ → Option Data
json_of bytes = if is_utf8 bytes then read bytes else None

-- a value of this kind: a number that is held as a whole one from -2^63 to 2^63 - 1, a text, or a truth value
abbrev pub given : FieldKind → Data → Option Value
given kind.Int d = option_map Int (option_and_then as_i64 (as_number d))
given kind.Text d = option_map Text (as_str d)
given kind.Bool d = option_map Bool (as_bool d)

-- a member that is absent or null has 0, the empty text or false
abbrev pub member_value : FieldKind → Option Data → Option Value
member_value k None = Some (default_of k)
member_value k (Some null) = Some (default_of k)
member_value k (Some (boolean b)) = given k (boolean b)
member_value k (Some (number n)) = given k (number n)
member_value k (Some (string s)) = given k (string s)
member_value k (Some (array ds)) = given k (array ds)
member_value k (Some (object ms)) = given k (object ms)

abbrev pub named : List ℕ → Value → Field
named name v = record { name = name; value = v }

abbrev pub field_in : Declared → Data → Option Field
field_in f d = option_map (named f.name) (member_value f.kind (get f.name d))

abbrev pub behind : List Field → Option (List Field) → Option (List Field)
behind front None = None
behind front (Some fs) = Some (front ++ fs)

abbrev pub before : Option Field → Option (List Field) → Option (List Field)
before None rest = None
before (Some f) rest = behind (f ∷ []) rest

-- the declared fields, in order; other members are ignored
abbrev pub fields_in : List Declared → Data → Option (List Field)
fields_in [] d = Some []
fields_in (f ∷ fs) d = before (field_in f d) (fields_in fs d)

abbrev pub object_fields : List Declared → Option Data → Option (List Field)
object_fields fs None = None
object_fields fs (Some null) = None
object_fields fs (Some (boolean b)) = None
object_fields fs (Some (number n)) = None
object_fields fs (Some (string s)) = None
object_fields fs (Some (array ds)) = None
object_fields fs (Some (object ms)) = fields_in fs (object ms)

-- the fields of a body, or nothing where it is undecodable
abbrev pub decoded : List Declared → List ℕ → Option (List Field)
decoded fs body = object_fields fs (json_of (without_mark body))

-- What a call returned is what was meant, and undecodable where nothing was, unless memory ran out.
abbrev pub Misses : {X : Type 0} → BodyFault → Option X → Type 0
Misses fault.Undecodable meant = meant ≡ None
Misses fault.NoMemory meant = Unit {0}

abbrev pub Decodes : {X : Type 0} → Result X BodyFault → Option X → Type 0
Decodes (Ok x) meant = meant ≡ Some x
Decodes (Err e) meant = Misses e meant

-- What a call read is the value that was meant, unless memory ran out.
abbrev pub Reads : Result Json BodyFault → Option Data → Type 0
Reads (Ok v) meant = meant ≡ Some (view v)
Reads (Err e) meant = Misses e meant
