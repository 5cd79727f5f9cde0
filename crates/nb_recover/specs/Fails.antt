-- The name and the text of a failure.
use Rattle.std.specs.Prelude.{ℕ, List, ◌∷◌, ◌++◌, Bool, true, false, codes}
use Rattle.std.specs.Fmt.{decimal, signed_decimal}
use Rattle.json.specs.Print.{quoted}
use Rattle.nb_base.specs.declared.value.Key.{Key}
use Rattle.nb_base.specs.declared.value.Key.TheVariants.{ByCorr, ById, Row}
use Rattle.nb_base.specs.declared.value.Value.{Value}
use Rattle.nb_base.specs.declared.value.Value.TheVariants.{Int, Text, Bool as Truth}
use Rattle.nb_recover.specs.declared.fail.Fail.{Fail}
use Rattle.nb_recover.specs.declared.fail.Fail.TheVariants.{Fault, Conflict}

abbrev pub truth_text : Bool → List ℕ
truth_text true = codes "true"
truth_text false = codes "false"

-- a number in decimal, a text as JSON text, a truth value as true or false
abbrev pub value_text : Value → List ℕ
value_text (Int n) = signed_decimal n
value_text (Text t) = quoted t
value_text (Truth b) = truth_text b

-- a saga with its correlation value or its id, or a row with its name
abbrev pub key_text : Key → List ℕ
key_text (ByCorr saga corr) = codes "saga " ++ saga ++ 32 ∷ value_text corr
key_text (ById saga id) = codes "saga " ++ saga ++ codes " id " ++ quoted id
key_text (Row name) = codes "row " ++ quoted name

abbrev pub conflict_text : Key → ℕ → ℕ → List ℕ
conflict_text key seen now = key_text key ++ codes " was read at version " ++ decimal seen ++ codes " and stands at version " ++ decimal now

-- the name under which the failure is reported
abbrev pub name_of : Fail → List ℕ
name_of (Fault f) = f.name
name_of (Conflict key seen now) = codes "Conflict"

-- and the text
abbrev pub text_of : Fail → List ℕ
text_of (Fault f) = f.text
text_of (Conflict key seen now) = conflict_text key seen now

-- a conflict may be over at the next try
abbrev pub is_unrecoverable : Fail → Bool
is_unrecoverable (Fault f) = f.unrecoverable
is_unrecoverable (Conflict key seen now) = false
