-- Which blocks a message meets.
use Rattle.std.specs.Prelude.{ℕ, ◌+◌, List, [], ◌∷◌, ◌++◌, Bool, true, false, not, ◌&&◌, ◌||◌, bytes_eq, if◌then◌else◌, Option, Some, None, codes, slice_get, option_map, option_and_then}
use Rattle.std.specs.Option.{option_map_or}
use Rattle.nb_base.specs.Messages.{Message, header}
use Rattle.nb_headers.specs.HeaderNames.{is_saga_timeout_message, saga_id, saga_type}
use Rattle.nb_headers.specs.Reads.{type_name, message_type}
use Rattle.nb_script.specs.declared.item.Answer.TheVariants.{Reply, Timeout}
use Rattle.nb_script.specs.Grammar.{ItemTerm}
use Rattle.nb_check.specs.Blocks.{Role, Handles, Finds, Answers, BlockTerm, blocks}
use Rattle.nb_check.specs.declared.incoming.Address.{Address}
use Rattle.nb_check.specs.declared.incoming.Incoming.{Incoming}

-- ---- what the headers say

abbrev pub is_true : List ℕ → Bool
is_true text = bytes_eq text (codes "True") || bytes_eq text (codes "true")

abbrev pub is_timeout : Message → Bool
is_timeout m = option_map_or is_true (header m.headers is_saga_timeout_message) false

abbrev pub is_empty : List ℕ → Bool
is_empty [] = true
is_empty (c ∷ cs) = false

-- a saga's type, which is cut at its first comma and trimmed of spaces, and its id, neither of them empty
abbrev pub address_in : List ℕ → List ℕ → Option Address
address_in saga id = if is_empty saga || is_empty id then None else Some (record { saga = saga; id = id })

abbrev pub address_by : Option (List ℕ) → Option (List ℕ) → Option Address
address_by (Some saga) (Some id) = address_in (type_name saga) id
address_by (Some saga) None = None
address_by None id = None

-- the saga that the headers name
abbrev pub address_of : Message → Option Address
address_of m = address_by (header m.headers saga_type) (header m.headers saga_id)

abbrev pub incoming_as : Message → ℕ → List ℕ → Incoming
incoming_as m number name = record { message = number; name = name; timeout = is_timeout m; address = address_of m }

abbrev pub incoming_of : Message → List (List ℕ) → ℕ → Option Incoming
incoming_of m names number = option_map (incoming_as m number) (slice_get names number)

-- what is said of a message whose type is declared
abbrev pub incoming : List (List ℕ) → Message → Option Incoming
incoming names m = option_and_then (incoming_of m names) (message_type m names)

-- ---- the blocks

abbrev pub addresses : Option Address → List ℕ → Bool
addresses None saga = false
addresses (Some a) saga = bytes_eq a.saga saga

abbrev pub fits_role : Incoming → Role → Bool
fits_role m Handles = not m.timeout
fits_role m (Finds f saga field) = not m.timeout
fits_role m (Answers Reply saga) = not m.timeout && addresses m.address saga
fits_role m (Answers Timeout saga) = m.timeout && addresses m.address saga

abbrev pub is_met : Incoming → BlockTerm → Bool
is_met m b = bytes_eq m.name b.name && fits_role m b.role

abbrev pub number_if : Bool → ℕ → List ℕ
number_if met n = if met then n ∷ [] else []

-- the numbers of the blocks met, of blocks whose numbers begin with this one
abbrev pub met_from : Incoming → ℕ → List BlockTerm → List ℕ
met_from m n [] = []
met_from m n (b ∷ bs) = number_if (is_met m b) n ++ met_from m (n + 1) bs

abbrev pub met_by : List BlockTerm → Option Incoming → List ℕ
met_by bs None = []
met_by bs (Some m) = met_from m 0 bs

-- the numbers of the blocks of a script that a message meets, given the names of the declared messages
abbrev pub met_numbers : List ItemTerm → List (List ℕ) → Message → List ℕ
met_numbers items names m = met_by (blocks items) (incoming names m)
