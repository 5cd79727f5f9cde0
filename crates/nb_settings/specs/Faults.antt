-- What is at fault in the table of a settings file, in the order in which its keys are looked at.
use Rattle.std.specs.Prelude.{ℕ, ℤ, pos, negsuc, List, [], ◌∷◌, ◌++◌, length, Bool, true, ◌&&◌, nat_le, bytes_eq, is_some, if◌then◌else◌, Option, Some, None, codes}
use Rattle.std.specs.List.{list_all}
use Rattle.toml.specs.Data.{Data, Items, no_items, item, Members, no_members, member, get, as_str, as_integer, as_array, as_table}
use Rattle.nb_base.specs.SettingsRules.{is_endpoint, is_queue, differ}
use Rattle.nb_settings.specs.Unknown.{least, others_of}
use Rattle.nb_settings.specs.Values.{action_of, endpoint_at, members_of, texts_of}
use Rattle.nb_settings.specs.declared.refusal.SettingsFault.{SettingsFault}
use Rattle.nb_settings.specs.declared.refusal.SettingsKind.{SettingsKind}
use Rattle.nb_settings.specs.declared.refusal.SettingsKind.TheVariants.{Missing, WrongKind, OutOfRange, SameQueue, Repeated, Unknown}

-- the key is bad, in this way
abbrev pub bad : List ℕ → SettingsKind → List SettingsFault
bad key kind = record { key = key; kind = kind } ∷ []

-- a text has to pass the test
abbrev pub text_faults : List ℕ → (List ℕ → Bool) → Option (List ℕ) → List SettingsFault
text_faults key test None = bad key WrongKind
text_faults key test (Some text) = if test text then [] else bad key OutOfRange

-- the endpoint has a name
abbrev pub endpoint_faults : Option Data → List SettingsFault
endpoint_faults None = bad (codes "endpoint") Missing
endpoint_faults (Some value) = text_faults (codes "endpoint") is_endpoint (as_str value)

-- the error queue isn't the endpoint's own
abbrev pub own_faults : List ℕ → List ℕ → List SettingsFault
own_faults endpoint queue = if bytes_eq queue endpoint then bad (codes "error") SameQueue else []

abbrev pub error_text_faults : List ℕ → Option (List ℕ) → List SettingsFault
error_text_faults endpoint None = bad (codes "error") WrongKind
error_text_faults endpoint (Some queue) = if is_queue queue then own_faults endpoint queue else bad (codes "error") OutOfRange

abbrev pub error_faults : List ℕ → Option Data → List SettingsFault
error_faults endpoint None = own_faults endpoint (codes "error")
error_faults endpoint (Some value) = error_text_faults endpoint (as_str value)

-- a whole number from 0 to the most
abbrev pub integer_faults : List ℕ → ℕ → Option ℤ → List SettingsFault
integer_faults key most None = bad key WrongKind
integer_faults key most (Some (pos n)) = if nat_le n most then [] else bad key OutOfRange
integer_faults key most (Some (negsuc n)) = bad key OutOfRange

abbrev pub number_faults : List ℕ → ℕ → Option Data → List SettingsFault
number_faults key most None = []
number_faults key most (Some value) = integer_faults key most (as_integer value)

-- a group of keys is a table; where it is none, its name stands in the place of its first key
abbrev pub group_faults : List ℕ → (Data → List SettingsFault) → Option Data → List SettingsFault
group_faults name inside None = []
group_faults name inside (Some value) = if is_some (as_table value) then inside value else bad name WrongKind

abbrev pub retry_faults : Data → List SettingsFault
retry_faults group =
    number_faults (codes "recoverability.immediate") 1000 (get (codes "immediate") group)
    ++ number_faults (codes "recoverability.delayed") 1000 (get (codes "delayed") group)
    ++ number_faults (codes "recoverability.increase") 86400 (get (codes "increase") group)

abbrev pub outbox_faults : Data → List SettingsFault
outbox_faults group = number_faults (codes "outbox.retention") 315360000 (get (codes "retention") group)

abbrev pub route_faults : Members → List SettingsFault
route_faults no_members = []
route_faults (member name value rest) = text_faults (codes "routes." ++ name) is_queue (as_str value) ++ route_faults rest

abbrev pub are_texts : Items → Bool
are_texts no_items = true
are_texts (item value rest) = is_some (as_str value) && are_texts rest

-- at most sixteen queues, none of them twice
abbrev pub queue_faults : List ℕ → List (List ℕ) → List SettingsFault
queue_faults key queues =
    if nat_le (length queues) 16 && list_all is_queue queues then (if differ queues then [] else bad key Repeated) else bad key OutOfRange

-- all items are texts
abbrev pub kind_faults : List ℕ → Items → List SettingsFault
kind_faults key items = if are_texts items then [] else bad key WrongKind

abbrev pub item_faults : List ℕ → Items → List SettingsFault
item_faults key items = kind_faults key items ++ (if are_texts items then queue_faults key (texts_of items) else [])

abbrev pub array_faults : List ℕ → Option Items → List SettingsFault
array_faults key None = bad key WrongKind
array_faults key (Some items) = item_faults key items

abbrev pub subscriber_faults : Members → List SettingsFault
subscriber_faults no_members = []
subscriber_faults (member name value rest) = array_faults (codes "subscribers." ++ name) (as_array value) ++ subscriber_faults rest

abbrev pub policy_faults : Members → List SettingsFault
policy_faults no_members = []
policy_faults (member name value rest) =
    text_faults (codes "policies." ++ name) (λ text. is_some (action_of text)) (as_str value) ++ policy_faults rest

-- the least key that means nothing
abbrev pub unknown_faults : Option (List ℕ) → List SettingsFault
unknown_faults None = []
unknown_faults (Some key) = bad key Unknown

-- what is at fault under the keys of a table
abbrev pub endpoint_faults_at : Data → List SettingsFault
endpoint_faults_at root = endpoint_faults (get (codes "endpoint") root)

abbrev pub error_faults_at : List ℕ → Data → List SettingsFault
error_faults_at endpoint root = error_faults endpoint (get (codes "error") root)

abbrev pub retry_faults_at : Data → List SettingsFault
retry_faults_at root = group_faults (codes "recoverability") retry_faults (get (codes "recoverability") root)

abbrev pub outbox_faults_at : Data → List SettingsFault
outbox_faults_at root = group_faults (codes "outbox") outbox_faults (get (codes "outbox") root)

abbrev pub route_faults_at : Data → List SettingsFault
route_faults_at root = group_faults (codes "routes") (λ group. route_faults (members_of (Some group))) (get (codes "routes") root)

abbrev pub subscriber_faults_at : Data → List SettingsFault
subscriber_faults_at root =
    group_faults (codes "subscribers") (λ group. subscriber_faults (members_of (Some group))) (get (codes "subscribers") root)

abbrev pub policy_faults_at : Data → List SettingsFault
policy_faults_at root = group_faults (codes "policies") (λ group. policy_faults (members_of (Some group))) (get (codes "policies") root)

-- all that is at fault in a table, in the order of its keys
abbrev pub faults_of : Data → List SettingsFault
faults_of root =
    endpoint_faults_at root ++ error_faults_at (endpoint_at root) root ++ retry_faults_at root ++ outbox_faults_at root
    ++ route_faults_at root ++ subscriber_faults_at root ++ policy_faults_at root ++ unknown_faults (least (others_of root))
