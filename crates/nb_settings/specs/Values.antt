-- The settings that a table says, key by key. Where something is at fault they mean nothing.
use Rattle.std.specs.Prelude.{◌≡◌, ◌≤◌, ℕ, ℤ, pos, negsuc, List, [], ◌∷◌, bytes_eq, if◌then◌else◌, Option, Some, None, codes, unwrap_or, option_map, option_and_then}
use Rattle.toml.specs.Data.{Data, Items, no_items, item, Members, no_members, member, get, as_str, as_integer, as_array, as_table}
use Rattle.nb_base.specs.declared.route.Action.{Action}
use Rattle.nb_base.specs.declared.route.Action.TheVariants as action
use Rattle.nb_base.specs.declared.route.Policy.{Policy}
use Rattle.nb_base.specs.declared.route.Route.{Route}
use Rattle.nb_base.specs.declared.route.Subscriber.{Subscriber}
use Rattle.nb_base.specs.declared.settings.Settings.{Settings}
use Rattle.nb_settings.specs.declared.retries.Retries.{Retries}

-- the text of a value, and what stands for it where there is none
abbrev pub text_or : List ℕ → Option Data → List ℕ
text_or missing value = unwrap_or (option_and_then as_str value) missing

-- a number of settings
abbrev pub natural : ℤ → ℕ
natural (pos n) = n
natural (negsuc n) = 0

-- the number of a value, and what stands for it where there is none
abbrev pub number_or : ℕ → Option Data → ℕ
number_or missing value = unwrap_or (option_map natural (option_and_then as_integer value)) missing

-- the members of a table, none where there is no table
abbrev pub members_of : Option Data → Members
members_of value = unwrap_or (option_and_then as_table value) no_members

-- the value under a key of a group
abbrev pub within : List ℕ → Option Data → Option Data
within key group = option_and_then (get key) group

abbrev pub retries_of : Option Data → Retries
retries_of group = record {
  immediate = number_or 5 (within (codes "immediate") group);
  delayed = number_or 3 (within (codes "delayed") group);
  increase = number_or 10 (within (codes "increase") group);
}

-- the numbers lie in their ranges
abbrev pub AreInRange : Retries → Type 0
AreInRange retries = (retries.immediate ≤ 1000) × (retries.delayed ≤ 1000) × (retries.increase ≤ 86400)

-- each member is a message's type and its queue
abbrev pub routes_of : Members → List Route
routes_of no_members = []
routes_of (member name value rest) = record { name = name; queue = text_or [] (Some value) } ∷ routes_of rest

abbrev pub texts_of : Items → List (List ℕ)
texts_of no_items = []
texts_of (item value rest) = text_or [] (Some value) ∷ texts_of rest

abbrev pub queues_of : Data → List (List ℕ)
queues_of value = texts_of (unwrap_or (as_array value) no_items)

-- each member is a message's type and the queues that get a copy
abbrev pub subscribers_of : Members → List Subscriber
subscribers_of no_members = []
subscribers_of (member name value rest) = record { name = name; queues = queues_of value } ∷ subscribers_of rest

-- the action of this name
abbrev pub action_of : List ℕ → Option Action
action_of text =
    if bytes_eq text (codes "error") then Some action.Error
    else if bytes_eq text (codes "immediate") then Some action.Immediate
    else if bytes_eq text (codes "discard") then Some action.Discard
    else None

-- each member is a fault's name and what is done with it
abbrev pub policies_of : Members → List Policy
policies_of no_members = []
policies_of (member name value rest) =
    record { name = name; action = unwrap_or (option_and_then action_of (as_str value)) action.Error } ∷ policies_of rest

-- what a table says under its keys
abbrev pub endpoint_at : Data → List ℕ
endpoint_at root = text_or [] (get (codes "endpoint") root)

abbrev pub error_at : Data → List ℕ
error_at root = text_or (codes "error") (get (codes "error") root)

abbrev pub retries_at : Data → Retries
retries_at root = retries_of (get (codes "recoverability") root)

abbrev pub retention_at : Data → ℕ
retention_at root = number_or 604800 (within (codes "retention") (get (codes "outbox") root))

abbrev pub routes_at : Data → List Route
routes_at root = routes_of (members_of (get (codes "routes") root))

abbrev pub subscribers_at : Data → List Subscriber
subscribers_at root = subscribers_of (members_of (get (codes "subscribers") root))

abbrev pub policies_at : Data → List Policy
policies_at root = policies_of (members_of (get (codes "policies") root))

-- the settings say what the table says
pub record AreSettingsOf (root : Data) (s : Settings) : Type 0 where
  pub endpoint : s.endpoint ≡ endpoint_at root
  pub error : s.error ≡ error_at root
  pub immediate : s.immediate ≡ (retries_at root).immediate
  pub delayed : s.delayed ≡ (retries_at root).delayed
  pub increase : s.increase ≡ (retries_at root).increase
  pub retention : s.retention ≡ retention_at root
  pub routes : s.routes ≡ routes_at root
  pub subscribers : s.subscribers ≡ subscribers_at root
  pub policies : s.policies ≡ policies_at root
