-- Messages that a script sends and that have no route.
use Rattle.std.specs.Prelude.{◌≡◌, ℕ, List, ◌++◌, Bool, true, bytes_eq, find, is_some, map, not, position, Option, codes, option_and_then}
use Rattle.std.specs.List.{filter}
use Rattle.nb_base.specs.Meanings.{IsAmong}
use Rattle.nb_base.specs.declared.route.Route.{Route}
use Rattle.nb_settings.specs.Files.{faults_of, root_of}
use Rattle.nb_settings.specs.Values.{routes_at}
use Rattle.nb_settings.specs.declared.refusal.SettingsFault.{SettingsFault}
use Rattle.nb_settings.specs.declared.refusal.SettingsKind.TheVariants.{NoRoute}

-- the message has a route
abbrev pub has_route : List Route → List ℕ → Bool
has_route routes name = is_some (find (λ (route : Route). bytes_eq name route.name) routes)

-- those of the messages that have none, in order
abbrev pub unrouted : List Route → List (List ℕ) → List (List ℕ)
unrouted routes names = filter (λ name. not (has_route routes name)) names

-- the first of them
abbrev pub first_unrouted : List Route → List (List ℕ) → Option (List ℕ)
first_unrouted routes names = find (λ name. not (has_route routes name)) names

-- the number, among the declared messages, of the first message sent that has no route
abbrev pub missing_route_of : List Route → List (List ℕ) → List (List ℕ) → Option ℕ
missing_route_of routes sent declared = option_and_then (λ name. position (λ other. bytes_eq other name) declared) (first_unrouted routes sent)

-- each of them is at fault, under the key of its route
abbrev pub route_faults_of : List Route → List (List ℕ) → List SettingsFault
route_faults_of routes sent = map (λ name. record { key = codes "routes." ++ name; kind = NoRoute }) (unrouted routes sent)

-- all that is at fault in a file, for a script that sends these messages
abbrev pub faults_for : List ℕ → List (List ℕ) → List SettingsFault
faults_for bytes sent = faults_of bytes ++ route_faults_of (routes_at (root_of bytes)) sent

-- every message that is sent has a route
abbrev pub AreRouted : List Route → List (List ℕ) → Type 0
AreRouted routes sent = (name : List ℕ) → IsAmong name sent → has_route routes name ≡ true
