-- The ranges and rules that settings keep, as tests.
use Rattle.std.specs.Prelude.{ℕ, List, [], ◌∷◌, map, length, Bool, true, false, ◌&&◌, ◌||◌, nat_lt, nat_le, bytes_eq, not}
use Rattle.std.specs.List.{list_all, list_any}
use Rattle.std.specs.Ordering.{nat_cmp, match_ordering}
use Rattle.std.specs.Cmp.Lexicographic.{slice_cmp}
use Rattle.nb_base.specs.declared.route.Route.{Route}
use Rattle.nb_base.specs.declared.route.Subscriber.{Subscriber}
use Rattle.nb_base.specs.declared.route.Policy.{Policy}

-- a letter, a digit, a full stop, a hyphen or a low line, all ASCII
abbrev pub is_name_byte : ℕ → Bool
is_name_byte b = (nat_le 97 b && nat_le b 122) || (nat_le 65 b && nat_le b 90) || (nat_le 48 b && nat_le b 57) || nat_le 45 b && nat_le b 46 || nat_le 95 b && nat_le b 95

-- a length from 1 to the most
abbrev pub has_length : ℕ → List ℕ → Bool
has_length most text = nat_lt 0 (length text) && nat_le (length text) most

-- the name of an endpoint
abbrev pub is_endpoint : List ℕ → Bool
is_endpoint name = has_length 100 name && list_all is_name_byte name

-- the name of a queue
abbrev pub is_queue : List ℕ → Bool
is_queue name = has_length 200 name

-- the first comes before the second, by their bytes
abbrev pub is_before : List ℕ → List ℕ → Bool
is_before a b = match_ordering (slice_cmp nat_cmp a b) true false false

abbrev pub rise_after : List ℕ → List (List ℕ) → Bool
rise_after name [] = true
rise_after name (next ∷ names) = is_before name next && rise_after next names

-- each name comes before the next
abbrev pub rise : List (List ℕ) → Bool
rise [] = true
rise (name ∷ names) = rise_after name names

-- each text once
abbrev pub differ : List (List ℕ) → Bool
differ [] = true
differ (text ∷ texts) = not (list_any (bytes_eq text) texts) && differ texts

-- at most sixteen different queues
abbrev pub are_queues : List (List ℕ) → Bool
are_queues queues = nat_le (length queues) 16 && list_all is_queue queues && differ queues

abbrev pub are_routes : List Route → Bool
are_routes routes = rise (map (λ r. r.name) routes) && list_all (λ r. is_queue r.queue) routes

abbrev pub are_subscribers : List Subscriber → Bool
are_subscribers subscribers = rise (map (λ s. s.name) subscribers) && list_all (λ s. are_queues s.queues) subscribers

abbrev pub are_policies : List Policy → Bool
are_policies policies = rise (map (λ p. p.name) policies)

-- the settings lie in their ranges, and the error queue isn't the endpoint's own
abbrev pub are_settings : List ℕ → List ℕ → ℕ → ℕ → ℕ → ℕ → List Route → List Subscriber → List Policy → Bool
are_settings endpoint error immediate delayed increase retention routes subscribers policies =
    is_endpoint endpoint && is_queue error && not (bytes_eq error endpoint) && nat_le immediate 1000 && nat_le delayed 1000 && nat_le increase 86400
    && nat_le retention 315360000 && are_routes routes && are_subscribers subscribers && are_policies policies
