-- The first message without a route is declared, so it has a number.
use Rattle.std.proofs.Common.{◌≡◌, ℕ, zero, suc, ◌+◌, ◌<◌, List, [], ◌∷◌, Bool, true, false, not, cond, Option, Some, None, bytes_eq, slice_get, length, refl, subst, arith}
use Rattle.std.specs.Prelude.{◌≢◌, position}
use Rattle.std.specs.List.{AllByRecursion, position_or_len}
use Rattle.nb_base.specs.Meanings.{IsAmong}
use Rattle.nb_base.specs.declared.route.Route.{Route}
use Rattle.nb_settings.specs.Missing.{AreRouted, first_unrouted, has_route, missing_route_of}
use Rattle.nb_settings.proofs.LeastLaws.{equal_itself}
use Rattle.nb_settings.proofs.Unrouted.{all_routed, some_equal}

-- what holds of all names that are sent holds of the first one without a route
holds_first : (P : List ℕ → Type 0) (routes : List Route) (sent : List (List ℕ)) (name : List ℕ) → AllByRecursion P sent → first_unrouted routes sent ≡ Some name → P name
holds_first P routes [] name all is = cc
holds_first P routes (next ∷ sent) name all is = by_test (has_route routes next) (holds_first P routes sent name all.1) is
  where
    by_test : (b : Bool) → (first_unrouted routes sent ≡ Some name → P name) → cond (not b) (Some next) (first_unrouted routes sent) ≡ Some name → P name
    by_test true later is = later is
    by_test false later is = subst P (some_equal next name is) all.0

-- a name among the names has a place
placed : (names : List (List ℕ)) (name : List ℕ) (i : ℕ) → slice_get names i ≡ Some name → position_or_len (λ other. bytes_eq other name) names < length names
placed [] name i is = cc
placed (next ∷ names) name zero is = rw (some_equal next name is, equal_itself name) (omega arith)
placed (next ∷ names) name (suc i) is = by_test (bytes_eq next name) (placed names name i is)
  where
    by_test : (b : Bool) → position_or_len (λ other. bytes_eq other name) names < length names → cond (not b) (1 + position_or_len (λ other. bytes_eq other name) names) 0 < length (next ∷ names)
    by_test true later = omega arith
    by_test false later = omega arith

has_place : (names : List (List ℕ)) (name : List ℕ) → IsAmong name names → position (λ other. bytes_eq other name) names ≢ None
has_place names name among is =
    let within = placed names name among.0 among.1 in
    grind (arith, within, is)

pub none_missing : (routes : List Route) (sent declared : List (List ℕ)) → AllByRecursion (λ name. IsAmong name declared) sent → missing_route_of routes sent declared ≡ None → AreRouted routes sent
none_missing routes sent declared are none = by_first (first_unrouted routes sent) refl
  where
    by_first : (o : Option (List ℕ)) → first_unrouted routes sent ≡ o → AreRouted routes sent
    by_first None is = all_routed routes sent is
    by_first (Some name) is =
        let among = holds_first (λ x. IsAmong x declared) routes sent name are is in
        absurd (has_place declared name among (rw is at none))
