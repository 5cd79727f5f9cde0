-- The first message that has no route.
use Rattle.std.proofs.Common.{◌≡◌, ◌∙◌, ℕ, zero, suc, List, [], ◌∷◌, ◌++◌, Bool, true, false, not, cond, Option, Some, None, bytes_eq, slice_get, codes, map, refl, sym}
use Rattle.std.specs.Prelude.{position}
use Rattle.nb_base.specs.declared.route.Route.{Route}
use Rattle.nb_settings.specs.Faults.{bad}
use Rattle.nb_settings.specs.Files.{IsFirst, faults_of, first, root_of}
use Rattle.nb_settings.specs.Missing.{AreRouted, faults_for, first_unrouted, has_route, missing_route_of, route_faults_of, unrouted}
use Rattle.nb_settings.specs.Values.{routes_at}
use Rattle.nb_settings.proofs.Tables.{IsFirst-after}
use Rattle.nb_settings.specs.declared.refusal.SettingsKind.TheVariants.{NoRoute}
use Rattle.nb_settings.specs.declared.refusal.SettingsRefusal.{SettingsRefusal}
use Rattle.nb_settings.specs.declared.refusal.SettingsRefusal.TheVariants.{Fault, NoMemory}

pub missing_some : (routes : List Route) (sent declared : List (List ℕ)) (name : List ℕ) → Some name ≡ first_unrouted routes sent → position (λ other. bytes_eq other name) declared ≡ missing_route_of routes sent declared
missing_some routes sent declared name is = rw (← is) refl

-- where no message is the first one without a route, each has one
none_by : (b : Bool) (name : List ℕ) (more : Option (List ℕ)) → cond (not b) (Some name) more ≡ None → (b ≡ true) × (more ≡ None)
none_by true name more is = (refl, is)
none_by false name more is = cc

pub unrouted-none : (routes : List Route) (sent : List (List ℕ)) → first_unrouted routes sent ≡ None → unrouted routes sent ≡ []
unrouted-none routes [] none = refl
unrouted-none routes (name ∷ sent) none =
    let (here, more) = none_by (has_route routes name) name (first_unrouted routes sent) none in
    rw here (unrouted-none routes sent more)

pub some_equal : (a b : List ℕ) → Some a ≡ Some b → a ≡ b
some_equal a b is = cc

routed_at : (routes : List Route) (sent : List (List ℕ)) → first_unrouted routes sent ≡ None → (name : List ℕ) (i : ℕ) → slice_get sent i ≡ Some name → has_route routes name ≡ true
routed_at routes [] none name i is = cc
routed_at routes (next ∷ sent) none name zero is =
    let (here, more) = none_by (has_route routes next) next (first_unrouted routes sent) none in
    rw (← some_equal next name is) here
routed_at routes (next ∷ sent) none name (suc i) is =
    let (here, more) = none_by (has_route routes next) next (first_unrouted routes sent) none in
    routed_at routes sent more name i is

pub all_routed : (routes : List Route) (sent : List (List ℕ)) → first_unrouted routes sent ≡ None → AreRouted routes sent
all_routed routes sent none name among = routed_at routes sent none name among.0 among.1

-- the first fault is that of the first message without a route
first-unrouted : (routes : List Route) (sent : List (List ℕ)) (name : List ℕ) → first_unrouted routes sent ≡ Some name
    → first (route_faults_of routes sent) ≡ Some (record { key = codes "routes." ++ name; kind = NoRoute })
first-unrouted routes [] name is = cc
first-unrouted routes (next ∷ sent) name is = by_test (has_route routes next) (first-unrouted routes sent name) is
  where
    by_test : (b : Bool)
        → (first_unrouted routes sent ≡ Some name → first (route_faults_of routes sent) ≡ Some (record { key = codes "routes." ++ name; kind = NoRoute }))
        → cond (not b) (Some next) (first_unrouted routes sent) ≡ Some name
        → first (map (λ (x : List ℕ). record { key = codes "routes." ++ x; kind = NoRoute }) (cond (not b) (next ∷ unrouted routes sent) (unrouted routes sent))) ≡ Some (record { key = codes "routes." ++ name; kind = NoRoute })
    by_test true later is = later is
    by_test false later is = rw (some_equal next name is) refl

pub IsFirst-unrouted : (refusal : SettingsRefusal) (routes : List Route) (sent : List (List ℕ)) (name : List ℕ) → first_unrouted routes sent ≡ Some name
    → IsFirst (bad (codes "routes." ++ name) NoRoute) refusal → IsFirst (route_faults_of routes sent) refusal
IsFirst-unrouted NoMemory routes sent name is fault = tt
IsFirst-unrouted (Fault f) routes sent name is fault = first-unrouted routes sent name is ∙ fault

pub no_fault_for : (bytes : List ℕ) (routes : List Route) (sent : List (List ℕ)) → faults_of bytes ≡ [] → routes ≡ routes_at (root_of bytes) → None ≡ first_unrouted routes sent → faults_for bytes sent ≡ []
no_fault_for bytes routes sent none are routed =
    let missing : unrouted (routes_at (root_of bytes)) sent ≡ [] = unrouted-none (routes_at (root_of bytes)) sent (rw are at (sym routed)) in
    rw (none, missing) refl

pub fault_for : (refusal : SettingsRefusal) (bytes : List ℕ) (routes : List Route) (sent : List (List ℕ)) (name : List ℕ) → faults_of bytes ≡ [] → routes ≡ routes_at (root_of bytes) → Some name ≡ first_unrouted routes sent
    → IsFirst (bad (codes "routes." ++ name) NoRoute) refusal → IsFirst (faults_for bytes sent) refusal
fault_for refusal bytes routes sent name none are is fault =
    IsFirst-after refusal (faults_of bytes) (route_faults_of (routes_at (root_of bytes)) sent) none (IsFirst-unrouted refusal (routes_at (root_of bytes)) sent name (rw are at (sym is)) fault)
