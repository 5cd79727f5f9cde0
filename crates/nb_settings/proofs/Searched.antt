-- What a binary search finds among routes whose names rise.
use Rattle.std.proofs.Common.{◌≡◌, ◌∙◌, ℕ, zero, suc, ◌+◌, ◌<◌, List, [], ◌∷◌, Bool, true, false, cond, length, get_or, map, Result, Ok, Err, Some, Ordering, Less, Equal, Greater, is_eq, nat_cmp, bytes_eq, refl, ap, inl, inr, arith}
use Rattle.std.specs.Prelude.{◌≢◌, find, is_some, is_ok}
use Rattle.std.specs.Cmp.Lexicographic.{slice_cmp, texts_ties}
use Rattle.std.specs.List.{HoldsAt}
use Rattle.std.specs.List.Sorted.{IsBinarySearchResult, IsSearchInRange, IsSortedBy}
use Rattle.std.specs.Ordering.{is_lt, match_ordering, ordering_reverse}
use Rattle.std.proofs.lemmas.Bool.{and_parts, cases_lt}
use Rattle.std.proofs.lemmas.Cmp.{nat_list_cmp_total}
use Rattle.std.proofs.lemmas.List.Sorted.{searchable_from_sorted}
use Rattle.nb_base.specs.SettingsRules.{are_settings, is_before, rise, rise_after}
use Rattle.nb_base.specs.declared.route.Policy.{Policy}
use Rattle.nb_base.specs.declared.route.Route.{Route}
use Rattle.nb_base.specs.declared.route.Subscriber.{Subscriber}
use Rattle.nb_settings.specs.Missing.{has_route}

not_less : (o : Ordering) → match_ordering o true false false ≡ true → is_lt (ordering_reverse o) ≡ false
not_less Less before = refl
not_less Equal before = cc
not_less Greater before = cc

later : (a b : List ℕ) → is_before a b ≡ true → is_lt (slice_cmp nat_cmp b a) ≡ false
later a b before = rw (nat_list_cmp_total.antisymm b a) (not_less (slice_cmp nat_cmp a b) before)

in_order_after : (route : Route) (routes : List Route) → rise_after route.name (map (λ (r : Route). r.name) routes) ≡ true
    → (k : ℕ) (d : Route) → k + 1 < length (route ∷ routes) → is_lt (slice_cmp nat_cmp (get_or (route ∷ routes) (k + 1) d).name (get_or (route ∷ routes) k d).name) ≡ false
in_order_after route [] up k d within = absurd (omega arith)
in_order_after route (next ∷ routes) up zero d within = later route.name next.name (and_parts _ _ up).0
in_order_after route (next ∷ routes) up (suc k) d within =
    let more : suc k + 1 ≡ suc (k + 1) = omega arith in
    rw more (in_order_after next routes (and_parts _ _ up).1 k d (omega arith))

in_order : (routes : List Route) → rise (map (λ (r : Route). r.name) routes) ≡ true → IsSortedBy (λ (a b : Route). is_lt (slice_cmp nat_cmp a.name b.name)) routes
in_order [] up k d low within = absurd (omega arith)
in_order (route ∷ routes) up k d low within = in_order_after route routes up k d within

same_eq : (o : Ordering) → is_eq (ordering_reverse o) ≡ is_eq o
same_eq Less = refl
same_eq Equal = refl
same_eq Greater = refl

same : (name other : List ℕ) → bytes_eq name other ≡ is_eq (slice_cmp nat_cmp other name)
same name other = texts_ties name other ∙ ap is_eq (nat_list_cmp_total.antisymm name other) ∙ same_eq (slice_cmp nat_cmp other name)

here_or_later : (b : Bool) (route : Route) (routes : List Route) (name : List ℕ) → has_route routes name ≡ true → is_some (cond b (Some route) (find (λ (r : Route). bytes_eq name r.name) routes)) ≡ true
here_or_later true route routes name later = refl
here_or_later false route routes name later = later

found : (routes : List Route) (name : List ℕ) (i : ℕ) → i < length routes → HoldsAt (λ (r : Route). slice_cmp nat_cmp r.name name ≡ Equal) routes i → has_route routes name ≡ true
found [] name i within at = absurd (omega arith)
found (route ∷ routes) name zero within at = rw (same name route.name, at route) refl
found (route ∷ routes) name (suc i) within at = here_or_later (bytes_eq name route.name) route routes name (found routes name i (omega arith) at)

differs : (o : Ordering) → o ≢ Equal → is_eq o ≡ false
differs Less d = refl
differs Equal d = absurd (d refl)
differs Greater d = refl

not_found : (routes : List Route) (name : List ℕ) → ((k : ℕ) (d : Route) → k < length routes → slice_cmp nat_cmp (get_or routes k d).name name ≢ Equal) → has_route routes name ≡ false
not_found [] name apart = refl
not_found (route ∷ routes) name apart =
    rw (same name route.name, differs (slice_cmp nat_cmp route.name name) (apart zero route (omega arith)))
    (not_found routes name (λ k d within. apart (suc k) d (omega arith)))

pub searched : (routes : List Route) (name : List ℕ) (r : Result ℕ ℕ) → rise (map (λ (route : Route). route.name) routes) ≡ true → IsSearchInRange r (length routes)
    → IsBinarySearchResult (λ (route : Route). slice_cmp nat_cmp route.name name) routes r → is_ok r ≡ has_route routes name
searched routes name (Ok i) up within at = rw (found routes name i within at) refl
searched routes name (Err i) up within gap =
    let parted = gap (searchable_from_sorted nat_list_cmp_total (λ (route : Route). route.name) routes name (in_order routes up)) in
    let apart : (k : ℕ) (d : Route) → k < length routes → slice_cmp nat_cmp (get_or routes k d).name name ≢ Equal = λ k d inside same. elim (cases_lt k i) [
      | inl below ↦ let less = parted.0 k d (omega arith) below in cc
      | inr above ↦ let greater = parted.1 k d above inside in cc
    ] in
    rw (not_found routes name apart) refl

-- the names of settings' routes rise
pub routes_rise : (endpoint error : List ℕ) (immediate delayed increase retention : ℕ) (routes : List Route) (subscribers : List Subscriber) (policies : List Policy)
    → are_settings endpoint error immediate delayed increase retention routes subscribers policies ≡ true → rise (map (λ (route : Route). route.name) routes) ≡ true
routes_rise endpoint error immediate delayed increase retention routes subscribers policies right = grind (arith, right)
