-- What a table means keeps the rules of settings.
use Rattle.std.proofs.Common.{◌≡◌, ◌∙◌, ℕ, List, [], ◌∷◌, ◌++◌, Bool, true, false, ◌&&◌, String, Global, Less, string_bytes, refl, ap, sym, map, cond, Option, Some, None, codes, unwrap_or, append-nil}
use Rattle.std.specs.Prelude.{◌≢◌, length, nat_le}
use Rattle.std.proofs.lemmas.Bool.{and_parts}
use Rattle.nb_settings.specs.declared.refusal.SettingsFault.{SettingsFault}
use Rattle.nb_settings.specs.declared.refusal.SettingsKind.{SettingsKind}
use Rattle.nb_settings.specs.declared.refusal.SettingsKind.TheVariants.{OutOfRange, Repeated, WrongKind}
use Rattle.std.specs.List.{AllByRecursion, list_all}
use Rattle.std.specs.List.Sorted.{IsStrictlySortedBy}
use Rattle.std.specs.Map.{keys_of}
use Rattle.std.specs.Prelude.{string_cmp}
use Rattle.toml.specs.Data.{Items, no_items, Members, no_members, member, as_array, as_str}
use Rattle.toml.specs.View.{members_view}
use Rattle.nb_base.specs.SettingsRules.{is_queue, differ, rise, rise_after, are_queues, are_routes, are_policies, are_subscribers}
use Rattle.nb_base.specs.declared.route.Policy.{Policy}
use Rattle.nb_base.specs.declared.route.Route.{Route}
use Rattle.nb_base.specs.declared.route.Subscriber.{Subscriber}
use Rattle.nb_settings.specs.Faults.{are_texts, array_faults, bad, item_faults, kind_faults, policy_faults, queue_faults, route_faults, subscriber_faults, text_faults}
use Rattle.nb_settings.specs.Values.{policies_of, routes_of, subscribers_of, texts_of}
use Rattle.nb_settings.proofs.Tables.{Entry, Goes, nothing-both}

-- the names of members
abbrev pub names_of : Members → List (List ℕ)
names_of no_members = []
names_of (member name value rest) = name ∷ names_of rest

rise_after-sorted : (key : String Global) (es : List Entry) → AllByRecursion (λ other. string_cmp key other ≡ Less) (keys_of es) → IsStrictlySortedBy string_cmp (keys_of es) → rise_after (string_bytes key) (names_of (members_view es)) ≡ true
unfolding IsStrictlySortedBy
rise_after-sorted key [] below sorted = refl
rise_after-sorted key (e ∷ es) below sorted = rw (below.0, rise_after-sorted e.0 es sorted.0 sorted.1) refl

pub rise-sorted : (es : List Entry) → IsStrictlySortedBy string_cmp (keys_of es) → rise (names_of (members_view es)) ≡ true
unfolding IsStrictlySortedBy
rise-sorted [] sorted = refl
rise-sorted (e ∷ es) sorted = rise_after-sorted e.0 es sorted.0 sorted.1

names-routes : (members : Members) → map (λ (r : Route). r.name) (routes_of members) ≡ names_of members
names-routes no_members = refl
names-routes (member name value rest) = ap (λ names. name ∷ names) (names-routes rest)

-- where nothing is at fault with a text, it passes the test
pub test-right : (key : List ℕ) (test : List ℕ → Bool) (text : Option (List ℕ)) → text_faults key test text ≡ [] → test (unwrap_or text []) ≡ true
test-right key test None none = cc
test-right key test (Some text) none = if-right (test text) none
  where
    if-right : (b : Bool) → cond b [] (bad key OutOfRange) ≡ [] → b ≡ true
    if-right true none = refl
    if-right false none = cc

queues-routes : (members : Members) → route_faults members ≡ [] → list_all (λ (r : Route). is_queue r.queue) (routes_of members) ≡ true
queues-routes no_members none = refl
queues-routes (member name value rest) none =
    let (here, more) = nothing-both (text_faults (codes "routes." ++ name) is_queue (as_str value)) (route_faults rest) none in
    rw (test-right (codes "routes." ++ name) is_queue (as_str value) here, queues-routes rest more) refl

pub are_routes-made : (all rest : List Entry) (made : List Route) → rest ≡ [] → IsStrictlySortedBy string_cmp (keys_of all) → Goes route_faults routes_of all made rest → are_routes made ≡ true
are_routes-made all rest made done sorted goes =
    let none : route_faults (members_view all) ≡ [] = goes.faults_left ∙ ap (λ es. route_faults (members_view es)) done in
    let are : made ≡ routes_of (members_view all) = sym (goes.meant_left ∙ ap (λ es. made ++ routes_of (members_view es)) done ∙ append-nil made) in
    rw (are, names-routes (members_view all), rise-sorted all sorted, queues-routes (members_view all) none) refl

names-policies : (members : Members) → map (λ (p : Policy). p.name) (policies_of members) ≡ names_of members
names-policies no_members = refl
names-policies (member name value rest) = ap (λ names. name ∷ names) (names-policies rest)

pub are_policies-made : (all rest : List Entry) (made : List Policy) → rest ≡ [] → IsStrictlySortedBy string_cmp (keys_of all) → Goes policy_faults policies_of all made rest → are_policies made ≡ true
are_policies-made all rest made done sorted goes =
    let are : made ≡ policies_of (members_view all) = sym (goes.meant_left ∙ ap (λ es. made ++ policies_of (members_view es)) done ∙ append-nil made) in
    rw (are, names-policies (members_view all), rise-sorted all sorted) refl

names-subscribers : (members : Members) → map (λ (s : Subscriber). s.name) (subscribers_of members) ≡ names_of members
names-subscribers no_members = refl
names-subscribers (member name value rest) = ap (λ names. name ∷ names) (names-subscribers rest)

if-right : (b : Bool) (others : List SettingsFault) → others ≢ [] → (less : List SettingsFault) → cond b less others ≡ [] → (b ≡ true) × (less ≡ [])
if-right true others some less none = (refl, none)
if-right false others some less none = absurd (some none)

some-bad : (key : List ℕ) (kind : SettingsKind) → bad key kind ≢ []
some-bad key kind is = cc

queues-right : (key : List ℕ) (items : Items) → item_faults key items ≡ [] → are_queues (texts_of items) ≡ true
queues-right key items none =
    let (kinds, more) = nothing-both (kind_faults key items) (cond (are_texts items) (queue_faults key (texts_of items)) []) none in
    let texts = (if-right (are_texts items) (bad key WrongKind) (some-bad key WrongKind) [] kinds).0 in
    let (within, differing) = if-right (nat_le (length (texts_of items)) 16 && list_all is_queue (texts_of items)) (bad key OutOfRange) (some-bad key OutOfRange) _ (rw texts at more) in
    let different = (if-right (differ (texts_of items)) (bad key Repeated) (some-bad key Repeated) [] differing).0 in
    let (few, queues) = and_parts (nat_le (length (texts_of items)) 16) (list_all is_queue (texts_of items)) within in
    rw (few, queues, different) refl

array-right : (key : List ℕ) (items : Option Items) → array_faults key items ≡ [] → are_queues (texts_of (unwrap_or items no_items)) ≡ true
array-right key None none = cc
array-right key (Some items) none = queues-right key items none

queues-subscribers : (members : Members) → subscriber_faults members ≡ [] → list_all (λ (s : Subscriber). are_queues s.queues) (subscribers_of members) ≡ true
queues-subscribers no_members none = refl
queues-subscribers (member name value rest) none =
    let (here, more) = nothing-both (array_faults (codes "subscribers." ++ name) (as_array value)) (subscriber_faults rest) none in
    rw (array-right (codes "subscribers." ++ name) (as_array value) here, queues-subscribers rest more) refl

pub are_subscribers-made : (all rest : List Entry) (made : List Subscriber) → rest ≡ [] → IsStrictlySortedBy string_cmp (keys_of all) → Goes subscriber_faults subscribers_of all made rest → are_subscribers made ≡ true
are_subscribers-made all rest made done sorted goes =
    let none : subscriber_faults (members_view all) ≡ [] = goes.faults_left ∙ ap (λ es. subscriber_faults (members_view es)) done in
    let are : made ≡ subscribers_of (members_view all) = sym (goes.meant_left ∙ ap (λ es. made ++ subscribers_of (members_view es)) done ∙ append-nil made) in
    rw (are, names-subscribers (members_view all), rise-sorted all sorted, queues-subscribers (members_view all) none) refl
