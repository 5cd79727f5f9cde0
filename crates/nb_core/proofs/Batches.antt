-- The ops of a batch: none has an empty queue or no id, and there are at most 4096.
use Rattle.std.proofs.Common.{◌≡◌, ◌≢◌, ◌+◌, ◌*◌, ◌<◌, ◌≤◌, ℕ, Bool, true, false, cond, refl, ap, arith, List, [], ◌∷◌, ◌++◌, length}
use Rattle.std.specs.Prelude.{find, unwrap_or, option_map, option_to_list, Some, is_some, bytes_eq}
use Rattle.std.specs.Fmt.{decimal}
use Rattle.std.specs.List.{AllByRecursion, list_all}
use Rattle.std.proofs.lemmas.Bool.{lt-ltb, ltb-true, leb-true}
use Rattle.std.proofs.lemmas.List.{length-append}
use Rattle.nb_base.specs.Meanings.{Meaning, CanGo, IsRightPlan}
use Rattle.nb_base.specs.Messages.{Message, has_id}
use Rattle.nb_base.specs.SettingsRules.{is_queue, are_queues}
use Rattle.nb_base.specs.declared.entry.Op.{Op}
use Rattle.nb_base.specs.declared.plan.Intent.{Intent}
use Rattle.nb_base.specs.declared.plan.Plan.{Plan}
use Rattle.nb_base.specs.declared.plan.Target.{Target}
use Rattle.nb_base.specs.declared.plan.Target.TheVariants.{Send, Local, Publish, Reply, Originator, Timeout}
use Rattle.nb_base.specs.declared.route.Route.{Route}
use Rattle.nb_base.specs.declared.route.Subscriber.{Subscriber}
use Rattle.nb_base.specs.declared.settings.Settings.{Settings}
use Rattle.nb_headers.specs.Outgoing.{outgoing}
use Rattle.nb_dispatch.specs.Dispatches.{made_id, made, ops_to, ops_from, ops_of, queues_of, route_of, subscribed}
use Rattle.nb_core.proofs.Copies.{ranges}
use Rattle.nb_core.proofs.Firsts.{both_true}
pub use Rattle.nb_core.specs.Facts.{CanPut}

some_length : {A : Type 0} (xs : List A) → 0 < length xs → xs ≢ []
some_length xs l e = let z : length xs ≡ 0 = ap length e in omega arith

queue_some : (q : List ℕ) → is_queue q ≡ true → q ≢ []
queue_some q h = some_length q (ltb-true 0 (length q) (both_true _ _ h).0)

pub endpoint_some : (s : Settings) → s.endpoint ≢ []
endpoint_some s = let h = both_true _ _ (ranges s).endpoint in some_length s.endpoint (ltb-true 0 (length s.endpoint) (both_true _ _ h.0).0)

pub error_some : (s : Settings) → s.error ≢ []
error_some s = queue_some s.error (ranges s).error

long : (xs ys : List ℕ) (y : ℕ) → 0 < length (xs ++ y ∷ ys)
long xs ys y = let e = length-append xs (y ∷ ys) in omega arith

-- an outgoing message has the id that it was given
outgoing_named : (incoming : Message) (settings : Settings) (n at : ℕ) (intent : Intent) (index : ℕ) → has_id (outgoing incoming (made settings n at intent index)).headers ≡ true
unfolding outgoing
outgoing_named incoming settings n at intent index = lt-ltb 0 (length (made_id settings.endpoint n index)) (long (settings.endpoint ++ 47 ∷ decimal n) (decimal index) 47)

-- the queues to which a message goes are few, and none is empty
AreSome : List (List ℕ) → Type 0
AreSome qs = AllByRecursion (λ q. q ≢ []) qs

routed_some : (rs : List Route) (name : List ℕ) → list_all (λ (r : Route). is_queue r.queue) rs ≡ true → AreSome (option_to_list (route_of rs name)) × (length (option_to_list (route_of rs name)) ≤ 16)
unfolding AreSome
routed_some [] name h = (tt, omega arith)
routed_some (r ∷ rs) name h = go (routed_some rs name (both_true _ _ h).1) (bytes_eq name r.name)
  where
    found : Bool → List (List ℕ)
    found b = option_to_list (option_map (λ (x : Route). x.queue) (cond b (Some r) (find (λ (x : Route). bytes_eq name x.name) rs)))

    go : AreSome (option_to_list (route_of rs name)) × (length (option_to_list (route_of rs name)) ≤ 16) → (b : Bool) → AreSome (found b) × (length (found b) ≤ 16)
    go rest true = ((queue_some r.queue (both_true _ _ h).0, tt), omega arith)
    go rest false = rest

all_some : (qs : List (List ℕ)) → list_all is_queue qs ≡ true → AreSome qs
unfolding AreSome
all_some [] h = tt
all_some (q ∷ qs) h = let p = both_true _ _ h in (queue_some q p.0, all_some qs p.1)

subscribed_some : (ss : List Subscriber) (name : List ℕ) → list_all (λ (s : Subscriber). are_queues s.queues) ss ≡ true → AreSome (subscribed ss name) × (length (subscribed ss name) ≤ 16)
unfolding AreSome
subscribed_some [] name h = (tt, omega arith)
subscribed_some (s ∷ ss) name h = go (subscribed_some ss name (both_true _ _ h).1) (bytes_eq name s.name)
  where
    found : Bool → List (List ℕ)
    found b = unwrap_or (option_map (λ (x : Subscriber). x.queues) (cond b (Some s) (find (λ (x : Subscriber). bytes_eq name x.name) ss))) []

    go : AreSome (subscribed ss name) × (length (subscribed ss name) ≤ 16) → (b : Bool) → AreSome (found b) × (length (found b) ≤ 16)
    go rest true =
        let q = both_true _ _ (both_true _ _ h).0 in
        let r = both_true _ _ q.0 in
        (all_some s.queues r.1, leb-true (length s.queues) 16 r.0)
    go rest false = rest

queues_some : (settings : Settings) (meaning : Meaning) (name : List ℕ) (from : Bool) (target : Target) → CanGo meaning name from target → AreSome (queues_of settings target name) × (length (queues_of settings target name) ≤ 16)
unfolding AreSome
queues_some settings meaning name from Send can = routed_some settings.routes name (both_true _ _ (ranges settings).routes).1
queues_some settings meaning name from Local can = ((endpoint_some settings, tt), omega arith)
queues_some settings meaning name from Publish can = subscribed_some settings.subscribers name (both_true _ _ (ranges settings).subscribers).1
queues_some settings meaning name from (Reply to) can = ((can, tt), omega arith)
queues_some settings meaning name from (Originator to original) can = ((can, tt), omega arith)
queues_some settings meaning name from Timeout can = ((endpoint_some settings, tt), omega arith)

all_append : (xs ys : List Op) → AllByRecursion CanPut xs → AllByRecursion CanPut ys → AllByRecursion CanPut (xs ++ ys)
all_append [] ys f g = g
all_append (x ∷ xs) ys f g = (f.0, all_append xs ys f.1 g)

module _ (settings : Settings) (meaning : Meaning) (incoming : Message) (n at : ℕ) where
  to_can : (intent : Intent) (index : ℕ) (qs : List (List ℕ)) → AreSome qs → AllByRecursion CanPut (ops_to settings incoming n at intent index qs) × (length (ops_to settings incoming n at intent index qs) ≡ length qs)
  unfolding AreSome
  to_can intent index [] h = (tt, refl)
  to_can intent index (q ∷ qs) h =
      let rest = to_can intent (index + 1) qs h.1 in
      let more = rest.1 in
      ((record { queue = h.0; named = outgoing_named incoming settings n at intent index }, rest.0), (omega arith))

  from_can : (intents : List Intent) (index : ℕ) → AllByRecursion (λ (x : Intent). CanGo meaning x.name (is_some x.from) x.target) intents
      → AllByRecursion CanPut (ops_from settings incoming n at index intents) × (length (ops_from settings incoming n at index intents) ≤ 16 * length intents)
  from_can [] index h = (tt, omega arith)
  from_can (x ∷ xs) index h =
      let qs = queues_of settings x.target x.name in
      let q = queues_some settings meaning x.name (is_some x.from) x.target h.0 in
      let a = to_can x index qs q.0 in
      let b = from_can xs (index + length qs) h.1 in
      let few = q.1 in
      let same = a.1 in
      let more = b.1 in
      let sum = length-append (ops_to settings incoming n at x index qs) (ops_from settings incoming n at (index + length qs) xs) in
      (all_append _ _ a.0 b.0, omega arith)

  -- the ops of a right plan
  pub batch_can : (t : Rattle.nb_base.specs.Shown.Stored) (plan : Plan) → IsRightPlan meaning t plan
      → AllByRecursion CanPut (ops_of settings incoming n at plan.intents) × (length (ops_of settings incoming n at plan.intents) ≤ 4096)
  unfolding ops_of
  batch_can t plan right =
      let r = from_can plan.intents 1 right.targets in
      let few = right.few in
      let most = r.1 in
      (r.0, omega arith)
