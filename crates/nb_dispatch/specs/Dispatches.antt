-- The messages that a commit records to be sent: an op for each queue to which an intent goes.
use Rattle.std.specs.Prelude.{◌≢◌, IsSome, find, unwrap_or, option_to_list, ℕ, ◌+◌, min, List, [], ◌∷◌, ◌++◌, length, bytes_eq, Option, option_map}
use Rattle.std.specs.Fmt.{decimal}
use Rattle.nb_base.specs.Messages.{Message}
use Rattle.nb_base.specs.declared.entry.Op.{Op}
use Rattle.nb_base.specs.declared.plan.FromSaga.{FromSaga}
use Rattle.nb_base.specs.declared.plan.Intent.{Intent}
use Rattle.nb_base.specs.declared.plan.SagaRef.{SagaRef}
use Rattle.nb_base.specs.declared.plan.SagaRef.TheVariants.{New, Stored}
use Rattle.nb_base.specs.declared.plan.Target.{Target}
use Rattle.nb_base.specs.declared.plan.Target.TheVariants.{Send, Local, Publish, Reply, Originator, Timeout}
use Rattle.nb_base.specs.declared.route.Route.{Route}
use Rattle.nb_base.specs.declared.route.Subscriber.{Subscriber}
use Rattle.nb_base.specs.declared.settings.Settings.{Settings}
use Rattle.nb_headers.specs.Outgoing.{outgoing}
use Rattle.nb_headers.specs.declared.made.Made.{Made}
use Rattle.nb_headers.specs.declared.made.SagaName.{SagaName}

-- the id of the thing with this index among those that a commit makes: its messages, or its sagas
abbrev pub made_id : List ℕ → ℕ → ℕ → List ℕ
made_id endpoint n index = endpoint ++ 47 ∷ decimal n ++ 47 ∷ decimal index

-- the id of a saga, after the commit with this number
abbrev pub saga_id_after : List ℕ → ℕ → SagaRef → List ℕ
saga_id_after endpoint n (New block) = made_id endpoint n block
saga_id_after endpoint n (Stored id) = id

-- the saga that sends a message
abbrev pub sender : List ℕ → ℕ → Option FromSaga → Option SagaName
sender endpoint n from = option_map (λ (f : FromSaga). record { saga = f.saga; id = saga_id_after endpoint n f.which }) from

-- the queue of the message's route
abbrev pub route_of : List Route → List ℕ → Option (List ℕ)
route_of routes name = option_map (λ (r : Route). r.queue) (find (λ (r : Route). bytes_eq name r.name) routes)

-- the queues of the message's subscribers, none where it isn't listed
abbrev pub subscribed : List Subscriber → List ℕ → List (List ℕ)
subscribed subscribers name = unwrap_or (option_map (λ (s : Subscriber). s.queues) (find (λ (s : Subscriber). bytes_eq name s.name) subscribers)) []

-- the queues to which a message goes
abbrev pub queues_of : Settings → Target → List ℕ → List (List ℕ)
queues_of settings Send name = option_to_list (route_of settings.routes name)
queues_of settings Local name = settings.endpoint ∷ []
queues_of settings Publish name = subscribed settings.subscribers name
queues_of settings (Reply to) name = to ∷ []
queues_of settings (Originator to original) name = to ∷ []
queues_of settings Timeout name = settings.endpoint ∷ []

-- a message that is sent has a route, an address isn't empty, and a timeout comes from a saga
abbrev pub CanGo : Settings → List ℕ → Option FromSaga → Target → Type 0
CanGo settings name from Send = IsSome (route_of settings.routes name)
CanGo settings name from Local = Unit {0}
CanGo settings name from Publish = Unit {0}
CanGo settings name from (Reply to) = to ≢ []
CanGo settings name from (Originator to original) = to ≢ []
CanGo settings name from Timeout = IsSome from

abbrev pub CanDispatch : Settings → Intent → Type 0
CanDispatch settings intent = CanGo settings intent.name intent.from intent.target

-- what is known of the message with this index in the batch
abbrev pub made : Settings → ℕ → ℕ → Intent → ℕ → Made
made settings n moment intent index = record {
  id = made_id settings.endpoint n index;
  target = intent.target;
  name = intent.name;
  body = intent.body;
  endpoint = settings.endpoint;
  moment = moment;
  saga = sender settings.endpoint n intent.from;
}

-- due after the delay, at the last moment at most
abbrev pub due_of : ℕ → Option ℕ → Option ℕ
due_of moment delay = option_map (λ d. min (moment + d) 253402300799) delay

abbrev pub op_of : Settings → Message → ℕ → ℕ → Intent → ℕ → List ℕ → Op
op_of settings incoming n moment intent index queue =
    record { queue = queue; due = due_of moment intent.delay; envelope = outgoing incoming (made settings n moment intent index) }

-- an op for each of the queues, counted from the index
abbrev pub ops_to : Settings → Message → ℕ → ℕ → Intent → ℕ → List (List ℕ) → List Op
ops_to settings incoming n moment intent index [] = []
ops_to settings incoming n moment intent index (queue ∷ queues) =
    op_of settings incoming n moment intent index queue ∷ ops_to settings incoming n moment intent (index + 1) queues

-- the ops of the intents in order, counted from the index
abbrev pub ops_from : Settings → Message → ℕ → ℕ → ℕ → List Intent → List Op
ops_from settings incoming n moment index [] = []
ops_from settings incoming n moment index (intent ∷ intents) =
    let queues = queues_of settings intent.target intent.name in
    ops_to settings incoming n moment intent index queues ++ ops_from settings incoming n moment (index + length queues) intents

-- the batch that commit n, at this moment, records for the incoming message
unfoldable pub ops_of : Settings → Message → ℕ → ℕ → List Intent → List Op
ops_of settings incoming n moment intents = ops_from settings incoming n moment 1 intents
