-- The headers of an outgoing message: what ties it to the message during whose handling it is sent.
use Rattle.std.specs.Prelude.{ℕ, List, [], ◌∷◌, ◌++◌, Option, Some, None, codes}
use Rattle.nb_base.specs.Messages.{Message, Pairs, header, id_name}
use Rattle.nb_base.specs.declared.plan.Target.{Target}
use Rattle.nb_base.specs.declared.plan.Target.TheVariants.{Send, Local, Publish, Reply, Originator, Timeout}
use Rattle.nb_headers.specs.HeaderNames.{message_intent, conversation_id, correlation_id, related_to, originating_endpoint, reply_to_address, content_type, enclosed_message_types, time_sent, originating_saga_id, originating_saga_type, is_saga_timeout_message, saga_id, saga_type}
use Rattle.nb_headers.specs.Moments.{moment_text}
use Rattle.nb_headers.specs.Reads.{header_or, id_of}
use Rattle.nb_headers.specs.declared.made.Made.{Made}
use Rattle.nb_headers.specs.declared.made.SagaName.{SagaName}

-- whether the message is sent, published or a reply
abbrev pub intent_text : Target → List ℕ
intent_text Send = codes "Send"
intent_text Local = codes "Send"
intent_text Publish = codes "Publish"
intent_text (Reply to) = codes "Reply"
intent_text (Originator to original) = codes "Reply"
intent_text Timeout = codes "Send"

-- the conversation of the incoming message, which that message begins where it names none
abbrev pub conversation : Message → List ℕ
conversation incoming = header_or incoming conversation_id (id_of incoming)

-- A reply has the incoming message's correlation, or its id where it names none, and a reply to the originator the id of
-- the message that started the saga. Every other message begins a correlation of its own.
abbrev pub correlation : Message → Target → List ℕ → List ℕ
correlation incoming Send id = id
correlation incoming Local id = id
correlation incoming Publish id = id
correlation incoming (Reply to) id = header_or incoming correlation_id (id_of incoming)
correlation incoming (Originator to original) id = original
correlation incoming Timeout id = id

-- how the message hangs together with others
abbrev pub relations : Message → Made → Pairs
relations incoming made =
    (conversation_id, conversation incoming)
    ∷ (correlation_id, correlation incoming made.target made.id)
    ∷ (related_to, id_of incoming)
    ∷ []

-- the endpoint that sends it, which takes the replies too
abbrev pub origin : List ℕ → Pairs
origin endpoint = (originating_endpoint, endpoint) ∷ (reply_to_address, endpoint) ∷ []

-- what the body is, and when it was sent
abbrev pub contents : List ℕ → List ℕ → Pairs
contents name time = (content_type, codes "application/json") ∷ (enclosed_message_types, name) ∷ (time_sent, time) ∷ []

-- the headers that each outgoing message has
abbrev pub common : Message → Made → Pairs
common incoming made =
    (id_name, made.id)
    ∷ (message_intent, intent_text made.target)
    ∷ relations incoming made
    ++ origin made.endpoint
    ++ contents made.name (moment_text made.moment)

-- the saga that sends the message
abbrev pub from_saga : Option SagaName → Pairs
from_saga None = []
from_saga (Some saga) = (originating_saga_id, saga.id) ∷ (originating_saga_type, saga.saga) ∷ []

abbrev pub timeout_mark : Target → Pairs
timeout_mark Send = []
timeout_mark Local = []
timeout_mark Publish = []
timeout_mark (Reply to) = []
timeout_mark (Originator to original) = []
timeout_mark Timeout = (is_saga_timeout_message, codes "True") ∷ []

-- a saga of this type and id, as the one to which the message goes
abbrev pub to_saga : List ℕ → List ℕ → Pairs
to_saga type id = (saga_id, id) ∷ (saga_type, type) ∷ []

abbrev pub to_own : Option SagaName → Pairs
to_own None = []
to_own (Some saga) = to_saga saga.saga saga.id

-- a saga of which both the type and the id are there
abbrev pub to_saga_of : Option (List ℕ) → Option (List ℕ) → Pairs
to_saga_of None None = []
to_saga_of None (Some id) = []
to_saga_of (Some type) None = []
to_saga_of (Some type) (Some id) = to_saga type id

-- the saga that sent the incoming message, where that message says both its id and its type
abbrev pub to_sender : Message → Pairs
to_sender incoming = to_saga_of (header incoming.headers originating_saga_type) (header incoming.headers originating_saga_id)

-- A timeout goes to the saga that asked for it, and a reply to the one that sent the incoming message.
abbrev pub addressee : Message → Target → Option SagaName → Pairs
addressee incoming Send saga = []
addressee incoming Local saga = []
addressee incoming Publish saga = []
addressee incoming (Reply to) saga = to_sender incoming
addressee incoming (Originator to original) saga = []
addressee incoming Timeout saga = to_own saga

-- the outgoing message
unfoldable pub outgoing : Message → Made → Message
outgoing incoming made = record {
  headers = common incoming made ++ from_saga made.saga ++ timeout_mark made.target ++ addressee incoming made.target made.saga;
  body = made.body;
}
