-- The names of the headers, as the NServiceBus documentation lists them. The name of the message's id stands beside the messages.
use Rattle.std.specs.Prelude.{ℕ, List, codes}

-- whether the message was sent, published or is a reply
abbrev pub message_intent : List ℕ
message_intent = codes "NServiceBus.MessageIntent"

-- the conversation to which the message belongs
abbrev pub conversation_id : List ℕ
conversation_id = codes "NServiceBus.ConversationId"

-- what ties a reply to the message that asked
abbrev pub correlation_id : List ℕ
correlation_id = codes "NServiceBus.CorrelationId"

-- the message during whose handling this one was sent
abbrev pub related_to : List ℕ
related_to = codes "NServiceBus.RelatedTo"

-- the endpoint that sent the message
abbrev pub originating_endpoint : List ℕ
originating_endpoint = codes "NServiceBus.OriginatingEndpoint"

-- the queue that takes replies
abbrev pub reply_to_address : List ℕ
reply_to_address = codes "NServiceBus.ReplyToAddress"

-- how the body is written
abbrev pub content_type : List ℕ
content_type = codes "NServiceBus.ContentType"

-- the message's types
abbrev pub enclosed_message_types : List ℕ
enclosed_message_types = codes "NServiceBus.EnclosedMessageTypes"

-- when the message was sent
abbrev pub time_sent : List ℕ
time_sent = codes "NServiceBus.TimeSent"

-- the saga that sent the message
abbrev pub originating_saga_id : List ℕ
originating_saga_id = codes "NServiceBus.OriginatingSagaId"

abbrev pub originating_saga_type : List ℕ
originating_saga_type = codes "NServiceBus.OriginatingSagaType"

-- that the message is a timeout of a saga
abbrev pub is_saga_timeout_message : List ℕ
is_saga_timeout_message = codes "NServiceBus.IsSagaTimeoutMessage"

-- the saga to which the message goes
abbrev pub saga_id : List ℕ
saga_id = codes "NServiceBus.SagaId"

abbrev pub saga_type : List ℕ
saga_type = codes "NServiceBus.SagaType"

-- the queue in which the message failed
abbrev pub failed_q : List ℕ
failed_q = codes "NServiceBus.FailedQ"

-- when the message failed
abbrev pub time_of_failure : List ℕ
time_of_failure = codes "NServiceBus.TimeOfFailure"

-- the endpoint that failed to handle the message
abbrev pub processing_endpoint : List ℕ
processing_endpoint = codes "NServiceBus.ProcessingEndpoint"

-- the fault's name
abbrev pub exception_type : List ℕ
exception_type = codes "NServiceBus.ExceptionInfo.ExceptionType"

-- the fault's text
abbrev pub exception_message : List ℕ
exception_message = codes "NServiceBus.ExceptionInfo.Message"

-- the round of delayed retries
abbrev pub retries : List ℕ
retries = codes "NServiceBus.Retries"

-- when that round was begun
abbrev pub retries_timestamp : List ℕ
retries_timestamp = codes "NServiceBus.Retries.Timestamp"
