-- The copies of a message that failed.
use Rattle.std.specs.Prelude.{ℕ, List, [], ◌∷◌, Option, Some, None}
use Rattle.std.specs.Fmt.{decimal}
use Rattle.nb_base.specs.Messages.{Message, Pairs}
use Rattle.nb_base.specs.declared.settings.Settings.{Settings}
use Rattle.nb_headers.specs.Faults.{with_headers, with_fault, stripped}
use Rattle.nb_headers.specs.HeaderNames.{retries, retries_timestamp}
use Rattle.nb_headers.specs.Moments.{moment_text}
use Rattle.nb_headers.specs.Reads.{failed_queue}
use Rattle.nb_recover.specs.Fails.{name_of, text_of}
use Rattle.nb_recover.specs.declared.fail.Fail.{Fail}
use Rattle.nb_recover.specs.declared.returned.Returned.{Returned}

-- a round of delayed retries, and when it began
abbrev pub retry_pairs : List ℕ → List ℕ → Pairs
retry_pairs round time = (retries, round) ∷ (retries_timestamp, time) ∷ []

-- the copy that is tried again in this round, which begins at this moment
unfoldable pub later_copy : Message → ℕ → ℕ → Message
later_copy m round moment = record m { headers = with_headers m.headers (retry_pairs (decimal round) (moment_text moment)) }

-- the copy for the error queue
unfoldable pub error_copy : Settings → Message → Fail → ℕ → Message
error_copy settings m fail moment = with_fault settings (name_of fail) (text_of fail) moment m

-- the message as if it had never failed, for this queue unless that is empty
abbrev pub returned_to : List ℕ → Message → Option Returned
returned_to [] m = None
returned_to (c ∷ cs) m = Some (record { queue = c ∷ cs; envelope = stripped m })

-- the copy that goes back to the queue in which the message failed, where it names one
unfoldable pub return_copy : Message → Option Returned
return_copy m = returned_to (failed_queue m) m
