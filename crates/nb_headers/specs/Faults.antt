-- The headers that say how a message failed, and the message without them.
use Rattle.std.specs.Prelude.{ℕ, List, [], ◌∷◌}
use Rattle.nb_base.specs.Messages.{Message, Pairs, with_header, without_header}
use Rattle.nb_base.specs.declared.settings.Settings.{Settings}
use Rattle.nb_headers.specs.HeaderNames.{failed_q, time_of_failure, processing_endpoint, exception_type, exception_message, retries, retries_timestamp}
use Rattle.nb_headers.specs.Moments.{moment_text}

-- the headers set in this order, each in its place or at the end
abbrev pub with_headers : Pairs → Pairs → Pairs
with_headers hs [] = hs
with_headers hs (p ∷ ps) = with_headers (with_header hs p.0 p.1) ps

-- the message with each of these headers set
abbrev pub with_all : Message → Pairs → Message
with_all m ps = record m { headers = with_headers m.headers ps }

-- the headers with these names taken out
abbrev pub without_headers : Pairs → List (List ℕ) → Pairs
without_headers hs [] = hs
without_headers hs (name ∷ names) = without_headers (without_header hs name) names

-- where and when a message failed, and the fault's name and text
abbrev pub fault_pairs : List ℕ → List ℕ → List ℕ → List ℕ → Pairs
fault_pairs endpoint time name text =
    (failed_q, endpoint)
    ∷ (time_of_failure, time)
    ∷ (processing_endpoint, endpoint)
    ∷ (exception_type, name)
    ∷ (exception_message, text)
    ∷ []

-- the message that failed at this moment by a fault of this name and text
unfoldable pub with_fault : Settings → List ℕ → List ℕ → ℕ → Message → Message
with_fault settings name text moment m = record m { headers = with_headers m.headers (fault_pairs settings.endpoint (moment_text moment) name text) }

-- what a message gets when it fails or is retried
abbrev pub failure_names : List (List ℕ)
failure_names = failed_q ∷ time_of_failure ∷ processing_endpoint ∷ exception_type ∷ exception_message ∷ retries ∷ retries_timestamp ∷ []

-- the message as if it had never failed and never been retried
unfoldable pub stripped : Message → Message
stripped m = record m { headers = without_headers m.headers failure_names }
