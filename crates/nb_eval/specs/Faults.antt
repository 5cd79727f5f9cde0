-- The faults of messages, with the names and the texts under which they are reported.
use Rattle.std.specs.Prelude.{ℕ, List, [], ◌++◌, Bool, true, false, codes}
use Rattle.json.specs.Print.{quoted}
use Rattle.nb_base.specs.Messages.{Message}
use Rattle.nb_base.specs.declared.plan.Fault.{Fault}
use Rattle.nb_base.specs.declared.plan.FaultKind.{FaultKind}
use Rattle.nb_base.specs.declared.plan.FaultKind.TheVariants as kind
use Rattle.nb_headers.specs.HeaderNames.{enclosed_message_types}
use Rattle.nb_headers.specs.Reads.{header_or}
use Rattle.nb_script.specs.declared.stmt.Refusal.{Refusal}
use Rattle.nb_script.specs.declared.stmt.Refusal.TheVariants as refusal
use Rattle.nb_eval.specs.declared.stop.Limit.{Limit}
use Rattle.nb_eval.specs.declared.stop.Limit.TheVariants as limit
use Rattle.nb_eval.specs.declared.stop.Stop.{Stop}
use Rattle.nb_eval.specs.declared.stop.Stop.TheVariants as stop

abbrev pub fault : FaultKind → List ℕ → List ℕ → Bool → Fault
fault kind name text unrecoverable = record { kind = kind; name = name; text = text; unrecoverable = unrecoverable }

abbrev pub limit_fault : Limit → Fault
limit_fault limit.Overflow = fault kind.Overflow (codes "Overflow") (codes "a number left the range of 64 bits") false
limit_fault limit.TooLong = fault kind.TooLong (codes "TooLong") (codes "a text became longer than 65536 bytes") false
limit_fault limit.TooLarge = fault kind.TooLarge (codes "TooLarge") (codes "the outgoing bodies together passed 1048576 bytes") false
limit_fault limit.TooMany = fault kind.TooMany (codes "TooMany") (codes "more than 256 outgoing messages") false
limit_fault limit.BadDelay = fault kind.BadDelay (codes "BadDelay") (codes "a delay lies outside 0 to 31536000") false
limit_fault limit.NoReplyAddress = fault kind.NoReplyAddress (codes "NoReplyAddress") (codes "there is no address to reply to") false

-- `reject` is unrecoverable, `fail` isn't
abbrev pub refusal_fault : Refusal → List ℕ → List ℕ → Fault
refusal_fault refusal.Fail name text = fault kind.Fail name text false
refusal_fault refusal.Reject name text = fault kind.Reject name text true

-- no checked script comes to this, and no meaning to want of memory
abbrev pub no_fault : Fault
no_fault = fault kind.Undecodable [] [] true

abbrev pub fault_of : Stop → Fault
fault_of (stop.Passed l) = limit_fault l
fault_of (stop.Refused r name text) = refusal_fault r name text
fault_of stop.Wrong = no_fault
fault_of stop.NoMemory = no_fault

-- ---- before any block runs

abbrev pub undeclared : Message → Fault
undeclared e = fault kind.Undeclared (codes "Undeclared") (codes "no declared message in " ++ quoted (header_or e enclosed_message_types [])) true

abbrev pub no_handler : List ℕ → Fault
no_handler name = fault kind.NoHandler (codes "NoHandler") (codes "no block meets " ++ name) true

abbrev pub undecodable : List ℕ → Fault
undecodable name = fault kind.Undecodable (codes "Undecodable") (codes "the body is not an object with the fields of " ++ name) true
