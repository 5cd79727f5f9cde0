-- Messages that are made: their bodies, their delays and their targets.
use Rattle.std.specs.Prelude.{ℕ, ◌+◌, ℤ, pos, negsuc, nat_lt, nat_le, List, [], ◌∷◌, ◌++◌, length, Option, Some, None, Ok, Err, if◌then◌else◌}
use Rattle.serde_json.specs.Data.{Data, boolean, number, string, object, Members, no_members, put}
use Rattle.serde_json.specs.Find.{of_integer}
use Rattle.serde_json.specs.Written.{compact_text}
use Rattle.nb_base.specs.declared.plan.FromSaga.{FromSaga}
use Rattle.nb_base.specs.declared.plan.Intent.{Intent}
use Rattle.nb_base.specs.declared.plan.Target.{Target}
use Rattle.nb_base.specs.declared.plan.Target.TheVariants as target
use Rattle.nb_base.specs.declared.value.Field.{Field}
use Rattle.nb_base.specs.declared.value.Value.{Value}
use Rattle.nb_base.specs.declared.value.Value.TheVariants.{Int, Text, Bool as Truth}
use Rattle.nb_script.specs.declared.stmt.Destination.{Destination}
use Rattle.nb_script.specs.declared.stmt.Destination.TheVariants as to
use Rattle.nb_script.specs.Grammar.{Term, ArgTerm, MakeTerm, AfterTerm}
use Rattle.nb_check.specs.Declarations.{type_text}
use Rattle.nb_eval.specs.declared.scene.Instance.{Instance}
use Rattle.nb_eval.specs.declared.scene.State.{State}
use Rattle.nb_eval.specs.declared.stop.Stop.TheVariants as stop
use Rattle.nb_eval.specs.declared.stop.Limit.TheVariants.{TooMany, TooLarge, BadDelay, NoReplyAddress}
use Rattle.nb_eval.specs.Values.{Answer, ◌>>=◌, found}
use Rattle.nb_eval.specs.Worlds.{World, named}
use Rattle.nb_eval.specs.Expressions.{value_of, whole_of}

-- ---- bodies

abbrev pub data_of : Value → Data
data_of (Int n) = number (of_integer n)
data_of (Text t) = string t
data_of (Truth b) = boolean b

-- an object's members with these fields too, in byte order of their names
abbrev pub with_members : Members → List Field → Members
with_members ms [] = ms
with_members ms (f ∷ fs) = with_members (put f.name (data_of f.value) ms) fs

-- the compact JSON object of the fields, in byte order of their names
abbrev pub body_of : List Field → List ℕ
body_of fields = compact_text (object (with_members no_members fields))

-- ---- what is evaluated

-- the values of the fields, in the order in which they are written
abbrev pub made : List ArgTerm → World → State → Answer (List Field)
made [] w s = Ok []
made (a ∷ more) w s = value_of a.value w s >>= λ v. made more w s >>= λ fs. Ok (named a.name v ∷ fs)

-- seconds from 0 to a year
abbrev pub delay_in : ℤ → Answer ℕ
delay_in (pos n) = if nat_lt 31536000 n then Err (stop.Passed BadDelay) else Ok n
delay_in (negsuc n) = Err (stop.Passed BadDelay)

abbrev pub seconds_of : Term → World → State → Answer ℕ
seconds_of e w s = whole_of e w s >>= delay_in

-- the seconds of a timeout, in a saga
abbrev pub timed : Term → World → State → Answer ℕ
timed e w s = found s.saga >>= λ i. seconds_of e w s

abbrev pub delay_of : Option AfterTerm → World → State → Answer (Option ℕ)
delay_of None w s = Ok None
delay_of (Some a) w s = seconds_of a.delay w s >>= λ d. Ok (Some d)

-- an address that isn't empty
abbrev pub address : List ℕ → Answer (List ℕ)
address [] = Err (stop.Passed NoReplyAddress)
address (c ∷ cs) = Ok (c ∷ cs)

abbrev pub target_of : Destination → Target
target_of to.Route = target.Send
target_of to.Local = target.Local

-- the sender of the incoming message, or the one who started the saga
abbrev pub answered : Option ℕ → World → State → Answer Target
answered None w s = address w.reply_to >>= λ t. Ok (target.Reply t)
answered (Some at) w s = found s.saga >>= λ i. address i.originator >>= λ t. Ok (target.Originator t i.original)

-- ---- intents

-- the saga that sends
abbrev pub from_saga : Option Instance → Option FromSaga
from_saga None = None
from_saga (Some i) = Some (record { saga = i.saga; which = i.which })

-- One more intent: the 257th is refused, and then the one with which the bodies pass 1048576 bytes.
abbrev pub with_intent : Intent → State → Answer State
with_intent x s =
    if nat_le 256 (length s.intents) then Err (stop.Passed TooMany)
    else if nat_lt 1048576 (s.size + length x.body) then Err (stop.Passed TooLarge)
    else Ok (record s { intents = s.intents ++ x ∷ []; size = s.size + length x.body })

abbrev pub intent : Target → Option ℕ → MakeTerm → List Field → State → Intent
intent t d m fields s = record { target = t; delay = d; name = type_text m.name; body = body_of fields; from = from_saga s.saga }

-- the message is made, and goes there
abbrev pub sent : Target → Option ℕ → MakeTerm → World → State → Answer State
sent t d m w s = made m.args w s >>= λ fields. with_intent (intent t d m fields s) s
