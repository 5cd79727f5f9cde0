-- What statements do, and blocks of them.
use Rattle.std.specs.Prelude.{◌≡◌, ℕ, ◌+ℤ◌, List, [], ◌∷◌, ◌++◌, length, take, Bool, true, false, bytes_eq, if◌then◌else◌, Option, Some, None, Result, Ok, Err}
use Rattle.nb_base.specs.declared.plan.Target.TheVariants as target
use Rattle.nb_base.specs.declared.value.Field.{Field}
use Rattle.nb_base.specs.declared.value.Value.{Value}
use Rattle.nb_script.specs.Grammar.{Phrase, Let, Set, Put, Add, Erase, Send, Publish, Reply, Timeout, Complete, Refuse, If, Phrases, Nil, Then, Braces, Brace, Otherwise, Nothing, Last, Chain}
use Rattle.nb_eval.specs.declared.scene.Instance.{Instance}
use Rattle.nb_eval.specs.declared.scene.State.{State}
use Rattle.nb_eval.specs.declared.stop.Stop.{Stop}
use Rattle.nb_eval.specs.declared.stop.Stop.TheVariants as stop
use Rattle.nb_eval.specs.Values.{Answer, ◌>>=◌, Stops, found, in_range}
use Rattle.nb_eval.specs.Worlds.{World, named, put_row}
use Rattle.nb_eval.specs.Expressions.{value_of, whole_of, text_of, truth_of, row_at, number_or_zero}
use Rattle.nb_eval.specs.Making.{timed, delay_of, target_of, answered, sent}

-- What a call did is what is meant, unless memory ran out.
abbrev pub Does : Result (Unit {0}) Stop → State → Answer State → Type 0
Does (Ok u) after meant = meant ≡ Ok after
Does (Err e) after meant = Stops e meant

-- ---- the saga

abbrev pub behind : List Field → Option (List Field) → Option (List Field)
behind front None = None
behind front (Some fs) = Some (front ++ fs)

-- the fields with another value of one that is there
abbrev pub with_field : List ℕ → Value → List Field → Option (List Field)
with_field name v [] = None
with_field name v (f ∷ fs) = if bytes_eq f.name name then Some (named name v ∷ fs) else behind (f ∷ []) (with_field name v fs)

abbrev pub with_fields : State → Instance → List Field → State
with_fields s i fields = record s { saga = Some (record i { fields = fields }) }

-- a field of the saga is set
abbrev pub set_to : List ℕ → Value → State → Answer State
set_to name v s = found s.saga >>= λ i. found (with_field name v i.fields) >>= λ fields. Ok (with_fields s i fields)

-- the saga completes at the end of its block
abbrev pub complete : State → Answer State
complete s = found s.saga >>= λ i. Ok (record s { saga = Some (record i { completed = true }) })

-- ---- names

abbrev pub with_name : List ℕ → Value → State → State
with_name x v s = record s { names = s.names ++ named x v ∷ [] }

-- the names that a block made are gone at its end
abbrev pub leave : List Field → State → State
leave names s = record s { names = take (length names) s.names }

abbrev pub left : State → Answer State → Answer State
left s after = after >>= λ t. Ok (leave s.names t)

-- ---- statements

abbrev pub chosen : Bool → Answer State → Answer State → Answer State
chosen true a b = a
chosen false a b = b

-- what a statement does, and statements one after the other, as far as nothing stops
abbrev mutual
  pub run : Phrase → World → State → Answer State
  run (Let at q x u e c) w s = value_of e w s >>= λ v. Ok (with_name x v s)
  run (Set at q f u e c) w s = value_of e w s >>= λ v. set_to f v s
  run (Put at r u e c) w s = row_at r w s >>= λ name. whole_of e w s >>= λ n. Ok (put_row name (Some n) s)
  run (Add at r u e c) w s = row_at r w s >>= λ name. whole_of e w s >>= λ n. in_range (number_or_zero name w s +ℤ n) >>= λ m. Ok (put_row name (Some m) s)
  run (Erase at r c) w s = row_at r w s >>= λ name. Ok (put_row name None s)
  run (Send a at to m c) w s = delay_of a w s >>= λ d. sent (target_of to) d m w s
  run (Publish at m c) w s = sent target.Publish None m w s
  run (Reply at o m c) w s = answered o w s >>= λ t. sent t None m w s
  run (Timeout at e m c) w s = timed e w s >>= λ d. sent target.Timeout (Some d) m w s
  run (Complete at c) w s = complete s
  run (Refuse at r q name e c) w s = text_of e w s >>= λ t. Err (stop.Refused r name t)
  run (If at x b o) w s = truth_of x w s >>= λ yes. chosen yes (within b w s) (otherwise o w s)

  pub in_turn : Phrases → World → State → Answer State
  in_turn Nil w s = Ok s
  in_turn (Then d more) w s = run d w s >>= λ t. in_turn more w t

  pub within : Braces → World → State → Answer State
  within (Brace o body c) w s = left s (in_turn body w s)

  pub otherwise : Otherwise → World → State → Answer State
  otherwise Nothing w s = Ok s
  otherwise (Last at b) w s = within b w s
  otherwise (Chain at q x b o) w s = truth_of x w s >>= λ yes. chosen yes (within b w s) (otherwise o w s)
