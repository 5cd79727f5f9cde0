-- What is done with a message that failed.
use Rattle.std.specs.Prelude.{ℕ, ◌+◌, ◌*◌, List, Bool, bytes_eq, nat_le, nat_lt, if◌then◌else◌, Option, Some, None, option_map, find}
use Rattle.nb_base.specs.declared.route.Action.{Action}
use Rattle.nb_base.specs.declared.route.Action.TheVariants as action
use Rattle.nb_base.specs.declared.route.Policy.{Policy}
use Rattle.nb_base.specs.declared.settings.Settings.{Settings}
use Rattle.nb_recover.specs.declared.moves.Move.{Move}
use Rattle.nb_recover.specs.declared.moves.Move.TheVariants.{Again, Later, Error, Discard}

-- the action that the policies have for the faults of this name
abbrev pub policy_of : List Policy → List ℕ → Option Action
policy_of policies name = option_map (λ (p : Policy). p.action) (find (λ (p : Policy). bytes_eq name p.name) policies)

-- a round of delayed retries, each longer than the one before, while there is one
abbrev pub delayed_retry : Settings → ℕ → Move
delayed_retry s round = if nat_lt round s.delayed then Later (round + 1) ((round + 1) * s.increase) else Error

-- immediate retries as long as there are some, and this move after them
abbrev pub retry_or : Settings → ℕ → Move → Move
retry_or s fails after = if nat_le fails s.immediate then Again else after

-- what follows by the policy for the fault's name, this failure being one of the counted ones
abbrev pub decide_by : Option Action → Settings → ℕ → ℕ → Bool → Move
decide_by (Some action.Discard) s fails round unrecoverable = Discard
decide_by (Some action.Error) s fails round unrecoverable = Error
decide_by (Some action.Immediate) s fails round unrecoverable = if unrecoverable then Error else retry_or s fails Error
decide_by None s fails round unrecoverable = if unrecoverable then Error else retry_or s fails (delayed_retry s round)

-- what is done after so many failures of an entry in this round, the last one by a fault of this name
unfoldable pub decide : Settings → List ℕ → ℕ → ℕ → Bool → Move
decide s name fails round unrecoverable = decide_by (policy_of s.policies name) s fails round unrecoverable
