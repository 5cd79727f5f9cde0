-- What the copies of a message say.
use Rattle.std.specs.Prelude.{◌≡◌, ℕ, ◌≤◌}
use Rattle.nb_base.specs.Messages.{Message}
use Rattle.nb_base.specs.declared.settings.Settings.{Settings}
use Rattle.nb_headers.specs.Reads.{id_of, failed_queue, round_of}
use Rattle.nb_recover.specs.Copies.{later_copy, error_copy}
use Rattle.nb_recover.specs.declared.fail.Fail.{Fail}

-- a copy has the message's id
pub record KeepIds : Type 0 where
  pub later : (m : Message) (round moment : ℕ) → id_of (later_copy m round moment) ≡ id_of m
  pub error : (s : Settings) (m : Message) (fail : Fail) (moment : ℕ) → id_of (error_copy s m fail moment) ≡ id_of m

-- the copy for later says its round
abbrev pub CarryRound : Type 0
CarryRound = (m : Message) (round moment : ℕ) → round ≤ 1000 → round_of (later_copy m round moment) ≡ round

-- the copy for the error queue says in which queue the message failed
abbrev pub NameEndpoint : Type 0
NameEndpoint = (s : Settings) (m : Message) (fail : Fail) (moment : ℕ) → failed_queue (error_copy s m fail moment) ≡ s.endpoint
