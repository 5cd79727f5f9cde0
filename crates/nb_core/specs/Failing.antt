-- What a failure changes.
use Rattle.std.specs.Prelude.{ℕ, ◌+◌, List, [], ◌∷◌, ◌++◌, min, Some, None}
use Rattle.std.specs.FinMap as map
use Rattle.nb_base.specs.Messages.{Message}
use Rattle.nb_base.specs.declared.settings.Settings.{Settings}
use Rattle.nb_base.specs.declared.tables.Discard.{Discard}
use Rattle.nb_headers.specs.Reads.{id_of, round_of}
use Rattle.nb_recover.specs.Copies.{later_copy, error_copy}
use Rattle.nb_recover.specs.Decisions.{decide}
use Rattle.nb_recover.specs.Fails.{name_of, is_unrecoverable}
use Rattle.nb_recover.specs.declared.fail.Fail.{Fail}
use Rattle.nb_recover.specs.declared.moves.Move.{Move}
use Rattle.nb_recover.specs.declared.moves.Move.TheVariants as move
use Rattle.nb_core.specs.declared.state.State.{State}
use Rattle.nb_core.specs.declared.phase.Phase.{Phase}
use Rattle.nb_core.specs.declared.phase.Phase.TheVariants.{Idle, Leaving, Done}
use Rattle.nb_core.specs.Standing.{Constants, fails}
use Rattle.nb_core.specs.Changes.{put_phase}

-- the moment after a delay, or the last one
abbrev pub after_delay : ℕ → ℕ → ℕ
after_delay moment delay = min (moment + delay) 253402300799

abbrev pub phase_after : Settings → ℕ → ℕ → Message → Fail → Move → Phase
phase_after settings moment n m fail move.Again = Idle
phase_after settings moment n m fail (move.Later round delay) = Leaving n settings.endpoint (Some (after_delay moment delay)) (later_copy m round moment)
phase_after settings moment n m fail move.Error = Leaving n settings.error None (error_copy settings m fail moment)
phase_after settings moment n m fail move.Discard = Done n

-- the message, where it is given up
abbrev pub given_up : Message → Fail → Move → List Discard
given_up m fail move.Again = []
given_up m fail (move.Later round delay) = []
given_up m fail move.Error = []
given_up m fail move.Discard = record { id = id_of m; name = name_of fail } ∷ []

-- the move after so many failures, this one counted
abbrev pub move_after : Settings → ℕ → Message → Fail → Move
move_after settings count m fail = decide settings (name_of fail) count (round_of m) (is_unrecoverable fail)

-- worker w fails with entry n, which has this message
abbrev pub failed_by : Constants → State → ℕ → ℕ → Message → Fail → Move → State
failed_by c s w n m fail move =
    record s {
      fails = map.insert s.fails n (fails s n + 1);
      phases = put_phase s.phases w (phase_after c.settings s.moment n m fail move);
      discarded = s.discarded ++ given_up m fail move;
    }

abbrev pub failed : Constants → State → ℕ → ℕ → Message → Fail → State
failed c s w n m fail = failed_by c s w n m fail (move_after c.settings (fails s n + 1) m fail)
