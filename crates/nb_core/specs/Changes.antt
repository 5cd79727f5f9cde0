-- The small changes that steps are made of.
use Rattle.std.specs.Prelude.{ℕ, ◌+◌, List, Bool, true, false, Option}
use Rattle.std.specs.FinMap as map
use Rattle.nb_base.specs.Messages.{Message}
use Rattle.nb_base.specs.Orders.{ByNumber}
use Rattle.nb_base.specs.declared.entry.Op.{Op}
use Rattle.nb_base.specs.declared.entry.OutboxRow.{OutboxRow}
use Rattle.nb_core.specs.declared.state.State.{State}
use Rattle.nb_core.specs.declared.phase.Phase.{Phase}
use Rattle.nb_core.specs.declared.phase.Phase.TheVariants.{Idle, Held, Looked, Sending, Leaving, Done}

-- the phases after a change of one; an idle worker isn't there
unfoldable pub put_phase : ByNumber Phase → ℕ → Phase → ByNumber Phase
put_phase phases w Idle = map.remove phases w
put_phase phases w (Held n) = map.insert phases w (Held n)
put_phase phases w (Looked n reads) = map.insert phases w (Looked n reads)
put_phase phases w (Sending n id ops k) = map.insert phases w (Sending n id ops k)
put_phase phases w (Leaving n queue due copy) = map.insert phases w (Leaving n queue due copy)
put_phase phases w (Done n) = map.insert phases w (Done n)

abbrev pub at_phase : State → ℕ → Phase → State
at_phase s w p = record s { phases = put_phase s.phases w p }

-- one more entry
abbrev pub put : State → List ℕ → Option ℕ → Message → State
put s queue due m =
    record s { post = record { entries = map.insert s.post.entries s.post.next (record { queue = queue; due = due; envelope = m }); next = s.post.next + 1 } }

-- the entry and its count of failures gone
abbrev pub removed : State → ℕ → State
removed s n =
    record s { post = record { entries = map.remove s.post.entries n; next = s.post.next }; fails = map.remove s.fails n }

abbrev pub recording : State → List ℕ → OutboxRow → State
recording s id r = record s { tables = record s.tables { outbox = map.insert s.tables.outbox id r } }

-- the phase to which a record leads: nothing is left to do, or its ops are to be sent
abbrev pub phase_by : Bool → ℕ → List ℕ → List Op → Phase
phase_by true n id ops = Done n
phase_by false n id ops = Sending n id ops 0
