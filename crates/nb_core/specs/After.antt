-- The state after an event, computed. Of an event that isn't possible it says nothing: there it is any state.
use Rattle.std.specs.Prelude.{ℕ, ◌+◌, List, [], ◌∷◌, Bool, true, false, Option, Some, None, if◌then◌else◌, ◌==◌, ◌&&◌, not, slice_get, bytes_eq}
use Rattle.std.specs.Option.{is_some, is_none}
use Rattle.std.specs.List.{list_any}
use Rattle.std.specs.FinMap as map
use Rattle.nb_base.specs.Messages.{Message}
use Rattle.nb_base.specs.Orders.{ByNumber}
use Rattle.nb_base.specs.Shown.{seen}
use Rattle.nb_base.specs.declared.entry.Op.{Op}
use Rattle.nb_base.specs.declared.entry.OutboxRow.{OutboxRow}
use Rattle.nb_base.specs.declared.plan.Plan.{Plan}
use Rattle.nb_base.specs.declared.plan.Verdict.{Verdict}
use Rattle.nb_base.specs.declared.plan.Verdict.TheVariants as verdict
use Rattle.nb_base.specs.declared.saga_row.Read.{Read}
use Rattle.nb_base.specs.declared.tables.Queued.{Queued}
use Rattle.nb_headers.specs.Faults.{stripped}
use Rattle.nb_headers.specs.Reads.{id_of, failed_queue}
use Rattle.nb_recover.specs.declared.fail.Fail.TheVariants as fail
use Rattle.nb_core.specs.Stale.{least_stale, conflict_on}
use Rattle.nb_core.specs.State.{State, Constants, Phase, Idle, Held, Looked, Sending, Leaving, Done, phase, entry, recorded, base, number_of, at_phase, put, removed, recording, phase_by, failed, committed}
use Rattle.nb_core.specs.Step.{Event, Step, Load, Take, Look, Settle, Send, Mark, Aside, Remove, Tick, Release, Purge, PutBack, DropBack, Stop, Halt}

-- the least number whose value passes the test
abbrev pub first_where : {V : Type 0} → (ℕ → V → Bool) → List (ℕ × V) → Option ℕ
first_where test [] = None
first_where test (x ∷ xs) = if test x.0 x.1 then Some x.0 else first_where test xs

abbrev pub is_number : ℕ → Option ℕ → Bool
is_number n None = false
is_number n (Some m) = n == m

-- some phase names the entry
abbrev pub is_named : ByNumber Phase → ℕ → Bool
is_named phases n = list_any (λ x. is_number n (number_of x.1)) (map.entries phases)

abbrev pub is_free : Constants → State → ℕ → Queued → Bool
is_free c s n e = bytes_eq e.queue c.settings.endpoint && is_none e.due && not (is_named s.phases n)

abbrev pub least_free : Constants → State → Option ℕ
least_free c s = first_where (is_free c s) (map.entries s.post.entries)

-- what is said of a value that is there; else the state stays
abbrev pub given : {A : Type 0} → State → Option A → (A → State) → State
given s None f = s
given s (Some x) f = f x

-- Look
abbrev pub looked_at : Constants → State → ℕ → ℕ → Message → Option OutboxRow → State
looked_at c s w n m (Some r) = at_phase s w (phase_by r.sent n (id_of m) r.ops)
looked_at c s w n m None = at_phase s w (Looked n (seen (base s) (c.meaning.keys m)))

abbrev pub looked : Constants → State → ℕ → Phase → State
looked c s w (Held n) = given s (entry s n) (λ e. looked_at c s w n e.envelope (recorded s (id_of e.envelope)))
looked c s w _ = s

-- Settle
abbrev pub planned : Constants → State → ℕ → ℕ → Message → Plan → Option Read → State
planned c s w n m plan None = committed c s w n m plan
planned c s w n m plan (Some r) = failed c s w n m (conflict_on (base s) r)

abbrev pub judged : Constants → State → ℕ → ℕ → List Read → Message → Verdict → State
judged c s w n reads m (verdict.Fault f) = failed c s w n m (fail.Fault f)
judged c s w n reads m (verdict.Done plan) = planned c s w n m plan (least_stale (base s) reads)

abbrev pub settled_at : Constants → State → ℕ → ℕ → List Read → Message → Option OutboxRow → State
settled_at c s w n reads m (Some r) = at_phase s w (phase_by r.sent n (id_of m) r.ops)
settled_at c s w n reads m None = judged c s w n reads m (c.meaning.on_reads reads m s.moment)

abbrev pub settled : Constants → State → ℕ → Phase → State
settled c s w (Looked n reads) = given s (entry s n) (λ e. settled_at c s w n reads e.envelope (recorded s (id_of e.envelope)))
settled c s w _ = s

abbrev pub sent : State → ℕ → Phase → State
sent s w (Sending n id ops k) = given s (slice_get ops k) (λ (op : Op). at_phase (put s op.queue op.due op.envelope) w (Sending n id ops (k + 1)))
sent s w _ = s

abbrev pub marked : State → ℕ → Phase → State
marked s w (Sending n id ops k) = given s (recorded s id) (λ (r : OutboxRow). at_phase (recording s id (record r { sent = true; ops = [] })) w (Done n))
marked s w _ = s

abbrev pub put_aside : State → ℕ → Phase → State
put_aside s w (Leaving n queue due copy) = at_phase (put s queue due copy) w (Done n)
put_aside s w _ = s

abbrev pub after : Constants → State → Event → State
after c s (Load m) = put s c.settings.endpoint None m
after c s (Take w) = given s (least_free c s) (λ n. at_phase s w (Held n))
after c s (Look w) = looked c s w (phase s w)
after c s (Settle w) = settled c s w (phase s w)
after c s (Send w) = sent s w (phase s w)
after c s (Mark w) = marked s w (phase s w)
after c s (Aside w) = put_aside s w (phase s w)
after c s (Remove w) = given s (number_of (phase s w)) (λ n. at_phase (removed s n) w Idle)
after c s (Tick to) = record s { moment = to }
after c s (Release n) =
    given s (entry s n) (λ e. record s { post = record s.post { entries = map.insert s.post.entries n (record e { due = None }) } })
after c s (Purge id) = record s { tables = record s.tables { outbox = map.remove s.tables.outbox id } }
after c s (PutBack n) =
    given s (entry s n) (λ e. record (put s (failed_queue e.envelope) None (stripped e.envelope)) { back = map.insert s.back n tt })
after c s (DropBack n) = record (removed s n) { back = map.remove s.back n }
after c s (Stop moment) = record s { phases = map.empty; fails = map.empty; back = map.empty; discarded = []; moment = moment }
after c s (Halt store) = s

-- the state after these events
abbrev pub run : Constants → State → List Event → State
run c s [] = s
run c s (e ∷ es) = run c (after c s e) es

-- the event is possible
abbrev pub Can : Constants → State → Event → Type 0
Can c s e = Step c s e (after c s e)

-- some worker holds an entry
abbrev pub are_busy : ByNumber Phase → Bool
are_busy phases = list_any (λ x. is_some (number_of x.1)) (map.entries phases)
