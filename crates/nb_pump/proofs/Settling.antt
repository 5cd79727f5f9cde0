-- What a settle leaves to do.
use Rattle.std.proofs.Common.{◌≡◌, ℕ, ◌+◌, List, [], ◌∷◌, length, Bool, true, false, refl, ap, ◌∙◌, arith}
use Rattle.std.specs.Prelude.{Result, Ok, Err, Some, None}
use Rattle.nb_base.specs.declared.entry.Op.{Op}
use Rattle.nb_base.specs.declared.plan.Outcome.{Outcome}
use Rattle.nb_base.specs.declared.saga_row.Read.{Read}
use Rattle.nb_base.specs.declared.tables.Queued.{Queued}
use Rattle.nb_headers.specs.Reads.{id_of}
use Rattle.nb_recover.specs.declared.fail.Fail.{Fail}
use Rattle.nb_recover.specs.declared.moves.Move.{Move}
use Rattle.nb_recover.specs.declared.moves.Move.TheVariants as move
use Rattle.nb_core.proofs.Held.{phase_same}
use Rattle.nb_core.proofs.Spending.{spent_settle}
use Rattle.nb_core.specs.Calls.{View, Called, Owns, FailsBy, HasLooked, Settles, MovesBy, IsSending, state_of}
use Rattle.nb_core.specs.Past.{constants}
use Rattle.nb_core.specs.Settling.{by_fault, by_conflict}
use Rattle.nb_core.specs.State.{Constants, phase, entry, recorded, phase_by, phase_after, failed, commit_ops, move_after, fails}
use Rattle.nb_core.specs.declared.state.State.{State}
use Rattle.nb_core.specs.Step.{Step, settle_twin, settle_fault, settle_conflict, settle_commit}
use Rattle.nb_core.specs.declared.answers.DeskFault.{DeskFault}
use Rattle.nb_core.specs.declared.answers.Settled.{Settled}
use Rattle.nb_core.specs.declared.answers.Settled.TheVariants as settled
use Rattle.nb_core.specs.declared.call.Answer.TheVariants as answer
use Rattle.nb_core.specs.declared.call.Call.TheVariants as call
use Rattle.nb_core.specs.declared.event.Event.TheVariants.{Settle}
use Rattle.nb_core.specs.declared.phase.Phase.TheVariants.{Looked, Sending, Done}
use Rattle.nb_pump.specs.Leases.{CanFollow, Follows, next_after}
use Rattle.nb_pump.specs.Made.{Moved}
use Rattle.nb_pump.proofs.Following.{breaks, follows_event}
use Rattle.nb_pump.proofs.Views.{moved_as, owns_same, reaches, before, off_after}

-- a phase to which a record leads: its batch may be sent, or the entry removed
pub sending_by : (s : State) (w n : ℕ) (id : List ℕ) (ops : List Op) → phase s w ≡ phase_by false n id ops → (left : ℕ) × IsSending s w left
sending_by s w n id ops is = (length ops, record { number = n; id = id; ops = ops; k = 0; sending = is; left_is = omega arith })

pub done_by : (s : State) (w n : ℕ) (id : List ℕ) (ops : List Op) → phase s w ≡ phase_by true n id ops → (m : ℕ) × (phase s w ≡ Done m)
done_by s w n id ops is = (n, is)

-- the failure is a step
fails_step : {c : Constants} {s : State} {w n : ℕ} {reads : List Read} {e : Queued} {f : Fail}
    → phase s w ≡ Looked n reads → entry s n ≡ Some e → recorded s (id_of e.envelope) ≡ None → FailsBy c s reads e.envelope f
    → Step c s (Settle w) (failed c s w n e.envelope f)
fails_step looked there new (by_fault is) = settle_fault looked there new is
fails_step looked there new (by_conflict planned stale) = settle_conflict looked there new planned stale

module _ {v u : View} {w : ℕ} (m : Moved v (Settle w ∷ []) u) (owns : Owns v w) where
  abbrev c : Constants
  c = constants v.fixed

  abbrev s : State
  s = before m

  owned : Owns u w
  owned = owns_same v u w m.workers m.fixed owns

  -- the phase after a failure
  failed_phase : {n : ℕ} {reads : List Read} {e : Queued} {f : Fail} (x : Move) → phase s w ≡ Looked n reads → entry s n ≡ Some e → MovesBy c s n reads e f x
      → phase (state_of u) w ≡ phase_after c.settings s.moment n e.envelope f x
  failed_phase {n = n} {e = e} {f = f} x looked there by =
      ap (λ (t : State). phase t w) (reaches m (fails_step looked there by.0 by.1))
      ∙ phase_same s.phases w (phase_after c.settings s.moment n e.envelope f (move_after c.settings (fails s n + 1) e.envelope f))
      ∙ ap (λ (y : Move). phase_after c.settings s.moment n e.envelope f y) by.2

  leads : (way : Settled) → HasLooked s w (λ n reads e. Settles c s n reads e way) → CanFollow (next_after way) w u
  leads (settled.Committed k) h =
      let x = h.holds.0 in
      let t = reaches m (settle_commit h.looked h.there x.new x.planned x.fresh h.holds.1) in
      let ops : List Op = commit_ops c s h.it.envelope x.plan in
      (owned, sending_by (state_of u) w h.number (id_of h.it.envelope) ops (ap (λ (y : State). phase y w) t ∙ phase_same s.phases w (Sending h.number (id_of h.it.envelope) ops 0)))
  leads (settled.Twin true) h = (owned, done_by (state_of u) w h.number (id_of h.it.envelope) h.holds.0.ops (twin true h))
    where
      twin : (b : Bool) (h : HasLooked s w (λ n reads e. Settles c s n reads e (settled.Twin b))) → phase (state_of u) w ≡ phase_by b h.number (id_of h.it.envelope) h.holds.0.ops
      twin b h =
          let r = h.holds.0 in
          ap (λ (y : State). phase y w) (reaches m (settle_twin h.looked h.there h.holds.1))
          ∙ phase_same s.phases w (phase_by r.sent h.number (id_of h.it.envelope) r.ops)
          ∙ ap (λ (x : Bool). phase_by x h.number (id_of h.it.envelope) r.ops) h.holds.2
  leads (settled.Twin false) h = (owned, sending_by (state_of u) w h.number (id_of h.it.envelope) h.holds.0.ops (twin false h))
    where
      twin : (b : Bool) (h : HasLooked s w (λ n reads e. Settles c s n reads e (settled.Twin b))) → phase (state_of u) w ≡ phase_by b h.number (id_of h.it.envelope) h.holds.0.ops
      twin b h =
          let r = h.holds.0 in
          ap (λ (y : State). phase y w) (reaches m (settle_twin h.looked h.there h.holds.1))
          ∙ phase_same s.phases w (phase_by r.sent h.number (id_of h.it.envelope) r.ops)
          ∙ ap (λ (x : Bool). phase_by x h.number (id_of h.it.envelope) r.ops) h.holds.2
  leads (settled.Again f) h = (m.legal, failed_phase move.Again h.looked h.there h.holds, off_after m refl)
  leads (settled.Later f) h = (owned, (_, _, _, _, failed_phase (move.Later h.holds.0 h.holds.1) h.looked h.there h.holds.2))
  leads (settled.Error f) h = (owned, (_, _, _, _, failed_phase move.Error h.looked h.there h.holds))
  leads (settled.Discarded f) h = (owned, (_, failed_phase move.Discard h.looked h.there h.holds))

pub may_follow : (w : ℕ) (o : Outcome) (way : Settled) (v u : View) → Owns v w → Called (call.Settle w o) (answer.Settled (Ok way)) v u → CanFollow (next_after way) w u
may_follow w o way v u owns c = leads (moved_as c (Settle w ∷ []) c.gives.0) owns way c.gives.1

pub settled_then : (w : ℕ) (o : Outcome) (way : Settled) (r : Result (Unit {0}) DeskFault) (v u t : View) → Called (call.Settle w o) (answer.Settled (Ok way)) v u → Follows w r u t → Follows w r v t
settled_then w o way r v u t c f = follows_event w r (Settle w) v u t refl (moved_as c (Settle w ∷ []) c.gives.0) f

pub settle_refused : (w : ℕ) (o : Outcome) (f : DeskFault) (v u : View) → Called (call.Settle w o) (answer.Settled (Err f)) v u → Follows w (Err f) v u
settle_refused w o f v u c =
    breaks w (call.Settle w o) (answer.Settled (Err f)) f v u c (λ m h. spent_settle (constants u.fixed) (state_of u) w o h) c.gives
