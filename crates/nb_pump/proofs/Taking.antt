-- A Take and a Look: what they leave to do, and the whole lease.
use Rattle.std.proofs.Common.{◌≡◌, inl, inr, ℕ, ◌<◌, ◌≤◌, List, [], ◌∷◌, ◌++◌, Bool, true, false, refl, sym, ap, ◌∙◌, subst}
use Rattle.std.specs.Prelude.{Result, Ok, Err, Some, None, Option}
use Rattle.std.proofs.lemmas.List.Elements.{All-nil}
use Rattle.nb_base.specs.Meanings.{Meaning, IsMeaning}
use Rattle.nb_base.specs.Messages.{Message}
use Rattle.nb_base.specs.Shown.{seen}
use Rattle.nb_base.specs.declared.saga_row.Read.{Read}
use Rattle.nb_base.specs.declared.tables.Queued.{Queued}
use Rattle.nb_headers.specs.Reads.{id_of}
use Rattle.nb_core.proofs.Held.{phase_same}
use Rattle.nb_core.proofs.Stating.{state_facts}
use Rattle.nb_core.specs.Calls.{View, Called, Owns, Ready, HoldsOne, Finds, IsTaken, state_of}
use Rattle.nb_core.specs.Facts.{StateFacts}
use Rattle.nb_core.specs.Legal.{halted}
use Rattle.nb_core.specs.Past.{Fixed, constants, takes}
use Rattle.nb_core.specs.State.{Constants, phase, entry, base, number_of, at_phase, phase_by, IsFree}
use Rattle.nb_core.specs.declared.state.State.{State}
use Rattle.nb_core.specs.Step.{take, look_known, look_new}
use Rattle.nb_core.specs.declared.answers.DeskFault.{DeskFault}
use Rattle.nb_core.specs.declared.answers.DeskFault.TheVariants.{NoMemory}
use Rattle.nb_core.specs.declared.answers.Look.{Look as LookAnswer}
use Rattle.nb_core.specs.declared.answers.Look.TheVariants.{Fresh, Known}
use Rattle.nb_core.specs.declared.answers.Taken.TheVariants.{Got, Nothing as NothingTaken, Limit as LimitTaken}
use Rattle.nb_core.specs.declared.call.Answer.TheVariants as answer
use Rattle.nb_core.specs.declared.call.Call.TheVariants as call
use Rattle.nb_core.specs.declared.event.Event.{Event}
use Rattle.nb_core.specs.declared.event.Event.TheVariants.{Take, Look}
use Rattle.nb_core.specs.declared.phase.Phase.{Phase}
use Rattle.nb_core.specs.declared.phase.Phase.TheVariants.{Idle, Held, Looked, Sending, Leaving, Done}
use Rattle.nb_pump.specs.Leases.{IsOfLease, IsSpentAt, CanFollow, Follows, HoldsMessage, MayJudge, TurnIs}
use Rattle.nb_pump.specs.Made.{Moved}
use Rattle.nb_pump.specs.declared.outcome.Next.TheVariants as next
use Rattle.nb_pump.specs.declared.outcome.Turn.TheVariants.{Ended, Nothing, Limit}
use Rattle.nb_pump.proofs.Following.{breaks, none, refused, follows_event, seen_after}
use Rattle.nb_pump.proofs.Settling.{sending_by, done_by}
use Rattle.nb_pump.proofs.Views.{moved_as, owns_same, before, left, reaches, stays, off_after, moved_none, ran_before, sound_before}

some_is : {A : Type 0} {x y : A} → Some x ≡ Some y → x ≡ y
some_is {A = A} {x = x} e = ap (λ (o : Option A). value o) e
  where
    value : Option A → A
    value None = x
    value (Some y) = y

held_is : {n k : ℕ} → Held n ≡ Held k → n ≡ k
held_is {n = n} e = ap (λ (p : Phase). number p) e
  where
    number : Phase → ℕ
    number Idle = n
    number (Held k) = k
    number (Looked k reads) = n
    number (Sending k id ops j) = n
    number (Leaving k queue due copy) = n
    number (Done k) = n

-- ---- a Look

module _ {v u : View} {w : ℕ} (m : Moved v (Look w ∷ []) u) (owns : Owns v w) where
  abbrev pub c : Constants
  c = constants v.fixed

  abbrev pub s : State
  s = before m

  owned : Owns u w
  owned = owns_same v u w m.workers m.fixed owns

  known_phase : (b : Bool) (h : HoldsOne s w (λ e. Finds c s e.envelope (Known b))) → phase (state_of u) w ≡ phase_by b h.number (id_of h.it.envelope) h.holds.0.ops
  known_phase b h =
      let r = h.holds.0 in
      ap (λ (y : State). phase y w) (reaches m (look_known h.held h.there h.holds.1))
      ∙ phase_same s.phases w (phase_by r.sent h.number (id_of h.it.envelope) r.ops)
      ∙ ap (λ (x : Bool). phase_by x h.number (id_of h.it.envelope) r.ops) h.holds.2

  pub known_sent : HoldsOne s w (λ e. Finds c s e.envelope (Known true)) → CanFollow next.Finish w u
  known_sent h = (owned, done_by (state_of u) w h.number (id_of h.it.envelope) h.holds.0.ops (known_phase true h))

  pub known_unsent : HoldsOne s w (λ e. Finds c s e.envelope (Known false)) → CanFollow next.Dispatch w u
  known_unsent h = (owned, sending_by (state_of u) w h.number (id_of h.it.envelope) h.holds.0.ops (known_phase false h))

  -- the message that the worker held before, it holds where the call acts
  same_message : (msg : Message) (reads : List Read) → HoldsMessage (state_of v) w msg → (h : HoldsOne s w (λ e. Finds c s e.envelope (Fresh reads))) → h.it.envelope ≡ msg
  same_message msg reads was h =
      let l = left m w owns in
      let n : was.number ≡ h.number = held_is (sym was.held ∙ sym l.phase_is ∙ h.held) in
      let there : entry (state_of v) h.number ≡ Some was.it = subst (λ (k : ℕ). entry (state_of v) k ≡ Some was.it) n was.there in
      let e : entry s h.number ≡ entry (state_of v) h.number = l.entry_is h.number (ap number_of was.held ∙ ap Some n) in
      ap (λ (q : Queued). q.envelope) (some_is (sym h.there ∙ e ∙ there)) ∙ was.message_is

  pub fresh_judge : (msg : Message) (reads : List Read) (moment : ℕ) → IsMeaning v.fixed.meaning → HoldsMessage (state_of v) w msg → (state_of v).moment ≡ moment
      → HoldsOne s w (λ e. Finds c s e.envelope (Fresh reads)) → MayJudge v.fixed.meaning w msg reads moment u
  fresh_judge msg reads moment meaning was at h =
      let facts : StateFacts c s = state_facts meaning (sound_before m) (ran_before m) in
      let same = same_message msg reads was h in
      let step = look_new h.held h.there h.holds.0 in
      let t = reaches m step in
      let now : s.moment ≡ moment = (left m w owns).moment_is ∙ at in
      record {
        shown = record {
          tables = base s;
          sound = facts.tables.base;
          fit = facts.fit;
          shown = h.holds.1 ∙ ap (λ (x : Message). seen (base s) (c.meaning.keys x)) same;
        };
        ready = (
          owned,
          record {
            number = h.number;
            it = h.it;
            looked = ap (λ (y : State). phase y w) t ∙ phase_same s.phases w (Looked h.number (seen (base s) (c.meaning.keys h.it.envelope))) ∙ ap (λ (rs : List Read). Looked h.number rs) (sym h.holds.1);
            there = ap (λ (y : State). entry y h.number) t ∙ h.there;
            verdict_is = (λ i. (sym m.fixed i).meaning.on_reads reads (sym same i) (sym (ap (λ (y : State). y.moment) t ∙ now) i));
          },
        );
        legal = m.legal;
        off = off_after m refl;
      }

pub look_refused : (w : ℕ) (f : DeskFault) (v u : View) → Called (call.Look w) (answer.Saw (Err f)) v u → Follows w (Err f) v u
look_refused w f v u c = breaks w (call.Look w) (answer.Saw (Err f)) f v u c (none (IsSpentAt w u) (call.Look w) v u (λ h. h)) c.gives

pub looked_then : (w : ℕ) (l : LookAnswer) (r : Result (Unit {0}) DeskFault) (v u t : View) → Called (call.Look w) (answer.Saw (Ok l)) v u → Follows w r u t → Follows w r v t
looked_then w l r v u t c f = follows_event w r (Look w) v u t refl (moved_as c (Look w ∷ []) c.gives.0) f

pub may_finish : (w : ℕ) (v u : View) → Owns v w → Called (call.Look w) (answer.Saw (Ok (Known true))) v u → CanFollow next.Finish w u
may_finish w v u o c = known_sent (moved_as c (Look w ∷ []) c.gives.0) o c.gives.1

pub may_dispatch : (w : ℕ) (v u : View) → Owns v w → Called (call.Look w) (answer.Saw (Ok (Known false))) v u → CanFollow next.Dispatch w u
may_dispatch w v u o c = known_unsent (moved_as c (Look w ∷ []) c.gives.0) o c.gives.1

-- ---- a Take

module _ {v u : View} {w : ℕ} (m : Moved v (Take w ∷ []) u) (ready : Ready (call.Take w) v) (msg : Message) (x : IsTaken (constants v.fixed) (before m) msg) where
  reached : state_of u ≡ at_phase (before m) w (Held x.number)
  reached = reaches m (take ((left m w ready.0).phase_is ∙ ready.1) x.least)

  pub taken_holds : HoldsMessage (state_of u) w msg
  taken_holds = record {
    number = x.number;
    it = x.least.free.it;
    held = ap (λ (y : State). phase y w) reached ∙ phase_same (before m).phases w (Held x.number);
    there = ap (λ (y : State). entry y x.number) reached ∙ x.least.free.there;
    message_is = x.message_is;
  }

  pub taken_moment : (state_of u).moment ≡ (state_of v).moment
  taken_moment = ap (λ (y : State). y.moment) reached ∙ (left m w ready.0).moment_is

pub take_refused : (w : ℕ) (f : DeskFault) (v u : View) → Called (call.Take w) (answer.Took (Err f)) v u → TurnIs w (Err f) v u
take_refused w f v u c =
    let r = refused (IsSpentAt w u) (call.Take w) (answer.Took (Err f)) f v u c (none (IsSpentAt w u) (call.Take w) v u (λ h. h)) c.gives in (inl r.0, r.1)

pub took_nothing : (w : ℕ) (v u : View) → Called (call.Take w) (answer.Took (Ok NothingTaken)) v u → TurnIs w (Ok Nothing) v u
took_nothing w v u c =
    let m : Moved v [] u = moved_as c [] c.gives.0 in
    let same : u.events ≡ v.events ++ c.others = seen_after v u m in (
      m,
      ap (λ (es : List Event). halted es) same ∙ c.gives.1,
      subst (λ (y : Fixed × List Event). takes y.1 < y.0.turns) (λ i. (sym c.fixed i, sym same i)) c.gives.2,
      subst (λ (y : Fixed × State). (n : ℕ) → IsFree (constants y.0) y.1 n → ⊥) (λ i. (sym c.fixed i, sym (stays m) i)) c.gives.3,
    )

pub took_limit : (w : ℕ) (v u : View) → Called (call.Take w) (answer.Took (Ok LimitTaken)) v u → TurnIs w (Ok Limit) v u
took_limit w v u c =
    let m : Moved v [] u = moved_as c [] c.gives.0 in
    let same : u.events ≡ v.events ++ c.others = seen_after v u m in (
      m,
      ap (λ (es : List Event). halted es) same ∙ c.gives.1,
      subst (λ (y : Fixed × List Event). y.0.turns ≤ takes y.1) (λ i. (sym c.fixed i, sym same i)) c.gives.2,
    )

pub lease_done : (w : ℕ) (msg : Message) (v u t : View) → Called (call.Take w) (answer.Took (Ok (Got msg))) v u → Follows w (Ok tt) u t → TurnIs w (Ok Ended) v t
lease_done w msg v u t c f = (f.own, f.of_lease, (u, moved_as c (Take w ∷ []) c.gives.0, f.end.0), f.end.1, f.end.2)

pub lease_broken : (w : ℕ) (msg : Message) (f : DeskFault) (v u t : View) → Called (call.Take w) (answer.Took (Ok (Got msg))) v u → Follows w (Err f) u t → TurnIs w (Err f) v t
lease_broken w msg f v u t c x = (inr (x.own, x.of_lease, (u, moved_as c (Take w ∷ []) c.gives.0, x.end.0)), x.end.1)

pub may_judge : (meaning : Meaning) (w : ℕ) (msg : Message) (reads : List Read) (moment : ℕ) (v u : View) → v.fixed.meaning ≡ meaning → IsMeaning meaning → Owns v w → HoldsMessage (state_of v) w msg → (state_of v).moment ≡ moment
    → Called (call.Look w) (answer.Saw (Ok (Fresh reads))) v u → MayJudge meaning w msg reads moment u
may_judge meaning w msg reads moment v u is right o was at c =
    let m : Moved v (Look w ∷ []) u = moved_as c (Look w ∷ []) c.gives.0 in
    subst (λ (x : Meaning). MayJudge x w msg reads moment u) is
    (fresh_judge m o msg reads moment (subst IsMeaning (sym is) right) was at c.gives.1)

-- there was no memory to judge
pub unjudged : (meaning : Meaning) (w : ℕ) (msg : Message) (reads : List Read) (moment : ℕ) (v : View) → MayJudge meaning w msg reads moment v → Follows w (Err NoMemory) v v
unjudged meaning w msg reads moment v j = record { own = []; of_lease = All-nil (IsOfLease w); end = (moved_none v j.legal, j.off) }

pub got_holds : (w : ℕ) (msg : Message) (v u : View) → Ready (call.Take w) v → Called (call.Take w) (answer.Took (Ok (Got msg))) v u → HoldsMessage (state_of u) w msg
got_holds w msg v u ready c = taken_holds (moved_as c (Take w ∷ []) c.gives.0) ready msg c.gives.2

pub got_moment : (w : ℕ) (msg : Message) (v u : View) → Ready (call.Take w) v → Called (call.Take w) (answer.Took (Ok (Got msg))) v u → (state_of u).moment ≡ (state_of v).moment
got_moment w msg v u ready c = taken_moment (moved_as c (Take w ∷ []) c.gives.0) ready msg c.gives.2
