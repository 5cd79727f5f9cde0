-- A stage at rest, and what it does without a worker.
use Rattle.std.proofs.Common.{◌≡◌, ℕ, ◌<◌, ◌≤◌, List, [], ◌∷◌, ◌++◌, refl, sym, ap, ◌∙◌, subst}
use Rattle.std.specs.Prelude.{Option, Some, None, Result, Ok, Err, Bool}
use Rattle.std.specs.FinMap as map
use Rattle.std.specs.FinMap.{find}
use Rattle.std.specs.Ordering.{nat_cmp}
use Rattle.nb_base.specs.Meanings.{Meaning}
use Rattle.nb_base.specs.Messages.{Message}
use Rattle.nb_base.specs.Orders.{ByNumber}
use Rattle.nb_base.specs.declared.entry.Waiting.{Waiting}
use Rattle.nb_core.proofs.Held.{phase_empty}
use Rattle.nb_core.proofs.Pasts.{whole_owned}
use Rattle.nb_core.specs.Calls.{View, Called, Ready, state_of, whole}
use Rattle.nb_core.specs.Drained.{IsNextDue}
use Rattle.nb_core.specs.Past.{Fixed, IsLegal, state_after}
use Rattle.nb_core.specs.State.{Constants, AllIdle}
use Rattle.nb_core.specs.Step.{Step, tick, release}
use Rattle.nb_core.specs.declared.answers.DeskFault.{DeskFault}
use Rattle.nb_core.specs.declared.call.Answer.TheVariants as answer
use Rattle.nb_core.specs.declared.call.Call.TheVariants as call
use Rattle.nb_core.specs.declared.event.Event.{Event}
use Rattle.nb_core.specs.declared.event.Event.TheVariants.{Load, Tick, Release}
use Rattle.nb_core.specs.declared.state.State.{State}
use Rattle.nb_pump.proofs.Releasing.{step_here, same_here, rests_still}
use Rattle.nb_pump.proofs.Views.{moved_as, owns_all_same, stays}
use Rattle.nb_pump.specs.Drains.{Standing}
use Rattle.nb_pump.specs.Made.{Moved}
use Rattle.nb_schedule.proofs.Seating.{spares_none, spares_one, spares_refused, Spares, unmoved}
use Rattle.nb_schedule.specs.Seats.{IsAt, IsOn, Staged}
use Rattle.nb_schedule.specs.declared.seat.Seat.{Seat}

-- a hub whose history has no event yet
pub staged_new : (meaning : Meaning) (workers moment : ℕ) (f : Fixed) (es : List Event) → es ≡ [] → f.meaning ≡ meaning → f.opening.workers ≡ workers → f.opening.moment ≡ moment → IsLegal f es
    → Staged meaning workers moment map.empty (whole f es)
staged_new meaning workers moment f es none means many now legal = record {
  owns = whole_owned f es;
  legal = legal;
  meaning_is = means;
  workers_are = many;
  now = ap (λ (xs : List Event). (state_after f xs).moment) none ∙ now;
  at = λ w. subst (IsAt moment (whole f es) w) (sym (map.get-empty _ w)) (subst (λ (xs : List Event). IsAt moment (whole f xs) w None) (sym none) (phase_empty w));
}

module _ (meaning : Meaning) (workers moment : ℕ) (seats : ByNumber Seat) (v : View) (st : Staged meaning workers moment seats v) where
  -- ---- calls that leave all where they are

  pub loaded : (m : Message) (r : Result (Unit {0}) DeskFault) (u : View) → Called (call.Load m) (answer.Plain r) v u → Staged meaning workers moment seats u
  loaded m (Ok x) u c = unmoved meaning workers moment seats v st u (call.Load m) (answer.Plain (Ok x)) c (λ k. subst (Spares k) (sym c.gives) (spares_one k (Load m) tt))
  loaded m (Err f) u c = unmoved meaning workers moment seats v st u (call.Load m) (answer.Plain (Err f)) c (spares_refused (call.Load m) f v.fixed (v.events ++ c.others) c.own c.gives)

  pub told_due : (r : Result (Option Waiting) DeskFault) (u : View) → Called call.NextDue (answer.Due r) v u → Staged meaning workers moment seats u
  told_due (Ok x) u c = unmoved meaning workers moment seats v st u call.NextDue (answer.Due (Ok x)) c (λ k. subst (Spares k) (sym c.gives.0) (spares_none k))
  told_due (Err f) u c = unmoved meaning workers moment seats v st u call.NextDue (answer.Due (Err f)) c (spares_refused call.NextDue f v.fixed (v.events ++ c.others) c.own c.gives)

  pub told_drained : (until : ℕ) (r : Result Bool DeskFault) (u : View) → Called (call.IsDrained until) (answer.IsDrained r) v u → Staged meaning workers moment seats u
  told_drained until (Ok x) u c = unmoved meaning workers moment seats v st u (call.IsDrained until) (answer.IsDrained (Ok x)) c (λ k. subst (Spares k) (sym c.gives.0) (spares_none k))
  told_drained until (Err f) u c = unmoved meaning workers moment seats v st u (call.IsDrained until) (answer.IsDrained (Err f)) c (spares_refused (call.IsDrained until) f v.fixed (v.events ++ c.others) c.own c.gives)

  -- ---- where every worker is idle

  module _ (empty : (w : ℕ) → map.get seats w ≡ None) where
    pub all_idle : AllIdle (state_of v)
    all_idle w = subst (IsAt moment v w) (empty w) (st.at w)

    pub standing : 0 < workers → Standing v
    standing some = record { owns = st.owns; some = subst (λ (n : ℕ). 0 < n) (sym st.workers_are) some; idle = all_idle; legal = st.legal }

    idle_there : (moment' : ℕ) (u : View) (own : List Event) → Moved v own u → AllIdle (state_of u) → (state_of u).moment ≡ moment' → Staged meaning workers moment' seats u
    idle_there moment' u own m idle now = record {
      owns = owns_all_same v u m.workers m.fixed st.owns;
      legal = m.legal;
      meaning_is = ap (λ (f : Fixed). f.meaning) m.fixed ∙ st.meaning_is;
      workers_are = ap (λ (f : Fixed). f.opening.workers) m.fixed ∙ st.workers_are;
      now = now;
      at = λ w. subst (IsAt moment' u w) (sym (empty w)) (idle w);
    }

    -- Tick
    pub may_tick : (to : ℕ) → moment ≤ to → Ready (call.Tick to) v
    may_tick to le = ((st.owns, all_idle), subst (λ (n : ℕ). n ≤ to) (sym st.now) le)

    ticked_state : {c : Constants} {to : ℕ} {s t : State} → Step c s (Tick to) t → (AllIdle s → AllIdle t) × (t.moment ≡ to)
    ticked_state (tick idle le) = (λ h. h, refl)

    pub ticked : (to : ℕ) (u : View) → Called (call.Tick to) (answer.Plain (Ok tt)) v u → Staged meaning workers to seats u
    ticked to u c =
        let m : Moved v (Tick to ∷ []) u = moved_as c (Tick to ∷ []) c.gives in
        let t = ticked_state (step_here m st.owns) in
        idle_there to u (Tick to ∷ []) m (t.0 all_idle) t.1

    pub tick_refused : (to : ℕ) (f : DeskFault) (u : View) → Called (call.Tick to) (answer.Plain (Err f)) v u → Staged meaning workers moment seats u
    tick_refused to f u c = unmoved meaning workers moment seats v st u (call.Tick to) (answer.Plain (Err f)) c (spares_refused (call.Tick to) f v.fixed (v.events ++ c.others) c.own c.gives)

    -- Release
    pub may_release : (x : Waiting) (u : View) → x.due ≤ moment → Called call.NextDue (answer.Due (Ok (Some x))) v u → Ready (call.Release x.number) u
    may_release x u le c =
        let m : Moved v [] u = moved_as c [] c.gives.0 in
        let same : state_of u ≡ state_of v = same_here m st.owns in
        let here : IsNextDue (state_of u) x.number x.due = subst (λ (s : State). IsNextDue s x.number x.due) (sym (stays m)) c.gives.2 in
        let now : (state_of u).moment ≡ moment = ap (λ (s : State). s.moment) same ∙ st.now in
        ((owns_all_same v u c.workers c.fixed st.owns, subst AllIdle (sym same) all_idle), (here.it, x.due, here.there, here.due_is, subst (λ (n : ℕ). x.due ≤ n) (sym now) le))

    released_state : {c : Constants} {n : ℕ} {s t : State} → Step c s (Release n) t → (AllIdle s → AllIdle t) × (t.moment ≡ s.moment)
    released_state (release idle there due le) = (λ h. h, refl)

    pub released : (n : ℕ) (u : View) → Called (call.Release n) (answer.Plain (Ok tt)) v u → Staged meaning workers moment seats u
    released n u c =
        let m : Moved v (Release n ∷ []) u = moved_as c (Release n ∷ []) c.gives in
        let t = released_state (step_here m st.owns) in
        idle_there moment u (Release n ∷ []) m (t.0 all_idle) (t.1 ∙ st.now)

    pub release_refused : (n : ℕ) (f : DeskFault) (u : View) → Called (call.Release n) (answer.Plain (Err f)) v u → Staged meaning workers moment seats u
    release_refused n f u c = unmoved meaning workers moment seats v st u (call.Release n) (answer.Plain (Err f)) c (spares_refused (call.Release n) f v.fixed (v.events ++ c.others) c.own c.gives)

    pub releases : (n : ℕ) (r : Result (Unit {0}) DeskFault) (u : View) → Called (call.Release n) (answer.Plain r) v u → Staged meaning workers moment seats u
    releases n (Ok x) u c = released n u c
    releases n (Err f) u c = release_refused n f u c

-- ---- a desk at rest that is asked whether it stopped

pub is_on : (o : Option Waiting) (v w : View) → Standing v → Called call.NextDue (answer.Due (Ok o)) v w → IsOn v w
is_on o v w st c =
    let m : Moved v [] w = moved_as c [] c.gives.0 in
    record { rests = rests_still st m c.gives.1; fixed = m.fixed; moment = ap (λ (s : State). s.moment) (same_here m st.owns) }

-- ---- no seat is kept

pub none_kept : (seats : ByNumber Seat) → map.entries seats ≡ [] → (w : ℕ) → map.get seats w ≡ None
none_kept seats is w = map.get-entries seats w ∙ ap (λ (es : List (ℕ × Seat)). find nat_cmp w es) is
