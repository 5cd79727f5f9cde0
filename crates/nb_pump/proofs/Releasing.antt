-- Releases one after another.
use Rattle.std.proofs.Common.{◌≡◌, ◌⊎◌, inl, inr, ⊎_elim, ℕ, zero, suc, ◌+◌, ◌<◌, ◌≤◌, List, [], ◌∷◌, ◌++◌, true, false, refl, sym, ap, ◌∙◌, subst, append_assoc, append-nil, arith}
use Rattle.std.specs.Prelude.{Ok, Err, Option, Some, None, if◌then◌else◌}
use Rattle.std.specs.Option.{is_some}
use Rattle.std.specs.FinMap as map
use Rattle.std.specs.Cmp.{nat_cmp_is}
use Rattle.std.specs.Ordering.{is_le, nat_cmp}
use Rattle.std.specs.declared.cmp.Ordering.TheVariants.{Less, Equal}
use native.Mathlib.Decide.{ℕ_discrete, dec_lt}
use mathlib.Core.Logic.{dite}
use Rattle.nb_base.proofs.Maps.{numbers, at_same, at_other}
use Rattle.nb_base.specs.Orders.{ByNumber}
use Rattle.nb_base.specs.declared.entry.Waiting.{Waiting}
use Rattle.nb_base.specs.declared.tables.Queued.{Queued}
use Rattle.nb_core.proofs.Bridge.{step_after}
use Rattle.nb_core.proofs.Held.{BelowAt}
use Rattle.nb_core.proofs.Pasts.{taken_push}
use Rattle.nb_core.specs.After.{after}
use Rattle.nb_core.specs.Calls.{View, Called, Ready, Refuses, OwnsAll, state_of}
use Rattle.nb_core.specs.Drained.{IsNextDue, NothingDue}
use Rattle.nb_core.specs.Legal.{halted}
use Rattle.nb_core.specs.Paced.{Pace, ended, release, cut_off, releasing}
use Rattle.nb_core.specs.Past.{Fixed, constants, state_after, takes}
use Rattle.nb_core.specs.State.{Constants, AllIdle, entry}
use Rattle.nb_core.specs.Step.{Step}
use Rattle.nb_core.specs.Step as step
use Rattle.nb_core.specs.declared.answers.DeskFault.{DeskFault}
use Rattle.nb_core.specs.declared.answers.DeskFault.TheVariants.{StoreFailed, PostFailed, Spent, Halted, NoMemory}
use Rattle.nb_core.specs.declared.call.Answer.TheVariants as answer
use Rattle.nb_core.specs.declared.call.Call.TheVariants as call
use Rattle.nb_core.specs.declared.event.Event.{Event}
use Rattle.nb_core.specs.declared.event.Event.TheVariants.{Release}
use Rattle.nb_core.specs.declared.state.State.{State}
use Rattle.nb_pump.specs.Drains.{Standing, Leads, waits, waiting_below, waiting, StopsAtLimit, NoneBy, Rests, DueIs, ReleasesAre}
use Rattle.nb_pump.specs.Leases.{stop_of}
use Rattle.nb_pump.specs.Made.{Moved, Made}
use Rattle.nb_pump.proofs.Following.{Calm, stopped, stopped_asking, stopped_behind, stopped_there, seen_after}
use Rattle.nb_pump.proofs.Limits.{limit_same, limit_stop}
use Rattle.nb_pump.proofs.Views.{off_after, moved_as, owns_all_same, made_append, made_one, made_kept, moved_none, stepped, stays, before, holding_of}

-- ---- where every worker is the caller's

-- nothing of others came before the call acts
pub acts_here : {v w : View} {own : List Event} (m : Moved v own w) → OwnsAll v → before m ≡ state_of v
acts_here {v = v} m all = ap (λ (es : List Event). state_after v.fixed es) (ap (λ (es : List Event). v.events ++ es) (m.alone all) ∙ append-nil v.events)

pub step_here : {v w : View} {e : Event} (m : Moved v (e ∷ []) w) → OwnsAll v → Step (constants v.fixed) (state_of v) e (state_of w)
step_here {v = v} {w = w} {e = e} m all = subst (λ (s : State). Step (constants v.fixed) s e (state_of w)) (acts_here m all) (stepped m)

pub same_here : {v w : View} (m : Moved v [] w) → OwnsAll v → state_of w ≡ state_of v
same_here m all = stays m ∙ acts_here m all

pub events_here : {v w : View} (m : Moved v [] w) → OwnsAll v → w.events ≡ v.events
events_here {v = v} {w = w} m all = seen_after v w m ∙ ap (λ (es : List Event). v.events ++ es) (m.alone all) ∙ append-nil v.events

pub standing_on : {v w : View} {own : List Event} → Standing v → Moved v own w → AllIdle (state_of w) → Standing w
standing_on {v = v} {w = w} st m idle = record {
  owns = owns_all_same v w m.workers m.fixed st.owns;
  some = subst (λ (f : Fixed). 0 < f.opening.workers) (sym m.fixed) st.some;
  idle = idle;
  legal = m.legal;
}

-- an answer without an event
pub rests_still : {v w : View} → Standing v → (m : Moved v [] w) → halted (v.events ++ m.others) ≡ false → Rests v w
rests_still {v = v} {w = w} st m off = record {
  standing = standing_on st m (subst AllIdle (sym (same_here m st.owns)) st.idle);
  on = ap (λ (es : List Event). halted es) (seen_after v w m) ∙ off;
  takes_are = ap (λ (es : List Event). takes es) (events_here m st.owns);
}

-- ---- what is due first

pub due_found : (moment : ℕ) (x : Waiting) (v w : View) → Standing v → x.due ≤ moment → Called call.NextDue (answer.Due (Ok (Some x))) v w → DueIs moment (Ok (Some x)) v w
due_found moment x v w st le c =
    let m : Moved v [] w = moved_as c [] c.gives.0 in
    (m, rests_still st m c.gives.1, subst (λ (s : State). IsNextDue s x.number x.due) (sym (stays m)) c.gives.2, le)

pub due_later : (moment : ℕ) (x : Waiting) (v w : View) → Standing v → moment < x.due → Called call.NextDue (answer.Due (Ok (Some x))) v w → DueIs moment (Ok None) v w
due_later moment x v w st lt c =
    let m : Moved v [] w = moved_as c [] c.gives.0 in
    let next : IsNextDue (state_of w) x.number x.due = subst (λ (s : State). IsNextDue s x.number x.due) (sym (stays m)) c.gives.2 in (
      m,
      rests_still st m c.gives.1,
      λ n e d there is. ⊎_elim
          (λ (a : x.due < d). (omega (arith, lt, a)))
          (λ (b : (x.due ≡ d) × (x.number ≤ n)). let q = b.0 in (omega arith))
          (next.least n e d there is),
    )

pub due_never : (moment : ℕ) (v w : View) → Standing v → Called call.NextDue (answer.Due (Ok None)) v w → DueIs moment (Ok None) v w
due_never moment v w st c =
    let m : Moved v [] w = moved_as c [] c.gives.0 in
    let none : NothingDue (state_of w) = subst NothingDue (sym (stays m)) c.gives.2 in
    (m, rests_still st m c.gives.1, λ n e d there is. absurd (differ (sym (none n e there) ∙ is)))
  where
    differ : {d : ℕ} → None ≡ Some d → ⊥
    differ e = cc

pub later_than : (a b : ℕ) → false ≡ is_le (nat_cmp a b) → b < a
later_than a b e = dite (dec_lt b a) (λ lt. lt) (λ ge. dite (ℕ_discrete a b)
    (λ eq. differ (e ∙ ap is_le (sym (nat_cmp_is a b Equal eq))))
    (λ ne. let lt : a < b = (omega (arith, ge, ne)) in differ (e ∙ ap is_le (sym (nat_cmp_is a b Less lt)))))
  where
    differ : {A : Type 0} → false ≡ true → A
    differ e = absurd (cc)

-- a question that is refused makes no event
asks_none : (f : DeskFault) (fixed : Fixed) (es own : List Event) → Refuses fixed es call.NextDue f own → own ≡ []
asks_none StoreFailed fixed es own r = absurd (cc)
asks_none PostFailed fixed es own r = absurd (cc)
asks_none Spent fixed es own r = r.0
asks_none Halted fixed es own r = r.0
asks_none NoMemory fixed es own r = r.0

pub due_refused : (moment : ℕ) (f : DeskFault) (v w : View) → OwnsAll v → Called call.NextDue (answer.Due (Err f)) v w → DueIs moment (Err f) v w
due_refused moment f v w all c =
    let silent = asks_none f v.fixed (v.events ++ c.others) c.own c.gives in
    (moved_as c [] silent, stopped_asking ⊥ call.NextDue (answer.Due (Err f)) f v w c all (λ m h. h) c.gives silent)

-- ---- one entry less waits

below_other : (es : ByNumber Queued) (n k : ℕ) (e : Queued) → k ≤ n → waiting_below (map.insert es n e) k ≡ waiting_below es k
below_other es n zero e le = refl
below_other es n (suc k) e le =
    let lt : k < n = (omega arith) in
    let rest = below_other es n k e (omega arith) in
    let same : map.get (map.insert es n e) k ≡ map.get es k = at_other numbers es n e k (λ is. omega (arith, is, lt)) in
    (λ i. rest i + (if waits (same i) then 1 else 0))

fewer : (es : ByNumber Queued) (n k : ℕ) (e : Queued) (due : ℕ) → n < k → map.get es n ≡ Some e → e.due ≡ Some due
    → waiting_below (map.insert es n (record e { due = None })) k + 1 ≡ waiting_below es k
fewer es n zero e due lt there is = absurd (omega arith)
fewer es n (suc k) e due lt there is = dite (ℕ_discrete k n)
    (λ eq.
    let rest = below_other es n k (record e { due = None }) (omega arith) in
    let gone : map.get (map.insert es n (record e { due = None })) k ≡ Some (record e { due = None }) = subst (λ (j : ℕ). map.get (map.insert es n (record e { due = None })) j ≡ Some (record e { due = None })) (sym eq) (at_same numbers es n (record e { due = None })) in
    let was : map.get es k ≡ Some e = ap (λ (j : ℕ). map.get es j) eq ∙ there in
    let a : ◌≡◌ {A = ℕ} (if waits (map.get (map.insert es n (record e { due = None })) k) then 1 else 0) 0 = ap (λ (o : Option Queued). if waits o then 1 else 0) gone in
    let b : ◌≡◌ {A = ℕ} (if waits (map.get es k) then 1 else 0) 1 = ap (λ (o : Option Queued). if waits o then 1 else 0) was ∙ ap (λ (o : Option ℕ). if is_some o then 1 else 0) is in
    omega (arith, rest, a, b))
    (λ ne.
    let rest = fewer es n k e due (omega arith) there is in
    let same : map.get (map.insert es n (record e { due = None })) k ≡ map.get es k = at_other numbers es n (record e { due = None }) k ne in
    let a : ◌≡◌ {A = ℕ} (if waits (map.get (map.insert es n (record e { due = None })) k) then 1 else 0) (if waits (map.get es k) then 1 else 0) = ap (λ (o : Option Queued). if waits o then 1 else 0) same in
    omega (arith, rest, a))

-- what a Release leaves
pub record Released (s t : State) : Type 0 where
  pub idle : AllIdle t
  pub moment : t.moment ≡ s.moment
  pub fewer : waiting t + 1 ≡ waiting s

pub release_keeps : {c : Constants} {n : ℕ} {s t : State} → Step c s (Release n) t → BelowAt s → Released s t
release_keeps {n = n} {s = s} (step.release {due = due} {e = e} i there is le) below = record {
  idle = i;
  moment = refl;
  fewer = fewer s.post.entries n s.post.next e due (below.below n e there) there is;
}

-- ---- the releases so far

pub leads_none : (c : Constants) (until : ℕ) (s t : State) → s ≡ t → Leads c until releasing s [] releasing t
leads_none c until s t same rest p = subst (λ (x : State). Pace c until releasing x rest) (sym same) p

-- one Release more
pub leads_release : (c : Constants) (until : ℕ) (s t t' : State) (own : List Event) (n due : ℕ) → Leads c until releasing s own releasing t
    → IsNextDue t n due → due ≤ t.moment → t' ≡ after c t (Release n) → Leads c until releasing s (own ++ Release n ∷ []) releasing t'
leads_release c until s t t' own n due leads next le is rest p =
    subst (λ (es : List Event). Pace c until releasing s es) (sym (append_assoc own (Release n ∷ []) rest))
    (leads (Release n ∷ rest) (release next le (subst (λ (x : State). Pace c until releasing x rest) is p)))

-- what a loop of releases keeps
pub record Releasing (moment : ℕ) (v u : View) : Type 0 where
  pub own : List Event
  pub made : Made v own u
  pub leads : (until : ℕ) → Leads (constants v.fixed) until releasing (state_of v) own releasing (state_of u)
  pub limit : StopsAtLimit v own
  pub standing : Standing u
  pub takes_are : takes u.events ≡ takes v.events
  pub same : (state_of u).moment ≡ (state_of v).moment
  pub now : (state_of u).moment ≡ moment
  pub fewer : waiting (state_of u) ≤ waiting (state_of v)
  pub calm : Calm own u
  pub went : (waiting (state_of u) < waiting (state_of v)) ⊎ (state_of u ≡ state_of v)

pub releasing_start : (moment : ℕ) (v : View) → Standing v → (state_of v).moment ≡ moment → Releasing moment v v
releasing_start moment v st now = record {
  own = [];
  made = moved_none v st.legal;
  leads = λ until. leads_none (constants v.fixed) until (state_of v) (state_of v) refl;
  limit = λ left. tt;
  standing = st;
  takes_are = refl;
  same = refl;
  now = now;
  fewer = omega arith;
  calm = inl refl;
  went = inr refl;
}

-- a question changes nothing
pub releasing_asked : (moment : ℕ) (v u x : View) → Releasing moment v u → Moved u [] x → Rests u x → Releasing moment v x
releasing_asked moment v u x r m rests =
    let is : state_of x ≡ state_of u = same_here m r.standing.owns in
    let n : waiting (state_of x) ≡ waiting (state_of u) = ap waiting is in
    let less = r.fewer in
    record {
      own = r.own;
      made = subst (λ (es : List Event). Made v es x) (append-nil r.own) (made_append v u x r.own [] r.made m);
      leads = λ until rest p. r.leads until rest (subst (λ (s : State). Pace (constants v.fixed) until releasing s rest) is p);
      limit = r.limit;
      standing = rests.standing;
      takes_are = rests.takes_are ∙ r.takes_are;
      same = ap (λ (s : State). s.moment) is ∙ r.same;
      now = ap (λ (s : State). s.moment) is ∙ r.now;
      fewer = omega arith;
      calm = inr rests.on;
      went = ⊎_elim (λ (lt : waiting (state_of u) < waiting (state_of v)). inl (omega arith)) (λ (e : state_of u ≡ state_of v). inr (is ∙ e)) r.went;
    }

kept_fixed : (moment : ℕ) (v u : View) → Releasing moment v u → u.fixed ≡ v.fixed
kept_fixed moment v u r = (made_kept v u r.own r.made).1

pub may_release : (moment : ℕ) (x : Waiting) (v u : View) → Releasing moment v u → IsNextDue (state_of u) x.number x.due → x.due ≤ moment → Ready (call.Release x.number) u
may_release moment x v u r next le =
    let now = r.now in
    ((r.standing.owns, r.standing.idle), (next.it, x.due, next.there, next.due_is, omega arith))

released_here : (moment : ℕ) (n : ℕ) (v u x : View) (r : Releasing moment v u) → (m : Moved u (Release n ∷ []) x) → Released (state_of u) (state_of x)
released_here moment n v u x r m = release_keeps (step_here m r.standing.owns) (holding_of u.fixed u.events r.standing.legal).0

pub releasing_more : (moment : ℕ) (y : Waiting) (v u x : View) → Releasing moment v u → IsNextDue (state_of u) y.number y.due → y.due ≤ moment
    → Called (call.Release y.number) (answer.Plain (Ok tt)) u x → Releasing moment v x
releasing_more moment y v u x r next le c =
    let m : Moved u (Release y.number ∷ []) x = moved_as c (Release y.number ∷ []) c.gives in
    let k = released_here moment y.number v u x r m in
    let now = r.now in
    let less = r.fewer in
    let one = k.fewer in
    let fixed = kept_fixed moment v u r in
    let is : state_of x ≡ after (constants v.fixed) (state_of u) (Release y.number) =
    step_after (step_here m r.standing.owns) ∙ ap (λ (f : Fixed). after (constants f) (state_of u) (Release y.number)) fixed in
    record {
      own = r.own ++ Release y.number ∷ [];
      made = made_append v u x r.own (Release y.number ∷ []) r.made (made_one u x (Release y.number) m);
      leads = λ until. leads_release (constants v.fixed) until (state_of v) (state_of u) (state_of x) r.own y.number y.due (r.leads until) next (omega arith) is;
      limit = limit_same v u r.own (Release y.number ∷ []) r.standing.owns r.made r.takes_are r.limit (λ left. (left, tt));
      standing = standing_on r.standing m k.idle;
      takes_are = takes_push m r.standing.owns ∙ r.takes_are;
      same = k.moment ∙ r.same;
      now = k.moment ∙ r.now;
      fewer = omega arith;
      calm = inr (off_after m refl);
      went = inl (omega arith);
    }
  where
    takes_push : {v w : View} {n : ℕ} (m : Moved v (Release n ∷ []) w) → OwnsAll v → takes w.events ≡ takes v.events
    takes_push {v = v} {n = n} m all =
        ap (λ (es : List Event). takes es) (m.events ∙ ap (λ (es : List Event). es ++ Release n ∷ []) (ap (λ (es : List Event). v.events ++ es) (m.alone all) ∙ append-nil v.events))
        ∙ taken_push v.events (Release n)

pub releasing_smaller : (moment : ℕ) (y : Waiting) (v u x : View) → Releasing moment v u → Called (call.Release y.number) (answer.Plain (Ok tt)) u x → waiting (state_of x) < waiting (state_of u)
releasing_smaller moment y v u x r c =
    let m : Moved u (Release y.number ∷ []) x = moved_as c (Release y.number ∷ []) c.gives in
    let one = (released_here moment y.number v u x r m).fewer in
    omega arith

-- nothing is due any more
pub releasing_done : (moment : ℕ) (v u : View) → Releasing moment v u → NoneBy (state_of u) moment → halted u.events ≡ false → ReleasesAre (Ok tt) v u
releasing_done moment v u r none off =
    let now = r.now in
    record {
      own = r.own;
      made = r.made;
      limit = r.limit;
      end = (
        r.leads,
        record { standing = r.standing; on = off; takes_are = r.takes_are },
        r.same,
        (λ n e due there is. let d = none n e due there is in (omega arith)),
        r.fewer,
        (λ h. ⊎_elim (λ (lt : waiting (state_of u) < waiting (state_of v)). lt)
            (λ (e : state_of u ≡ state_of v).
            let due = h.2 in
            let b = none h.0 due.it h.1 (ap (λ (s : State). entry s h.0) e ∙ due.there) due.due_is in
            let le = h.3 in
            let same = r.same in absurd (omega arith))
            r.went),
      );
    }

-- a question that was refused
pub releasing_unasked : (moment : ℕ) (f : DeskFault) (v u x : View) → Releasing moment v u → DueIs moment (Err f) u x → ReleasesAre (Err f) v x
releasing_unasked moment f v u x r d = record {
  own = r.own;
  made = subst (λ (es : List Event). Made v es x) (append-nil r.own) (made_append v u x r.own [] r.made d.0);
  limit = r.limit;
  end = ((λ until. subst (λ (es : List Event). Pace (constants v.fixed) until releasing (state_of v) es) (append-nil r.own) (r.leads until [] ended)), stopped_there ⊥ f v u x r.own r.standing.owns r.made r.calm d.1);
}

-- a Release that was refused
pub releasing_refused : (moment : ℕ) (n : ℕ) (f : DeskFault) (v u x : View) → Releasing moment v u → Called (call.Release n) (answer.Plain (Err f)) u x → ReleasesAre (Err f) v x
releasing_refused moment n f v u x r c =
    let k = stopped ⊥ (call.Release n) (answer.Plain (Err f)) f u x c r.standing.owns (λ m h. h) c.gives in
    record {
      own = r.own ++ stop_of f;
      made = made_append v u x r.own (stop_of f) r.made k.0;
      limit = limit_same v u r.own (stop_of f) r.standing.owns r.made r.takes_are r.limit (limit_stop u f);
      end = ((λ until. r.leads until (stop_of f) (halts f until)), stopped_behind ⊥ f v u x r.own (stop_of f) r.standing.owns r.made r.calm k.1);
    }
  where
    halts : (f : DeskFault) (until : ℕ) → Pace (constants v.fixed) until releasing (state_of u) (stop_of f)
    halts StoreFailed until = cut_off
    halts PostFailed until = cut_off
    halts Spent until = ended
    halts Halted until = ended
    halts NoMemory until = ended

-- the entries that wait are as many after a question
pub asked_waits : (u x : View) → Standing u → Moved u [] x → waiting (state_of x) ≡ waiting (state_of u)
asked_waits u x st m = ap waiting (same_here m st.owns)

pub releasing_less : (moment : ℕ) (y : Waiting) (v u x z : View) → Releasing moment v u → Moved u [] x → Rests u x → Called (call.Release y.number) (answer.Plain (Ok tt)) x z → waiting (state_of z) < waiting (state_of u)
releasing_less moment y v u x z r m rests c =
    let a = asked_waits u x r.standing m in
    let b = releasing_smaller moment y v x z (releasing_asked moment v u x r m rests) c in
    omega arith
