-- Ticks, each with the releases of what is due then.
use Rattle.std.proofs.Common.{◌≡◌, inl, inr, ℕ, ◌<◌, ◌≤◌, max, List, [], ◌∷◌, ◌++◌, true, false, refl, sym, ap, ◌∙◌, subst, append_assoc, append-nil, arith}
use Rattle.std.specs.Prelude.{Ok, Err, Some, None}
use Rattle.nb_base.specs.declared.entry.Waiting.{Waiting}
use Rattle.nb_core.proofs.Bridge.{step_after}
use Rattle.nb_core.proofs.Pasts.{taken_push}
use Rattle.nb_core.specs.After.{after}
use Rattle.nb_core.specs.Calls.{View, Called, Ready, Refuses, OwnsAll, state_of}
use Rattle.nb_core.specs.Drained.{Drained, IsNextDue}
use Rattle.nb_core.specs.Legal.{halted}
use Rattle.nb_core.specs.Paced.{Pace, ended, tick, released, releasing, working, AllReleased, IsOwnEmpty}
use Rattle.nb_core.specs.Past.{Fixed, constants, takes}
use Rattle.nb_core.specs.State.{Constants, AllIdle}
use Rattle.nb_core.specs.Step.{Step}
use Rattle.nb_core.specs.Step as step
use Rattle.nb_core.specs.declared.answers.DeskFault.{DeskFault}
use Rattle.nb_core.specs.declared.answers.DeskFault.TheVariants.{StoreFailed, PostFailed, Spent, Halted, NoMemory}
use Rattle.nb_core.specs.declared.call.Answer.TheVariants as answer
use Rattle.nb_core.specs.declared.call.Call.TheVariants as call
use Rattle.nb_core.specs.declared.event.Event.{Event}
use Rattle.nb_core.specs.declared.event.Event.TheVariants.{Tick}
use Rattle.nb_core.specs.declared.state.State.{State}
use Rattle.nb_pump.specs.Drains.{Standing, Leads, StopsAtLimit, waiting, HasDue, NoneBy, Rests, DueIs, ReleasesAre, WindIs}
use Rattle.nb_pump.specs.Leases.{stop_of}
use Rattle.nb_pump.specs.Made.{Moved, Made}
use Rattle.nb_pump.proofs.Following.{Calm, stopped, stopped_asking, stopped_behind, stopped_there}
use Rattle.nb_pump.proofs.Limits.{limit_same, limit_stop}
use Rattle.nb_pump.proofs.Releasing.{same_here, step_here, standing_on, rests_still, events_here}
use Rattle.nb_pump.proofs.Views.{moved_as, off_after, made_append, made_one, made_kept, moved_none, stays}

-- ---- a Tick

-- what a Tick leaves
pub record Ticked (to : ℕ) (s t : State) : Type 0 where
  pub idle : AllIdle t
  pub moment : t.moment ≡ to
  pub waiting_is : waiting t ≡ waiting s
  pub due_is : (n due : ℕ) → IsNextDue s n due → IsNextDue t n due

tick_keeps : {c : Constants} {to : ℕ} {s t : State} → Step c s (Tick to) t → Ticked to s t
tick_keeps (step.tick i le) = record { idle = i; moment = refl; waiting_is = refl; due_is = λ n due d. record { it = d.it; there = d.there; due_is = d.due_is; least = d.least } }

-- what a loop of ticks keeps
pub record Winding (until now : ℕ) (v u : View) : Type 0 where
  pub own : List Event
  pub made : Made v own u
  pub leads : Leads (constants v.fixed) until working (state_of v) own working (state_of u)
  pub limit : StopsAtLimit v own
  pub standing : Standing u
  pub takes_are : takes u.events ≡ takes v.events
  pub now_is : (state_of u).moment ≡ now
  pub empty : IsOwnEmpty (constants u.fixed) (state_of u)
  pub calm : Calm own u

pub winding_start : (until now : ℕ) (v : View) → Standing v → (state_of v).moment ≡ now → IsOwnEmpty (constants v.fixed) (state_of v) → Winding until now v v
winding_start until now v st is empty = record {
  own = [];
  made = moved_none v st.legal;
  leads = λ rest p. p;
  limit = λ left. tt;
  standing = st;
  takes_are = refl;
  now_is = is;
  empty = empty;
  calm = inl refl;
}

-- a question changes nothing
pub winding_asked : (until now : ℕ) (v u x : View) → Winding until now v u → Moved u [] x → Rests u x → Winding until now v x
winding_asked until now v u x r m rests =
    let is : state_of x ≡ state_of u = same_here m r.standing.owns in
    record {
      own = r.own;
      made = subst (λ (es : List Event). Made v es x) (append-nil r.own) (made_append v u x r.own [] r.made m);
      limit = r.limit;
      leads = λ rest p. r.leads rest (subst (λ (s : State). Pace (constants v.fixed) until working s rest) is p);
      standing = rests.standing;
      takes_are = rests.takes_are ∙ r.takes_are;
      now_is = ap (λ (s : State). s.moment) is ∙ r.now_is;
      empty = subst (λ (y : Fixed × State). IsOwnEmpty (constants y.0) y.1) (λ i. (sym m.fixed i, sym is i)) r.empty;
      calm = inr rests.on;
    }

pub winding_unasked : (until now : ℕ) (f : DeskFault) (v u x : View) → Winding until now v u → DueIs until (Err f) u x → WindIs until (Err f) v x
winding_unasked until now f v u x r d = record {
  own = r.own;
  made = subst (λ (es : List Event). Made v es x) (append-nil r.own) (made_append v u x r.own [] r.made d.0);
  limit = r.limit;
  end = (subst (λ (es : List Event). Pace (constants v.fixed) until working (state_of v) es) (append-nil r.own) (r.leads [] ended), stopped_there ⊥ f v u x r.own r.standing.owns r.made r.calm d.1);
}

-- nothing is left that is due
pub winding_over : (until now : ℕ) (v u : View) → Winding until now v u → halted u.events ≡ false → NoneBy (state_of u) until → WindIs until (Ok None) v u
winding_over until now v u r off none = record {
  own = r.own;
  made = r.made;
  limit = r.limit;
  end = (r.leads, record { standing = r.standing; on = off; takes_are = r.takes_are }, record { idle = r.standing.idle; empty = r.empty; later = none });
}

pub may_tick : (until now to : ℕ) (x : Waiting) (v u : View) → Winding until now v u → to ≡ max now x.due → Ready (call.Tick to) u
may_tick until now to x v u r is = let at = r.now_is in ((r.standing.owns, r.standing.idle), omega arith)

-- after a Tick, before the releases
pub record Started (until to : ℕ) (v u : View) : Type 0 where
  pub own : List Event
  pub made : Made v own u
  pub leads : Leads (constants v.fixed) until working (state_of v) own releasing (state_of u)
  pub limit : StopsAtLimit v own
  pub standing : Standing u
  pub takes_are : takes u.events ≡ takes v.events
  pub now_is : (state_of u).moment ≡ to
  pub due : HasDue (state_of u)
  pub on : halted u.events ≡ false

kept_fixed : (until now : ℕ) (v u : View) → Winding until now v u → u.fixed ≡ v.fixed
kept_fixed until now v u r = (made_kept v u r.own r.made).1

takes_tick : {v w : View} {to : ℕ} (m : Moved v (Tick to ∷ []) w) → OwnsAll v → takes w.events ≡ takes v.events
takes_tick {v = v} {to = to} m all =
    ap (λ (es : List Event). takes es) (m.events ∙ ap (λ (es : List Event). es ++ Tick to ∷ []) (ap (λ (es : List Event). v.events ++ es) (m.alone all) ∙ append-nil v.events))
    ∙ taken_push v.events (Tick to)

pub winding_ticked : (until now to : ℕ) (x : Waiting) (v u w : View) → Winding until now v u → IsNextDue (state_of u) x.number x.due → x.due ≤ until → to ≡ max now x.due
    → Called (call.Tick to) (answer.Plain (Ok tt)) u w → Started until to v w
winding_ticked until now to x v u w r next le is c =
    let m : Moved u (Tick to ∷ []) w = moved_as c (Tick to ∷ []) c.gives in
    let k = tick_keeps (step_here m r.standing.owns) in
    let fixed = kept_fixed until now v u r in
    let at = r.now_is in
    let there : state_of w ≡ after (constants v.fixed) (state_of u) (Tick to) =
    step_after (step_here m r.standing.owns) ∙ ap (λ (f : Fixed). after (constants f) (state_of u) (Tick to)) fixed in
    let empty : IsOwnEmpty (constants v.fixed) (state_of u) = subst (λ (f : Fixed). IsOwnEmpty (constants f) (state_of u)) fixed r.empty in
    let same : to ≡ max (state_of u).moment x.due = is ∙ ap (λ (n : ℕ). max n x.due) (sym at) in
    record {
      own = r.own ++ Tick to ∷ [];
      made = made_append v u w r.own (Tick to ∷ []) r.made (made_one u w (Tick to) m);
      limit = limit_same v u r.own (Tick to ∷ []) r.standing.owns r.made r.takes_are r.limit (λ left. (left, tt));
      leads = λ rest p. subst (λ (es : List Event). Pace (constants v.fixed) until working (state_of v) es) (sym (append_assoc r.own (Tick to ∷ []) rest))
          (r.leads (Tick to ∷ rest) (tick empty next le same (subst (λ (s : State). Pace (constants v.fixed) until releasing s rest) there p)));
      standing = standing_on r.standing m k.idle;
      takes_are = takes_tick m r.standing.owns ∙ r.takes_are;
      now_is = k.moment;
      due = (x.number, x.due, k.due_is x.number x.due next, (let a = k.moment in omega arith));
      on = off_after m refl;
    }

pub tick_waits : (until now to : ℕ) (v u w : View) → Winding until now v u → Called (call.Tick to) (answer.Plain (Ok tt)) u w → waiting (state_of w) ≡ waiting (state_of u)
tick_waits until now to v u w r c =
    let m : Moved u (Tick to ∷ []) w = moved_as c (Tick to ∷ []) c.gives in (tick_keeps (step_here m r.standing.owns)).waiting_is

pub winding_unticked : (until now to : ℕ) (f : DeskFault) (v u w : View) → Winding until now v u → Called (call.Tick to) (answer.Plain (Err f)) u w → WindIs until (Err f) v w
winding_unticked until now to f v u w r c =
    let k = stopped ⊥ (call.Tick to) (answer.Plain (Err f)) f u w c r.standing.owns (λ m h. h) c.gives in
    record {
      own = r.own ++ stop_of f;
      made = made_append v u w r.own (stop_of f) r.made k.0;
      limit = limit_same v u r.own (stop_of f) r.standing.owns r.made r.takes_are r.limit (limit_stop u f);
      end = (r.leads (stop_of f) (halts f), stopped_behind ⊥ f v u w r.own (stop_of f) r.standing.owns r.made r.calm k.1);
    }
  where
    halts : (f : DeskFault) → Pace (constants v.fixed) until working (state_of u) (stop_of f)
    halts StoreFailed = Rattle.nb_core.specs.Paced.work tt ended
    halts PostFailed = Rattle.nb_core.specs.Paced.work tt ended
    halts Spent = ended
    halts Halted = ended
    halts NoMemory = ended

-- ---- and the releases then

-- after the releases, before the question whether the own queue is empty
pub record Settled (until to : ℕ) (v u : View) : Type 0 where
  pub own : List Event
  pub made : Made v own u
  pub leads : Leads (constants v.fixed) until working (state_of v) own working (state_of u)
  pub limit : StopsAtLimit v own
  pub standing : Standing u
  pub takes_are : takes u.events ≡ takes v.events
  pub now_is : (state_of u).moment ≡ to
  pub all : AllReleased (state_of u)
  pub on : halted u.events ≡ false

start_fixed : (until to : ℕ) (v u : View) → Started until to v u → u.fixed ≡ v.fixed
start_fixed until to v u r = (made_kept v u r.own r.made).1

pub winding_released : (until to : ℕ) (v u w : View) → Started until to v u → ReleasesAre (Ok tt) u w → Settled until to v w
winding_released until to v u w r x =
    let fixed = start_fixed until to v u r in
    let leads : Leads (constants v.fixed) until releasing (state_of u) x.own releasing (state_of w) =
    subst (λ (f : Fixed). Leads (constants f) until releasing (state_of u) x.own releasing (state_of w)) fixed (x.end.0 until) in
    record {
      own = r.own ++ x.own;
      made = made_append v u w r.own x.own r.made x.made;
      limit = limit_same v u r.own x.own r.standing.owns r.made r.takes_are r.limit x.limit;
      leads = λ rest p. subst (λ (es : List Event). Pace (constants v.fixed) until working (state_of v) es) (sym (append_assoc r.own x.own rest))
          (r.leads (x.own ++ rest) (leads rest (released x.end.3 p)));
      standing = x.end.1.standing;
      takes_are = x.end.1.takes_are ∙ r.takes_are;
      now_is = x.end.2 ∙ r.now_is;
      all = x.end.3;
      on = x.end.1.on;
    }

pub winding_less : (until to : ℕ) (v u w : View) → Started until to v u → ReleasesAre (Ok tt) u w → waiting (state_of w) < waiting (state_of u)
winding_less until to v u w r x = x.end.5 r.due

pub winding_unreleased : (until to : ℕ) (f : DeskFault) (v u w : View) → Started until to v u → ReleasesAre (Err f) u w → WindIs until (Err f) v w
winding_unreleased until to f v u w r x =
    let fixed = start_fixed until to v u r in
    record {
      own = r.own ++ x.own;
      made = made_append v u w r.own x.own r.made x.made;
      limit = limit_same v u r.own x.own r.standing.owns r.made r.takes_are r.limit x.limit;
      end = (r.leads x.own (subst (λ (c : Fixed). Pace (constants c) until releasing (state_of u) x.own) fixed (x.end.0 until)), stopped_behind ⊥ f v u w r.own x.own r.standing.owns r.made (inr r.on) x.end.1);
    }

settled_still : (until to : ℕ) (v u w : View) → Settled until to v u → Moved u [] w → Settled until to v w
settled_still until to v u w r m =
    let is : state_of w ≡ state_of u = same_here m r.standing.owns in
    record {
      own = r.own;
      made = subst (λ (es : List Event). Made v es w) (append-nil r.own) (made_append v u w r.own [] r.made m);
      limit = r.limit;
      leads = λ rest p. r.leads rest (subst (λ (s : State). Pace (constants v.fixed) until working s rest) is p);
      standing = standing_on r.standing m (subst AllIdle (sym is) r.standing.idle);
      takes_are = ap (λ (es : List Event). takes es) (events_here m r.standing.owns) ∙ r.takes_are;
      now_is = ap (λ (s : State). s.moment) is ∙ r.now_is;
      all = subst AllReleased (sym is) r.all;
      on = ap (λ (es : List Event). halted es) (events_here m r.standing.owns) ∙ r.on;
    }

-- the own queue is empty: time goes on
pub winding_on : (until to : ℕ) (v u w : View) → Settled until to v u → Called (call.IsDrained to) (answer.IsDrained (Ok true)) u w → Winding until to v w
winding_on until to v u w r c =
    let m : Moved u [] w = moved_as c [] c.gives.0 in
    let s = settled_still until to v u w r m in
    let drained : Drained (constants w.fixed) (state_of w) to = subst (λ (y : Fixed × State). Drained (constants y.0) y.1 to) (λ i. (sym m.fixed i, sym (stays m) i)) c.gives.2 in
    record { own = s.own; made = s.made; limit = s.limit; leads = s.leads; standing = s.standing; takes_are = s.takes_are; now_is = s.now_is; empty = drained.empty; calm = inr s.on }

pub drained_waits : (until to : ℕ) (v u w : View) → Settled until to v u → Called (call.IsDrained to) (answer.IsDrained (Ok true)) u w → waiting (state_of w) ≡ waiting (state_of u)
drained_waits until to v u w r c = let m : Moved u [] w = moved_as c [] c.gives.0 in ap waiting (same_here m r.standing.owns)

-- something stands there
pub winding_found : (until to : ℕ) (v u w : View) → Settled until to v u → Called (call.IsDrained to) (answer.IsDrained (Ok false)) u w → WindIs until (Ok (Some to)) v w
winding_found until to v u w r c =
    let m : Moved u [] w = moved_as c [] c.gives.0 in
    let s = settled_still until to v u w r m in
    let undrained : Drained (constants w.fixed) (state_of w) to → ⊥ = subst (λ (y : Fixed × State). Drained (constants y.0) y.1 to → ⊥) (λ i. (sym m.fixed i, sym (stays m) i)) c.gives.2 in
    let now = s.now_is in
    record {
      own = s.own;
      made = s.made;
      limit = s.limit;
      end = (
        s.leads,
        rests m c.gives.1 s,
        s.now_is,
        (λ empty. undrained (record { idle = s.standing.idle; empty = empty; later = λ n e due there is. let a = s.all n e due there is in (omega arith) })),
      );
    }
  where
    rests : (m : Moved u [] w) → halted (u.events ++ m.others) ≡ false → Settled until to v w → Rests v w
    rests m off s = record { standing = s.standing; on = (rests_still r.standing m off).on; takes_are = s.takes_are }

pub asks_none : (f : DeskFault) (to : ℕ) (fixed : Fixed) (es own : List Event) → Refuses fixed es (call.IsDrained to) f own → own ≡ []
asks_none StoreFailed to fixed es own r = absurd (cc)
asks_none PostFailed to fixed es own r = absurd (cc)
asks_none Spent to fixed es own r = r.0
asks_none Halted to fixed es own r = r.0
asks_none NoMemory to fixed es own r = r.0

pub winding_unknown : (until to : ℕ) (f : DeskFault) (v u w : View) → Settled until to v u → Called (call.IsDrained to) (answer.IsDrained (Err f)) u w → WindIs until (Err f) v w
unfolding settled_still
winding_unknown until to f v u w r c =
    let silent = asks_none f to u.fixed (u.events ++ c.others) c.own c.gives in
    let m : Moved u [] w = moved_as c [] silent in
    let s = settled_still until to v u w r m in
    let k = stopped_asking ⊥ (call.IsDrained to) (answer.IsDrained (Err f)) f u w c r.standing.owns (λ m h. h) c.gives silent in
    record {
      own = s.own;
      made = s.made;
      limit = s.limit;
      end = (subst (λ (es : List Event). Pace (constants v.fixed) until working (state_of v) es) (append-nil s.own) (s.leads [] ended), stopped_there ⊥ f v u w r.own r.standing.owns r.made (inr r.on) k);
    }

-- fewer entries wait after a Tick, its releases and a question
pub winding_fewer : (until now to : ℕ) (v u x w z : View) → Winding until now v u → Moved u [] x → (a : Winding until now v x) → Called (call.Tick to) (answer.Plain (Ok tt)) x w → Started until to v w → ReleasesAre (Ok tt) w z
    → (y : View) → Settled until to v z → Called (call.IsDrained to) (answer.IsDrained (Ok true)) z y → waiting (state_of y) < waiting (state_of u)
winding_fewer until now to v u x w z r m a c s rel y st d =
    let p : waiting (state_of x) ≡ waiting (state_of u) = ap waiting (same_here m r.standing.owns) in
    let q = tick_waits until now to v x w a c in
    let l = winding_less until to v w z s rel in
    let t = drained_waits until to v z y st d in
    omega arith
