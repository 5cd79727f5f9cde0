-- What a command made of a hub, as the history that the top call hands back.
use Rattle.std.proofs.Common.{◌≡◌, ◌≢◌, ◌⊎◌, inl, inr, ⊎_elim, ℕ, ◌+◌, ◌<◌, ◌≤◌, List, [], ◌∷◌, ◌++◌, length, take, Bool, true, false, refl, sym, ap, ◌∙◌, subst, append_assoc, append-nil, arith}
use Rattle.std.specs.Prelude.{Ok, Err, Result, Option}
use Rattle.std.proofs.Math.Seq.{take-length}
use Rattle.nb_base.specs.Messages.{Message}
use Rattle.nb_core.specs.After.{run}
use Rattle.nb_core.specs.Calls.{View, OwnsAll, state_of}
use Rattle.nb_core.specs.Drained.{Drained}
use Rattle.nb_core.specs.History.{opened}
use Rattle.nb_core.specs.Legal.{Legal, IsWithin, halted}
use Rattle.nb_core.specs.Paced.{Pace, loading, releasing, loads}
use Rattle.nb_core.specs.Past.{Fixed, IsLegal, constants, history, takes}
use Rattle.nb_core.specs.Standing.{Constants}
use Rattle.nb_core.specs.declared.answers.DeskFault.{DeskFault}
use Rattle.nb_core.specs.declared.answers.DeskFault.TheVariants as desk
use Rattle.nb_core.specs.declared.event.Event.{Event}
use Rattle.nb_core.specs.declared.history.History.{History}
use Rattle.nb_core.specs.declared.state.State.{State}
use Rattle.nb_endpoint.specs.Asked.{Asked}
use Rattle.nb_endpoint.specs.Follows.{Begins, RunEvents, PlanEvents, FollowsAs, IsThrough, constants_of, state_in, until_of}
use Rattle.nb_endpoint.specs.Works.{RunIs, PlanIs, Works, IsUnbegun, Does, chore_of}
use Rattle.nb_endpoint.specs.declared.chore.Chore.{Chore}
use Rattle.nb_endpoint.specs.declared.chore.Chore.TheVariants as chore
use Rattle.nb_endpoint.specs.declared.status.Status.{Status}
use Rattle.nb_endpoint.proofs.Planning.{no_events, stop_at_most, planned, unbegun}
use Rattle.nb_endpoint.proofs.Running.{loads_in, none_behind, paced_loads, paced_broken, beginning, keeps_loads, keeps_stop}
use Rattle.nb_pump.proofs.Views.{made_alone, made_kept}
use Rattle.nb_pump.specs.Drains.{DrainIs, KeepsLimit}
use Rattle.nb_pump.specs.Leases.{stop_of}
use Rattle.nb_pump.specs.Plans.{Goes, loads_of, returns_of, purges_of}
use Rattle.nb_base.specs.declared.settings.Settings.{Settings}
use Rattle.nb_hub.specs.Returnable.{returnable}
use Rattle.nb_store.specs.Lookups.{purgeable}
use Rattle.nb_words.specs.declared.words.Command.{Command}
use Rattle.nb_words.specs.declared.words.Command.TheVariants as command

-- ---- what never changes

run_fixed : (messages : List Message) (until : ℕ) (r : Result Bool DeskFault) (v w : View) → RunIs messages until r v w → w.fixed ≡ v.fixed
run_fixed messages until (Ok b) v w x =
    ⊎_elim
    (λ (bad : ⊥). absurd bad)
    (λ (y : (u : View) × Goes (loads_of messages) (Ok tt) v u × DrainIs until releasing (Ok b) u w). (made_kept y.0 w y.2.own y.2.made).1 ∙ (made_kept v y.0 (y.1.done ++ []) y.1.made).1)
    x
run_fixed messages until (Err f) v w x =
    ⊎_elim
    (λ (g : Goes (loads_of messages) (Err f) v w). (made_kept v w (g.done ++ stop_of f) g.made).1)
    (λ (y : (u : View) × Goes (loads_of messages) (Ok tt) v u × DrainIs until releasing (Err f) u w). (made_kept y.0 w y.2.own y.2.made).1 ∙ (made_kept v y.0 (y.1.done ++ []) y.1.made).1)
    x

plan_fixed : (plan : List Event) (r : Result Bool DeskFault) (v w : View) → PlanIs plan r v w → w.fixed ≡ v.fixed
plan_fixed plan (Ok b) v w x = (made_kept v w (x.1.done ++ []) x.1.made).1
plan_fixed plan (Err f) v w x =
    ⊎_elim
    (λ (g : Goes plan (Err f) v w). (made_kept v w (g.done ++ stop_of f) g.made).1)
    (λ (u : IsUnbegun f v w). ap (λ (y : View). y.fixed) u.1)
    x

pub does_fixed : (chore : Chore) (messages : List Message) (until : ℕ) (r : Result Bool DeskFault) (v w : View) → Does chore messages until r v w → w.fixed ≡ v.fixed
does_fixed chore.Handle messages until r v w x = run_fixed messages until r v w x
does_fixed chore.Rest messages until r v w x = plan_fixed [] r v w x
does_fixed (chore.Return ns) messages until r v w x = plan_fixed (returns_of ns) r v w x
does_fixed (chore.Purge ids) messages until r v w x = plan_fixed (purges_of ids) r v w x

pub works_fixed : (c : Command) (messages : List Message) (until : ℕ) (r : Result Bool DeskFault) (v w : View) → Works c messages until r v w → w.fixed ≡ v.fixed
works_fixed c messages until r v w x = does_fixed (chore_of c v) messages until r v w x

-- ---- what the history is

-- the history is what was asked for, from what the hub's one caller saw first to what he sees
pub record Over (workers : ℕ) (a : Asked) (v w : View) (h : History) : Type 0 where
  pub none : v.events ≡ []
  pub events : w.events ≡ h.events
  pub owns : OwnsAll v
  pub same : w.fixed ≡ v.fixed
  pub constants_are : constants v.fixed ≡ constants_of a
  pub turns : v.fixed.turns ≡ a.said.turns
  pub opening : v.fixed.opening ≡ h.opening
  pub moment : h.opening.moment ≡ a.moment
  pub crew : h.opening.workers ≡ workers
  pub legal : IsLegal w.fixed w.events
  pub some : 0 < a.said.turns

module _ (workers : ℕ) (a : Asked) (v w : View) (h : History) (o : Over workers a v w h) where
  -- the constants and the history, as they are seen at the end
  seen_as : ◌≡◌ {A = Constants × History} (constants w.fixed, history w.fixed w.events) (constants_of a, h)
  seen_as =
      let c : constants w.fixed ≡ constants_of a = ap constants o.same ∙ o.constants_are in
      let f : w.fixed.opening ≡ h.opening = ap (λ (x : Fixed). x.opening) o.same ∙ o.opening in
      λ i. (c i, record { opening = f i; events = o.events i })

  pub state_is : state_of w ≡ state_in a h
  state_is = ap (λ (x : Constants × History). run x.0 (opened x.1.opening) x.1.events) seen_as

  pub begins : Begins workers a h
  begins = record {
    moment = o.moment;
    crew = o.crew;
    legal = subst (λ (x : Constants × History). Legal x.0 x.1 (run x.0 (opened x.1.opening) x.1.events)) seen_as o.legal.legal;
    within = subst (λ (x : ℕ × List Event). IsWithin x.0 x.1) (λ i. ((ap (λ (x : Fixed). x.turns) o.same ∙ o.turns) i, o.events i)) o.legal.within;
  }

  -- what a caller without others made of a history without events
  made_here : (own : List Event) → Rattle.nb_pump.specs.Made.Made v own w → h.events ≡ own
  made_here own m = sym o.events ∙ made_alone v w own o.owns m ∙ ap (λ (es : List Event). es ++ own) o.none

  abbrev start_state : State
  start_state = opened h.opening

  broken_events : (status : Status) (f : DeskFault) (until : ℕ) → until ≡ until_of a h → (IsThrough status → ⊥) → Goes (loads_of a.messages) (Err f) v w → RunEvents a status h
  broken_events status f until same fails g =
      let b = beginning a.messages g.done g.left g.split in
      let events : h.events ≡ loads_of (take b.count a.messages) ++ stop_of f = made_here (g.done ++ stop_of f) g.made ∙ ap (λ (es : List Event). es ++ stop_of f) b.done_is in
      record {
        count = b.count;
        bound = b.bound;
        loaded = ap loads events ∙ loads_in (take b.count a.messages) (stop_of f) ∙ ap (λ (ms : List Message). take b.count a.messages ++ ms) (no_loads f) ∙ append-nil (take b.count a.messages);
        paced = subst (λ (es : List Event). Pace (constants_of a) (until_of a h) loading start_state es) (sym events) (paced_broken (constants_of a) (until_of a h) start_state (take b.count a.messages) f);
        all = λ through. absurd (fails through);
        short = λ less. (stop_of f, events, stop_at_most f);
        limit = subst (λ (es : List Event). KeepsLimit a.said.turns 0 es) (sym events) (keeps_loads a.said.turns 0 (take b.count a.messages) (stop_of f) (keeps_stop a.said.turns 0 f));
      }
    where
      no_loads : (f : DeskFault) → loads (stop_of f) ≡ []
      no_loads desk.StoreFailed = refl
      no_loads desk.PostFailed = refl
      no_loads desk.Spent = refl
      no_loads desk.Halted = refl
      no_loads desk.NoMemory = refl

  drained_events : (status : Status) (r : Result Bool DeskFault) (u : View) → Goes (loads_of a.messages) (Ok tt) v u → DrainIs (until_of a h) releasing r u w → RunEvents a status h
  drained_events status r u g d =
      let loaded_all : loads_of a.messages ≡ g.done ++ [] = g.split ∙ ap (λ (es : List Event). g.done ++ es) g.end.0 in
      let seen : u.events ≡ loads_of a.messages = made_alone v u (g.done ++ []) o.owns g.made ∙ ap (λ (es : List Event). es ++ (g.done ++ [])) o.none ∙ sym loaded_all in
      let fixed : u.fixed ≡ v.fixed = (made_kept v u (g.done ++ []) g.made).1 in
      let whole : w.events ≡ u.events ++ d.own = made_alone u w d.own g.end.1.owns d.made in
      let events : h.events ≡ loads_of a.messages ++ d.own = sym o.events ∙ whole ∙ ap (λ (es : List Event). es ++ d.own) seen in
      let c : constants u.fixed ≡ constants_of a = ap constants fixed ∙ o.constants_are in
      let op : u.fixed.opening ≡ h.opening = ap (λ (x : Fixed). x.opening) fixed ∙ o.opening in
      let behind : Pace (constants_of a) (until_of a h) releasing (run (constants_of a) start_state (loads_of a.messages)) d.own =
      subst (λ (x : Constants × History). Pace x.0 (until_of a h) releasing (run x.0 (opened x.1.opening) x.1.events) d.own) (λ i. (c i, record { opening = op i; events = seen i })) d.paced in
      let zero : takes u.events ≡ 0 = g.end.4 ∙ ap takes o.none in
      let turns : u.fixed.turns ≡ a.said.turns = ap (λ (x : Fixed). x.turns) fixed ∙ o.turns in
      let some = o.some in
      let all : take (length a.messages) a.messages ≡ a.messages = take-length a.messages in
      record {
        count = length a.messages;
        bound = omega arith;
        loaded = ap loads events ∙ loads_in a.messages d.own ∙ ap (λ (ms : List Message). a.messages ++ ms) (none_behind d.paced tt) ∙ append-nil a.messages ∙ sym all;
        paced = subst (λ (es : List Event). Pace (constants_of a) (until_of a h) loading start_state es) (sym events) (paced_loads (constants_of a) (until_of a h) start_state a.messages d.own behind);
        all = λ through. refl;
        short = λ less. absurd (omega (arith, less));
        limit = subst (λ (es : List Event). KeepsLimit a.said.turns 0 es) (sym events)
            (keeps_loads a.said.turns 0 a.messages d.own (subst (λ (x : ℕ × ℕ). KeepsLimit x.0 x.1 d.own) (λ i. (turns i, zero i)) (d.limit (omega (arith, zero, turns, some)))));
      }

  pub run_events : (status : Status) (r : Result Bool DeskFault) → (IsThrough status → (b : Bool) × (r ≡ Ok b)) → RunIs a.messages (until_of a h) r v w → RunEvents a status h
  run_events status (Ok b) through x = ⊎_elim (λ (bad : ⊥). absurd bad) (λ (y : (u : View) × Goes (loads_of a.messages) (Ok tt) v u × DrainIs (until_of a h) releasing (Ok b) u w). drained_events status (Ok b) y.0 y.1 y.2) x
  run_events status (Err f) through x =
      ⊎_elim
      (λ (g : Goes (loads_of a.messages) (Err f) v w). broken_events status f (until_of a h) refl (λ t. differ (through t).1) g)
      (λ (y : (u : View) × Goes (loads_of a.messages) (Ok tt) v u × DrainIs (until_of a h) releasing (Err f) u w). drained_events status (Err f) y.0 y.1 y.2)
      x
    where
      differ : {b : Bool} → Err f ≡ Ok b → ⊥
      differ e = cc

  -- the events of a plan
  plan_events : (plan : List Event) (status : Status) (r : Result Bool DeskFault) → (IsThrough status → (b : Bool) × (r ≡ Ok b)) → PlanIs plan r v w → PlanEvents plan status h
  plan_events plan status (Ok b) through x = planned plan (Ok tt) v w status h o.owns o.none o.events (λ t. refl) x.1
  plan_events plan status (Err f) through x =
      ⊎_elim
      (λ (g : Goes plan (Err f) v w). planned plan (Err f) v w status h o.owns o.none o.events (λ t. differ (through t).1) g)
      (λ (u : IsUnbegun f v w). unbegun plan f v w status h o.none o.events (λ t. differ (through t).1) u)
      x
    where
      differ : {A : Type 0} {b : Bool} → Err f ≡ Ok b → A
      differ e = absurd cc

  pub opens_as : ◌≡◌ {A = Constants × State} (constants v.fixed, state_of v) (constants_of a, opened h.opening)
  opens_as =
      let c = o.constants_are in
      let op = o.opening in
      λ i. (c i, run (c i) (opened (op i)) (o.none i))

  pub follows : (c : Command) → a.said.command ≡ c → (status : Status) (r : Result Bool DeskFault) → (IsThrough status → (b : Bool) × (r ≡ Ok b)) → c ≢ command.Sample
      → Works c a.messages (until_of a h) r v w → FollowsAs c a status h
  follows command.Run is status r through built x = run_events status r through x
  follows command.Show is status r through built x = no_events r v w h o.owns o.none o.events x
  follows command.Retry is status r through built x =
      subst (λ (y : Constants × State). PlanEvents (returns_of (returnable y.0 y.1)) status h) opens_as (plan_events _ status r through x)
  follows command.Purge is status r through built x =
      let settings : v.fixed.settings ≡ a.settings = ap (λ (y : Constants). y.settings) o.constants_are in
      let start : state_of v ≡ opened h.opening = ap (λ (y : Constants × State). y.1) opens_as in
      subst (λ (y : Settings × State). PlanEvents (purges_of (purgeable y.1.tables y.0.retention y.1.moment)) status h) (λ i. (settings i, start i)) (plan_events _ status r through x)
  follows command.Sample is status r through built x = absurd (built refl)
