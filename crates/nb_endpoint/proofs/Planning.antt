-- The events of a plan, in a history without others.
use Rattle.std.proofs.Common.{◌≡◌, ◌≢◌, ◌⊎◌, inl, inr, ⊎_elim, ℕ, List, [], ◌∷◌, ◌++◌, false, refl, sym, ap, ◌∙◌, subst, append-nil}
use Rattle.std.specs.Prelude.{Ok, Err, Result, Bool}
use Rattle.nb_base.specs.declared.entry.Which.TheVariants.{Base, Post}
use Rattle.nb_core.specs.Calls.{View, OwnsAll}
use Rattle.nb_core.specs.Legal.{halted}
use Rattle.nb_core.specs.declared.answers.DeskFault.{DeskFault}
use Rattle.nb_core.specs.declared.answers.DeskFault.TheVariants as desk
use Rattle.nb_core.specs.declared.event.Event.{Event}
use Rattle.nb_core.specs.Spent.{IsPostSpent}
use Rattle.nb_core.specs.declared.event.Event.TheVariants.{Halt, Purge}
use Rattle.nb_core.specs.declared.state.State.{State}
use Rattle.nb_core.specs.declared.history.History.{History}
use Rattle.nb_endpoint.specs.Follows.{IsHaltAtMost, IsThrough, PlanEvents}
use Rattle.nb_endpoint.specs.Rows.{IsPutNext}
use Rattle.nb_endpoint.specs.Works.{Works, IsListed, IsUnbegun, PlanIs}
use Rattle.nb_endpoint.proofs.Running.{head_is}
use Rattle.nb_words.specs.declared.words.Command.{Command}
use Rattle.nb_words.specs.declared.words.Command.TheVariants as command
use Rattle.nb_endpoint.specs.declared.status.Status.{Status}
use Rattle.nb_base.specs.Messages.{Message}
use Rattle.nb_pump.proofs.Views.{made_alone}
use Rattle.nb_pump.specs.Leases.{stop_of}
use Rattle.nb_pump.specs.Plans.{Goes, NeedsEntry, PutsEntry, purges_of, stop_by}

pub stop_at_most : (f : DeskFault) → IsHaltAtMost (stop_of f)
stop_at_most desk.StoreFailed = inr (Base, refl)
stop_at_most desk.PostFailed = inr (Post, refl)
stop_at_most desk.Spent = inl refl
stop_at_most desk.Halted = inl refl
stop_at_most desk.NoMemory = inl refl

pub stop_by_most : (r : Result (Unit {0}) DeskFault) → IsHaltAtMost (stop_by r)
stop_by_most (Ok u) = inl refl
stop_by_most (Err f) = stop_at_most f

-- a plan that was gone through in a history without an event before
pub planned : (plan : List Event) (r : Result (Unit {0}) DeskFault) (v w : View) (status : Status) (h : History) → OwnsAll v → v.events ≡ [] → w.events ≡ h.events
    → (IsThrough status → r ≡ Ok tt) → Goes plan r v w → PlanEvents plan status h
planned plan (Ok u) v w status h all none same ok g = record {
  done = g.done;
  left = g.left;
  stop = [];
  split = g.split;
  events = sym same ∙ made_alone v w (g.done ++ []) all g.made ∙ ap (λ (es : List Event). es ++ (g.done ++ [])) none;
  halts = inl refl;
  all = λ through. (g.end.0, refl);
}
planned plan (Err f) v w status h all none same ok g = record {
  done = g.done;
  left = g.left;
  stop = stop_of f;
  split = g.split;
  events = sym same ∙ made_alone v w (g.done ++ stop_of f) all g.made ∙ ap (λ (es : List Event). es ++ (g.done ++ stop_of f)) none;
  halts = stop_at_most f;
  all = λ through. absurd (differ (ok through));
}
  where
    differ : ◌≡◌ {A = Result (Unit {0}) DeskFault} (Err f) (Ok tt) → ⊥
    differ e = absurd cc

-- a plan of which nothing was begun
pub unbegun : (plan : List Event) (f : DeskFault) (v w : View) (status : Status) (h : History) → v.events ≡ [] → w.events ≡ h.events → (IsThrough status → ⊥) → IsUnbegun f v w → PlanEvents plan status h
unbegun plan f v w status h none same stops u = record {
  done = [];
  left = plan;
  stop = [];
  split = refl;
  events = sym same ∙ ap (λ (x : View). x.events) u.1 ∙ none;
  halts = inl refl;
  all = λ through. absurd (stops through);
}

-- ---- the next event of a plan

pub none_left : (done left : List Event) → [] ≡ done ++ left → left ≡ []
none_left [] left split = sym split
none_left (e ∷ done) left split = absurd (cc)

pub post_spent : (left : List Event) (s : State) → NeedsEntry left s → IsPostSpent s
post_spent [] s n = absurd n
post_spent (e ∷ es) s n = n.1

pub put_next : (plan : List Event) (h : History) (done left : List Event) (s : State) → plan ≡ done ++ left → h.events ≡ done → NeedsEntry left s → IsPutNext plan h
put_next plan h done [] s split same n = absurd n
put_next plan h done (e ∷ es) s split same n = (e, es, split ∙ ap (λ (xs : List Event). xs ++ e ∷ es) (sym same), n.0)

purges_alone : (ids : List (List ℕ)) (done : List Event) (e : Event) (es : List Event) → purges_of ids ≡ done ++ (e ∷ es) → PutsEntry e → ⊥
purges_alone [] [] e es split puts = absurd (cc)
purges_alone [] (d ∷ done) e es split puts = absurd (cc)
purges_alone (id ∷ ids) [] e es split puts = subst PutsEntry (sym (head_is split).0) puts
purges_alone (id ∷ ids) (d ∷ done) e es split puts = purges_alone ids done e es (head_is split).1 puts

-- no Purge puts an entry
pub no_put : (ids : List (List ℕ)) (done left : List Event) (s : State) → purges_of ids ≡ done ++ left → NeedsEntry left s → ⊥
no_put ids done [] s split n = n
no_put ids done (e ∷ es) s split n = purges_alone ids done e es split n.0

-- without a plan there is no event
pub no_events : (r : Result Bool DeskFault) (v w : View) (h : History) → OwnsAll v → v.events ≡ [] → w.events ≡ h.events → PlanIs [] r v w → h.events ≡ []
no_events (Ok b) v w h all none same x =
    let g = x.1 in
    sym same ∙ made_alone v w (g.done ++ []) all g.made ∙ ap (λ (es : List Event). es ++ (g.done ++ [])) none ∙ append-nil g.done ∙ none_done g.done g.left g.split
  where
    none_done : (done left : List Event) → [] ≡ done ++ left → done ≡ []
    none_done [] left split = refl
    none_done (e ∷ done) left split = absurd (cc)
no_events (Err f) v w h all none same x = ⊎_elim
    (λ (g : Goes [] (Err f) v w). absurd (g.some (none_left g.done g.left g.split)))
    (λ (u : IsUnbegun f v w). sym same ∙ ap (λ (y : View). y.events) u.1 ∙ none)
    x

-- want of memory before anything is done
pub nothing_done : (c : Command) (messages : List Message) (until : ℕ) (v : View) → IsListed c → halted v.events ≡ false → Works c messages until (Err desk.NoMemory) v v
nothing_done command.Run messages until v listed on = absurd listed
nothing_done command.Show messages until v listed on = absurd listed
nothing_done command.Retry messages until v listed on = inr (refl, refl, on)
nothing_done command.Purge messages until v listed on = inr (refl, refl, on)
nothing_done command.Sample messages until v listed on = absurd listed
