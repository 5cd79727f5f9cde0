-- What the status says of the history.
use Rattle.std.proofs.Common.{◌≡◌, ◌⊎◌, inl, inr, ⊎_elim, ℕ, ◌<◌, ◌≤◌, List, [], ◌∷◌, ◌++◌, length, Bool, true, false, refl, sym, ap, ◌∙◌, subst, append-nil, arith}
use Rattle.std.specs.Prelude.{Ok, Err, Result, Option, Some, None}
use Rattle.nb_base.specs.declared.entry.Which.{Which}
use Rattle.nb_base.specs.declared.entry.Which.TheVariants.{Base, Post}
use Rattle.nb_core.specs.Calls.{View, OwnsAll, state_of}
use Rattle.nb_core.specs.Drained.{Drained}
use Rattle.nb_core.specs.Legal.{halted}
use Rattle.nb_core.specs.Paced.{releasing, loads}
use Rattle.nb_core.specs.Past.{Fixed, constants, takes}
use Rattle.nb_core.specs.Spent.{IsPostSpent, IsWorkerSpent}
use Rattle.nb_core.specs.State.{AllIdle}
use Rattle.nb_core.specs.Standing.{Constants}
use Rattle.nb_core.specs.declared.answers.DeskFault.{DeskFault}
use Rattle.nb_core.specs.declared.answers.DeskFault.TheVariants as desk
use Rattle.nb_core.specs.declared.event.Event.{Event}
use Rattle.nb_core.specs.declared.history.History.{History}
use Rattle.nb_core.specs.declared.state.State.{State}
use Rattle.nb_endpoint.specs.Asked.{Asked}
use Rattle.nb_endpoint.specs.Faults.{IsMet, IsStatusOf, EndIs}
use Rattle.nb_endpoint.specs.Follows.{IsThrough, constants_of, state_in, until_of}
use Rattle.nb_endpoint.specs.Printing.{PrintIs, Stays}
use Rattle.nb_endpoint.specs.Rows.{Shows, IsDrained, IsSpentIn, IsSpentAs, IsPutNext, HasLoads}
use Rattle.nb_endpoint.specs.Works.{Works, PlanIs, RunIs, IsUnbegun}
use Rattle.nb_endpoint.specs.declared.printing.Worked.{Worked}
use Rattle.nb_endpoint.specs.declared.status.Status.{Status}
use Rattle.nb_endpoint.specs.declared.status.Status.TheVariants.{Done, NotDrained, Words, Script, Settings, Input, ReadFault, WriteFault, BaseFault, PostFault, NoMemory, Damaged, Spent}
use Rattle.nb_endpoint.proofs.Ending.{met}
use Rattle.nb_endpoint.proofs.Performing.{Over, state_is, opens_as}
use Rattle.nb_endpoint.proofs.Planning.{no_put, none_left, post_spent, put_next}
use Rattle.nb_endpoint.proofs.Running.{left_some}
use Rattle.nb_hub.specs.Kept.{failed_store}
use Rattle.nb_hub.specs.Returnable.{returnable}
use Rattle.nb_pump.proofs.Views.{made_alone}
use Rattle.nb_pump.specs.Drains.{DrainIs, IsSomeSpent}
use Rattle.nb_pump.specs.Leases.{stop_of}
use Rattle.nb_pump.specs.Made.{Made}
use Rattle.nb_pump.specs.Plans.{Goes, NeedsEntry, PutsEntry, loads_of, returns_of, purges_of}
use Rattle.nb_pump.specs.Stops.{StopsBy}
use Rattle.nb_store.specs.Lookups.{purgeable}
use Rattle.nb_pump.proofs.Working.{within_le}
use Rattle.nb_words.specs.declared.words.Command.{Command}
use Rattle.nb_words.specs.declared.words.Command.TheVariants as command

-- what the history shows of work that was done, or met a fault
abbrev pub Came : Asked → History → Result Bool DeskFault → Type 0
Came a h (Ok true) = (halted h.events ≡ false) × (a.said.command ≡ command.Run → IsDrained a h)
Came a h (Ok false) = (halted h.events ≡ false) × (a.said.command ≡ command.Run) × (IsDrained a h → ⊥) × (takes h.events ≡ a.said.turns) × AllIdle (state_in a h)
Came a h (Err f) = IsMet f h.events × (f ≡ desk.Spent → IsSpentIn a h)

-- ---- the end of the work

-- the report of work that was done
done_shows : (a : Asked) (h : History) (status : Status) (o0 o1 : ℕ) → (halted h.events ≡ false) × (a.said.command ≡ command.Run → IsDrained a h) → Stays Done status o0 o1 → Shows a status h
done_shows a h Done o0 o1 c s = c
done_shows a h (NotDrained t) o0 o1 c s = absurd cc
done_shows a h Words o0 o1 c s = absurd cc
done_shows a h (Script line column kind) o0 o1 c s = absurd cc
done_shows a h (Settings key kind) o0 o1 c s = absurd cc
done_shows a h (Input line kind) o0 o1 c s = absurd cc
done_shows a h (ReadFault source) o0 o1 c s = absurd cc
done_shows a h WriteFault o0 o1 c s = (c.0, λ run. inl (c.1 run))
done_shows a h BaseFault o0 o1 c s = absurd cc
done_shows a h PostFault o0 o1 c s = absurd cc
done_shows a h NoMemory o0 o1 c s = c.0
done_shows a h (Damaged store space key) o0 o1 c s = absurd cc
done_shows a h Spent o0 o1 c s = absurd cc

-- the report of work for which no Take is left
limit_shows : (a : Asked) (h : History) (status : Status) (o0 o1 : ℕ) → Came a h (Ok false) → Stays (NotDrained a.said.turns) status o0 o1 → Shows a status h
limit_shows a h Done o0 o1 c s = absurd cc
limit_shows a h (NotDrained t) o0 o1 c s = (c.0, c.1, c.2, named s, c.3 ∙ sym (named s), c.4)
  where
    named : NotDrained t ≡ NotDrained a.said.turns → t ≡ a.said.turns
    named e = cc
limit_shows a h Words o0 o1 c s = absurd cc
limit_shows a h (Script line column kind) o0 o1 c s = absurd cc
limit_shows a h (Settings key kind) o0 o1 c s = absurd cc
limit_shows a h (Input line kind) o0 o1 c s = absurd cc
limit_shows a h (ReadFault source) o0 o1 c s = absurd cc
limit_shows a h WriteFault o0 o1 c s = (c.0, λ run. inr (c.3, c.4))
limit_shows a h BaseFault o0 o1 c s = absurd cc
limit_shows a h PostFault o0 o1 c s = absurd cc
limit_shows a h NoMemory o0 o1 c s = c.0
limit_shows a h (Damaged store space key) o0 o1 c s = absurd cc
limit_shows a h Spent o0 o1 c s = absurd cc

-- a fault
fault_shows : (a : Asked) (h : History) (f : DeskFault) (status : Status) → Came a h (Err f) → IsStatusOf f status → Shows a status h
fault_shows a h desk.StoreFailed status c s = subst (λ (x : Status). Shows a x h) (sym s) c.0
fault_shows a h desk.PostFailed status c s = subst (λ (x : Status). Shows a x h) (sym s) c.0
fault_shows a h desk.Spent status c s = subst (λ (x : Status). Shows a x h) (sym s) (c.0, c.1 refl)
fault_shows a h desk.Halted status c s = absurd c.0
fault_shows a h desk.NoMemory status c s = subst (λ (x : Status). Shows a x h) (sym s) c.0

pub shows : (a : Asked) (h : History) (r : Result Bool DeskFault) (s : State) (x : Worked) (old new : Option (List ℕ)) (o0 o1 : ℕ) → Came a h r → EndIs r a.said.turns h.events s x old new o0 o1 → Shows a x.status h
shows a h (Ok true) s x old new o0 o1 c e = done_shows a h x.status o0 o1 c e.stays
shows a h (Ok false) s x old new o0 o1 c e = limit_shows a h x.status o0 o1 c e.stays
shows a h (Err f) s x old new o0 o1 c e = fault_shows a h f x.status c e.0

-- ---- a status with which the work is through comes of work that was done

fault_stops : (f : DeskFault) (status : Status) → IsStatusOf f status → IsThrough status → ⊥
fault_stops desk.StoreFailed status s t = subst IsThrough s t
fault_stops desk.PostFailed status s t = subst IsThrough s t
fault_stops desk.Spent status s t = subst IsThrough s t
fault_stops desk.Halted status s t = s
fault_stops desk.NoMemory status s t = subst IsThrough s t

pub through : (r : Result Bool DeskFault) (turns : ℕ) (es : List Event) (s : State) (x : Worked) (old new : Option (List ℕ)) (o0 o1 : ℕ) → EndIs r turns es s x old new o0 o1 → IsThrough x.status → (b : Bool) × (r ≡ Ok b)
through (Ok b) turns es s x old new o0 o1 e t = (b, refl)
through (Err f) turns es s x old new o0 o1 e t = absurd (fault_stops f x.status e.0 t)

-- ---- what the work came to

module _ (workers : ℕ) (a : Asked) (v w : View) (h : History) (o : Over workers a v w h) where
  off_here : halted w.events ≡ false → halted h.events ≡ false
  off_here off = ap halted (sym o.events) ∙ off

  ends_at : ◌≡◌ {A = Constants × State} (constants w.fixed, state_of w) (constants_of a, state_in a h)
  ends_at =
      let c : constants w.fixed ≡ constants_of a = ap constants o.same ∙ o.constants_are in
      let s = state_is workers a v w h o in
      λ i. (c i, s i)

  start_calm : halted v.events ≡ false
  start_calm = ap halted o.none

  -- a fault for want of a number, and every other one
  fault_came : (S : Type 0) (f : DeskFault) (u : View) (own : List Event) → OwnsAll u → Made u own w → halted u.events ≡ false → StopsBy S f u own w → (f ≡ desk.Spent → S → IsSpentIn a h) → Came a h (Err f)
  fault_came S f u own all m on stops spent = (subst (λ (es : List Event). IsMet f es) o.events (met S f u w own all m on stops), number f stops spent)
    where
      number : (f : DeskFault) → StopsBy S f u own w → (f ≡ desk.Spent → S → IsSpentIn a h) → f ≡ desk.Spent → IsSpentIn a h
      number desk.StoreFailed s so e = absurd cc
      number desk.PostFailed s so e = absurd cc
      number desk.Spent s so e = so refl s.1
      number desk.Halted s so e = absurd cc
      number desk.NoMemory s so e = absurd cc

  -- what was made of a plan before the number was wanting
  events_spent : (plan : List Event) (g : Goes plan (Err desk.Spent) v w) → h.events ≡ g.done
  events_spent plan g = sym o.events ∙ made_alone v w (g.done ++ []) o.owns g.made ∙ ap (λ (es : List Event). es ++ (g.done ++ [])) o.none ∙ append-nil g.done

  post_there : IsPostSpent (state_of w) → IsPostSpent (state_in a h)
  post_there n = subst (λ (x : Constants × State). IsPostSpent x.1) ends_at n

  drained_here : Drained (constants w.fixed) (state_of w) (until_of a h) → IsDrained a h
  drained_here d = subst (λ (x : Constants × State). Drained x.0 x.1 (until_of a h)) ends_at d

  drained_there : IsDrained a h → Drained (constants w.fixed) (state_of w) (until_of a h)
  drained_there d = subst (λ (x : Constants × State). Drained x.0 x.1 (until_of a h)) (sym ends_at) d

  -- a fault while the messages were loaded
  loads_came : (f : DeskFault) → a.said.command ≡ command.Run → Goes (loads_of a.messages) (Err f) v w → Came a h (Err f)
  loads_came f is g = fault_came (NeedsEntry g.left (state_of w)) f v (g.done ++ stop_of f) o.owns g.made start_calm g.end (λ e n. spent f g e n)
    where
      spent : (f : DeskFault) (g : Goes (loads_of a.messages) (Err f) v w) → f ≡ desk.Spent → NeedsEntry g.left (state_of w) → IsSpentIn a h
      spent desk.StoreFailed g e n = absurd cc
      spent desk.PostFailed g e n = absurd cc
      spent desk.Spent g e n =
          let some = left_some a.messages g.done g.left g.split g.some in
          let less : HasLoads a h = subst (λ (es : List Event). length (loads es) < length a.messages) (sym (events_spent (loads_of a.messages) g)) some in
          subst (λ (c : Command). IsSpentAs c a h) (sym is) (inl (less, post_there (post_spent g.left (state_of w) n)))
      spent desk.Halted g e n = absurd cc
      spent desk.NoMemory g e n = absurd cc

  run_came : (r : Result Bool DeskFault) → a.said.command ≡ command.Run → RunIs a.messages (until_of a h) r v w → Came a h r
  run_came (Ok true) is x =
      ⊎_elim (λ (bad : ⊥). absurd bad)
      (λ (y : (u : View) × Goes _ (Ok tt) v u × DrainIs (until_of a h) _ (Ok true) u w). (off_here y.2.end.0, λ run. drained_here y.2.end.1)) x
  run_came (Ok false) is x =
      ⊎_elim (λ (bad : ⊥). absurd bad)
      (λ (y : (u : View) × Goes _ (Ok tt) v u × DrainIs (until_of a h) _ (Ok false) u w).
      let e = y.2.end in
      let most = within_le w.fixed.turns 0 w.events (omega arith) o.legal.within in
      let least = e.2 in
      let turns : w.fixed.turns ≡ a.said.turns = ap (λ (z : Fixed). z.turns) o.same ∙ o.turns in
      let same : takes h.events ≡ takes w.events = ap takes (sym o.events) in
      (off_here e.0, is, (λ d. e.1 (drained_there d)), omega (arith, most, least, turns, same), subst (λ (x : Constants × State). AllIdle x.1) ends_at e.3)) x
  run_came (Err f) is x =
      ⊎_elim (λ (g : Goes (loads_of a.messages) (Err f) v w). loads_came f is g)
      (λ (y : (u : View) × Goes (loads_of a.messages) (Ok tt) v u × DrainIs (until_of a h) releasing (Err f) u w).
      fault_came (IsSomeSpent w) f y.0 y.2.own y.1.end.1.owns y.2.made y.1.end.2 y.2.end
      (λ e n. subst (λ (c : Command). IsSpentAs c a h) (sym is) (inr (n.0, subst (λ (x : Constants × State). IsWorkerSpent x.0 x.1 n.0) ends_at n.1)))) x

  plan_came : (plan : List Event) (r : Result Bool DeskFault) → (a.said.command ≡ command.Run → ⊥) → ((g : Goes plan (Err desk.Spent) v w) → NeedsEntry g.left (state_of w) → IsSpentIn a h) → PlanIs plan r v w → Came a h r
  plan_came plan (Ok true) other needs x = (off_here x.1.end.2, λ run. absurd (other run))
  plan_came plan (Ok false) other needs x = absurd cc
  plan_came plan (Err f) other needs x =
      ⊎_elim
      (λ (g : Goes plan (Err f) v w). fault_came (NeedsEntry g.left (state_of w)) f v (g.done ++ stop_of f) o.owns g.made start_calm g.end (λ e n. spent f g e n))
      (λ (u : IsUnbegun f v w). subst (λ (y : DeskFault). Came a h (Err y)) (sym u.0) (off_here (subst (λ (y : View). halted y.events ≡ false) (sym u.1) u.2), no_number))
      x
    where
      spent : (f : DeskFault) (g : Goes plan (Err f) v w) → f ≡ desk.Spent → NeedsEntry g.left (state_of w) → IsSpentIn a h
      spent desk.StoreFailed g e n = absurd cc
      spent desk.PostFailed g e n = absurd cc
      spent desk.Spent g e n = needs g n
      spent desk.Halted g e n = absurd cc
      spent desk.NoMemory g e n = absurd cc

      no_number : desk.NoMemory ≡ desk.Spent → IsSpentIn a h
      no_number e = absurd cc

  -- nothing is left of a plan without events
  rest_came : (r : Result Bool DeskFault) → (a.said.command ≡ command.Run → ⊥) → PlanIs [] r v w → Came a h r
  rest_came r other x = plan_came [] r other (λ g n. absurd (g.some (none_left g.done g.left g.split))) x

  return_came : (r : Result Bool DeskFault) → a.said.command ≡ command.Retry → PlanIs (returns_of (returnable (constants v.fixed) (state_of v))) r v w → Came a h r
  return_came r is x = plan_came _ r (λ run. let e : command.Run ≡ command.Retry = sym run ∙ is in absurd cc)
      (λ g n. subst (λ (c : Command). IsSpentAs c a h) (sym is) (
        subst (λ (y : Constants × State). IsPutNext (returns_of (returnable y.0 y.1)) h) (opens_as workers a v w h o) (put_next _ h g.done g.left (state_of w) g.split (events_spent _ g) n),
        post_there (post_spent g.left (state_of w) n),
      )) x

  pub came : (c : Command) → a.said.command ≡ c → (r : Result Bool DeskFault) → Works c a.messages (until_of a h) r v w → Came a h r
  came command.Run is r x = run_came r is x
  came command.Show is r x = rest_came r (λ run. let e : command.Run ≡ command.Show = sym run ∙ is in absurd cc) x
  came command.Retry is r x = return_came r is x
  came command.Purge is r x =
      plan_came _ r (λ run. let e : command.Run ≡ command.Purge = sym run ∙ is in absurd cc) (λ g n. absurd (no_put _ g.done g.left (state_of w) g.split n)) x
  came command.Sample is r x = rest_came r (λ run. let e : command.Run ≡ command.Sample = sym run ∙ is in absurd cc) x
