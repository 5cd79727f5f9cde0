-- A drain: what its rounds keep, and how it ends.
use Rattle.std.proofs.Common.{◌≡◌, inl, inr, ℕ, ◌-◌, ◌<◌, ◌≤◌, List, [], ◌++◌, Bool, true, false, refl, sym, ap, ◌∙◌, subst, append_assoc, append-nil, arith}
use Rattle.std.specs.Prelude.{Ok, Err, Some, None, Result}
use Rattle.nb_core.specs.Calls.{View, Called, state_of}
use Rattle.nb_core.specs.Paced.{Pace, Mode, ended, released, releasing, working, IsOwnEmpty}
use Rattle.nb_core.specs.Past.{Fixed, constants, takes}
use Rattle.nb_core.specs.declared.answers.DeskFault.{DeskFault}
use Rattle.nb_core.specs.declared.call.Answer.TheVariants as answer
use Rattle.nb_core.specs.declared.call.Call.TheVariants as call
use Rattle.nb_core.specs.declared.event.Event.{Event}
use Rattle.nb_core.specs.declared.state.State.{State}
use Rattle.nb_core.specs.Drained.{Drained}
use Rattle.nb_core.specs.Legal.{halted}
use Rattle.nb_core.specs.State.{AllIdle}
use Rattle.nb_pump.specs.Drains.{Standing, Leads, HasTake, StopsAtLimit, IsSomeSpent, ReleasesAre, WindIs, TurnsAre, DrainEnd, DrainIs}
use Rattle.nb_pump.specs.Made.{Moved, Made}
use Rattle.nb_pump.proofs.Following.{Calm, stopped_asking, stopped_behind, stopped_there, stops_so, seen_after}
use Rattle.nb_pump.proofs.Limits.{limit_more, limit_same, limit_turns, left_still}
use Rattle.nb_pump.proofs.Releasing.{events_here, same_here}
use Rattle.nb_pump.proofs.Winding.{asks_none}
use Rattle.nb_pump.proofs.Views.{moved_as, made_append, made_kept, moved_none, stays}

-- ---- the last question, where no Take is left

-- events in pace so far, after which no Take is left
pub record Limited (until : ℕ) (mode : Mode) (v u : View) : Type 0 where
  pub own : List Event
  pub made : Made v own u
  pub paced : Pace (constants v.fixed) until mode (state_of v) own
  pub limit : StopsAtLimit v own
  pub standing : Standing u
  pub spent : u.fixed.turns ≤ takes u.events
  pub on : halted u.events ≡ false

still : (until : ℕ) (mode : Mode) (v u w : View) (l : Limited until mode v u) → Moved u [] w → Made v l.own w
still until mode v u w l m = subst (λ (es : List Event). Made v es w) (append-nil l.own) (made_append v u w l.own [] l.made m)

pub asked_last : (until : ℕ) (mode : Mode) (r : Result Bool DeskFault) (v u w : View) → Limited until mode v u → Called (call.IsDrained until) (answer.IsDrained r) u w → DrainIs until mode r v w
asked_last until mode (Ok true) v u w l c =
    let m : Moved u [] w = moved_as c [] c.gives.0 in
    record {
      own = l.own;
      made = still until mode v u w l m;
      paced = l.paced;
      limit = l.limit;
      end = (
        ap (λ (es : List Event). halted es) (seen_after u w m) ∙ c.gives.1,
        subst (λ (y : Fixed × State). Drained (constants y.0) y.1 until) (λ i. (sym m.fixed i, sym (stays m) i)) c.gives.2,
      );
    }
asked_last until mode (Ok false) v u w l c =
    let m : Moved u [] w = moved_as c [] c.gives.0 in
    record {
      own = l.own;
      made = still until mode v u w l m;
      paced = l.paced;
      limit = l.limit;
      end = (
        ap (λ (es : List Event). halted es) (seen_after u w m) ∙ c.gives.1,
        subst (λ (y : Fixed × State). Drained (constants y.0) y.1 until → ⊥) (λ i. (sym m.fixed i, sym (stays m) i)) c.gives.2,
        subst (λ (y : Fixed × List Event). y.0.turns ≤ takes y.1) (λ i. (sym m.fixed i, sym (events_here m l.standing.owns) i)) l.spent,
        subst AllIdle (sym (same_here m l.standing.owns)) l.standing.idle,
      );
    }
asked_last until mode (Err f) v u w l c =
    let silent = asks_none f until u.fixed (u.events ++ c.others) c.own c.gives in
    let m : Moved u [] w = moved_as c [] silent in
    record {
      own = l.own;
      made = still until mode v u w l m;
      paced = l.paced;
      limit = l.limit;
      end = stopped_there (IsSomeSpent w) f v u w l.own l.standing.owns l.made (inr l.on)
          (stopped_asking (IsSomeSpent w) (call.IsDrained until) (answer.IsDrained (Err f)) f u w c l.standing.owns (λ m h. absurd h) c.gives silent);
    }

-- ---- rounds

-- what the rounds keep
pub record Draining (until now : ℕ) (v u : View) : Type 0 where
  pub own : List Event
  pub made : Made v own u
  pub leads : Leads (constants v.fixed) until working (state_of v) own working (state_of u)
  pub limit : StopsAtLimit v own
  pub left : HasTake v → HasTake u
  pub standing : Standing u
  pub now_is : (state_of u).moment ≡ now
  pub empty : IsOwnEmpty (constants u.fixed) (state_of u)
  pub same : u.fixed ≡ v.fixed
  pub calm : Calm own u

pub draining_start : (until now : ℕ) (v : View) → Standing v → (state_of v).moment ≡ now → IsOwnEmpty (constants v.fixed) (state_of v) → Draining until now v v
draining_start until now v st is empty = record { own = []; made = moved_none v st.legal; leads = λ rest p. p; limit = λ left. tt; left = λ left. left; standing = st; now_is = is; empty = empty; same = refl; calm = inl refl }

-- time went on
pub record Wound (until now : ℕ) (v u : View) : Type 0 where
  pub own : List Event
  pub made : Made v own u
  pub leads : Leads (constants v.fixed) until working (state_of v) own working (state_of u)
  pub limit : StopsAtLimit v own
  pub left : HasTake v → HasTake u
  pub standing : Standing u
  pub now_is : (state_of u).moment ≡ now
  pub full : IsOwnEmpty (constants u.fixed) (state_of u) → ⊥
  pub same : u.fixed ≡ v.fixed
  pub on : halted u.events ≡ false

both : (until : ℕ) (v u w : View) (xs ys : List Event) → u.fixed ≡ v.fixed → Leads (constants v.fixed) until working (state_of v) xs working (state_of u) → Leads (constants u.fixed) until working (state_of u) ys working (state_of w)
    → Leads (constants v.fixed) until working (state_of v) (xs ++ ys) working (state_of w)
both until v u w xs ys same a b rest p =
    subst (λ (es : List Event). Pace (constants v.fixed) until working (state_of v) es) (sym (append_assoc xs ys rest))
    (a (ys ++ rest) (subst (λ (f : Fixed). Leads (constants f) until working (state_of u) ys working (state_of w)) same b rest p))

pub wound : (until now later : ℕ) (v u w : View) → Draining until now v u → WindIs until (Ok (Some later)) u w → Wound until later v w
wound until now later v u w r x = record {
  own = r.own ++ x.own;
  made = made_append v u w r.own x.own r.made x.made;
  limit = limit_more v u r.own x.own r.standing.owns r.made r.left r.limit x.limit;
  left = λ left. left_still u w x.own x.made x.end.1.takes_are (r.left left);
  leads = both until v u w r.own x.own r.same r.leads x.end.0;
  standing = x.end.1.standing;
  now_is = x.end.2;
  full = x.end.3;
  same = (made_kept u w x.own x.made).1 ∙ r.same;
  on = x.end.1.on;
}

pub draining_done : (until now : ℕ) (v u w : View) → Draining until now v u → WindIs until (Ok None) u w → DrainIs until working (Ok true) v w
draining_done until now v u w r x = record {
  own = r.own ++ x.own;
  made = made_append v u w r.own x.own r.made x.made;
  limit = limit_more v u r.own x.own r.standing.owns r.made r.left r.limit x.limit;
  paced = subst (λ (es : List Event). Pace (constants v.fixed) until working (state_of v) es) (append-nil (r.own ++ x.own)) (both until v u w r.own x.own r.same r.leads x.end.0 [] ended);
  end = (x.end.1.on, x.end.2);
}

pub draining_unwound : (until now : ℕ) (f : DeskFault) (v u w : View) → Draining until now v u → WindIs until (Err f) u w → DrainIs until working (Err f) v w
draining_unwound until now f v u w r x = record {
  own = r.own ++ x.own;
  made = made_append v u w r.own x.own r.made x.made;
  limit = limit_more v u r.own x.own r.standing.owns r.made r.left r.limit x.limit;
  paced = r.leads x.own (subst (λ (y : Fixed). Pace (constants y) until working (state_of u) x.own) r.same x.end.0);
  end = stopped_behind (IsSomeSpent w) f v u w r.own x.own r.standing.owns r.made r.calm (stops_so ⊥ (IsSomeSpent w) f u w x.own (λ h. absurd h) x.end.1);
}

pub draining_more : (until now : ℕ) (v u w : View) → Wound until now v u → TurnsAre (Ok true) u w → Draining until now v w
draining_more until now v u w r x = record {
  own = r.own ++ x.own;
  made = made_append v u w r.own x.own r.made x.made;
  limit = limit_more v u r.own x.own r.standing.owns r.made r.left r.limit (limit_turns u x.own x.of_turns);
  left = λ left. x.end.4;
  leads = both until v u w r.own x.own r.same r.leads (x.end.0 until);
  standing = x.end.1;
  now_is = x.end.3 ∙ r.now_is;
  empty = x.end.5;
  same = (made_kept u w x.own x.made).1 ∙ r.same;
  calm = inr x.end.2;
}

-- each round makes a Take
pub draining_smaller : (until now later : ℕ) (v u w x : View) → WindIs until (Ok (Some later)) u w → TurnsAre (Ok true) w x → x.fixed.turns - takes x.events < u.fixed.turns - takes u.events
draining_smaller until now later v u w x a b =
    let more = b.end.6 a.end.3 in
    let before = a.end.1.takes_are in
    let room = b.end.4 in
    let turns : x.fixed.turns ≡ u.fixed.turns = ap (λ (f : Fixed). f.turns) ((made_kept w x b.own b.made).1 ∙ (made_kept u w a.own a.made).1) in
    omega (arith, more, before, room, turns)

pub draining_limit : (until now : ℕ) (v u w : View) → Wound until now v u → TurnsAre (Ok false) u w → Limited until working v w
draining_limit until now v u w r x = record {
  own = r.own ++ x.own;
  made = made_append v u w r.own x.own r.made x.made;
  limit = limit_more v u r.own x.own r.standing.owns r.made r.left r.limit (limit_turns u x.own x.of_turns);
  paced = r.leads x.own (subst (λ (y : Fixed). Pace (constants y) until working (state_of u) x.own) r.same (x.end.0 until));
  standing = x.end.1;
  spent = x.end.3;
  on = x.end.2;
}

pub draining_broken : (until now : ℕ) (f : DeskFault) (v u w : View) → Wound until now v u → TurnsAre (Err f) u w → DrainIs until working (Err f) v w
draining_broken until now f v u w r x = record {
  own = r.own ++ x.own;
  made = made_append v u w r.own x.own r.made x.made;
  limit = limit_more v u r.own x.own r.standing.owns r.made r.left r.limit (limit_turns u x.own x.of_turns);
  paced = r.leads x.own (subst (λ (y : Fixed). Pace (constants y) until working (state_of u) x.own) r.same (x.end.0 until));
  end = stopped_behind (IsSomeSpent w) f v u w r.own x.own r.standing.owns r.made (inr r.on) x.end.1;
}

-- ---- the whole drain

pub fixed_after : (r : Result (Unit {0}) DeskFault) (v u : View) → ReleasesAre r v u → u.fixed ≡ v.fixed
fixed_after r v u x = (made_kept v u x.own x.made).1

pub drain_unreleased : (until : ℕ) (f : DeskFault) (v u : View) → ReleasesAre (Err f) v u → DrainIs until releasing (Err f) v u
drain_unreleased until f v u x = record { own = x.own; made = x.made; paced = x.end.0 until; limit = x.limit; end = stops_so ⊥ (IsSomeSpent u) f v u x.own (λ h. absurd h) x.end.1 }

-- what is in pace of workers behind the releases, is in pace
behind : (until : ℕ) (v u : View) (x : ReleasesAre (Ok tt) v u) (es : List Event) → Pace (constants u.fixed) until working (state_of u) es → Pace (constants v.fixed) until releasing (state_of v) (x.own ++ es)
behind until v u x es p = x.end.0 until es (released x.end.3 (subst (λ (y : Fixed). Pace (constants y) until working (state_of u) es) (fixed_after (Ok tt) v u x) p))

pub drain_broken : (until : ℕ) (f : DeskFault) (v u w : View) → ReleasesAre (Ok tt) v u → TurnsAre (Err f) u w → DrainIs until releasing (Err f) v w
drain_broken until f v u w x y = record {
  own = x.own ++ y.own;
  made = made_append v u w x.own y.own x.made y.made;
  limit = limit_same v u x.own y.own x.end.1.standing.owns x.made x.end.1.takes_are x.limit (limit_turns u y.own y.of_turns);
  paced = behind until v u x y.own (y.end.0 until);
  end = stopped_behind (IsSomeSpent w) f v u w x.own y.own x.end.1.standing.owns x.made (inr x.end.1.on) y.end.1;
}

pub drain_limit : (until : ℕ) (v u w : View) → ReleasesAre (Ok tt) v u → TurnsAre (Ok false) u w → Limited until releasing v w
drain_limit until v u w x y = record {
  own = x.own ++ y.own;
  made = made_append v u w x.own y.own x.made y.made;
  limit = limit_same v u x.own y.own x.end.1.standing.owns x.made x.end.1.takes_are x.limit (limit_turns u y.own y.of_turns);
  paced = behind until v u x y.own (y.end.0 until);
  standing = y.end.1;
  spent = y.end.3;
  on = y.end.2;
}

-- how a drain ends, with more events before it
end_behind : (until : ℕ) (r : Result Bool DeskFault) (v u w : View) (xs ys : List Event) → Standing u → Made v xs u → halted u.events ≡ false → DrainEnd until r ys u w → DrainEnd until r (xs ++ ys) v w
end_behind until (Ok true) v u w xs ys st m on e = e
end_behind until (Ok false) v u w xs ys st m on e = e
end_behind until (Err f) v u w xs ys st m on e = stopped_behind (IsSomeSpent w) f v u w xs ys st.owns m (inr on) e

pub drain_rounds : (until : ℕ) (r : Result Bool DeskFault) (v u w z : View) → ReleasesAre (Ok tt) v u → TurnsAre (Ok true) u w → DrainIs until working r w z → DrainIs until releasing r v z
drain_rounds until r v u w z x y d =
    let fixed : w.fixed ≡ u.fixed = (made_kept u w y.own y.made).1 in
    record {
      own = x.own ++ (y.own ++ d.own);
      made = made_append v u z x.own (y.own ++ d.own) x.made (made_append u w z y.own d.own y.made d.made);
      limit = limit_same v u x.own (y.own ++ d.own) x.end.1.standing.owns x.made x.end.1.takes_are x.limit
          (limit_more u w y.own d.own y.end.1.owns y.made (λ left. y.end.4) (limit_turns u y.own y.of_turns) d.limit);
      paced = behind until v u x (y.own ++ d.own) (y.end.0 until d.own (subst (λ (f : Fixed). Pace (constants f) until working (state_of w) d.own) fixed d.paced));
      end = end_behind until r v u z x.own (y.own ++ d.own) x.end.1.standing x.made x.end.1.on (end_behind until r u w z y.own d.own y.end.1 y.made y.end.2 d.end);
    }

pub turns_fixed : (r : Result Bool DeskFault) (u w : View) → TurnsAre r u w → w.fixed ≡ u.fixed
turns_fixed r u w y = (made_kept u w y.own y.made).1
