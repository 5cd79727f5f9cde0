-- Calls one after another, and the steps that they make.
use Rattle.std.proofs.Common.{◌≡◌, ℕ, ◌<◌, List, [], ◌∷◌, ◌++◌, length, false, refl, sym, ap, ◌∙◌, subst, append_assoc, append-nil}
use Rattle.std.specs.Prelude.{All}
use Rattle.std.specs.FinMap as map
use Rattle.std.proofs.lemmas.List.Elements.{All-append, All-nil}
use Rattle.nb_core.proofs.Appending.{run_split}
use Rattle.nb_core.proofs.Bridge.{run_is, unique}
use Rattle.nb_core.proofs.Held.{BelowAt, HoldingAt, below_kept, holding_kept, nobody, phase_empty}
use Rattle.nb_core.proofs.Pasts.{Leaves, leaves_all, halted_push}
use Rattle.nb_core.specs.Calls.{View, Called, Foreign, Owns, OwnsAll, places, state_of, times}
use Rattle.nb_core.specs.History.{Run, ends, goes, opened}
use Rattle.nb_core.specs.Legal.{IsSound, halted, is_halt}
use Rattle.nb_core.specs.Past.{Fixed, IsLegal, constants, state_after}
use Rattle.nb_core.specs.State.{Constants}
use Rattle.nb_core.specs.declared.state.State.{State}
use Rattle.nb_core.specs.Step.{Step}
use Rattle.nb_core.specs.declared.call.Answer.{Answer}
use Rattle.nb_core.specs.declared.call.Call.{Call}
use Rattle.nb_core.specs.declared.event.Event.{Event}
use Rattle.nb_pump.specs.Made.{Moved, Made}

-- a call, with its own events named
abbrev pub moved_as : {call : Call} {answer : Answer} {v w : View} (c : Called call answer v w) (own : List Event) → c.own ≡ own → Moved v own w
moved_as {v = v} c own is = record {
  others = c.others;
  foreign = c.foreign;
  alone = c.alone;
  events = c.events ∙ ap (λ (es : List Event). (v.events ++ c.others) ++ es) is;
  mine = c.mine ∙ ap (λ (es : List Event). v.mine ++ places (length (v.events ++ c.others)) es) is;
  workers = c.workers;
  fixed = c.fixed;
  legal = c.legal;
}

pub owns_all_same : (v w : View) → w.workers ≡ v.workers → w.fixed ≡ v.fixed → OwnsAll v → OwnsAll w
owns_all_same v w workers fixed all k lt =
    subst (λ (ws : List ℕ). 0 < times k ws) (sym workers) (all k (subst (λ (f : Fixed). k < f.opening.workers) fixed lt))

pub owns_same : (v w : View) (k : ℕ) → w.workers ≡ v.workers → w.fixed ≡ v.fixed → Owns v k → Owns w k
owns_same v w k workers fixed o =
    (subst (λ (f : Fixed). k < f.opening.workers) (sym fixed) o.0, subst (λ (ws : List ℕ). 0 < times k ws) (sym workers) o.1)

-- events of others first
pub moved_after : (v u w : View) (own : List Event) → Moved v [] u → Moved u own w → Moved v own w
moved_after v u w own a b =
    let seen : u.events ≡ v.events ++ a.others = a.events ∙ append-nil (v.events ++ a.others) in
    let others : List Event = a.others ++ b.others in
    let here : u.events ++ b.others ≡ v.events ++ others = ap (λ (l : List Event). l ++ b.others) seen ∙ append_assoc v.events a.others b.others in
    record {
      others = others;
      foreign = All-append (Foreign v.workers) a.others b.others a.foreign (subst (λ (ws : List ℕ). All (Foreign ws) b.others) a.workers b.foreign);
      alone = λ all. (λ i. a.alone all i ++ b.alone (owns_all_same v u a.workers a.fixed all) i);
      events = b.events ∙ ap (λ (l : List Event). l ++ own) here;
      mine = b.mine ∙ (λ i. (a.mine ∙ append-nil v.mine) i ++ places (length (here i)) own);
      workers = b.workers ∙ a.workers;
      fixed = b.fixed ∙ a.fixed;
      legal = b.legal;
    }

pub made_after : (v u w : View) (own : List Event) → Moved v [] u → Made u own w → Made v own w
made_after v u w [] a b = moved_after v u w [] a b
made_after v u w (e ∷ es) a b = (b.0, moved_after v u b.0 (e ∷ []) a b.1, b.2)

pub made_append : (v u w : View) (xs ys : List Event) → Made v xs u → Made u ys w → Made v (xs ++ ys) w
made_append v u w [] ys a b = made_after v u w ys a b
made_append v u w (x ∷ xs) ys a b = (a.0, a.1, made_append a.0 u w xs ys a.2 b)

-- nothing of others stands there where every worker is the caller's
pub moved_alone : (v w : View) (own : List Event) → OwnsAll v → Moved v own w → w.events ≡ v.events ++ own
moved_alone v w own all m =
    m.events ∙ ap (λ (l : List Event). (v.events ++ l) ++ own) (m.alone all) ∙ ap (λ (l : List Event). l ++ own) (append-nil v.events)

pub made_alone : (v w : View) (own : List Event) → OwnsAll v → Made v own w → w.events ≡ v.events ++ own
made_alone v w [] all m = moved_alone v w [] all m
made_alone v w (e ∷ es) all m =
    made_alone m.0 w es (owns_all_same v m.0 m.1.workers m.1.fixed all) m.2
    ∙ ap (λ (l : List Event). l ++ es) (moved_alone v m.0 (e ∷ []) all m.1)
    ∙ append_assoc v.events (e ∷ []) es

pub moved_none : (v : View) → IsLegal v.fixed v.events → Moved v [] v
moved_none v legal = record {
  others = [];
  foreign = All-nil (Foreign v.workers);
  alone = λ _. refl;
  events = sym (append-nil (v.events ++ []) ∙ append-nil v.events);
  mine = sym (append-nil v.mine);
  workers = refl;
  fixed = refl;
  legal = legal;
}

pub made_one : (v w : View) (e : Event) → Moved v (e ∷ []) w → Made v (e ∷ []) w
made_one v w e m = (w, m, moved_none w m.legal)

pub made_kept : (v w : View) (own : List Event) → Made v own w → (w.workers ≡ v.workers) × (w.fixed ≡ v.fixed)
made_kept v w [] m = (m.workers, m.fixed)
made_kept v w (e ∷ es) m = let r = made_kept m.0 w es m.2 in (r.0 ∙ m.1.workers, r.1 ∙ m.1.fixed)

-- who has every worker at the end had them at first
pub owns_first : (v u : View) (xs : List Event) → Made v xs u → OwnsAll u → OwnsAll v
owns_first v u xs m all = let kept = made_kept v u xs m in owns_all_same u v (sym kept.0) (sym kept.1) all

pub made_legal : (v w : View) (own : List Event) → Made v own w → IsLegal w.fixed w.events
made_legal v w [] m = m.legal
made_legal v w (e ∷ es) m = made_legal m.0 w es m.2

-- ---- the state before and after the own events of a call

holding_run : {c : Constants} {s t : State} {es : List Event} → Run c s es t → BelowAt s → HoldingAt c s → BelowAt t × HoldingAt c t
holding_run ends b h = (b, h)
holding_run (goes step rest) b h = holding_run rest (below_kept step b) (holding_kept step b h)

-- the state of a legal history has its entries below the next number, and holds them apart
pub holding_of : (f : Fixed) (es : List Event) → IsLegal f es → BelowAt (state_after f es) × HoldingAt (constants f) (state_after f es)
holding_of f es l =
    holding_run l.legal.run (record { below = λ n e there. (l.legal.sound.post.entries n e there).below }) (nobody f.settings map.empty f.opening.post.entries phase_empty)

-- the state in which a call acts: events of others came before
abbrev pub before : {v w : View} {own : List Event} → Moved v own w → State
before {v = v} m = state_after v.fixed (v.events ++ m.others)

module _ {v w : View} {own : List Event} (m : Moved v own w) where
  -- as the caller knows them, the events lead to this state
  pub same_state : state_of w ≡ state_after v.fixed ((v.events ++ m.others) ++ own)
  same_state = λ i. state_after (m.fixed i) (m.events i)

  legal_here : IsLegal v.fixed ((v.events ++ m.others) ++ own)
  legal_here = subst (λ (x : Fixed × List Event). IsLegal x.0 x.1) (λ i. (m.fixed i, m.events i)) m.legal

  pub left : (k : ℕ) → Owns v k → Leaves (state_of v) (before m) k
  left k o =
      let l = legal_here in
      let p = run_split (v.events ++ m.others) own l.legal.run in
      let q = run_split v.events m.others p.1 in
      let h = holding_run q.1 (record { below = λ n e there. (l.legal.sound.post.entries n e there).below }) (nobody v.fixed.settings map.empty v.fixed.opening.post.entries phase_empty) in
      subst (λ (x : State × State). Leaves x.0 x.1 k) (λ i. (run_is q.1 i, run_is p.1 i)) (leaves_all v.workers k q.2 h.0 h.1 m.foreign o.1)

  -- the events before lead to that state
  pub ran_before : Run (constants v.fixed) (opened v.fixed.opening) (v.events ++ m.others) (before m)
  ran_before =
      let p = run_split (v.events ++ m.others) own legal_here.legal.run in
      subst (λ (x : State). Run (constants v.fixed) (opened v.fixed.opening) (v.events ++ m.others) x) (run_is p.1) p.1

  pub sound_before : IsSound (constants v.fixed) v.fixed.opening
  sound_before = legal_here.legal.sound

  -- the own events lead from there to the end
  pub ran : Run (constants v.fixed) (before m) own (state_of w)
  ran =
      let p = run_split (v.events ++ m.others) own legal_here.legal.run in
      subst (λ (x : State × State). Run (constants v.fixed) x.0 own x.1) (λ i. (run_is p.1 i, (sym same_state) i)) p.2

one_step : {c : Constants} {s t : State} {e : Event} → Run c s (e ∷ []) t → Step c s e t
one_step (goes step ends) = step

pub stepped : {v w : View} {e : Event} (m : Moved v (e ∷ []) w) → Step (constants v.fixed) (before m) e (state_of w)
stepped m = one_step (ran m)

-- a step that is possible is the one that was made
pub reaches : {v w : View} {e : Event} (m : Moved v (e ∷ []) w) {t : State} → Step (constants v.fixed) (before m) e t → state_of w ≡ t
reaches m step = unique (stepped m) step

-- without an own event the end is the state in which the call acted
pub stays : {v w : View} (m : Moved v [] w) → state_of w ≡ before m
stays {v = v} m = same_state m ∙ ap (λ (es : List Event). state_after v.fixed es) (append-nil (v.events ++ m.others))

pub off_after : {v w : View} {e : Event} (m : Moved v (e ∷ []) w) → is_halt e ≡ false → halted w.events ≡ false
off_after {v = v} {e = e} m quiet = ap (λ (es : List Event). halted es) m.events ∙ halted_push (v.events ++ m.others) e ∙ quiet
