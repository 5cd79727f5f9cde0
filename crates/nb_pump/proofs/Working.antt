-- Leases of worker 0, one after another.
use Rattle.std.proofs.Common.{◌≡◌, ◌≢◌, ◌⊎◌, inl, inr, ⊎_elim, ℕ, ◌+◌, ◌-◌, ◌<◌, ◌≤◌, List, [], ◌∷◌, ◌++◌, Bool, true, false, refl, sym, ap, ◌∙◌, subst, append_assoc, append-nil, arith}
use Rattle.std.specs.Prelude.{All, Ok, Err, Some}
use Rattle.std.proofs.lemmas.Bool.Decides.{nat_tests}
use Rattle.std.proofs.lemmas.List.Elements.{All-append, All-cons, All-nil, All-head, All-tail}
use native.Mathlib.Decide.{ℕ_discrete}
use mathlib.Core.Logic.{dite}
use Rattle.nb_core.proofs.Pasts.{Leaves, leaves_all, run_from}
use Rattle.nb_core.specs.After.{after, run}
use Rattle.nb_core.specs.Calls.{View, Foreign, Ready, state_of, times}
use Rattle.nb_core.specs.History.{Run, opened}
use Rattle.nb_core.specs.Legal.{TakesFrom, halted, halted_after, is_halt}
use Rattle.nb_core.specs.Paced.{Pace, ended, work, working, IsOfTurn, IsOwnEmpty}
use Rattle.nb_core.specs.Past.{Fixed, IsLegal, constants, state_after, taken, takes}
use Rattle.nb_core.specs.State.{Constants, AllIdle, phase, number_of}
use Rattle.nb_core.specs.declared.answers.DeskFault.{DeskFault}
use Rattle.nb_core.specs.declared.answers.DeskFault.TheVariants.{StoreFailed, PostFailed, Spent, Halted, NoMemory}
use Rattle.nb_core.specs.declared.call.Call.TheVariants as call
use Rattle.nb_core.specs.declared.event.Event.{Event}
use Rattle.nb_core.specs.declared.event.Event.TheVariants.{Load, Take, Look, Settle, Send, Mark, Aside, Remove, Tick, Release, Purge, PutBack, DropBack, Stop, Halt}
use Rattle.nb_core.specs.declared.phase.Phase.{Phase}
use Rattle.nb_core.specs.declared.phase.Phase.TheVariants.{Idle}
use Rattle.nb_core.specs.declared.state.State.{State}
use Rattle.nb_pump.specs.Drains.{Standing, Leads, IsSomeSpent, TurnsAre}
use Rattle.nb_pump.specs.Leases.{IsOfLease, IsCause, IsSpentAt, stop_of, TurnIs}
use Rattle.nb_pump.specs.Made.{Made}
use Rattle.nb_pump.specs.Stops.{StopsBy}
use Rattle.nb_pump.specs.declared.outcome.Turn.TheVariants.{Ended, Nothing, Limit}
use Rattle.nb_pump.proofs.Following.{Calm, stopped_behind}
use Rattle.nb_pump.proofs.Limits.{taken_append}
use Rattle.nb_pump.proofs.Releasing.{standing_on, same_here, events_here}
use Rattle.nb_pump.proofs.Views.{owns_all_same, made_alone, made_append, made_kept, made_legal, moved_none, holding_of}

-- ---- events of a lease

turn_of : (w : ℕ) (e : Event) → IsOfLease w e → IsOfTurn e
turn_of w (Load m) h = absurd h
turn_of w (Take k) h = absurd h
turn_of w (Look k) h = tt
turn_of w (Settle k) h = tt
turn_of w (Send k) h = tt
turn_of w (Mark k) h = tt
turn_of w (Aside k) h = tt
turn_of w (Remove k) h = tt
turn_of w (Tick to) h = absurd h
turn_of w (Release n) h = absurd h
turn_of w (Purge id) h = absurd h
turn_of w (PutBack n) h = absurd h
turn_of w (DropBack n) h = absurd h
turn_of w (Stop moment) h = absurd h
turn_of w (Halt store) h = absurd h

turns_of : (w : ℕ) (es : List Event) → All (IsOfLease w) es → All IsOfTurn es
turns_of w [] h = All-nil IsOfTurn
turns_of w (e ∷ es) h = All-cons IsOfTurn e es (turn_of w e (All-head (IsOfLease w) e es h)) (turns_of w es (All-tail (IsOfLease w) e es h))

stop_turns : (f : DeskFault) → All IsOfTurn (stop_of f)
stop_turns StoreFailed = All-cons IsOfTurn _ [] tt (All-nil IsOfTurn)
stop_turns PostFailed = All-cons IsOfTurn _ [] tt (All-nil IsOfTurn)
stop_turns Spent = All-nil IsOfTurn
stop_turns Halted = All-nil IsOfTurn
stop_turns NoMemory = All-nil IsOfTurn

-- events of workers are in pace
works : (c : Constants) (until : ℕ) (s : State) (es rest : List Event) → All IsOfTurn es → Pace c until working (run c s es) rest → Pace c until working s (es ++ rest)
works c until s [] rest h p = p
works c until s (e ∷ es) rest h p = work (All-head IsOfTurn e es h) (works c until (after c s e) es rest (All-tail IsOfTurn e es h) p)

worked : (c : Constants) (until : ℕ) (s : State) (es : List Event) → All IsOfTurn es → Pace c until working s es
worked c until s es h = subst (λ (l : List Event). Pace c until working s l) (append-nil es) (works c until s es [] h ended)

run_append : (c : Constants) (s : State) (xs ys : List Event) → run c s (xs ++ ys) ≡ run c (run c s xs) ys
run_append c s [] ys = refl
run_append c s (x ∷ xs) ys = run_append c (after c s x) xs ys

-- no Take stands in a lease behind the first
no_takes : (w m : ℕ) (es : List Event) → All (IsOfLease w) es → taken m es ≡ m
no_takes w m [] h = refl
no_takes w t (Load m ∷ es) h = absurd (All-head (IsOfLease w) (Load m) es h)
no_takes w t (Take k ∷ es) h = absurd (All-head (IsOfLease w) (Take k) es h)
no_takes w t (Look k ∷ es) h = no_takes w t es (All-tail (IsOfLease w) (Look k) es h)
no_takes w t (Settle k ∷ es) h = no_takes w t es (All-tail (IsOfLease w) (Settle k) es h)
no_takes w t (Send k ∷ es) h = no_takes w t es (All-tail (IsOfLease w) (Send k) es h)
no_takes w t (Mark k ∷ es) h = no_takes w t es (All-tail (IsOfLease w) (Mark k) es h)
no_takes w t (Aside k ∷ es) h = no_takes w t es (All-tail (IsOfLease w) (Aside k) es h)
no_takes w t (Remove k ∷ es) h = no_takes w t es (All-tail (IsOfLease w) (Remove k) es h)
no_takes w t (Tick to ∷ es) h = absurd (All-head (IsOfLease w) (Tick to) es h)
no_takes w t (Release n ∷ es) h = absurd (All-head (IsOfLease w) (Release n) es h)
no_takes w t (Purge id ∷ es) h = absurd (All-head (IsOfLease w) (Purge id) es h)
no_takes w t (PutBack n ∷ es) h = absurd (All-head (IsOfLease w) (PutBack n) es h)
no_takes w t (DropBack n ∷ es) h = absurd (All-head (IsOfLease w) (DropBack n) es h)
no_takes w t (Stop moment ∷ es) h = absurd (All-head (IsOfLease w) (Stop moment) es h)
no_takes w t (Halt store ∷ es) h = absurd (All-head (IsOfLease w) (Halt store) es h)

-- another worker's phase stays
not_own : (k : ℕ) → k ≢ 0 → times 0 (k ∷ []) ≡ 0
not_own k ne = grind (arith, nat_tests)

other_of : (k : ℕ) → k ≢ 0 → (e : Event) → IsOfLease 0 e → Foreign (k ∷ []) e
other_of k ne (Load m) h = absurd h
other_of k ne (Take j) h = absurd h
other_of k ne (Look j) h = subst (λ (i : ℕ). times i (k ∷ []) ≡ 0) (sym h) (not_own k ne)
other_of k ne (Settle j) h = subst (λ (i : ℕ). times i (k ∷ []) ≡ 0) (sym h) (not_own k ne)
other_of k ne (Send j) h = subst (λ (i : ℕ). times i (k ∷ []) ≡ 0) (sym h) (not_own k ne)
other_of k ne (Mark j) h = subst (λ (i : ℕ). times i (k ∷ []) ≡ 0) (sym h) (not_own k ne)
other_of k ne (Aside j) h = subst (λ (i : ℕ). times i (k ∷ []) ≡ 0) (sym h) (not_own k ne)
other_of k ne (Remove j) h = subst (λ (i : ℕ). times i (k ∷ []) ≡ 0) (sym h) (not_own k ne)
other_of k ne (Tick to) h = absurd h
other_of k ne (Release n) h = absurd h
other_of k ne (Purge id) h = absurd h
other_of k ne (PutBack n) h = absurd h
other_of k ne (DropBack n) h = absurd h
other_of k ne (Stop moment) h = absurd h
other_of k ne (Halt store) h = absurd h

others_of : (k : ℕ) → k ≢ 0 → (es : List Event) → All (IsOfLease 0) es → All (Foreign (k ∷ [])) es
others_of k ne [] h = All-nil (Foreign (k ∷ []))
others_of k ne (e ∷ es) h =
    All-cons (Foreign (k ∷ [])) e es (other_of k ne e (All-head (IsOfLease 0) e es h)) (others_of k ne es (All-tail (IsOfLease 0) e es h))

has_self : (k : ℕ) → 0 < times k (k ∷ [])
has_self k = grind (arith, nat_tests)

-- ---- one lease

-- what a lease of worker 0 that ended leaves
pub record Leased (u x : View) (own : List Event) : Type 0 where
  pub leads : (until : ℕ) → Leads (constants u.fixed) until working (state_of u) own working (state_of x)
  pub of_turns : All IsOfTurn own
  pub standing : Standing x
  pub same : (state_of x).moment ≡ (state_of u).moment
  pub more : takes x.events ≡ takes u.events + 1

module _ (u x : View) (st : Standing u) (rest : List Event) (of_lease : All (IsOfLease 0) rest) (made : Made u (Take 0 ∷ rest) x) (idle : phase (state_of x) 0 ≡ Idle) where
  own : List Event
  own = Take 0 ∷ rest

  events : x.events ≡ u.events ++ (Take 0 ∷ rest)
  events = made_alone u x (Take 0 ∷ rest) st.owns made

  fixed : x.fixed ≡ u.fixed
  fixed = (made_kept u x (Take 0 ∷ rest) made).1

  legal : IsLegal u.fixed (u.events ++ (Take 0 ∷ rest))
  legal = subst (λ (y : Fixed × List Event). IsLegal y.0 y.1) (λ i. (fixed i, events i)) (made_legal u x (Take 0 ∷ rest) made)

  reached : state_of x ≡ state_after u.fixed (u.events ++ (Take 0 ∷ rest))
  reached = λ i. state_after (fixed i) (events i)

  ran : Run (constants u.fixed) (state_of u) (Take 0 ∷ rest) (state_of x)
  ran = subst (λ (s : State). Run (constants u.fixed) (state_of u) (Take 0 ∷ rest) s) (sym reached) (run_from u.fixed u.events (Take 0 ∷ rest) legal)

  left : (k : ℕ) → k ≢ 0 → Leaves (state_of u) (state_of x) k
  left k ne =
      let h = holding_of u.fixed u.events st.legal in
      leaves_all (k ∷ []) k ran h.0 h.1 (All-cons (Foreign (k ∷ [])) (Take 0) rest (not_own k ne) (others_of k ne rest of_lease)) (has_self k)

  turns : All IsOfTurn (Take 0 ∷ rest)
  turns = All-cons IsOfTurn (Take 0) rest tt (turns_of 0 rest of_lease)

  pub leased : Leased u x (Take 0 ∷ rest)
  leased = record {
    of_turns = turns;
    leads = λ until more p.
        works (constants u.fixed) until (state_of u) (Take 0 ∷ rest) more turns
        (subst (λ (s : State). Pace (constants u.fixed) until working s more) (reached ∙ run_append (constants u.fixed) (opened u.fixed.opening) u.events (Take 0 ∷ rest)) p);
    standing = record {
      owns = owns_all_same u x (made_kept u x (Take 0 ∷ rest) made).0 fixed st.owns;
      some = subst (λ (f : Fixed). 0 < f.opening.workers) (sym fixed) st.some;
      idle = λ k. dite (ℕ_discrete k 0) (λ eq. ap (λ (j : ℕ). phase (state_of x) j) eq ∙ idle) (λ ne. (left k ne).phase_is ∙ st.idle k);
      legal = made_legal u x (Take 0 ∷ rest) made;
    };
    same = (left 1 (λ e. omega arith)).moment_is;
    more = ap (λ (es : List Event). takes es) events ∙ taken_append 0 u.events (Take 0 ∷ rest) ∙ no_takes 0 (takes u.events + 1) rest of_lease;
  }

-- ---- a fault in a lease

halted_append : (b : Bool) (xs ys : List Event) → halted_after b (xs ++ ys) ≡ halted_after (halted_after b xs) ys
halted_append b [] ys = refl
halted_append b (x ∷ xs) ys = halted_append (is_halt x) xs ys

-- the events of a lease end in no Halt
lease_calm : (w : ℕ) (es : List Event) → All (IsOfLease w) es → halted_after false es ≡ false
lease_calm w [] h = refl
lease_calm w (Load m ∷ es) h = absurd (All-head (IsOfLease w) (Load m) es h)
lease_calm w (Take k ∷ es) h = absurd (All-head (IsOfLease w) (Take k) es h)
lease_calm w (Look k ∷ es) h = lease_calm w es (All-tail (IsOfLease w) (Look k) es h)
lease_calm w (Settle k ∷ es) h = lease_calm w es (All-tail (IsOfLease w) (Settle k) es h)
lease_calm w (Send k ∷ es) h = lease_calm w es (All-tail (IsOfLease w) (Send k) es h)
lease_calm w (Mark k ∷ es) h = lease_calm w es (All-tail (IsOfLease w) (Mark k) es h)
lease_calm w (Aside k ∷ es) h = lease_calm w es (All-tail (IsOfLease w) (Aside k) es h)
lease_calm w (Remove k ∷ es) h = lease_calm w es (All-tail (IsOfLease w) (Remove k) es h)
lease_calm w (Tick to ∷ es) h = absurd (All-head (IsOfLease w) (Tick to) es h)
lease_calm w (Release n ∷ es) h = absurd (All-head (IsOfLease w) (Release n) es h)
lease_calm w (Purge id ∷ es) h = absurd (All-head (IsOfLease w) (Purge id) es h)
lease_calm w (PutBack n ∷ es) h = absurd (All-head (IsOfLease w) (PutBack n) es h)
lease_calm w (DropBack n ∷ es) h = absurd (All-head (IsOfLease w) (DropBack n) es h)
lease_calm w (Stop moment ∷ es) h = absurd (All-head (IsOfLease w) (Stop moment) es h)
lease_calm w (Halt store ∷ es) h = absurd (All-head (IsOfLease w) (Halt store) es h)

-- a fault at the Take
faulted_first : (f : DeskFault) (u x : View) → Standing u → Made u (stop_of f) x → IsCause (IsSpentAt 0 x) f x → StopsBy (IsSomeSpent x) f u (stop_of f) x
faulted_first StoreFailed u x st m k = ([], refl)
faulted_first PostFailed u x st m k = ([], refl)
faulted_first Spent u x st m k = (k.0, (0, k.1))
faulted_first Halted u x st m k = (refl, ap (λ (es : List Event). halted es) (sym (made_alone u x [] st.owns m ∙ append-nil u.events)) ∙ k)
faulted_first NoMemory u x st m k = k

-- a fault behind it
faulted_later : (f : DeskFault) (u x : View) (rest : List Event) → Standing u → All (IsOfLease 0) rest → Made u (Take 0 ∷ (rest ++ stop_of f)) x → IsCause (IsSpentAt 0 x) f x
    → StopsBy (IsSomeSpent x) f u (Take 0 ∷ (rest ++ stop_of f)) x
faulted_later StoreFailed u x rest st h m k = (Take 0 ∷ rest, refl)
faulted_later PostFailed u x rest st h m k = (Take 0 ∷ rest, refl)
faulted_later Spent u x rest st h m k = (k.0, (0, k.1))
faulted_later Halted u x rest st h m k =
    let events : x.events ≡ u.events ++ (Take 0 ∷ rest) = made_alone u x (Take 0 ∷ (rest ++ [])) st.owns m ∙ ap (λ (es : List Event). u.events ++ (Take 0 ∷ es)) (append-nil rest) in
    let calm : halted x.events ≡ false = ap (λ (es : List Event). halted es) events ∙ halted_append false u.events (Take 0 ∷ rest) ∙ lease_calm 0 rest h in
    let clash : true ≡ false = sym k ∙ calm in absurd (cc)
faulted_later NoMemory u x rest st h m k = k

-- ---- the leases so far

pub record Working (moment : ℕ) (v u : View) : Type 0 where
  pub own : List Event
  pub made : Made v own u
  pub leads : (until : ℕ) → Leads (constants v.fixed) until working (state_of v) own working (state_of u)
  pub of_turns : All IsOfTurn own
  pub standing : Standing u
  pub same : (state_of u).moment ≡ (state_of v).moment
  pub now : (state_of u).moment ≡ moment
  pub calm : Calm own u
  pub took : (takes v.events < takes u.events) ⊎ ((state_of u ≡ state_of v) × (u.fixed ≡ v.fixed) × (takes u.events ≡ takes v.events))

pub working_start : (moment : ℕ) (v : View) → Standing v → (state_of v).moment ≡ moment → Working moment v v
working_start moment v st now = record {
  own = [];
  made = moved_none v st.legal;
  leads = λ until rest p. p;
  of_turns = All-nil IsOfTurn;
  standing = st;
  same = refl;
  now = now;
  calm = inl refl;
  took = inr (refl, refl, refl);
}

kept_fixed : (moment : ℕ) (v u : View) → Working moment v u → u.fixed ≡ v.fixed
kept_fixed moment v u r = (made_kept v u r.own r.made).1

pub working_more : (moment : ℕ) (v u x : View) → Working moment v u → TurnIs 0 (Ok Ended) u x → Working moment v x
working_more moment v u x r t =
    let k = leased u x r.standing t.0 t.1 t.2 t.3 in
    let fixed = kept_fixed moment v u r in
    let own : List Event = Take 0 ∷ t.0 in
    let one = k.more in
    record {
      own = r.own ++ own;
      made = made_append v u x r.own own r.made t.2;
      leads = λ until rest p. subst (λ (es : List Event). Pace (constants v.fixed) until working (state_of v) es) (sym (append_assoc r.own own rest))
          (r.leads until (own ++ rest) (subst (λ (f : Fixed). Leads (constants f) until working (state_of u) own working (state_of x)) fixed (k.leads until) rest p));
      of_turns = All-append IsOfTurn r.own own r.of_turns k.of_turns;
      standing = k.standing;
      same = k.same ∙ r.same;
      now = k.same ∙ r.now;
      calm = inr t.4;
      took = inl (⊎_elim (λ (lt : takes v.events < takes u.events). (omega (arith, lt, one)))
          (λ (e : (state_of u ≡ state_of v) × (u.fixed ≡ v.fixed) × (takes u.events ≡ takes v.events)). let q = e.2 in (omega (arith, q, one))) r.took);
    }

-- ---- no more Takes than there may be

pub within_le : (turns n : ℕ) (es : List Event) → n ≤ turns → TakesFrom turns n es → taken n es ≤ turns
within_le turns n [] le h = le
within_le turns n (Load m ∷ es) le h = within_le turns n es le h
within_le turns n (Take k ∷ es) le h = within_le turns (n + 1) es (let lt = h.0 in omega (arith, lt)) h.1
within_le turns n (Look k ∷ es) le h = within_le turns n es le h
within_le turns n (Settle k ∷ es) le h = within_le turns n es le h
within_le turns n (Send k ∷ es) le h = within_le turns n es le h
within_le turns n (Mark k ∷ es) le h = within_le turns n es le h
within_le turns n (Aside k ∷ es) le h = within_le turns n es le h
within_le turns n (Remove k ∷ es) le h = within_le turns n es le h
within_le turns n (Tick to ∷ es) le h = within_le turns n es le h
within_le turns n (Release j ∷ es) le h = within_le turns n es le h
within_le turns n (Purge id ∷ es) le h = within_le turns n es le h
within_le turns n (PutBack j ∷ es) le h = within_le turns n es le h
within_le turns n (DropBack j ∷ es) le h = within_le turns n es le h
within_le turns n (Stop moment ∷ es) le h = within_le turns 0 es (omega arith) h
within_le turns n (Halt store ∷ es) le h = within_le turns n es le h

pub working_smaller : (moment : ℕ) (v u x : View) → Working moment v u → TurnIs 0 (Ok Ended) u x → x.fixed.turns - takes x.events < u.fixed.turns - takes u.events
working_smaller moment v u x r t =
    let k = leased u x r.standing t.0 t.1 t.2 t.3 in
    let one = k.more in
    let turns : x.fixed.turns ≡ u.fixed.turns = ap (λ (f : Fixed). f.turns) (made_kept u x (Take 0 ∷ t.0) t.2).1 in
    let le = within_le x.fixed.turns 0 x.events (omega arith) k.standing.legal.within in
    omega (arith, one, turns, le)

named_none : (p : Phase) (n : ℕ) → p ≡ Idle → number_of p ≡ Some n → ⊥
named_none p n is at = let z : number_of Idle ≡ Some n = sym (ap number_of is) ∙ at in absurd (cc)

-- nothing is free, so nothing stands in the own queue
pub working_nothing : (moment : ℕ) (v u x : View) → Working moment v u → TurnIs 0 (Ok Nothing) u x → TurnsAre (Ok true) v x
working_nothing moment v u x r t =
    let m = t.0 in
    let st = r.standing in
    let is : state_of x ≡ state_of u = same_here m st.owns in
    let standing : Standing x = standing_on st m (subst AllIdle (sym is) st.idle) in
    let empty : IsOwnEmpty (constants x.fixed) (state_of x) = λ n e there ready. t.3 n (record { it = e; there = there; ready = ready; unnamed = λ w at. named_none (phase (state_of x) w) n (standing.idle w) at }) in
    let count : takes x.events ≡ takes u.events = ap (λ (es : List Event). takes es) (events_here m st.owns) in
    record {
      own = r.own;
      made = subst (λ (es : List Event). Made v es x) (append-nil r.own) (made_append v u x r.own [] r.made m);
      of_turns = r.of_turns;
      end = (
        (λ until rest p. r.leads until rest (subst (λ (s : State). Pace (constants v.fixed) until working s rest) is p)),
        standing,
        t.1,
        ap (λ (s : State). s.moment) is ∙ r.same,
        t.2,
        empty,
        (λ full. ⊎_elim
            (λ (lt : takes v.events < takes u.events). (omega (arith, lt, count)))
            (λ (e : (state_of u ≡ state_of v) × (u.fixed ≡ v.fixed) × (takes u.events ≡ takes v.events)).
            absurd (full (subst (λ (y : Fixed × State). IsOwnEmpty (constants y.0) y.1) (λ i. ((m.fixed ∙ e.1) i, (is ∙ e.0) i)) empty)))
            r.took),
      );
    }

pub working_limit : (moment : ℕ) (v u x : View) → Working moment v u → TurnIs 0 (Ok Limit) u x → TurnsAre (Ok false) v x
working_limit moment v u x r t =
    let m = t.0 in
    let st = r.standing in
    let is : state_of x ≡ state_of u = same_here m st.owns in
    record {
      own = r.own;
      made = subst (λ (es : List Event). Made v es x) (append-nil r.own) (made_append v u x r.own [] r.made m);
      of_turns = r.of_turns;
      end = (
        (λ until. subst (λ (es : List Event). Pace (constants v.fixed) until working (state_of v) es) (append-nil r.own) (r.leads until [] ended)),
        standing_on st m (subst AllIdle (sym is) st.idle),
        t.1,
        t.2,
      );
    }

pub working_fault : (moment : ℕ) (f : DeskFault) (v u x : View) → Working moment v u → TurnIs 0 (Err f) u x → TurnsAre (Err f) v x
working_fault moment f v u x r t = ⊎_elim
    (λ (m : Made u (stop_of f) x). record {
      own = r.own ++ stop_of f;
      made = made_append v u x r.own (stop_of f) r.made m;
      of_turns = All-append IsOfTurn r.own (stop_of f) r.of_turns (stop_turns f);
      end = (
        (λ until. r.leads until (stop_of f) (worked (constants v.fixed) until (state_of u) (stop_of f) (stop_turns f))),
        stopped_behind (IsSomeSpent x) f v u x r.own (stop_of f) r.standing.owns r.made r.calm (faulted_first f u x r.standing m t.1),
      );
    })
    (λ (y : (own : List Event) × All (IsOfLease 0) own × Made u (Take 0 ∷ own ++ stop_of f) x).
    let own : List Event = Take 0 ∷ (y.0 ++ stop_of f) in
    let turns : All IsOfTurn own = All-cons IsOfTurn (Take 0) (y.0 ++ stop_of f) tt (All-append IsOfTurn y.0 (stop_of f) (turns_of 0 y.0 y.1) (stop_turns f)) in
    record {
      own = r.own ++ own;
      made = made_append v u x r.own own r.made y.2;
      of_turns = All-append IsOfTurn r.own own r.of_turns turns;
      end = (
        (λ until. r.leads until own (worked (constants v.fixed) until (state_of u) own turns)),
        stopped_behind (IsSomeSpent x) f v u x r.own own r.standing.owns r.made r.calm (faulted_later f u x y.0 r.standing y.1 y.2 t.1),
      );
    })
    t.0

pub may_take : (moment : ℕ) (v u : View) → Working moment v u → Ready (call.Take 0) u
may_take moment v u r = ((r.standing.some, r.standing.owns 0 r.standing.some), r.standing.idle 0)

pub same_meaning : (u x : View) → TurnIs 0 (Ok Ended) u x → x.fixed.meaning ≡ u.fixed.meaning
same_meaning u x t = ap (λ (f : Fixed). f.meaning) (made_kept u x (Take 0 ∷ t.0) t.2).1
