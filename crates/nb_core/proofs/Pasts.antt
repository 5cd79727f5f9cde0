-- Histories that go on, and what events of others leave as it is. No lemma here is by cases on `after`: each goes by the
-- steps of a legal history.
use Rattle.std.proofs.Common.{◌≡◌, ◌≢◌, ℕ, zero, suc, ◌+◌, ◌<◌, ◌≤◌, List, [], ◌∷◌, ◌++◌, length, Bool, false, Some, None, add-one, refl, sym, ap, ◌∙◌, subst, arith, length-append, append_assoc, append-nil}
use Rattle.std.specs.Prelude.{All, nat_lt, if◌then◌else◌}
use Rattle.std.specs.FinMap as map
use Rattle.std.proofs.lemmas.List.Elements.{All-head, All-tail, All-nil}
use Rattle.std.proofs.lemmas.Bool.Decides.{nat_tests}
use Rattle.nb_base.proofs.Maps.{numbers, kept}
use Rattle.nb_base.specs.declared.tables.Queued.{Queued}
use Rattle.nb_core.proofs.Appending.{run_more, run_split}
use Rattle.nb_core.proofs.Bridge.{run_is, run_can}
use Rattle.nb_core.proofs.Held.{phase_other, BelowAt, HoldingAt, below_kept, holding_kept, nobody, phase_empty}
use Rattle.nb_core.proofs.Joining.{all_append, halts_push}
use Rattle.nb_core.proofs.Placing.{put_same}
use Rattle.nb_core.specs.After.{after, run}
use Rattle.nb_core.specs.Calls.{View, times, places, Foreign, state_of, Owns, OwnsAll, Ready, IsSending, AtRest, CanRelease, CanPurge, CanReturn, Gives, Called, upto, whole}
use Rattle.nb_core.specs.History.{Run, ends, goes, opened}
use Rattle.nb_core.specs.Legal.{Legal, IsSound, IsOfWorker, is_halt, halted, halted_after, TakesFrom, IsWithin}
use Rattle.nb_core.specs.Past.{Fixed, constants, state_after, IsLegal, taken, takes}
use Rattle.nb_core.specs.State.{State, Constants, Idle, phase, number_of, entry, AllIdle}
use Rattle.nb_core.specs.Step.{Event, Load, Take, Look, Settle, Send, Mark, Aside, Remove, Tick, Release, Purge, PutBack, DropBack, Stop, Halt, Step, load, take, look_known, look_new, settle_twin, settle_fault, settle_conflict, settle_commit, send, mark, aside, remove, tick, release, purge, put_back, drop_back, stop, halt}
use Rattle.nb_core.specs.declared.call.Answer.{Answer}
use Rattle.nb_core.specs.declared.call.Call.{Call}
use Rattle.nb_core.specs.declared.call.Call.TheVariants as call

run-append : (c : Constants) (s : State) (xs ys : List Event) → run c s (xs ++ ys) ≡ run c (run c s xs) ys
run-append c s [] ys = refl
run-append c s (x ∷ xs) ys = run-append c (after c s x) xs ys

-- the state that is computed, after one event more
pub state_push : (f : Fixed) (es : List Event) (e : Event) → state_after f (es ++ e ∷ []) ≡ after (constants f) (state_after f es) e
state_push f es e = run-append (constants f) (opened f.opening) es (e ∷ [])

-- from the state in the middle of a legal history the rest leads to its end
pub run_from : (f : Fixed) (xs ys : List Event) → IsLegal f (xs ++ ys) → Run (constants f) (state_after f xs) ys (state_after f (xs ++ ys))
run_from f xs ys l =
    let p = run_split xs ys l.legal.run in
    subst (λ m. Run (constants f) m ys (state_after f (xs ++ ys))) (run_is p.1) p.2

-- ---- one event more

-- the event isn't one Take too many after m of them
unfoldable pub IsAllowed : ℕ → ℕ → Event → Type 0
IsAllowed turns m (Load x) = Unit {0}
IsAllowed turns m (Take w) = m < turns
IsAllowed turns m (Look w) = Unit {0}
IsAllowed turns m (Settle w) = Unit {0}
IsAllowed turns m (Send w) = Unit {0}
IsAllowed turns m (Mark w) = Unit {0}
IsAllowed turns m (Aside w) = Unit {0}
IsAllowed turns m (Remove w) = Unit {0}
IsAllowed turns m (Tick to) = Unit {0}
IsAllowed turns m (Release n) = Unit {0}
IsAllowed turns m (Purge id) = Unit {0}
IsAllowed turns m (PutBack n) = Unit {0}
IsAllowed turns m (DropBack n) = Unit {0}
IsAllowed turns m (Stop moment) = Unit {0}
IsAllowed turns m (Halt store) = Unit {0}

pub allowed_take : (turns m w : ℕ) → m < turns → IsAllowed turns m (Take w)
unfolding IsAllowed
allowed_take turns m w h = h

one_within : (turns m : ℕ) (e : Event) → IsAllowed turns m e → TakesFrom turns m (e ∷ [])
unfolding IsAllowed
one_within turns m (Load x) h = tt
one_within turns m (Take w) h = (h, tt)
one_within turns m (Look w) h = tt
one_within turns m (Settle w) h = tt
one_within turns m (Send w) h = tt
one_within turns m (Mark w) h = tt
one_within turns m (Aside w) h = tt
one_within turns m (Remove w) h = tt
one_within turns m (Tick to) h = tt
one_within turns m (Release n) h = tt
one_within turns m (Purge id) h = tt
one_within turns m (PutBack n) h = tt
one_within turns m (DropBack n) h = tt
one_within turns m (Stop moment) h = tt
one_within turns m (Halt store) h = tt

within_more : (turns m : ℕ) (es : List Event) (e : Event) → TakesFrom turns m es → IsAllowed turns (taken m es) e → TakesFrom turns m (es ++ e ∷ [])
within_more turns m [] e f h = one_within turns m e h
within_more turns m (Load x ∷ es) e f h = within_more turns m es e f h
within_more turns m (Take w ∷ es) e f h = (f.0, within_more turns (m + 1) es e f.1 h)
within_more turns m (Look w ∷ es) e f h = within_more turns m es e f h
within_more turns m (Settle w ∷ es) e f h = within_more turns m es e f h
within_more turns m (Send w ∷ es) e f h = within_more turns m es e f h
within_more turns m (Mark w ∷ es) e f h = within_more turns m es e f h
within_more turns m (Aside w ∷ es) e f h = within_more turns m es e f h
within_more turns m (Remove w ∷ es) e f h = within_more turns m es e f h
within_more turns m (Tick to ∷ es) e f h = within_more turns m es e f h
within_more turns m (Release n ∷ es) e f h = within_more turns m es e f h
within_more turns m (Purge id ∷ es) e f h = within_more turns m es e f h
within_more turns m (PutBack n ∷ es) e f h = within_more turns m es e f h
within_more turns m (DropBack n ∷ es) e f h = within_more turns m es e f h
within_more turns m (Stop moment ∷ es) e f h = within_more turns 0 es e f h
within_more turns m (Halt store ∷ es) e f h = within_more turns m es e f h

pub halted_push : (es : List Event) (e : Event) → halted (es ++ e ∷ []) ≡ is_halt e
halted_push es e = more false es e
  where
    more : (b : Bool) (xs : List Event) (e : Event) → halted_after b (xs ++ e ∷ []) ≡ is_halt e
    more b [] e = refl
    more b (x ∷ xs) e = more (is_halt x) xs e

pub taken_push : (es : List Event) (e : Event) → takes (es ++ e ∷ []) ≡ taken (takes es) (e ∷ [])
taken_push es e = more 0 es e
  where
    more : (m : ℕ) (xs : List Event) (e : Event) → taken m (xs ++ e ∷ []) ≡ taken (taken m xs) (e ∷ [])
    more m [] e = refl
    more m (Load x ∷ xs) e = more m xs e
    more m (Take w ∷ xs) e = more (m + 1) xs e
    more m (Look w ∷ xs) e = more m xs e
    more m (Settle w ∷ xs) e = more m xs e
    more m (Send w ∷ xs) e = more m xs e
    more m (Mark w ∷ xs) e = more m xs e
    more m (Aside w ∷ xs) e = more m xs e
    more m (Remove w ∷ xs) e = more m xs e
    more m (Tick to ∷ xs) e = more m xs e
    more m (Release n ∷ xs) e = more m xs e
    more m (Purge id ∷ xs) e = more m xs e
    more m (PutBack n ∷ xs) e = more m xs e
    more m (DropBack n ∷ xs) e = more m xs e
    more m (Stop moment ∷ xs) e = more 0 xs e
    more m (Halt store ∷ xs) e = more m xs e

-- a step from the state of a legal history is one of a legal history, and leads to its state
pub next_state : (f : Fixed) (es : List Event) (e : Event) (t : State) → IsLegal f es → Step (constants f) (state_after f es) e t → t ≡ state_after f (es ++ e ∷ [])
next_state f es e t l step = run_is (run_more l.legal.run step)

pub legal_push : (f : Fixed) (es : List Event) (e : Event) (t : State) → IsLegal f es → halted es ≡ false → IsOfWorker f.opening.workers e → IsAllowed f.turns (takes es) e → Step (constants f) (state_after f es) e t → IsLegal f (es ++ e ∷ [])
legal_push f es e t l off worker allowed step = record {
  legal = record {
    routes = l.legal.routes;
    sound = l.legal.sound;
    workers = all_append (IsOfWorker f.opening.workers) es (e ∷ []) l.legal.workers (worker, tt);
    halts = halts_push false es e l.legal.halts off;
    run = run_can (run_more l.legal.run step);
  };
  within = within_more f.turns 0 es e l.within allowed;
}

-- a store failed
pub legal_halt : (f : Fixed) (es : List Event) (store : Rattle.nb_base.specs.declared.entry.Which.Which) → IsLegal f es → halted es ≡ false → IsLegal f (es ++ Halt store ∷ [])
unfolding IsAllowed
legal_halt f es store l off = legal_push f es (Halt store) (state_after f es) l off tt tt halt

-- the history without an event
pub legal_start : (f : Fixed) → Rattle.nb_core.specs.Legal.HasRoutes (constants f) → IsSound (constants f) f.opening → IsLegal f []
legal_start f routes sound = record { legal = record { routes = routes; sound = sound; workers = tt; halts = tt; run = ends }; within = tt }

-- ---- events of others

-- the worker is another
other : (ws : List ℕ) (v w : ℕ) → times v ws ≡ 0 → 0 < times w ws → w ≢ v
other ws v w f o e = let z : times w ws ≡ 0 = subst (λ (x : ℕ). times x ws ≡ 0) (sym e) f in absurd (omega arith)

none_own : (ws : List ℕ) (w : ℕ) → ws ≡ [] → 0 < times w ws → ⊥
none_own ws w e o = let z : 0 < times w [] = subst (λ (l : List ℕ). 0 < times w l) e o in absurd (omega arith)

-- what an event of others leaves to a worker: its phase, the entry that it holds, and the moment
pub record Leaves (s t : State) (w : ℕ) : Type 0 where
  pub phase_is : phase t w ≡ phase s w
  pub entry_is : (n : ℕ) → number_of (phase s w) ≡ Some n → entry t n ≡ entry s n
  pub moment_is : t.moment ≡ s.moment

leaves_step : {c : Constants} (ws : List ℕ) (w : ℕ) {s : State} {e : Event} {t : State} → Step c s e t → BelowAt s → HoldingAt c s → Foreign ws e → 0 < times w ws → Leaves s t w
leaves_step {c = c} ws w {s = s} step b h f o = go step f
  where
    -- another worker's phase changes
    phases : (v : ℕ) (p : Rattle.nb_core.specs.State.Phase) → times v ws ≡ 0 → phase (Rattle.nb_core.specs.State.at_phase s v p) w ≡ phase s w
    phases v p g = phase_other s.phases v p w (other ws v w g o)

    -- an entry is put
    stays : (e : Queued) (n : ℕ) → number_of (phase s w) ≡ Some n → map.get (map.insert s.post.entries s.post.next e) n ≡ map.get s.post.entries n
    stays e n is = let x = h.stands w n is in put_same s.post.entries s.post.next e b n x.it x.there

    go : {e : Event} {t : State} → Step c s e t → Foreign ws e → Leaves s t w
    go (load {m = m} named room) g = record { phase_is = refl; entry_is = stays (record { queue = c.settings.endpoint; due = None; envelope = m }); moment_is = refl }
    go (take {w = v} i l) g = record { phase_is = phases v _ g; entry_is = λ n is. refl; moment_is = refl }
    go (look_known {w = v} x y z) g = record { phase_is = phases v _ g; entry_is = λ n is. refl; moment_is = refl }
    go (look_new {w = v} x y z) g = record { phase_is = phases v _ g; entry_is = λ n is. refl; moment_is = refl }
    go (settle_twin {w = v} x y z) g = record { phase_is = phases v _ g; entry_is = λ n is. refl; moment_is = refl }
    go (settle_fault {w = v} x y z j) g = record { phase_is = phases v _ g; entry_is = λ n is. refl; moment_is = refl }
    go (settle_conflict {w = v} x y z j r) g = record { phase_is = phases v _ g; entry_is = λ n is. refl; moment_is = refl }
    go (settle_commit {w = v} x y z j fr r) g = record { phase_is = phases v _ g; entry_is = λ n is. refl; moment_is = refl }
    go (send {w = v} {op = op} x y z) g = record { phase_is = phases v _ g; entry_is = stays (record { queue = op.queue; due = op.due; envelope = op.envelope }); moment_is = refl }
    go (mark {w = v} x y z) g = record { phase_is = phases v _ g; entry_is = λ n is. refl; moment_is = refl }
    go (aside {w = v} {queue = queue} {due = due} {copy = copy} x y) g = record { phase_is = phases v _ g; entry_is = stays (record { queue = queue; due = due; envelope = copy }); moment_is = refl }
    go (remove {w = v} {n = m} x) g = record {
      phase_is = phases v Idle g;
      entry_is = λ n is. kept numbers s.post.entries m n (λ same. other ws v w g o (h.apart w v m (is ∙ ap Some same) (ap number_of x)));
      moment_is = refl;
    }
    go (tick i l) g = absurd (none_own ws w g o)
    go (release i x y z) g = absurd (none_own ws w g o)
    go (purge i x y z) g = absurd (none_own ws w g o)
    go (put_back i x y z j r) g = absurd (none_own ws w g o)
    go (drop_back i x) g = absurd (none_own ws w g o)
    go stop g = absurd g
    go halt g = record { phase_is = refl; entry_is = λ n is. refl; moment_is = refl }

leaves_both : (s m t : State) (w : ℕ) → Leaves s m w → Leaves m t w → Leaves s t w
leaves_both s m t w a b = record {
  phase_is = b.phase_is ∙ a.phase_is;
  entry_is = λ n is. b.entry_is n (ap number_of a.phase_is ∙ is) ∙ a.entry_is n is;
  moment_is = b.moment_is ∙ a.moment_is;
}

pub leaves_all : {c : Constants} (ws : List ℕ) (w : ℕ) {s : State} {es : List Event} {t : State} → Run c s es t → BelowAt s → HoldingAt c s → All (Foreign ws) es → 0 < times w ws → Leaves s t w
leaves_all ws w ends b h f o = record { phase_is = refl; entry_is = λ n is. refl; moment_is = refl }
leaves_all ws w {s = s} {t = t} (goes {mid = mid} {e = e} {es = es} step rest) b h f o =
    leaves_both s mid t w (leaves_step ws w step b h (All-head (Foreign ws) e es f) o)
    (leaves_all ws w rest (below_kept step b) (holding_kept step b h) (All-tail (Foreign ws) e es f) o)

-- the state of a legal history holds entries apart
holding_run : {c : Constants} {s t : State} {es : List Event} → Run c s es t → BelowAt s → HoldingAt c s → BelowAt t × HoldingAt c t
holding_run ends b h = (b, h)
holding_run (goes step rest) b h = holding_run rest (below_kept step b) (holding_kept step b h)

holding_of : (f : Fixed) (es : List Event) → IsLegal f es → BelowAt (state_after f es) × HoldingAt (constants f) (state_after f es)
holding_of f es l =
    holding_run l.legal.run (record { below = λ n e there. (l.legal.sound.post.entries n e there).below }) (nobody f.settings map.empty f.opening.post.entries phase_empty)

-- what one view sees is the beginning of what another sees
pub seen_from : (v w : View) (others : List Event) → w.fixed ≡ v.fixed → w.events ≡ v.events ++ others → IsLegal w.fixed w.events → Run (constants v.fixed) (state_of v) others (state_of w)
seen_from v w others fixed events legal =
    let P : Fixed × List Event → Type 0 = λ x. IsLegal x.0 x.1 in
    let l : IsLegal v.fixed (v.events ++ others) = subst P (λ i. (fixed i, events i)) legal in
    subst (λ s. Run (constants v.fixed) (state_of v) others s) (λ i. state_after (sym fixed i) (sym events i)) (run_from v.fixed v.events others l)

module _ (v w : View) (others : List Event) (fixed : w.fixed ≡ v.fixed) (events : w.events ≡ v.events ++ others) (before : IsLegal v.fixed v.events) (legal : IsLegal w.fixed w.events)
    (foreign : All (Foreign v.workers) others) (alone : OwnsAll v → others ≡ []) (all : OwnsAll w) where
  owned : (k : ℕ) → Owns v k → Owns w k
  owned k o = let lt : k < w.fixed.opening.workers = subst (λ (f : Fixed). k < f.opening.workers) (sym fixed) o.0 in (lt, all k lt)

  left : (k : ℕ) → Owns v k → Leaves (state_of v) (state_of w) k
  left k o = let h = holding_of v.fixed v.events before in leaves_all v.workers k (seen_from v w others fixed events legal) h.0 h.1 foreign o.1

  -- who owns all sees the same
  same_state : OwnsAll v → state_of w ≡ state_of v
  same_state o =
      let same : w.events ≡ v.events = events ∙ ap (λ (es : List Event). v.events ++ es) (alone o) ∙ append-nil v.events in
      λ i. state_after (fixed i) (same i)

  rest : AtRest v → AtRest w
  rest r = (all, subst AllIdle (sym (same_state r.0)) r.1)

  -- what holds of the state of who owns all
  still : (P : Constants → State → Type 0) → OwnsAll v → P (constants v.fixed) (state_of v) → P (constants w.fixed) (state_of w)
  still P o h = subst (λ (x : Constants × State). P x.0 x.1) (λ i. (constants (sym fixed i), sym (same_state o) i)) h

  still_sending : (k n : ℕ) → Owns v k → IsSending (state_of v) k n → IsSending (state_of w) k n
  still_sending k n o x = record { number = x.number; id = x.id; ops = x.ops; k = x.k; sending = (left k o).phase_is ∙ x.sending; left_is = x.left_is }

  -- a call that one view may make, another may make that has seen events of others too, and owns all workers
  pub ready_later : (x : Call) → Ready x v → Ready x w
  ready_later (call.Load m) r = tt
  ready_later (call.Take k) r = (owned k r.0, (left k r.0).phase_is ∙ r.1)
  ready_later (call.Look k) r = (owned k r.0, (r.1.0, (left k r.0).phase_is ∙ r.1.1))
  ready_later (call.Settle k o) r =
      let l = left k r.0 in (
        owned k r.0,
        record {
          number = r.1.number;
          it = r.1.it;
          looked = l.phase_is ∙ r.1.looked;
          there = l.entry_is r.1.number (ap number_of r.1.looked) ∙ r.1.there;
          verdict_is = r.1.verdict_is ∙ (λ i. (sym fixed i).meaning.on_reads o.reads r.1.it.envelope (sym l.moment_is i));
        },
      )
  ready_later (call.Send k) r = (owned k r.0, (r.1.0, r.1.1, still_sending k r.1.0 r.0 r.1.2))
  ready_later (call.Mark k) r = (owned k r.0, still_sending k 0 r.0 r.1)
  ready_later (call.Aside k) r = (owned k r.0, (r.1.0, r.1.1, r.1.2, r.1.3, (left k r.0).phase_is ∙ r.1.4))
  ready_later (call.Remove k) r = (owned k r.0, (r.1.0, (left k r.0).phase_is ∙ r.1.1))
  ready_later (call.Tick to) r = (rest r.0, still (λ c s. s.moment ≤ to) r.0.0 r.1)
  ready_later (call.Release n) r = (rest r.0, still (λ c s. CanRelease s n) r.0.0 r.1)
  ready_later (call.Purge id) r = (rest r.0, still (λ c s. CanPurge c s id) r.0.0 r.1)
  ready_later (call.PutBack n) r = (rest r.0, still (λ c s. CanReturn c s n) r.0.0 r.1)
  ready_later (call.DropBack n) r = (rest r.0, still (λ c s. map.get s.back n ≡ Some tt) r.0.0 r.1)
  ready_later (call.Unsent k) r = (owned k r.0, (r.1.0, still_sending k r.1.0 r.0 r.1.1))
  ready_later call.NextDue r = tt
  ready_later (call.IsDrained until) r = tt

-- a call that was made where all is owned, is one of the caller that saw the beginning
pub called_through : (x : Call) (answer : Answer) (v a b w : View) (others : List Event) → Called x answer a b → OwnsAll a
    → a.fixed ≡ v.fixed → a.events ≡ v.events ++ others → All (Foreign v.workers) others → (OwnsAll v → others ≡ [])
    → w.events ≡ b.events → w.fixed ≡ v.fixed → w.workers ≡ v.workers → ((own : List Event) → b.events ≡ a.events ++ own → w.mine ≡ v.mine ++ places (length a.events) own)
    → Called x answer v w
called_through x answer v a b w others called all fixed events foreign alone at_end same workers mine =
    let none : called.others ≡ [] = called.alone all in
    let here : a.events ++ called.others ≡ a.events = ap (λ (es : List Event). a.events ++ es) none ∙ append-nil a.events in
    let after' : b.events ≡ a.events ++ called.own = called.events ∙ ap (λ (es : List Event). es ++ called.own) here in
    record {
      others = others;
      own = called.own;
      foreign = foreign;
      alone = alone;
      events = at_end ∙ after' ∙ ap (λ (es : List Event). es ++ called.own) events;
      mine = mine called.own after' ∙ ap (λ (es : List Event). v.mine ++ places (length es) called.own) events;
      workers = workers;
      fixed = same;
      legal = subst (λ (x : Fixed × List Event). IsLegal x.0 x.1) (λ i. (((called.fixed ∙ fixed) ∙ sym same) i, sym at_end i)) called.legal;
      gives = subst (λ (y : Fixed × List Event). Gives y.0 y.1 x answer called.own) (λ i. (fixed i, (here ∙ events) i)) called.gives;
    }

-- ---- the one caller of a desk

pub times-append : (x : ℕ) (xs ys : List ℕ) → times x (xs ++ ys) ≡ times x xs + times x ys
times-append x [] ys = omega arith
times-append x (y ∷ xs) ys = omega (arith, times-append x xs ys)

pub times_upto : (x n : ℕ) → times x (upto n) ≡ (if nat_lt x n then 1 else 0)
times_upto x zero = grind (arith, nat_tests)
times_upto x (suc n) = let a = times-append x (upto n) (n ∷ []) in let b = times_upto x n in grind (arith, nat_tests)

pub upto_more : (n : ℕ) → upto (n + 1) ≡ upto n ++ n ∷ []
upto_more n = rw add-one refl

pub whole_owned : (f : Fixed) (es : List Event) → OwnsAll (whole f es)
whole_owned f es w lt = let a = times_upto w f.opening.workers in grind (arith, nat_tests)

upto_places : (es own : List Event) → upto (length (es ++ own)) ≡ upto (length es) ++ places (length es) own
upto_places es [] = ap (λ (l : List Event). upto (length l)) (append-nil es) ∙ sym (append-nil (upto (length es)))
upto_places es (e ∷ own) =
    let again : (es ++ e ∷ []) ++ own ≡ es ++ (e ∷ own) = append_assoc es (e ∷ []) own in
    let n : length (es ++ e ∷ []) ≡ length es + 1 = length-append es (e ∷ []) ∙ omega arith in
    ap (λ (l : List Event). upto (length l)) (sym again)
    ∙ upto_places (es ++ e ∷ []) own
    ∙ ap (λ (k : ℕ). upto k ++ places k own) n
    ∙ ap (λ (l : List ℕ). l ++ places (length es + 1) own) (upto_more (length es))
    ∙ append_assoc (upto (length es)) (length es ∷ []) (places (length es + 1) own)

-- a call of the one caller
pub called_alone : (x : Call) (answer : Answer) (f : Fixed) (es own : List Event) → IsLegal f (es ++ own) → Gives f es x answer own → Called x answer (whole f es) (whole f (es ++ own))
called_alone x answer f es own legal gives = record {
  others = [];
  own = own;
  foreign = All-nil (Foreign (upto f.opening.workers));
  alone = λ _. refl;
  events = ap (λ (l : List Event). l ++ own) (sym (append-nil es));
  mine = upto_places es own ∙ ap (λ (l : List Event). upto (length es) ++ places (length l) own) (sym (append-nil es));
  workers = refl;
  fixed = refl;
  legal = legal;
  gives = subst (λ (l : List Event). Gives f l x answer own) (sym (append-nil es)) gives;
}
