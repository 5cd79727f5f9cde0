-- A history goes on by one event, or stops being legal there.
use Rattle.std.proofs.Common.{◌≡◌, ◌+◌, ℕ, zero, suc, Bool, true, false, Some, refl, sym, ap, subst, List, [], ◌∷◌, ◌++◌, take, append_assoc}
use Rattle.std.specs.List.{AllByRecursion}
use Rattle.std.specs.Prelude.{slice_get}
use Rattle.std.proofs.lemmas.Option.{slice_get_within}
use Rattle.nb_base.proofs.ListLaws.{take_next}
use Rattle.nb_core.proofs.Appending.{run_more, run_split}
use Rattle.nb_core.proofs.Bridge.{run_unique}
use Rattle.nb_core.proofs.Joining.{all_append}
use Rattle.nb_core.specs.Advanced.{Comes, Advanced}
use Rattle.nb_core.specs.History.{Opening, History, Run, ends, goes, opened, from}
use Rattle.nb_core.specs.Legal.{HasRoutes, IsSound, IsOfWorker, MayFollow, TakesFrom, is_halt}
use Rattle.nb_core.specs.Past.{taken}
use Rattle.nb_core.specs.Replay.{IsAllowed, StopsAt}
use Rattle.nb_core.specs.State.{State, Constants}
use Rattle.nb_core.specs.Step.{Event, Step, Load, Take, Look, Settle, Send, Mark, Aside, Remove, Tick, Release, Purge, PutBack, DropBack, Stop, Halt}
use Rattle.nb_core.specs.declared.replaying.Progress.{Progress}

-- ---- the order of events, one event at a time

follow_on : (b : Bool) (e : Event) (rest : List Event) → MayFollow b (e ∷ []) → MayFollow (is_halt e) rest → MayFollow b (e ∷ rest)
follow_on false e rest h k = k
follow_on true (Stop m) rest h k = k
follow_on true e rest h k = absurd h

follow_split : (b : Bool) (e : Event) (rest : List Event) → MayFollow b (e ∷ rest) → MayFollow b (e ∷ []) × MayFollow (is_halt e) rest
follow_split false e rest h = (tt, h)
follow_split true (Stop m) rest h = (tt, h)
follow_split true e rest h = absurd h

take_on : (turns n : ℕ) (e : Event) (rest : List Event) → TakesFrom turns n (e ∷ []) → TakesFrom turns (taken n (e ∷ [])) rest → TakesFrom turns n (e ∷ rest)
take_on turns n (Load m) rest h k = k
take_on turns n (Take w) rest h k = (h.0, k)
take_on turns n (Look w) rest h k = k
take_on turns n (Settle w) rest h k = k
take_on turns n (Send w) rest h k = k
take_on turns n (Mark w) rest h k = k
take_on turns n (Aside w) rest h k = k
take_on turns n (Remove w) rest h k = k
take_on turns n (Tick to) rest h k = k
take_on turns n (Release m) rest h k = k
take_on turns n (Purge id) rest h k = k
take_on turns n (PutBack m) rest h k = k
take_on turns n (DropBack m) rest h k = k
take_on turns n (Stop m) rest h k = k
take_on turns n (Halt store) rest h k = k

take_split : (turns n : ℕ) (e : Event) (rest : List Event) → TakesFrom turns n (e ∷ rest) → TakesFrom turns n (e ∷ []) × TakesFrom turns (taken n (e ∷ [])) rest
take_split turns n (Load m) rest h = (tt, h)
take_split turns n (Take w) rest h = ((h.0, tt), h.1)
take_split turns n (Look w) rest h = (tt, h)
take_split turns n (Settle w) rest h = (tt, h)
take_split turns n (Send w) rest h = (tt, h)
take_split turns n (Mark w) rest h = (tt, h)
take_split turns n (Aside w) rest h = (tt, h)
take_split turns n (Remove w) rest h = (tt, h)
take_split turns n (Tick to) rest h = (tt, h)
take_split turns n (Release m) rest h = (tt, h)
take_split turns n (Purge id) rest h = (tt, h)
take_split turns n (PutBack m) rest h = (tt, h)
take_split turns n (DropBack m) rest h = (tt, h)
take_split turns n (Stop m) rest h = (tt, h)
take_split turns n (Halt store) rest h = (tt, h)

-- ---- so far

-- these events came, and whatever may follow them may come now
pub record Came (c : Constants) (turns : ℕ) (o : Opening) (es : List Event) (p : Progress) : Type 0 where
  pub workers : AllByRecursion (IsOfWorker o.workers) es
  pub run : Run c (opened o) es p.state
  pub halts_to : (rest : List Event) → MayFollow p.halted rest → MayFollow false (es ++ rest)
  pub halts_from : (rest : List Event) → MayFollow false (es ++ rest) → MayFollow p.halted rest
  pub takes_to : (rest : List Event) → TakesFrom turns p.taken rest → TakesFrom turns 0 (es ++ rest)
  pub takes_from : (rest : List Event) → TakesFrom turns 0 (es ++ rest) → TakesFrom turns p.taken rest

pub came_first : (c : Constants) (turns : ℕ) (o : Opening) (s : State) → s ≡ opened o → Came c turns o [] (record { state = s; halted = false; taken = 0 })
came_first c turns o s is = record {
  workers = tt;
  run = subst (Run c (opened o) []) (sym is) ends;
  halts_to = λ rest h. h;
  halts_from = λ rest h. h;
  takes_to = λ rest h. h;
  takes_from = λ rest h. h;
}

nothing_more : {A : Type 0} (xs : List A) → xs ++ [] ≡ xs
nothing_more [] = refl
nothing_more (x ∷ xs) = ap (λ ys. x ∷ ys) (nothing_more xs)

some_same : {A : Type 0} {x y : A} → Some x ≡ Some y → x ≡ y
some_same e = cc

-- what stands behind an item
parted : {A : Type 0} (xs : List A) (i : ℕ) (x : A) → slice_get xs i ≡ Some x → (rest : List A) × (xs ≡ take i xs ++ x ∷ rest)
parted [] i x e = absurd (cc)
parted (y ∷ ys) zero x e = (ys, ap (λ z. z ∷ ys) (some_same e))
parted (y ∷ ys) (suc i) x e = let r = parted ys i x e in (r.0, ap (λ zs. y ∷ zs) r.1)

one_of : (P : Event → Type 0) (xs : List Event) (e : Event) (ys : List Event) → AllByRecursion P (xs ++ e ∷ ys) → P e
one_of P [] e ys f = f.0
one_of P (x ∷ xs) e ys f = one_of P xs e ys f.1

first_step : {c : Constants} {s t : State} {e : Event} {es : List Event} → Run c s (e ∷ es) t → (u : State) × Step c s e u
first_step (goes {mid = mid} step rest) = (mid, step)

module _ (c : Constants) (turns : ℕ) (o : Opening) (es : List Event) (p : Progress) (came : Came c turns o es p) where
  pub allowed : HasRoutes c → IsSound c o → IsAllowed c turns (from o es) p.state
  allowed routes sound = record {
    legal = record {
      routes = routes;
      sound = record { tables = sound.tables; post = sound.post; fits = sound.fits };
      workers = came.workers;
      halts = subst (MayFollow false) (nothing_more es) (came.halts_to [] tt);
      run = came.run;
    };
    within = subst (TakesFrom turns 0) (nothing_more es) (came.takes_to [] tt);
  }

  module _ (e : Event) where
    again : (rest : List Event) → (es ++ e ∷ []) ++ rest ≡ es ++ e ∷ rest
    again rest = append_assoc es (e ∷ []) rest

    pub came_more : (q : Progress) → Comes c turns o.workers p e q.state → q.halted ≡ is_halt e → q.taken ≡ taken p.taken (e ∷ []) → Came c turns o (es ++ e ∷ []) q
    came_more q x halted_is taken_is = record {
      workers = all_append (IsOfWorker o.workers) es (e ∷ []) came.workers (x.worker, tt);
      run = run_more came.run x.step;
      halts_to = λ rest h. subst (MayFollow false) (sym (again rest)) (came.halts_to (e ∷ rest) (follow_on p.halted e rest x.halts (subst (λ b. MayFollow b rest) halted_is h)));
      halts_from = λ rest h. subst (λ b. MayFollow b rest) (sym halted_is) (follow_split p.halted e rest (came.halts_from (e ∷ rest) (subst (MayFollow false) (again rest) h))).1;
      takes_to = λ rest h. subst (TakesFrom turns 0) (sym (again rest)) (came.takes_to (e ∷ rest) (take_on turns p.taken e rest x.takes (subst (λ n. TakesFrom turns n rest) taken_is h)));
      takes_from = λ rest h. subst (λ n. TakesFrom turns n rest) (sym taken_is) (take_split turns p.taken e rest (came.takes_from (e ∷ rest) (subst (TakesFrom turns 0) (again rest) h))).1;
    }

    pub came_not : ((t : State) → Comes c turns o.workers p e t → ⊥) → (rest : List Event) (t : State) → IsAllowed c turns (from o (es ++ e ∷ rest)) t → ⊥
    came_not never rest t a =
        let r = run_split es (e ∷ rest) a.legal.run in
        let s = first_step r.2 in
        never s.0 (record {
          worker = one_of (IsOfWorker o.workers) es e rest a.legal.workers;
          halts = (follow_split p.halted e rest (came.halts_from (e ∷ rest) a.legal.halts)).0;
          takes = (take_split turns p.taken e rest (came.takes_from (e ∷ rest) a.within)).0;
          step = subst (λ m. Step c m e s.0) (run_unique r.1 came.run) s.1;
        })

-- ---- one event of a history

module _ (c : Constants) (turns : ℕ) (h : History) (i : ℕ) (e : Event) (at : slice_get h.events i ≡ Some e) (p : Progress) (came : Came c turns h.opening (take i h.events) p) (q : Progress) (b : Bool)
    (went : Advanced c turns h.opening.workers p e q b) where
  pub goes_on : b ≡ true → Came c turns h.opening (take (i + 1) h.events) q
  goes_on is =
      let w : Comes c turns h.opening.workers p e q.state × (q.halted ≡ is_halt e) × (q.taken ≡ taken p.taken (e ∷ [])) = subst (Advanced c turns h.opening.workers p e q) is went in
      subst (λ es. Came c turns h.opening es q) (sym (take_next h.events i e at)) (came_more c turns h.opening (take i h.events) p came e q w.0 w.1 w.2)

  pub stops : HasRoutes c → IsSound c h.opening → b ≡ false → StopsAt c turns h i
  stops routes sound is =
      let never : ((t : State) → Comes c turns h.opening.workers p e t → ⊥) = subst (Advanced c turns h.opening.workers p e q) is went in
      let bad = came_not c turns h.opening (take i h.events) p came e never in
      let r = parted h.events i e at in
      record {
        there = slice_get_within h.events i e at;
        before = (p.state, allowed c turns h.opening (take i h.events) p came routes sound);
        with_it = λ t a. bad [] t (subst (λ es. IsAllowed c turns (from h.opening es) t) (take_next h.events i e at) a);
        whole = λ t a. bad r.0 t (subst (λ es. IsAllowed c turns (from h.opening es) t) r.1 a);
      }

pub replayed : (c : Constants) (turns : ℕ) (h : History) (i : ℕ) (p : Progress) → Came c turns h.opening (take i h.events) p → take i h.events ≡ h.events → HasRoutes c → IsSound c h.opening → IsAllowed c turns h p.state
replayed c turns h i p came all routes sound = subst (λ es. IsAllowed c turns (from h.opening es) p.state) all (allowed c turns h.opening (take i h.events) p came routes sound)
