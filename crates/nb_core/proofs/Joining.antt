-- Runs one after the other.
use Rattle.std.proofs.Common.{Bool, true, false, true≢false, ◌≡◌, ℕ, ◌≤◌, max, subst, List, [], ◌∷◌, ◌++◌, arith}
use Rattle.std.specs.List.{AllByRecursion}
use Rattle.nb_core.specs.History.{Opening, History, Run, opened, ends, goes}
use Rattle.nb_core.specs.Legal.{Legal, IsOfWorker, is_halt, halted_after, MayFollow, StopsAfterHalt, joined}
use Rattle.nb_base.specs.declared.tables.PostState.{PostState}
use Rattle.nb_base.specs.declared.tables.Tables.{Tables}
use Rattle.nb_core.specs.State.{State, Constants}
use Rattle.nb_core.specs.Step.{Event, Step, Load, Take, Look, Settle, Send, Mark, Aside, Remove, Tick, Release, Purge, PutBack, DropBack, Stop, Halt, stop}
use Rattle.nb_core.specs.Legal.{TakesFrom, IsWithin, halted}
use Rattle.nb_core.specs.History.{from}
use Rattle.nb_core.proofs.Appending.{run_more, in_place_of_halt}
use Rattle.nb_base.specs.declared.entry.Which.{Which}
use Rattle.std.specs.Prelude.{refl, ◌+◌}

pub run_append : {c : Constants} {s mid s' : State} {xs ys : List Event} → Run c s xs mid → Run c mid ys s' → Run c s (xs ++ ys) s'
run_append ends r = r
run_append (goes step rest) r = goes step (run_append rest r)

pub all_append : (P : Event → Type 0) (xs ys : List Event) → AllByRecursion P xs → AllByRecursion P ys → AllByRecursion P (xs ++ ys)
all_append P [] ys f g = g
all_append P (x ∷ xs) ys f g = (f.0, all_append P xs ys f.1 g)

more_workers : (m n : ℕ) → m ≤ n → (e : Event) → IsOfWorker m e → IsOfWorker n e
more_workers m n l (Load x) h = tt
more_workers m n l (Take w) h = omega arith
more_workers m n l (Look w) h = omega arith
more_workers m n l (Settle w) h = omega arith
more_workers m n l (Send w) h = omega arith
more_workers m n l (Mark w) h = omega arith
more_workers m n l (Aside w) h = omega arith
more_workers m n l (Remove w) h = omega arith
more_workers m n l (Tick to) h = tt
more_workers m n l (Release number) h = tt
more_workers m n l (Purge id) h = tt
more_workers m n l (PutBack number) h = tt
more_workers m n l (DropBack number) h = tt
more_workers m n l (Stop moment) h = tt
more_workers m n l (Halt store) h = tt

all_more : (m n : ℕ) → m ≤ n → (es : List Event) → AllByRecursion (IsOfWorker m) es → AllByRecursion (IsOfWorker n) es
all_more m n l [] f = tt
all_more m n l (e ∷ es) f = (more_workers m n l e f.0, all_more m n l es f.1)

-- a Stop may follow whatever came before
halts_joined : (b : Bool) (xs : List Event) (moment : ℕ) (ys : List Event) → MayFollow b xs → StopsAfterHalt ys → MayFollow b (xs ++ Stop moment ∷ ys)
halts_joined false [] moment ys f g = g
halts_joined true [] moment ys f g = g
halts_joined false (x ∷ xs) moment ys f g = halts_joined (is_halt x) xs moment ys f g
halts_joined true (Stop m ∷ xs) moment ys f g = halts_joined false xs moment ys f g
halts_joined true (x ∷ xs) moment ys f g = absurd f

-- any event may follow where no Halt is the last
pub halts_push : (b : Bool) (xs : List Event) (e : Event) → MayFollow b xs → halted_after b xs ≡ false → MayFollow b (xs ++ e ∷ [])
halts_push false [] e f off = tt
halts_push true [] e f off = absurd (true≢false off)
halts_push false (x ∷ xs) e f off = halts_push (is_halt x) xs e f off
halts_push true (Stop m ∷ xs) e f off = halts_push false xs e f off
halts_push true (x ∷ xs) e f off = absurd f

-- a Stop leads to the state of an opening
stopped : {c : Constants} (s : State) (o : Opening) → s.tables ≡ o.tables → s.post ≡ o.post → Step c s (Stop o.moment) (opened o)
stopped {c = c} s o t p =
    subst (λ (x : Tables × PostState). Step c s (Stop o.moment) (opened (record o { tables = x.0; post = x.1 }))) (λ i. (t i, p i)) stop

pub legal_joined : {c : Constants} {first second : History} {s s' : State} → Legal c first s → Legal c second s' → s.tables ≡ second.opening.tables → s.post ≡ second.opening.post
    → Legal c (joined first second) s'
legal_joined {first = first} {second = second} {s = s} a b t p =
    let most = max first.opening.workers second.opening.workers in
    record {
      routes = a.routes;
      sound = record { tables = a.sound.tables; post = a.sound.post; fits = a.sound.fits };
      workers = all_append (IsOfWorker most) first.events _
          (all_more first.opening.workers _ (omega arith) first.events a.workers)
          (tt, all_more second.opening.workers _ (omega arith) second.events b.workers);
      halts = halts_joined false first.events second.opening.moment second.events a.halts b.halts;
      run = run_append a.run (goes (stopped s second.opening t p) b.run);
    }

-- each part within its Takes
within_joined : (turns m : ℕ) (xs : List Event) (moment : ℕ) (ys : List Event) → TakesFrom turns m xs → IsWithin turns ys → TakesFrom turns m (xs ++ Stop moment ∷ ys)
within_joined turns m [] moment ys f g = g
within_joined turns m (Load x ∷ xs) moment ys f g = within_joined turns m xs moment ys f g
within_joined turns m (Take w ∷ xs) moment ys f g = (f.0, within_joined turns (m + 1) xs moment ys f.1 g)
within_joined turns m (Look w ∷ xs) moment ys f g = within_joined turns m xs moment ys f g
within_joined turns m (Settle w ∷ xs) moment ys f g = within_joined turns m xs moment ys f g
within_joined turns m (Send w ∷ xs) moment ys f g = within_joined turns m xs moment ys f g
within_joined turns m (Mark w ∷ xs) moment ys f g = within_joined turns m xs moment ys f g
within_joined turns m (Aside w ∷ xs) moment ys f g = within_joined turns m xs moment ys f g
within_joined turns m (Remove w ∷ xs) moment ys f g = within_joined turns m xs moment ys f g
within_joined turns m (Tick to ∷ xs) moment ys f g = within_joined turns m xs moment ys f g
within_joined turns m (Release n ∷ xs) moment ys f g = within_joined turns m xs moment ys f g
within_joined turns m (Purge id ∷ xs) moment ys f g = within_joined turns m xs moment ys f g
within_joined turns m (PutBack n ∷ xs) moment ys f g = within_joined turns m xs moment ys f g
within_joined turns m (DropBack n ∷ xs) moment ys f g = within_joined turns m xs moment ys f g
within_joined turns m (Stop x ∷ xs) moment ys f g = within_joined turns 0 xs moment ys f g
within_joined turns m (Halt store ∷ xs) moment ys f g = within_joined turns m xs moment ys f g

pub joined_within : (turns : ℕ) (first second : History) → IsWithin turns first.events → IsWithin turns second.events → IsWithin turns (joined first second).events
joined_within turns first second f g = within_joined turns 0 first.events second.opening.moment second.events f g

-- a Halt doesn't follow a Halt
before_halt : (b : Bool) (xs : List Event) (store : Which) → MayFollow b (xs ++ Halt store ∷ []) → MayFollow b xs × (halted_after b xs ≡ false)
before_halt false [] store f = (tt, refl)
before_halt true [] store f = absurd f
before_halt false (x ∷ xs) store f = before_halt (is_halt x) xs store f
before_halt true (Stop m ∷ xs) store f = before_halt false xs store f
before_halt true (x ∷ xs) store f = absurd f

all_before : (P : Event → Type 0) (xs ys : List Event) → AllByRecursion P (xs ++ ys) → AllByRecursion P xs
all_before P [] ys f = tt
all_before P (x ∷ xs) ys f = (f.0, all_before P xs ys f.1)

pub legal_more : {c : Constants} {o : Opening} {es : List Event} {s t : State} {e : Event} → Legal c (from o es) s → halted es ≡ false → IsOfWorker o.workers e → Step c s e t → Legal c (from o (es ++ e ∷ [])) t
legal_more {o = o} {es = es} {e = e} l off worker step = record {
  routes = l.routes;
  sound = record { tables = l.sound.tables; post = l.sound.post; fits = l.sound.fits };
  workers = all_append (IsOfWorker o.workers) es (e ∷ []) l.workers (worker, tt);
  halts = halts_push false es e l.halts off;
  run = run_more l.run step;
}

pub legal_without_halt : {c : Constants} {o : Opening} (es : List Event) (store : Which) {s t : State} {e : Event} → Legal c (from o (es ++ Halt store ∷ [])) s → IsOfWorker o.workers e → Step c s e t → Legal c (from o (es ++ e ∷ [])) t
legal_without_halt {o = o} es store {e = e} l worker step =
    let h = before_halt false es store l.halts in
    record {
      routes = l.routes;
      sound = record { tables = l.sound.tables; post = l.sound.post; fits = l.sound.fits };
      workers = all_append (IsOfWorker o.workers) es (e ∷ []) (all_before (IsOfWorker o.workers) es (Halt store ∷ []) l.workers) (worker, tt);
      halts = halts_push false es e h.0 h.1;
      run = in_place_of_halt es store l.run step;
    }
