-- The events of a run: the Loads, and what a drain makes behind them.
use Rattle.std.proofs.Common.{◌≡◌, ◌≢◌, ℕ, suc, ◌<◌, ◌≤◌, List, [], ◌∷◌, ◌++◌, length, take, refl, sym, ap, ◌∙◌, subst, arith}
use Rattle.nb_base.specs.Messages.{Message}
use Rattle.nb_core.specs.After.{after, run}
use Rattle.nb_core.specs.Paced.{Pace, Mode, ended, load, loaded, release, cut_off, released, work, tick, loading, releasing, working, IsOfTurn, loads}
use Rattle.nb_core.specs.Standing.{Constants}
use Rattle.nb_core.specs.declared.answers.DeskFault.{DeskFault}
use Rattle.nb_core.specs.declared.answers.DeskFault.TheVariants.{StoreFailed, PostFailed, Spent, Halted, NoMemory}
use Rattle.nb_core.specs.declared.event.Event.{Event}
use Rattle.nb_core.specs.declared.event.Event.TheVariants.{Load, Take, Look, Settle, Send, Mark, Aside, Remove, Tick, Release, Purge, PutBack, DropBack, Stop, Halt}
use Rattle.nb_core.specs.declared.state.State.{State}
use Rattle.nb_pump.specs.Drains.{KeepsLimit}
use Rattle.nb_pump.specs.Leases.{stop_of}
use Rattle.nb_pump.specs.Plans.{loads_of}

-- ---- the Loads of a list of events

pub loads_in : (ms : List Message) (es : List Event) → loads (loads_of ms ++ es) ≡ ms ++ loads es
loads_in [] es = refl
loads_in (m ∷ ms) es = ap (λ (xs : List Message). m ∷ xs) (loads_in ms es)

-- an event of a worker is no Load
no_load : (e : Event) (es : List Event) → IsOfTurn e → loads (e ∷ es) ≡ loads es
no_load (Load m) es h = absurd h
no_load (Take w) es h = refl
no_load (Look w) es h = refl
no_load (Settle w) es h = refl
no_load (Send w) es h = refl
no_load (Mark w) es h = refl
no_load (Aside w) es h = refl
no_load (Remove w) es h = refl
no_load (Tick to) es h = absurd h
no_load (Release n) es h = absurd h
no_load (Purge id) es h = absurd h
no_load (PutBack n) es h = absurd h
no_load (DropBack n) es h = absurd h
no_load (Stop moment) es h = absurd h
no_load (Halt store) es h = refl

-- behind the Loads there are no more of them
abbrev pub IsBehind : Mode → Type 0
IsBehind loading = ⊥
IsBehind releasing = Unit {0}
IsBehind working = Unit {0}

pub none_behind : {c : Constants} {until : ℕ} {mode : Mode} {s : State} {es : List Event} → Pace c until mode s es → IsBehind mode → loads es ≡ []
none_behind ended b = refl
none_behind (load p) b = absurd b
none_behind (loaded p) b = absurd b
none_behind (release next le p) b = none_behind p tt
none_behind cut_off b = refl
none_behind (released all p) b = none_behind p tt
none_behind (work {e = e} {es = es} turn p) b = no_load e es turn ∙ none_behind p tt
none_behind (tick empty next le to p) b = none_behind p tt

-- ---- pace

-- what is in pace behind the Loads, is in pace with them
pub paced_loads : (c : Constants) (until : ℕ) (s : State) (ms : List Message) (es : List Event) → Pace c until releasing (run c s (loads_of ms)) es → Pace c until loading s (loads_of ms ++ es)
paced_loads c until s [] es p = loaded p
paced_loads c until s (m ∷ ms) es p = load (paced_loads c until (after c s (Load m)) ms es p)

paced_stop : (c : Constants) (until : ℕ) (s : State) (f : DeskFault) → Pace c until releasing s (stop_of f)
paced_stop c until s StoreFailed = cut_off
paced_stop c until s PostFailed = cut_off
paced_stop c until s Spent = ended
paced_stop c until s Halted = ended
paced_stop c until s NoMemory = ended

pub paced_broken : (c : Constants) (until : ℕ) (s : State) (ms : List Message) (f : DeskFault) → Pace c until loading s (loads_of ms ++ stop_of f)
paced_broken c until s ms f = paced_loads c until s ms (stop_of f) (paced_stop c until (run c s (loads_of ms)) f)

-- ---- a beginning of the Loads

-- how much of a list of messages a beginning of its Loads is
pub record Beginning (ms : List Message) (done : List Event) : Type 0 where
  pub count : ℕ
  pub bound : count ≤ length ms
  pub done_is : done ≡ loads_of (take count ms)

pub head_is : {x y : Event} {xs ys : List Event} → x ∷ xs ≡ y ∷ ys → (x ≡ y) × (xs ≡ ys)
head_is e = (cc, cc)

pub beginning : (ms : List Message) (done left : List Event) → loads_of ms ≡ done ++ left → Beginning ms done
beginning ms [] left split = record { count = 0; bound = omega arith; done_is = refl }
beginning [] (e ∷ done) left split = absurd (cc)
beginning (m ∷ ms) (e ∷ done) left split =
    let h = head_is split in
    let b = beginning ms done left h.1 in
    let le = b.bound in
    record {
      count = suc b.count;
      bound = omega (arith, le);
      done_is = (λ i. sym h.0 i ∷ b.done_is i);
    }

-- where something is left of the Loads, fewer were made than there are messages
pub left_some : (ms : List Message) (done left : List Event) → loads_of ms ≡ done ++ left → left ≢ [] → length (loads done) < length ms
left_some [] [] left split some = absurd (some (sym split))
left_some (m ∷ ms) [] left split some = omega arith
left_some [] (e ∷ done) left split some = absurd (cc)
left_some (m ∷ ms) (e ∷ done) left split some =
    let h = head_is split in
    let less = left_some ms done left h.1 some in
    subst (λ (x : Event). length (loads (x ∷ done)) < length (m ∷ ms)) h.0 (omega (arith, less))

-- ---- no Tick and no Release behind the last Take

pub keeps_loads : (turns n : ℕ) (ms : List Message) (es : List Event) → KeepsLimit turns n es → KeepsLimit turns n (loads_of ms ++ es)
keeps_loads turns n [] es k = k
keeps_loads turns n (m ∷ ms) es k = keeps_loads turns n ms es k

pub keeps_stop : (turns n : ℕ) (f : DeskFault) → KeepsLimit turns n (stop_of f)
keeps_stop turns n StoreFailed = tt
keeps_stop turns n PostFailed = tt
keeps_stop turns n Spent = tt
keeps_stop turns n Halted = tt
keeps_stop turns n NoMemory = tt
