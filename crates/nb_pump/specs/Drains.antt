-- What releases, ticks, leases one after another and a drain do, at a desk whose caller has every worker.
use Rattle.std.specs.Prelude.{◌≡◌, ℕ, zero, suc, ◌+◌, ◌<◌, ◌≤◌, List, [], ◌∷◌, ◌++◌, All, Bool, false, if◌then◌else◌, Option, Some, None, Result, Ok, Err, true}
use Rattle.std.specs.Option.{is_some}
use Rattle.std.specs.FinMap as map
use Rattle.nb_base.specs.Orders.{ByNumber}
use Rattle.nb_base.specs.declared.entry.Waiting.{Waiting}
use Rattle.nb_base.specs.declared.tables.Queued.{Queued}
use Rattle.nb_core.specs.Calls.{View, OwnsAll, state_of}
use Rattle.nb_core.specs.Drained.{Drained, IsNextDue}
use Rattle.nb_core.specs.Legal.{halted}
use Rattle.nb_core.specs.Paced.{Pace, Mode, releasing, working, AllReleased, IsOfTurn, IsOwnEmpty}
use Rattle.nb_core.specs.Past.{IsLegal, constants, takes}
use Rattle.nb_core.specs.State.{Constants, AllIdle, entry}
use Rattle.nb_core.specs.declared.answers.DeskFault.{DeskFault}
use Rattle.nb_core.specs.declared.event.Event.{Event}
use Rattle.nb_core.specs.declared.event.Event.TheVariants.{Take, Tick, Release, Stop}
use Rattle.nb_core.specs.declared.state.State.{State}
use Rattle.nb_pump.specs.Stops.{StopsBy}
use Rattle.nb_pump.specs.Leases.{IsSpentAt}
use Rattle.nb_pump.specs.Made.{Made, Moved}

-- every worker is the caller's and is idle
pub record Standing (v : View) : Type 0 where
  pub owns : OwnsAll v
  pub some : 0 < v.fixed.opening.workers
  pub idle : AllIdle (state_of v)
  pub legal : IsLegal v.fixed v.events

-- the events lead in pace from one mode and state to another: what goes on in pace from there does so from here
abbrev pub Leads : Constants → ℕ → Mode → State → List Event → Mode → State → Type 0
Leads c until mode s own mode' t = (rest : List Event) → Pace c until mode' t rest → Pace c until mode s (own ++ rest)

-- whether an entry waits for a moment
abbrev pub waits : Option Queued → Bool
waits None = false
waits (Some e) = is_some e.due

-- how many of the entries below a number wait for a moment
abbrev pub waiting_below : ByNumber Queued → ℕ → ℕ
waiting_below es zero = 0
waiting_below es (suc n) = waiting_below es n + (if waits (map.get es n) then 1 else 0)

abbrev pub waiting : State → ℕ
waiting s = waiting_below s.post.entries s.post.next

-- something is due by now
abbrev pub HasDue : State → Type 0
HasDue s = (n : ℕ) × (due : ℕ) × IsNextDue s n due × (due ≤ s.moment)

-- nothing is due by this moment
abbrev pub NoneBy : State → ℕ → Type 0
NoneBy s moment = (n : ℕ) (e : Queued) (due : ℕ) → entry s n ≡ Some e → e.due ≡ Some due → moment < due

-- an answer without a fault: every worker is idle again, and no Take was made
pub record Rests (v w : View) : Type 0 where
  pub standing : Standing w
  pub on : halted w.events ≡ false
  pub takes_are : takes w.events ≡ takes v.events

-- each Tick and each Release comes where a Take is left; n Takes came before
abbrev pub KeepsLimit : ℕ → ℕ → List Event → Type 0
KeepsLimit turns n [] = Unit {0}
KeepsLimit turns n (Take w ∷ es) = KeepsLimit turns (n + 1) es
KeepsLimit turns n (Tick to ∷ es) = (n < turns) × KeepsLimit turns n es
KeepsLimit turns n (Release k ∷ es) = (n < turns) × KeepsLimit turns n es
KeepsLimit turns n (Stop moment ∷ es) = KeepsLimit turns 0 es
KeepsLimit turns n (e ∷ es) = KeepsLimit turns n es

abbrev pub HasTake : View → Type 0
HasTake v = takes v.events < v.fixed.turns

-- where a Take is left at first, no Tick and no Release comes behind the one that is the last
abbrev pub StopsAtLimit : View → List Event → Type 0
StopsAtLimit v own = HasTake v → KeepsLimit v.fixed.turns (takes v.events) own

-- ---- what is due first

abbrev pub DueIs : ℕ → Result (Option Waiting) DeskFault → View → View → Type 0
DueIs moment (Ok (Some x)) v w = Moved v [] w × Rests v w × IsNextDue (state_of w) x.number x.due × (x.due ≤ moment)
DueIs moment (Ok None) v w = Moved v [] w × Rests v w × NoneBy (state_of w) moment
DueIs moment (Err f) v w = Moved v [] w × StopsBy ⊥ f v [] w

-- ---- releases

abbrev pub ReleasesEnd : Result (Unit {0}) DeskFault → List Event → View → View → Type 0
ReleasesEnd (Ok u) own v w =
    ((until : ℕ) → Leads (constants v.fixed) until releasing (state_of v) own releasing (state_of w)) × Rests v w × ((state_of w).moment ≡ (state_of v).moment)
    × AllReleased (state_of w) × (waiting (state_of w) ≤ waiting (state_of v)) × (HasDue (state_of v) → waiting (state_of w) < waiting (state_of v))
ReleasesEnd (Err f) own v w = ((until : ℕ) → Pace (constants v.fixed) until releasing (state_of v) own) × StopsBy ⊥ f v own w

-- all that was due is released, by due and then number; or a fault came
pub record ReleasesAre (r : Result (Unit {0}) DeskFault) (v w : View) : Type 0 where
  pub own : List Event
  pub made : Made v own w
  pub limit : StopsAtLimit v own
  pub end : ReleasesEnd r own v w

-- ---- ticks, as long as nothing stands in the own queue

abbrev pub WindEnd : ℕ → Result (Option ℕ) DeskFault → List Event → View → View → Type 0
WindEnd until (Ok (Some now)) own v w =
    Leads (constants v.fixed) until working (state_of v) own working (state_of w) × Rests v w × ((state_of w).moment ≡ now)
    × (IsOwnEmpty (constants w.fixed) (state_of w) → ⊥)
WindEnd until (Ok None) own v w =
    Leads (constants v.fixed) until working (state_of v) own working (state_of w) × Rests v w × Drained (constants w.fixed) (state_of w) until
WindEnd until (Err f) own v w = Pace (constants v.fixed) until working (state_of v) own × StopsBy ⊥ f v own w

-- time goes on until something stands in the own queue, or nothing is left that is due by the last moment
pub record WindIs (until : ℕ) (r : Result (Option ℕ) DeskFault) (v w : View) : Type 0 where
  pub own : List Event
  pub made : Made v own w
  pub limit : StopsAtLimit v own
  pub end : WindEnd until r own v w

-- ---- leases of worker 0, one after another

-- the next event of some worker needs a number that stands at its end
abbrev pub IsSomeSpent : View → Type 0
IsSomeSpent v = (w : ℕ) × IsSpentAt w v

abbrev pub TurnsEnd : Result Bool DeskFault → List Event → View → View → Type 0
TurnsEnd (Ok true) own v w =
    ((until : ℕ) → Leads (constants v.fixed) until working (state_of v) own working (state_of w)) × Standing w × (halted w.events ≡ false) × ((state_of w).moment ≡ (state_of v).moment)
    × HasTake w × IsOwnEmpty (constants w.fixed) (state_of w) × ((IsOwnEmpty (constants v.fixed) (state_of v) → ⊥) → takes v.events < takes w.events)
TurnsEnd (Ok false) own v w =
    ((until : ℕ) → Pace (constants v.fixed) until working (state_of v) own) × Standing w × (halted w.events ≡ false) × (w.fixed.turns ≤ takes w.events)
TurnsEnd (Err f) own v w =
    ((until : ℕ) → Pace (constants v.fixed) until working (state_of v) own) × StopsBy (IsSomeSpent w) f v own w

-- leases until nothing is free, or until no Take is left; or a fault came
pub record TurnsAre (r : Result Bool DeskFault) (v w : View) : Type 0 where
  pub own : List Event
  pub made : Made v own w
  pub of_turns : All IsOfTurn own
  pub end : TurnsEnd r own v w

-- ---- the drain

abbrev pub DrainEnd : ℕ → Result Bool DeskFault → List Event → View → View → Type 0
DrainEnd until (Ok true) own v w = (halted w.events ≡ false) × Drained (constants w.fixed) (state_of w) until
DrainEnd until (Ok false) own v w =
    (halted w.events ≡ false) × (Drained (constants w.fixed) (state_of w) until → ⊥) × (w.fixed.turns ≤ takes w.events) × AllIdle (state_of w)
DrainEnd until (Err f) own v w = StopsBy (IsSomeSpent w) f v own w

-- events in pace, from this mode on, at whose end the state is drained, or no Take is left; or a fault came
pub record DrainIs (until : ℕ) (mode : Mode) (r : Result Bool DeskFault) (v w : View) : Type 0 where
  pub own : List Event
  pub made : Made v own w
  pub paced : Pace (constants v.fixed) until mode (state_of v) own
  pub limit : StopsAtLimit v own
  pub end : DrainEnd until r own v w
