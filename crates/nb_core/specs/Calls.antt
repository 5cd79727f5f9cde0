-- A call of a desk with its answer, from what the caller saw to what it sees.
use Rattle.std.specs.Prelude.{◌≡◌, ℕ, zero, suc, ◌+◌, List, [], ◌∷◌, ◌++◌, length, All}
use Rattle.nb_core.specs.Past.{Fixed, IsLegal}
use Rattle.nb_core.specs.Step.{Event}
use Rattle.nb_core.specs.declared.call.Answer.{Answer}
use Rattle.nb_core.specs.declared.call.Call.{Call}
pub use Rattle.nb_core.specs.View.{View, state_of, times, Owns, OwnsAll, Foreign}
pub use Rattle.nb_core.specs.Ready.{IsOutcome, IsHeld, IsSending, IsLeaving, IsDone, CanRelease, CanPurge, CanReturn, AtRest, Ready}
pub use Rattle.nb_core.specs.Settling.{FailsBy, MovesBy, Commits, Settles, HasLooked}
pub use Rattle.nb_core.specs.Refusing.{store_of, IsSpent, Refuses, Does}
pub use Rattle.nb_core.specs.Leasing.{IsTaken, Hands, Takes, Finds, HoldsOne, Sees, SettlesAs}
pub use Rattle.nb_core.specs.Asking.{Says, Counts, IsDue, Awaits, Tells, TellsOf}
pub use Rattle.nb_core.specs.Giving.{GivesPlain, Gives}

-- the positions of new events behind n others
abbrev pub places : ℕ → List Event → List ℕ
places n [] = []
places n (e ∷ es) = n ∷ places (n + 1) es

pub record Called (x : Call) (answer : Answer) (v w : View) : Type 0 where
  pub others : List Event
  pub own : List Event
  pub foreign : All (Foreign v.workers) others
  pub alone : OwnsAll v → others ≡ []
  pub events : w.events ≡ (v.events ++ others) ++ own
  pub mine : w.mine ≡ v.mine ++ places (length (v.events ++ others)) own
  pub workers : w.workers ≡ v.workers
  pub fixed : w.fixed ≡ v.fixed
  pub legal : IsLegal w.fixed w.events
  pub gives : Gives v.fixed (v.events ++ others) x answer own

-- the numbers below n, rising
abbrev pub upto : ℕ → List ℕ
upto zero = []
upto (suc n) = upto n ++ n ∷ []

-- what the one caller of a desk sees, whose all workers and all events are
abbrev pub whole : Fixed → List Event → View
whole f es = record { fixed = f; events = es; mine = upto (length es); workers = upto f.opening.workers }
