-- A message goes to the error queue only after every configured attempt failed, by an unrecoverable fault, or by a policy.
use Rattle.std.specs.Prelude.{◌≡◌, ℕ, ◌+◌, ◌≤◌, List, [], ◌∷◌, true, Option, Some, None, if◌then◌else◌, ◌==◌}
use Rattle.nb_base.specs.Messages.{Message}
use Rattle.nb_base.specs.declared.route.Action.TheVariants as action
use Rattle.nb_base.specs.declared.tables.Queued.{Queued}
use Rattle.nb_headers.specs.Faults.{stripped}
use Rattle.nb_headers.specs.Reads.{round_of}
use Rattle.nb_recover.specs.Decisions.{policy_of}
use Rattle.nb_recover.specs.Fails.{name_of, is_unrecoverable}
use Rattle.nb_recover.specs.declared.fail.Fail.{Fail}
use Rattle.nb_recover.specs.declared.fail.Fail.TheVariants.{Fault}
use Rattle.nb_recover.specs.declared.moves.Move.{Move}
use Rattle.nb_core.specs.Stale.{conflict_on}
use Rattle.nb_core.specs.State.{State, Constants, entry, base, fails, move_after}
use Rattle.nb_core.specs.Step.{Event, Step, load, settle_fault, settle_conflict, send, aside, put_back}
use Rattle.nb_core.specs.History.{Run, ends, goes}

-- a failed attempt: the entry with its message, the failure, when it was, and the move that was decided
pub record Attempt : Type 0 where
  pub number : ℕ
  pub envelope : Message
  pub fail : Fail
  pub at : ℕ
  pub move : Move

abbrev pub attempt : Constants → State → ℕ → Message → Fail → Attempt
attempt c s n m fail = record { number = n; envelope = m; fail = fail; at = s.moment; move = move_after c.settings (fails s n + 1) m fail }

-- the failed attempt of a step
abbrev pub attempt_by : {c : Constants} {s s' : State} {e : Event} → Step c s e s' → List Attempt
attempt_by {c = c} {s = s} (settle_fault {n = n} {e = e} {f = f} looked there new verdict) = attempt c s n e.envelope (Fault f) ∷ []
attempt_by {c = c} {s = s} (settle_conflict {n = n} {e = e} {r = r} looked there new verdict stale) = attempt c s n e.envelope (conflict_on (base s) r) ∷ []
attempt_by _ = []

-- at a position of a history
pub record Traced : Type 0 where
  pub attempts : List Attempt  -- the failed ones so far, the last one first
  pub parent : ℕ → Option ℕ  -- of an entry that an Aside put, the entry that its worker held
  pub round : ℕ → ℕ  -- of each entry so far

-- the function, but for this value at this number
abbrev pub at_number : {A : Type 0} → (ℕ → A) → ℕ → A → ℕ → A
at_number f n v q = if q == n then v else f q

-- how many of the attempts were on an entry
abbrev pub attempts_on : List Attempt → ℕ → ℕ
attempts_on [] n = 0
attempts_on (a ∷ xs) n = if a.number == n then attempts_on xs n + 1 else attempts_on xs n

-- and the last of them
abbrev pub last_on : List Attempt → ℕ → Option Attempt
last_on [] n = None
last_on (a ∷ xs) n = if a.number == n then Some a else last_on xs n

abbrev pub round_at : Option Queued → ℕ
round_at None = 0
round_at (Some e) = round_of e.envelope

abbrev pub traced_at_first : State → Traced
traced_at_first s = record { attempts = []; parent = λ n. None; round = λ n. round_at (entry s n) }

abbrev pub traced_after : {c : Constants} {s s' : State} {e : Event} → Traced → Step c s e s' → Traced
traced_after {s = s} t (load {m = m} named room) = record t { round = at_number t.round s.post.next (round_of m) }
traced_after {c = c} {s = s} t (settle_fault {n = n} {e = e} {f = f} looked there new verdict) = record t { attempts = attempt c s n e.envelope (Fault f) ∷ t.attempts }
traced_after {c = c} {s = s} t (settle_conflict {n = n} {e = e} {r = r} looked there new verdict stale) = record t { attempts = attempt c s n e.envelope (conflict_on (base s) r) ∷ t.attempts }
traced_after {s = s} t (send {op = op} sending at room) = record t { round = at_number t.round s.post.next (round_of op.envelope) }
traced_after {s = s} t (aside {n = n} {copy = copy} leaving room) =
    record t { parent = at_number t.parent s.post.next (Some n); round = at_number t.round s.post.next (round_of copy) }
traced_after {s = s} t (put_back {e = e} idle there queue due from room) = record t { round = at_number t.round s.post.next (round_of (stripped e.envelope)) }
traced_after t _ = t

-- The line of an entry: the entry, its parent, and so on. Each failed once more than the immediate retries, and the
-- rounds rise by one along it.
pub data FailedLine (c : Constants) (t : Traced) : ℕ → Type 0 where
  oldest : {n : ℕ} → t.parent n ≡ None → c.settings.immediate + 1 ≤ attempts_on t.attempts n → FailedLine c t n
  child : {n p : ℕ} → t.parent n ≡ Some p → t.round n ≡ t.round p + 1 → c.settings.immediate + 1 ≤ attempts_on t.attempts n → FailedLine c t p → FailedLine c t n

-- why an entry, on which x is the last failed attempt, leaves for the error queue
pub data Reason (c : Constants) (t : Traced) (n : ℕ) (x : Attempt) : Type 0 where
  by_fault : is_unrecoverable x.fail ≡ true → Reason c t n x
  by_policy : policy_of c.settings.policies (name_of x.fail) ≡ Some action.Error → Reason c t n x
  after_immediate : policy_of c.settings.policies (name_of x.fail) ≡ Some action.Immediate → c.settings.immediate + 1 ≤ attempts_on t.attempts n → Reason c t n x
  after_all : c.settings.delayed ≤ t.round n → FailedLine c t n → Reason c t n x

-- for an Aside that puts a copy into the error queue, only the attempts before it counting
abbrev pub IsEarned : {c : Constants} {s s' : State} {e : Event} → Traced → Step c s e s' → Type 0
IsEarned {c = c} t (aside {n = n} {queue = queue} leaving room) = queue ≡ c.settings.error → (x : Attempt) × (last_on t.attempts n ≡ Some x) × Reason c t n x
IsEarned t _ = Unit {0}

abbrev pub EarnedFrom : {c : Constants} {s s' : State} {es : List Event} → Traced → Run c s es s' → Type 0
EarnedFrom t ends = Unit {0}
EarnedFrom t (goes first rest) = IsEarned t first × EarnedFrom (traced_after t first) rest

abbrev pub Earned : {c : Constants} {s s' : State} {es : List Event} → Run c s es s' → Type 0
Earned {s = s} run = EarnedFrom (traced_at_first s) run
