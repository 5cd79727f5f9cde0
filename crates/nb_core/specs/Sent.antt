-- What is sent is what was recorded, and all of it before the record is marked.
use Rattle.std.specs.Prelude.{◌≡◌, ◌⊎◌, ℕ, List, [], ◌∷◌, Bool, true, false, Option, Some, None, slice_get, if◌then◌else◌, bytes_eq}
use Rattle.nb_base.specs.declared.entry.Op.{Op}
use Rattle.nb_base.specs.declared.entry.OutboxRow.{OutboxRow}
use Rattle.nb_headers.specs.Reads.{id_of}
use Rattle.nb_core.specs.State.{State, Constants, recorded, phase, commit_ops, Done}
use Rattle.nb_core.specs.Step.{Event, Step, look_known, look_new, settle_commit, send, mark, purge}
use Rattle.nb_core.specs.History.{Run, ends, goes}

-- the function, but for this value at this id
abbrev pub changed : {A : Type 0} → (List ℕ → A) → List ℕ → A → List ℕ → A
changed f id v q = if bytes_eq q id then v else f q

abbrev pub IsIn : {A : Type 0} → A → List A → Type 0
IsIn x [] = ⊥
IsIn x (y ∷ ys) = (x ≡ y) ⊎ IsIn x ys

-- at a position of a history, for each id
pub record Told : Type 0 where
  pub batch : List ℕ → List Op  -- the ops of its latest commit, or of its opening record
  pub put : List ℕ → List Op  -- what was sent since then
  pub marked : List ℕ → Bool  -- whether it was marked, and not purged since

abbrev pub ops_in : Option OutboxRow → List Op
ops_in None = []
ops_in (Some r) = r.ops

abbrev pub told_at_first : State → Told
told_at_first s = record { batch = λ id. ops_in (recorded s id); put = λ id. []; marked = λ id. false }

abbrev pub told_after : {c : Constants} {s s' : State} {e : Event} → Told → Step c s e s' → Told
told_after {c = c} {s = s} t (settle_commit {e = e} {plan = plan} looked there new verdict fresh room) =
    record t { batch = changed t.batch (id_of e.envelope) (commit_ops c s e.envelope plan); put = changed t.put (id_of e.envelope) [] }
told_after t (send {id = id} {op = op} sending at room) = record t { put = changed t.put id (op ∷ t.put id) }
told_after t (mark {id = id} sending all there) = record t { marked = changed t.marked id true }
told_after t (purge {id = id} idle there sent old) = record t { marked = changed t.marked id false }
told_after t _ = t

abbrev pub IsSentRight : {c : Constants} {s s' : State} {e : Event} → Told → Step c s e s' → Type 0
-- a Send puts an op of the batch
IsSentRight t (send {k = k} {id = id} {op = op} sending at room) = slice_get (t.batch id) k ≡ Some op
-- before a Mark each op of the batch was put
IsSentRight t (mark {id = id} sending all there) = (op : Op) → IsIn op (t.batch id) → IsIn op (t.put id)
-- a Look at a marked id leads to no Send
IsSentRight {s' = s'} t (look_known {w = w} {n = n} {e = e} held there known) = t.marked (id_of e.envelope) ≡ true → phase s' w ≡ Done n
IsSentRight {s' = s'} t (look_new {w = w} {n = n} {e = e} held there new) = t.marked (id_of e.envelope) ≡ true → phase s' w ≡ Done n
IsSentRight t _ = Unit {0}

abbrev pub SentFrom : {c : Constants} {s s' : State} {es : List Event} → Told → Run c s es s' → Type 0
SentFrom t ends = Unit {0}
SentFrom t (goes step rest) = IsSentRight t step × SentFrom (told_after t step) rest

abbrev pub Sent : {c : Constants} {s s' : State} {es : List Event} → Run c s es s' → Type 0
Sent {s = s} run = SentFrom (told_at_first s) run
