-- The ids that commits give, to the messages that they send and to the sagas that they make.
use Rattle.std.specs.Prelude.{◌≡◌, ◌≢◌, ℕ, ◌+◌, List, [], ◌∷◌, ◌++◌, map as map_list, Some}
use Rattle.std.specs.FinMap as map
use Rattle.std.specs.List.{AllByRecursion}
use Rattle.nb_base.specs.declared.entry.Op.{Op}
use Rattle.nb_base.specs.declared.plan.SagaRef.TheVariants.{New, Stored}
use Rattle.nb_base.specs.declared.plan.Write.{Write}
use Rattle.nb_base.specs.declared.plan.Write.TheVariants.{SagaPut, SagaErase, RowPut, RowErase}
use Rattle.nb_base.specs.declared.saga_key.SagaKey.{SagaKey}
use Rattle.nb_base.specs.declared.saga_row.SagaRow.{SagaRow}
use Rattle.nb_headers.specs.Reads.{id_of}
use Rattle.nb_dispatch.specs.Dispatches.{made_id}
use Rattle.nb_core.specs.History.{Run, ends, goes, batches}
use Rattle.nb_core.specs.State.{State, Constants}
use Rattle.nb_core.specs.Step.{Event, Step, settle_commit}

-- each of them once
abbrev pub AllDiffer : List (List ℕ) → Type 0
AllDiffer [] = Unit {0}
AllDiffer (x ∷ xs) = AllByRecursion (λ y. x ≢ y) xs × AllDiffer xs

-- the ids of the ops of these batches
abbrev pub ids_in : List Op → List (List ℕ)
ids_in ops = map_list (λ (op : Op). id_of op.envelope) ops

abbrev pub op_ids : List (List Op) → List (List ℕ)
op_ids [] = []
op_ids (b ∷ bs) = ids_in b ++ op_ids bs

-- the ids of the sagas that the writes of commit n make
abbrev pub made_ids : List ℕ → ℕ → List Write → List (List ℕ)
made_ids endpoint n [] = []
made_ids endpoint n (SagaPut saga corr revision (New block) originator original fields ∷ ws) = made_id endpoint n block ∷ made_ids endpoint n ws
made_ids endpoint n (SagaPut saga corr revision (Stored id) originator original fields ∷ ws) = made_ids endpoint n ws
made_ids endpoint n (SagaErase saga corr ∷ ws) = made_ids endpoint n ws
made_ids endpoint n (RowPut name value ∷ ws) = made_ids endpoint n ws
made_ids endpoint n (RowErase name ∷ ws) = made_ids endpoint n ws

-- the ids of the sagas that a step makes, and that a run makes
abbrev pub sagas_by : {c : Constants} {s s' : State} {e : Event} → Step c s e s' → List (List ℕ)
sagas_by {c = c} {s = s} (settle_commit {plan = plan} looked there new verdict fresh room) = made_ids c.settings.endpoint (s.tables.commits + 1) plan.writes
sagas_by _ = []

abbrev pub saga_ids : {c : Constants} {s s' : State} {es : List Event} → Run c s es s' → List (List ℕ)
saga_ids ends = []
saga_ids (goes step rest) = sagas_by step ++ saga_ids rest

-- no id is given to two messages or to two sagas, and no saga gets one that a stored saga had at the first state
pub record Ids {c : Constants} {s s' : State} {es : List Event} (run : Run c s es s') : Type 0 where
  pub ops : AllDiffer (op_ids (batches run))
  pub sagas : AllDiffer (saga_ids run)
  pub opening : (place : SagaKey) (row : SagaRow) → map.get s.tables.sagas place ≡ Some row → AllByRecursion (λ id. row.id ≢ id) (saga_ids run)
