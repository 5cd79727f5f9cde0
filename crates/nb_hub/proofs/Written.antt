-- What a commit makes of the tables in their store is what it makes of them in a state.
use Rattle.std.proofs.Common.{◌≡◌, ◌≢◌, ℕ, ◌+◌, List, [], ◌∷◌, refl, ap, ◌∙◌}
use Rattle.std.specs.List.{AllByRecursion}
use Rattle.nb_base.specs.Meanings.{IsApart, AreApart, place_of}
use Rattle.nb_base.specs.Messages.{Message}
use Rattle.nb_base.specs.Shown.{Stored}
use Rattle.nb_base.specs.declared.entry.Op.{Op}
use Rattle.nb_base.specs.declared.plan.Plan.{Plan}
use Rattle.nb_base.specs.declared.plan.SagaRef.TheVariants.{New, Stored as Kept}
use Rattle.nb_base.specs.declared.plan.Write.{Write}
use Rattle.nb_base.specs.declared.plan.Write.TheVariants.{SagaPut, SagaErase, RowPut, RowErase}
use Rattle.nb_core.specs.Committed.{committed, commit_ops}
use Rattle.nb_core.specs.Serve.{written, written_all}
use Rattle.nb_core.specs.Standing.{Constants}
use Rattle.nb_core.specs.declared.state.State.{State}
use Rattle.nb_headers.specs.Reads.{id_of}
use Rattle.nb_saga_store.specs.Writes.{all_written, with_written, written_of}
use Rattle.nb_store.specs.Calls.{HaveApartPlaces}
use Rattle.nb_store.specs.Calls as table

one_written : (endpoint : List ℕ) (n : ℕ) (t : Stored) (w : Write) → with_written t (written_of endpoint n w) ≡ written endpoint n t w
one_written endpoint n t (SagaPut saga corr revision (New block) originator original fields) = refl
one_written endpoint n t (SagaPut saga corr revision (Kept id) originator original fields) = refl
one_written endpoint n t (SagaErase saga corr) = refl
one_written endpoint n t (RowPut name value) = refl
one_written endpoint n t (RowErase name) = refl

every_written : (endpoint : List ℕ) (n : ℕ) (t : Stored) (ws : List Write) → all_written endpoint n t ws ≡ written_all endpoint n t ws
every_written endpoint n t [] = refl
every_written endpoint n t (w ∷ ws) = ap (λ x. all_written endpoint n x ws) (one_written endpoint n t w) ∙ every_written endpoint n (written endpoint n t w) ws

-- the tables after the commit of a plan
pub tables_after : (c : Constants) (s : State) (w n : ℕ) (m : Message) (plan : Plan) (ops : List Op) → ops ≡ commit_ops c s m plan
    → table.committed c.settings.endpoint s.tables (id_of m) s.moment plan.writes ops ≡ (committed c s w n m plan).tables
tables_after c s w n m plan ops same =
    ap (λ os. table.committed c.settings.endpoint s.tables (id_of m) s.moment plan.writes os) same
    ∙ ap (λ (x : Stored). record {
      sagas = x.sagas;
      rows = x.rows;
      outbox = (committed c s w n m plan).tables.outbox;
      commits = s.tables.commits + 1;
    }) (every_written c.settings.endpoint (s.tables.commits + 1) (Rattle.nb_core.specs.Standing.base s) plan.writes)

pub places_apart : (ws : List Write) → AreApart ws → HaveApartPlaces ws
places_apart [] a = tt
places_apart (w ∷ ws) a = (each ws a.0, places_apart ws a.1)
  where
    each : (vs : List Write) → AllByRecursion (IsApart w) vs → AllByRecursion (λ v. place_of w ≢ place_of v) vs
    each [] h = tt
    each (v ∷ vs) h = (h.0.0, each vs h.1)
