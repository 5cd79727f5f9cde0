-- What handling a message on the present tables does, and what handling messages one after the other does.
use Rattle.std.specs.Prelude.{◌≡◌, ℕ, ◌+◌, List, [], ◌∷◌}
use Rattle.std.specs.FinMap as map
use Rattle.nb_base.specs.Meanings.{Meaning}
use Rattle.nb_base.specs.Messages.{Message}
use Rattle.nb_base.specs.Shown.{Stored}
use Rattle.nb_base.specs.declared.entry.Op.{Op}
use Rattle.nb_base.specs.declared.plan.Fault.{Fault}
use Rattle.nb_base.specs.declared.plan.Plan.{Plan}
use Rattle.nb_base.specs.declared.plan.Verdict.{Verdict}
use Rattle.nb_base.specs.declared.plan.Verdict.TheVariants as verdict
use Rattle.nb_base.specs.declared.plan.Write.{Write}
use Rattle.nb_base.specs.declared.plan.Write.TheVariants.{SagaPut, SagaErase, RowPut, RowErase}
use Rattle.nb_base.specs.declared.settings.Settings.{Settings}
use Rattle.nb_dispatch.specs.Dispatches.{saga_id_after, ops_of}

-- the tables after a write of the commit with this number
abbrev pub written : List ℕ → ℕ → Stored → Write → Stored
written endpoint n t (SagaPut saga corr revision which originator original fields) =
    record t {
      sagas = map.insert t.sagas (record { saga = saga; corr = corr }) (record {
        corr = corr;
        id = saga_id_after endpoint n which;
        version = n;
        revision = revision;
        originator = originator;
        original = original;
        fields = fields;
      });
    }
written endpoint n t (SagaErase saga corr) = record t { sagas = map.remove t.sagas (record { saga = saga; corr = corr }) }
written endpoint n t (RowPut name value) = record t { rows = map.insert t.rows name (record { version = n; value = value }) }
written endpoint n t (RowErase name) = record t { rows = map.remove t.rows name }

abbrev pub written_all : List ℕ → ℕ → Stored → List Write → Stored
written_all endpoint n t [] = t
written_all endpoint n t (w ∷ ws) = written_all endpoint n (written endpoint n t w) ws

-- the tables after a plan, which is the next commit
abbrev pub after_plan : List ℕ → Stored → Plan → Stored
after_plan endpoint t plan = record (written_all endpoint (t.commits + 1) t plan.writes) { commits = t.commits + 1 }

-- a fault, or the tables and the ops after a commit
pub data Service : Type 0 where
  Faulty : Fault → Service
  Handled : Stored → List Op → Service

abbrev pub served : Settings → Stored → Message → ℕ → Verdict → Service
served settings t m at (verdict.Fault f) = Faulty f
served settings t m at (verdict.Done plan) = Handled (after_plan settings.endpoint t plan) (ops_of settings m (t.commits + 1) at plan.intents)

-- a message that is handled at a moment, on these tables
abbrev pub serve : Meaning → Settings → Stored → Message → ℕ → Service
serve meaning settings t m at = served settings t m at (meaning.verdict t m at)

-- a message that was handled, and when
pub record HandledAt : Type 0 where
  pub envelope : Message
  pub at : ℕ

-- `Serial meaning settings t handled t' batches`: handled one after the other, these messages lead from t to t', and
-- each makes its batch of ops
abbrev pub Serial : Meaning → Settings → Stored → List HandledAt → Stored → List (List Op) → Type 0
Serial meaning settings t [] t' [] = t ≡ t'
Serial meaning settings t [] t' (b ∷ bs) = ⊥
Serial meaning settings t (h ∷ hs) t' [] = ⊥
Serial meaning settings t (h ∷ hs) t' (b ∷ bs) =
    (mid : Stored) × (serve meaning settings t h.envelope h.at ≡ Handled mid b) × Serial meaning settings mid hs t' bs
