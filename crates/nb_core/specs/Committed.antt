-- What a commit changes.
use Rattle.std.specs.Prelude.{ℕ, ◌+◌, List, false}
use Rattle.std.specs.FinMap as map
use Rattle.nb_base.specs.Messages.{Message}
use Rattle.nb_base.specs.declared.entry.Op.{Op}
use Rattle.nb_base.specs.declared.entry.OutboxRow.{OutboxRow}
use Rattle.nb_base.specs.declared.plan.Plan.{Plan}
use Rattle.nb_headers.specs.Reads.{id_of}
use Rattle.nb_dispatch.specs.Dispatches.{ops_of}
use Rattle.nb_core.specs.Serve.{written_all}
use Rattle.nb_core.specs.declared.state.State.{State}
use Rattle.nb_core.specs.declared.phase.Phase.TheVariants.{Sending}
use Rattle.nb_core.specs.Standing.{Constants, base}
use Rattle.nb_core.specs.Changes.{put_phase}

-- the ops that the commit of a plan sends
abbrev pub commit_ops : Constants → State → Message → Plan → List Op
commit_ops c s m plan = ops_of c.settings m (s.tables.commits + 1) s.moment plan.intents

abbrev pub commit_record : Constants → State → Message → Plan → OutboxRow
commit_record c s m plan = record { n = s.tables.commits + 1; at = s.moment; sent = false; ops = commit_ops c s m plan }

-- worker w commits the plan for entry n, which has this message
abbrev pub committed : Constants → State → ℕ → ℕ → Message → Plan → State
committed c s w n m plan =
    let t = written_all c.settings.endpoint (s.tables.commits + 1) (base s) plan.writes in
    record s {
      tables = record {
        sagas = t.sagas;
        rows = t.rows;
        outbox = map.insert s.tables.outbox (id_of m) (commit_record c s m plan);
        commits = s.tables.commits + 1;
      };
      phases = put_phase s.phases w (Sending n (id_of m) (commit_ops c s m plan) 0);
    }
