-- The verdict of a script on a message, over what the tables show.
use Rattle.std.specs.Prelude.{ℕ, ℤ, List, [], ◌∷◌, ◌++◌, Option, Some, None, option_and_then, Ok, Err}
use Rattle.nb_base.specs.Messages.{Message, header}
use Rattle.nb_base.specs.declared.plan.Plan.{Plan}
use Rattle.nb_base.specs.declared.plan.Verdict.{Verdict}
use Rattle.nb_base.specs.declared.plan.Verdict.TheVariants as verdict
use Rattle.nb_base.specs.declared.plan.Write.{Write}
use Rattle.nb_base.specs.declared.plan.Write.TheVariants as write
use Rattle.nb_base.specs.declared.saga_row.Read.{Read}
use Rattle.nb_base.specs.declared.saga_row.Seen.{Seen}
use Rattle.nb_base.specs.declared.saga_row.Seen.TheVariants.{Absent, Saga, Row}
use Rattle.nb_base.specs.declared.value.Field.{Field}
use Rattle.nb_base.specs.declared.value.Key.{Key}
use Rattle.nb_base.specs.declared.value.Key.TheVariants as key
use Rattle.nb_headers.specs.HeaderNames.{reply_to_address, saga_id, time_sent}
use Rattle.nb_headers.specs.Moments.{read_moment}
use Rattle.nb_headers.specs.Reads.{id_of, header_or, round_of}
use Rattle.nb_script.specs.Grammar.{ItemTerm}
use Rattle.nb_check.specs.Blocks.{blocks}
use Rattle.nb_check.specs.Checks.{declared_names, body_fields, blocks_met}
use Rattle.nb_check.specs.Declarations.{sagas}
use Rattle.nb_check.specs.Meets.{incoming}
use Rattle.nb_check.specs.declared.incoming.Incoming.{Incoming}
use Rattle.nb_eval.specs.declared.scene.Scene.{Scene}
use Rattle.nb_eval.specs.declared.scene.State.{State}
use Rattle.nb_eval.specs.declared.scene.Touched.{Touched}
use Rattle.nb_eval.specs.Values.{Answer, ◌>>=◌}
use Rattle.nb_eval.specs.Worlds.{World}
use Rattle.nb_eval.specs.Blocks.{blocks_do}
use Rattle.nb_eval.specs.Faults.{fault_of, undeclared, no_handler, undecodable}

-- ---- the plan

abbrev pub nothing_done : State
nothing_done = record { saga = None; names = []; touched = []; writes = []; intents = []; size = 0 }

-- a row that is gone is erased where it was there
abbrev pub erased : List ℕ → Seen → List Write
erased name Absent = []
erased name (Saga row) = []
erased name (Row version value) = write.RowErase name ∷ []

abbrev pub row_write : List ℕ → Option ℤ → Seen → List Write
row_write name (Some n) seen = write.RowPut name n ∷ []
row_write name None seen = erased name seen

abbrev pub row_writes : (Key → Seen) → List Touched → List Write
row_writes look [] = []
row_writes look (t ∷ ts) = row_write t.name t.value (look (key.Row t.name)) ++ row_writes look ts

abbrev pub plan_of : (Key → Seen) → State → Plan
plan_of look s = record { writes = s.writes ++ row_writes look s.touched; intents = s.intents }

-- ---- the verdict

-- where the message is handled at a moment
abbrev pub world_at : Message → List Field → ℕ → (Key → Seen) → World
world_at e fields at look = record {
  fields = fields;
  id = id_of e;
  saga_id = header_or e saga_id [];
  reply_to = header_or e reply_to_address [];
  round = round_of e;
  moment = at;
  sent = option_and_then read_moment (header e.headers time_sent);
  look = look;
}

-- the same over what was read
abbrev pub scene_of : Message → List Field → ℕ → List Read → Scene
scene_of e fields at reads = record {
  fields = fields;
  id = id_of e;
  saga_id = header_or e saga_id [];
  reply_to = header_or e reply_to_address [];
  round = round_of e;
  moment = at;
  sent = option_and_then read_moment (header e.headers time_sent);
  reads = reads;
}

-- the blocks that the message meets run in the order of the script on one state
abbrev pub handled : List ItemTerm → Incoming → World → Answer Plan
handled items m w = blocks_do (sagas items) m 1 (blocks items) w nothing_done >>= λ s. Ok (plan_of w.look s)

-- the first fault ends all
abbrev pub verdict_of : Answer Plan → Verdict
verdict_of (Ok plan) = verdict.Done plan
verdict_of (Err e) = verdict.Fault (fault_of e)

abbrev pub on_body : List ItemTerm → (Key → Seen) → Message → ℕ → Incoming → Option (List Field) → Verdict
on_body items look e at m None = verdict.Fault (undecodable m.name)
on_body items look e at m (Some fields) = verdict_of (handled items m (world_at e fields at look))

abbrev pub on_met : List ItemTerm → (Key → Seen) → Message → ℕ → Incoming → List ℕ → Verdict
on_met items look e at m [] = verdict.Fault (no_handler m.name)
on_met items look e at m (n ∷ ns) = on_body items look e at m (body_fields items m.message e.body)

abbrev pub on_type : List ItemTerm → (Key → Seen) → Message → ℕ → Option Incoming → Verdict
on_type items look e at None = verdict.Fault (undeclared e)
on_type items look e at (Some m) = on_met items look e at m (blocks_met items e)

-- the verdict at a moment, over tables that show this at each key
abbrev pub verdict_over : List ItemTerm → (Key → Seen) → Message → ℕ → Verdict
verdict_over items look e at = on_type items look e at (incoming (declared_names items) e)
