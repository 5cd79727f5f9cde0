-- What the start of a hub comes to, and its refusal.
use Rattle.std.proofs.Common.{◌≡◌, ◌≢◌, ◌⊎◌, ℕ, ◌<◌, List, [], false, refl, sym, ap, ◌∙◌, subst}
use Rattle.nb_base.specs.Causes.{Rose}
use Rattle.nb_base.specs.Meanings.{Meaning}
use Rattle.nb_base.specs.declared.entry.Which.TheVariants.{Base, Post}
use Rattle.nb_base.specs.declared.tables.PostState.{PostState}
use Rattle.nb_base.specs.declared.tables.Tables.{Tables}
use Rattle.nb_cells.specs.Cells.{CellMap}
use Rattle.nb_endpoint.specs.Asked.{asked_by}
use Rattle.nb_endpoint.specs.Faults.{of_start}
use Rattle.nb_endpoint.specs.Finishing.{IsNew}
use Rattle.nb_endpoint.specs.Follows.{until_after}
use Rattle.nb_endpoint.specs.Left.{RefusesBase, RefusesPost}
use Rattle.nb_endpoint.specs.Rows.{IsOfStart, Risen, Counts}
use Rattle.nb_endpoint.specs.declared.job.Job.{Job}
use Rattle.nb_endpoint.specs.declared.work.Task.{Task}
use Rattle.nb_eval.specs.Meanings.{meaning_of}
use Rattle.nb_hub.specs.Desks.{DeskStands, Started}
use Rattle.nb_hub.specs.Kept.{seen}
use Rattle.nb_hub.specs.Ledgers.{Past, course, past_of}
use Rattle.nb_hub.specs.Starting.{opening_of, Told, TellsOne}
use Rattle.nb_hub.specs.Starting as starting
use Rattle.nb_hub.specs.Stores.{BaseStands, PostStands}
use Rattle.nb_hub.specs.declared.fault.StartFault.{StartFault}
use Rattle.nb_hub.specs.declared.fault.StartFault.TheVariants.{StoreFailed, PostFailed, Damaged, NoMemory}
use Rattle.nb_hub.specs.declared.ledger.Course.{Course}
use Rattle.nb_queue.specs.Maps as queue
use Rattle.nb_script.specs.Tree.{script}
use Rattle.nb_store.specs.CellMaps as table
use Rattle.nb_words.specs.declared.words.Command.TheVariants.{Sample}

-- nothing was done yet at a hub that was started for a job
pub started_new : (job : Job) (task : Task) (meaning : Meaning) (k : Course) (tables : Tables) (post : PostState) (b p : ℕ) → meaning ≡ meaning_of (script job.handlers.checked)
    → k ≡ course job.settings job.said.turns (opening_of tables post job.moment 1) b p [] false → task.messages ≡ job.messages → task.until ≡ until_after job.moment job.said
    → 0 < job.said.turns → job.said.command ≢ Sample → IsNew 1 (asked_by job) job.said task (seen (past_of meaning k))
started_new job task meaning k tables post b p m is messages until some built = record {
  said_is = refl;
  messages_are = messages;
  until_is = until;
  some = some;
  built = built;
  none = ap (λ (x : Course). x.events) is;
  constants_are = λ i. record { meaning = m i; settings = (is i).settings };
  turns = ap (λ (x : Course). x.turns) is;
  moment = ap (λ (x : Course). x.opening.moment) is;
  crew = ap (λ (x : Course). x.opening.workers) is;
}

-- the stores of a hub that was started stand as they have to, where they told one map
module _ {P D : Type 0} (bh : D → Type 0) (bn bi : D → CellMap → Type 0) (bf : D → Type 0) (ph : P → Type 0) (pn pi : P → CellMap → Type 0) (pf : P → Type 0)
    (b0 b1 : D) (p0 p1 : P) (q : Past) where
  pub started_stands : ((m : CellMap) → TellsOne bn bi bf b0 m → BaseStands bh bn bi bf b1 q) → ((m : CellMap) → TellsOne pn pi pf p0 m → PostStands ph pn pi pf p1 q)
      → ((m : CellMap) → Told bh bn bf b0 b1 m → table.HasCells m q.fixed.opening.tables) → ((m : CellMap) → Told ph pn pf p0 p1 m → queue.HasCells m q.fixed.opening.post)
      → (start : Started) → TellsOne bn bi bf b0 start.base → TellsOne pn pi pf p0 start.post → DeskStands bh bn bi bf ph pn pi pf start q b1 p1
  started_stands bs ps bc pc start b p = record {
    base_stands = bs start.base b;
    post_stands = ps start.post p;
    base_opening = λ honest. bc start.base (record { honest_is = honest; firm_is = b.firm_is; now_is = b.now_is });
    post_opening = λ honest. pc start.post (record { honest_is = honest; firm_is = p.firm_is; now_is = p.now_is });
  }

-- ---- a refusal

pub of_start_is : (f : StartFault) → IsOfStart (of_start f)
of_start_is StoreFailed = tt
of_start_is PostFailed = tt
of_start_is (Damaged store space key) = tt
of_start_is NoMemory = tt

pub refused_risen : (f : StartFault) (c : Counts) → (f ≡ StoreFailed → Rose c.base_before c.base_after) → (f ≡ PostFailed → Rose c.post_before c.post_after) → Risen (of_start f) c
refused_risen StoreFailed c b p = b refl
refused_risen PostFailed c b p = p refl
refused_risen (Damaged store space key) c b p = tt
refused_risen NoMemory c b p = tt

pub refused_base : (meaning : Meaning) (m : CellMap) (f : StartFault) → starting.RefusesBase meaning m f → RefusesBase meaning m (of_start f)
refused_base meaning m StoreFailed r = tt
refused_base meaning m PostFailed r = tt
refused_base meaning m (Damaged Base space key) r = r
refused_base meaning m (Damaged Post space key) r = r
refused_base meaning m NoMemory r = tt

pub refused_post : (m : CellMap) (f : StartFault) → starting.RefusesPost m f → RefusesPost m (of_start f)
refused_post m StoreFailed r = tt
refused_post m PostFailed r = tt
refused_post m (Damaged Base space key) r = tt
refused_post m (Damaged Post space key) r = r
refused_post m NoMemory r = tt
