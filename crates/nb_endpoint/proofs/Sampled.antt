-- The run of a sample.
use Rattle.std.proofs.Common.{◌≡◌, ◌≢◌, ℕ, zero, suc, ◌+◌, ◌<◌, List, [], ◌∷◌, ◌++◌, Option, Some, None, refl, sym, ap, ◌∙◌, subst, arith}
use Rattle.std.specs.Prelude.{Ok, Err, Result, Bool, true, IfOk}
use Rattle.std.specs.FinMap as finite
use Rattle.nb_base.specs.Messages.{Message}
use Rattle.nb_cells.specs.Mem.{Mem, opened}
use Rattle.nb_cells.specs.Table.{told}
use Rattle.nb_cells.specs.declared.plan.FaultPlan.{FaultPlan}
use Rattle.nb_core.specs.Past.{IsLegal}
use Rattle.nb_core.specs.declared.answers.DeskFault.{DeskFault}
use Rattle.nb_core.specs.declared.history.History.{History}
use Rattle.nb_core.specs.declared.history.Opening.{Opening}
use Rattle.nb_core.specs.declared.state.State.{State}
use Rattle.nb_endpoint.specs.Asked.{Asked, asked_by}
use Rattle.nb_endpoint.specs.Finishing.{IsNew}
use Rattle.nb_endpoint.specs.Follows.{state_in}
use Rattle.nb_endpoint.specs.Printing.{Stays, TextIs}
use Rattle.nb_endpoint.specs.Prints.{PrintsText}
use Rattle.nb_endpoint.specs.Sampling.{AreSampled, IsSample, IsRun, IsSummary, IsSummaryOf, PrintsSample, SampleIs, no_cells, sample_words}
use Rattle.nb_endpoint.specs.Works.{Works}
use Rattle.nb_base.specs.Causes.{Rose}
use Rattle.nb_endpoint.specs.declared.printing.Worked.{Worked}
use Rattle.nb_endpoint.specs.declared.status.Status.{Status}
use Rattle.nb_endpoint.specs.declared.status.Status.TheVariants.{Done, NotDrained, Words, Script, Settings, Input, ReadFault, WriteFault, BaseFault, PostFault, NoMemory, Damaged, Spent}
use Rattle.nb_endpoint.specs.declared.work.Task.{Task}
use Rattle.nb_endpoint.proofs.Finishing.{opening_is, state_there, done_as}
use Rattle.nb_envelope.specs.Lines.{line_of}
use Rattle.nb_hub.specs.Kept.{seen}
use Rattle.nb_hub.specs.Ledgers.{Past, state_at}
use Rattle.nb_queue.specs.Maps as queue
use Rattle.nb_report.specs.Summary.{summary}
use Rattle.nb_sample.specs.Sample.{sample_line}
use Rattle.nb_store.specs.CellMaps as table
use Rattle.nb_words.specs.declared.words.Command.TheVariants.{Run, Sample}
use Rattle.nb_words.specs.declared.words.Words.{Words as Said}

-- one more line
pub sampled_more : (seed i : ℕ) (ms : List Message) (m : Message) → AreSampled seed i ms → line_of (sample_line seed (i + 1)) ≡ Ok m → AreSampled seed (i + 1) (ms ++ m ∷ [])
sampled_more seed i ms m all last =
    let next : i + 1 ≡ suc i = omega arith in
    subst (λ (n : ℕ). AreSampled seed n (ms ++ m ∷ [])) (sym next) (ms, m, refl, all, subst (λ (n : ℕ). line_of (sample_line seed n) ≡ Ok m) next last)

-- work that is done, and summed up
pub summed : (a : Asked) (said : Said) (task : Task) (p q : Past) (h : History) (n : IsNew 1 a said task (seen p)) (b : Bool) (works : Works said.command task.messages task.until (Ok b) (seen p) (seen q))
    (legal : IsLegal q.fixed q.events) (is : h ≡ record { opening = q.fixed.opening; events = q.events }) (s : State) (seed count : ℕ) (error text : List ℕ) → b ≡ true → s ≡ state_at q → text ≡ summary seed count error h.events s
    → IsSummaryOf a seed count error p.fixed.opening text
summed a said task p q h n b works legal is s seed count error text done_so there sum =
    let done = done_as 1 a said task p q h (Ok b) n works legal is (ap Ok done_so) in (
      h,
      sym (opening_is 1 a said task p q h (Ok b) n works legal is),
      done.0,
      done.1,
      done.2,
      sum ∙ ap (λ (x : State). summary seed count error h.events x) (state_there 1 a said task p q h (Ok b) n works legal is s there),
    )

-- a store of no cells tells that it has none
pub none_told : (plan : FaultPlan) (space : ℕ) (key : List ℕ) → told (opened finite.empty plan).told space key ≡ no_cells space key
none_told plan space key = finite.get-empty _ _

-- what the words of the sample's run say of it
pub some_turns_in : (a : Said) (seed count : ℕ) → a ≡ sample_words seed count → 0 < a.turns
some_turns_in a seed count is = let turns : a.turns ≡ 18446744073709551615 = ap (λ (x : Said). x.turns) is in omega (arith, turns)

pub no_sample : (a : Said) (seed count : ℕ) → a ≡ sample_words seed count → a.command ≢ Sample
no_sample a seed count is e = let run : Run ≡ Sample = sym (ap (λ (x : Said). x.command) is) ∙ e in absurd cc

-- the summary of the sample's run over empty stores
pub summary_of : (seed count : ℕ) (a : Asked) (error : List ℕ) (opening : Opening) (text : List ℕ) → IsSample seed count a → error ≡ a.settings.error
    → table.HasCells no_cells opening.tables → queue.HasCells no_cells opening.post → IsSummaryOf a a.said.seed a.said.count error opening text → IsSummary seed count text
summary_of seed count a error opening text sample same tables post sum = (
  a,
  sample,
  (
    sum.0,
    record {
      tables_are = subst (λ (o : Opening). table.HasCells no_cells o.tables) (sym sum.1) tables;
      post_is = subst (λ (o : Opening). queue.HasCells no_cells o.post) (sym sum.1) post;
      begins = sum.2;
      follows = sum.3;
      shows = sum.4;
    },
    sum.5 ∙ (λ i. summary ((sample.said_is i).seed) ((sample.said_is i).count) (same i) sum.0.events (state_in a sum.0)),
  ),
)

-- ---- its printing

stays_prints : (seed count : ℕ) (text : List ℕ) (status : Status) (n : ℕ) (old new : Option (List ℕ)) (o0 o1 : ℕ) → IsSummary seed count text → PrintsText status text n old new → Stays Done status o0 o1
    → PrintsSample seed count status n old new
stays_prints seed count text Done n old new o0 o1 sum p s = (text, sum, p)
stays_prints seed count text (NotDrained takes) n old new o0 o1 sum p s = absurd cc
stays_prints seed count text Words n old new o0 o1 sum p s = absurd cc
stays_prints seed count text (Script line column kind) n old new o0 o1 sum p s = absurd cc
stays_prints seed count text (Settings key kind) n old new o0 o1 sum p s = absurd cc
stays_prints seed count text (Input line kind) n old new o0 o1 sum p s = absurd cc
stays_prints seed count text (ReadFault source) n old new o0 o1 sum p s = absurd cc
stays_prints seed count text WriteFault n old new o0 o1 sum p s = (text, sum, p)
stays_prints seed count text BaseFault n old new o0 o1 sum p s = absurd cc
stays_prints seed count text PostFault n old new o0 o1 sum p s = absurd cc
stays_prints seed count text NoMemory n old new o0 o1 sum p s = p
stays_prints seed count text (Damaged store space key) n old new o0 o1 sum p s = absurd cc
stays_prints seed count text Spent n old new o0 o1 sum p s = absurd cc

stays_risen : (status : Status) (o0 o1 : ℕ) → Stays Done status o0 o1 → status ≡ WriteFault → Rose o0 o1
stays_risen status o0 o1 s e = subst (λ (x : Status). Stays Done x o0 o1) e s

pub sample_is : (seed count : ℕ) (text : List ℕ) (x : Worked) (old new : Option (List ℕ)) (o0 o1 : ℕ) → IsSummary seed count text → TextIs Done text x old new o0 o1 → SampleIs seed count x old new o0 o1
sample_is seed count text x old new o0 o1 sum t = record {
  prints = stays_prints seed count text x.status x.printed old new o0 o1 sum t.prints t.stays;
  risen = stays_risen x.status o0 o1 t.stays;
}
