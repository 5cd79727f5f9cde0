-- A script's meaning: what it reads of a message, and its verdict over tables and over what was read of them.
use Rattle.std.specs.Prelude.{◌≡◌, ℕ, List, true}
use Rattle.nb_base.specs.Meanings.{Meaning}
use Rattle.nb_base.specs.Shown.{shown}
use Rattle.nb_base.specs.declared.saga_row.SagaRow.{SagaRow}
use Rattle.nb_base.specs.declared.saga_row.Seen.{Seen}
use Rattle.nb_base.specs.declared.saga_row.Seen.TheVariants.{Saga as SagaSeen}
use Rattle.nb_base.specs.declared.value.Key.{Key}
use Rattle.nb_base.specs.declared.value.Key.TheVariants as key
use Rattle.nb_base.specs.declared.value.Value.{Value}
use Rattle.nb_script.specs.Grammar.{ItemTerm}
use Rattle.nb_check.specs.Checks.{keys_read}
use Rattle.nb_check.specs.Declarations.{sagas}
use Rattle.nb_check.specs.Fits.{fits}
use Rattle.nb_check.specs.Sends.{sends}
use Rattle.nb_check.specs.declared.types.SagaType.{SagaType}
use Rattle.nb_eval.specs.Worlds.{seen_in}
use Rattle.nb_eval.specs.Verdicts.{verdict_over}

abbrev pub meaning_of : List ItemTerm → Meaning
meaning_of items = record {
  keys = keys_read items;
  verdict = λ t e at. verdict_over items (shown t) e at;
  on_reads = λ reads e at. verdict_over items (seen_in reads) e at;
  sends = sends items;
  fits = fits (sagas items);
}

-- each saga that is shown fits its type
pub record FitsLook (types : List SagaType) (look : Key → Seen) : Type 0 where
  pub by_corr : (saga : List ℕ) (corr : Value) (row : SagaRow) → look (key.ByCorr saga corr) ≡ SagaSeen row → fits types saga row ≡ true
  pub by_id : (saga id : List ℕ) (row : SagaRow) → look (key.ById saga id) ≡ SagaSeen row → fits types saga row ≡ true
