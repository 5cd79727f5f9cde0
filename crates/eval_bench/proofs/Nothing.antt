-- Where nothing was read, every saga that is shown fits.
use Rattle.std.proofs.Common.{◌≡◌, subst, List, []}
use Rattle.nb_base.specs.declared.saga_row.Read.{Read}
use Rattle.nb_base.specs.declared.saga_row.SagaRow.{SagaRow}
use Rattle.nb_base.specs.declared.saga_row.Seen.TheVariants.{Absent, Saga as SagaSeen}
use Rattle.nb_base.specs.declared.value.Key.TheVariants as key
use Rattle.nb_check.specs.declared.types.SagaType.{SagaType}
use Rattle.nb_eval.specs.Meanings.{FitsLook}
use Rattle.nb_eval.specs.Worlds.{seen_in}

absent : (row : SagaRow) → Absent ≡ SagaSeen row → ⊥
absent row e = cc

pub nothing_read : (types : List SagaType) (reads : List Read) → reads ≡ [] → FitsLook types (seen_in reads)
nothing_read types reads e = record {
  by_corr = λ saga corr row x. absurd (absent row (subst (λ rs. seen_in rs (key.ByCorr saga corr) ≡ SagaSeen row) e x));
  by_id = λ saga id row x. absurd (absent row (subst (λ rs. seen_in rs (key.ById saga id) ≡ SagaSeen row) e x));
}
