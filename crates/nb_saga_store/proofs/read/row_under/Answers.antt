use Rattle.std.proofs.Common.{arith}
use Rattle.std.specs.Int.{w64}
use Rattle.std.proofs.lemmas.Int.{to_z-of_z}
use Rattle.nb_envelope.proofs.FormatLaws.{whole_found}
use Rattle.nb_saga_store.specs.Spelled.{spelled_row, IsRow}
use Rattle.nb_saga_store.specs.Read.{row_in}
use Rattle.nb_saga_store.proofs.FormatLaws.{format_row}
use Rattle.nb_saga_store.proofs.ReadLaws.{row_of-utf8, row_of-other}
use Rattle.nb_saga_store.proofs.read.row_under.Goals as goal

pub returns-in_default-clause-given : goal.returns-in_default-clause-given
returns-in_default-clause-given c = row_of-other c.args.key.now c.args.bytes.now c.in_default.ensures.cases.0

pub returns-clause-given : goal.returns-clause-given
returns-clause-given c =
    let fits = whole_found IsRow spelled_row row_in c.args.bytes.now c.in_ok-row.row format_row (λ i. omega (arith, c.type_inv.bytes i)) c.in_ok-row.ensures in
    rw (to_z-of_z w64 c.in_ok-row.row.value fits.0.1, c.in_ok-name.ensures, c.in-Ok.ensures.cases.0) (row_of-utf8 c.args.key.now c.args.bytes.now c.in_ok-row.row c.in-Ok.ensures.cases.1 c.in_ok-row.ensures)
