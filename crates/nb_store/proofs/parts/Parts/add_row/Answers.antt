use Rattle.std.proofs.Common.{◌∙◌, ap}
use Rattle.std.specs.Prelude.{ℤ}
use Rattle.std.specs.Int.{w64}
use Rattle.std.specs.FinMap as map
use Rattle.std.proofs.lemmas.Int.{to_z-of_z}
use Rattle.nb_store.proofs.OpenLaws.{added_row}
use Rattle.nb_store.proofs.parts.Parts.add_row.Goals as goal

pub returns : goal.returns
returns c =
    added_row c.args.self.now c.args.stored c.insert.new.self c.requires.open (c.fits_row.ensures.0 c.if-not-fits_row.false)
    (c.in_ok-insert.ensures.ok ∙ ap (λ (v : ℤ). map.insert c.args.self.now.tables.rows c.args.stored.name (record { version = c.args.stored.version; value = v })) (to_z-of_z w64 c.args.stored.value c.requires.spelled.row.1))
