-- What is left by a write and has a spelling.
use Rattle.std.specs.Prelude.{◌≡◌, ◌≤◌}
use Rattle.nb_base.specs.Sound.{CanCorrelate, HaveDistinctNames}
use Rattle.nb_envelope.specs.Spelling.{IsText, IsValue}
use Rattle.nb_saga_store.specs.Maps.{IsSagaAt, IsRowAt}
use Rattle.nb_saga_store.specs.declared.written.Written.{Written}
use Rattle.nb_saga_store.specs.declared.written.Written.TheVariants.{Saga, SagaGone, Row, RowGone}

-- a saga that is written is in the grammar, whatever the lengths of its texts
abbrev pub CanSpell : Written → Type 0
CanSpell (Saga place row) = (row.corr ≡ place.corr) × CanCorrelate place.corr × (1 ≤ row.revision) × HaveDistinctNames row.fields
CanSpell (SagaGone place) = Unit {0}
CanSpell (Row name row) = Unit {0}
CanSpell (RowGone name) = Unit {0}

-- the place and the content have spellings
abbrev pub IsSpelled : Written → Type 0
IsSpelled (Saga place row) = IsSagaAt place row
IsSpelled (SagaGone place) = IsText place.saga × IsValue place.corr
IsSpelled (Row name row) = IsRowAt name row
IsSpelled (RowGone name) = IsText name
