-- The changes of cells that changes of the post are.
use Rattle.std.specs.Prelude.{ℕ, []}
use Rattle.nb_base.specs.declared.tables.Queued.{Queued}
use Rattle.nb_cells.specs.declared.change.Change.{Change}
use Rattle.nb_cells.specs.declared.change.Change.TheVariants.{Put, Erase}
use Rattle.nb_envelope.specs.Spelling.{spelled_u64}
use Rattle.nb_queue.specs.Spelled.{spelled_entry, spelled_next}

abbrev pub change_of_entry : ℕ → Queued → Change
change_of_entry number e = Put 2 (spelled_u64 number) (spelled_entry e)

abbrev pub change_of_next : ℕ → Change
change_of_next n = Put 1 [] (spelled_next n)

abbrev pub change_of_removal : ℕ → Change
change_of_removal number = Erase 2 (spelled_u64 number)
