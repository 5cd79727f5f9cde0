use Rattle.nb_saga_store.proofs.MapLaws.{write_all, write_spelled, elsewhere}
use Rattle.nb_saga_store.proofs.laws.law_writes.Goals as goal

pub returns-clause-stored : goal.returns-clause-stored
returns-clause-stored c = λ endpoint n m t ws are is has. (write_all endpoint n m t ws are is has).0

pub returns-clause-spelled : goal.returns-clause-spelled
returns-clause-spelled c = write_spelled

pub returns-clause-elsewhere : goal.returns-clause-elsewhere
returns-clause-elsewhere c = elsewhere
