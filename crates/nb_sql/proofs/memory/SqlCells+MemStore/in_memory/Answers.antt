use Rattle.nb_sql.proofs.CreateLemmas.{in_memory, memory_honest}
use Rattle.nb_sql.proofs.memory.SqlCells+MemStore.in_memory.Goals as goal

pub returns-in-Ok-clause-now : goal.returns-in-Ok-clause-now
returns-in-Ok-clause-now c = in_memory c.adopt.result (λ h. h.conn) c.in-Ok.conn.schema c.in-Ok.ensures.empty.2 c.adopt.ensures.fresh

pub returns-in-Ok-clause-honest : goal.returns-in-Ok-clause-honest
returns-in-Ok-clause-honest c = memory_honest c.adopt.result (λ h. h.conn)
