use Rattle.std.proofs.Common.{inl, inr}
use Rattle.nb_queue.proofs.opening.load.Goals as goal

pub returns-in-Err-clause-err : goal.returns-in-Err-clause-err
returns-in-Err-clause-err c = λ ascend. inr (c.in_ok-next.next, c.in_ok-next.ensures.ok, inr (c.in_ok-entries.entries, c.in_ok-entries.ensures.ok, inl c.in-Err.ensures.err))

pub returns-in-Err-load_none-clause-err : goal.returns-in-Err-load_none-clause-err
returns-in-Err-load_none-clause-err c = λ ascend. inr (c.in_ok-next.next, c.in_ok-next.ensures.ok, inr (c.in_ok-entries.entries, c.in_ok-entries.ensures.ok, inr (c.in_default.ensures.ok, c.in-Err-load_none.ensures.err)))
