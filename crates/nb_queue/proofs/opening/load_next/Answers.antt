use Rattle.std.proofs.Common.{inr, subst, arith}
use Rattle.nb_queue.specs.Opening.{IsSomeNext}
use Rattle.nb_queue.proofs.OpeningLaws.{refused_at, first_only, two_empty, one_cell}
use Rattle.nb_queue.proofs.opening.load_next.Goals as goal

pub returns-then-len-gt1-clause-err : goal.returns-then-len-gt1-clause-err
returns-then-len-gt1-clause-err c = λ ascend.
    refused_at IsSomeNext 1 c.args.cells.now 1 c.at.result.now _ c.damage-then-len-gt1.ensures.value c.at.ensures
    (λ x. two_empty c.args.cells.now c.at-first.result.now c.at.result.now c.at-first.ensures c.at.ensures ascend c.in-Some.ensures.key_is x.1.key_is)
    (λ d has. subst IsSomeNext (first_only c.args.cells.now c.at-first.result.now d c.at-first.ensures has) (c.in-Some.next, c.in-Some.ensures))

pub returns-clause-ok : goal.returns-clause-ok
returns-clause-ok c = inr (c.at-first.result.now, one_cell c.args.cells.now c.at-first.result.now c.at-first.ensures (omega arith), c.in-Some.ensures)
