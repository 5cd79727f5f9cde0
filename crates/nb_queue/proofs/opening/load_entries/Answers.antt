use Rattle.nb_queue.specs.Opening.{IsSomeEntry}
use Rattle.nb_queue.proofs.OpeningLaws.{refused_at, loaded_none, loaded_more}
use Rattle.nb_queue.proofs.opening.load_entries.Goals as goal

pub loop-i-init : goal.loop-i-init
loop-i-init c = loaded_none c.args.next _ c.new-entries.ensures

pub returns-in_default-clause-err : goal.returns-in_default-clause-err
returns-in_default-clause-err c =
    refused_at (IsSomeEntry c.args.next) 2 c.args.cells.now c.loop-i.i c.at-cell.result.now _ c.damage.ensures.value c.at-cell.ensures (rw c.in_default.is at c.in_ok-number.ensures)
    (λ d has. let e = c.loop-i.invariant.each d has in (e.0, e.1, e.2))

pub loop-i-preserved : goal.loop-i-preserved
loop-i-preserved c =
    loaded_more c.args.next c.loop-i.entries c.insert.new.self c.args.cells.now c.loop-i.i c.at-cell.result.now _ _ c.at-cell.ensures (rw c.in-Some.is at c.in_ok-number.ensures) c.in_ok-insert.ensures.ok c.loop-i.invariant
