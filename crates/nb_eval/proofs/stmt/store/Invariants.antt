use Rattle.std.proofs.Common.{◌≡◌, take, drop, ◌++◌, length}
use Rattle.nb_eval.specs.Worlds.{stored}
use Rattle.nb_eval.proofs.stmt.store.Given as goal

abbrev pub invariant-loop-i : goal.invariant-loop-i
invariant-loop-i l = record {
  end : l.i-end ≡ length l.rows;
  same : l.rows ≡ l.initial.rows;
  so_far : stored l.name l.value l.rows ≡ take l.i l.rows ++ stored l.name l.value (drop l.i l.rows);
}
