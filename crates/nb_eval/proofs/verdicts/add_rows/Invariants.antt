use Rattle.std.proofs.Common.{◌≡◌, ◌++◌, drop}
use Rattle.nb_eval.specs.Verdicts.{row_writes}
use Rattle.nb_eval.specs.Worlds.{seen_in}
use Rattle.nb_eval.proofs.verdicts.add_rows.Given as goal

abbrev pub invariant-loop-t : goal.invariant-loop-t
invariant-loop-t l = l.fn.writes ++ row_writes (seen_in l.reads) l.rows ≡ l.writes ++ row_writes (seen_in l.reads) (drop l.t-index l.rows)
