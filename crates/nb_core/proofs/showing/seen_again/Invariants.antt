use Rattle.std.proofs.Common.{◌≡◌, take}
use Rattle.std.specs.Prelude.{map}
use Rattle.nb_base.specs.Shown.{stored, seen}
use Rattle.nb_base.specs.declared.saga_row.Read.{Read}
use Rattle.nb_core.proofs.showing.seen_again.Given as goal

abbrev pub invariant-loop-i : goal.invariant-loop-i
invariant-loop-i l = l.reads ≡ seen (stored l.tables) (map (λ (r : Read). r.key) (take l.i l.before))
