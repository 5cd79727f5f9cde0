use Rattle.std.proofs.Common.{◌≡◌, take}
use Rattle.std.specs.Prelude.{map}
use Rattle.nb_base.specs.declared.saga_row.Read.{Read}
use Rattle.nb_hub.proofs.looking.keys_of.Given as goal

abbrev pub invariant-loop-i : goal.invariant-loop-i
invariant-loop-i l = l.keys ≡ map (λ (r : Read). r.key) (take l.i l.reads)
