use Rattle.std.proofs.Common.{◌≡◌, [], drop}
use Rattle.nb_check.specs.Keys.{with_keys}
use Rattle.nb_check.proofs.key_set.without_repeats.Given as goal

abbrev pub invariant-loop-key : goal.invariant-loop-key
invariant-loop-key l = with_keys l.keys (drop l.key-index l.all) ≡ with_keys [] l.all
