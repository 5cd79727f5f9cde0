use Rattle.std.proofs.Common.{◌≡◌}
use Rattle.nb_core.specs.State.{Constants}
use Rattle.nb_core.specs.After.{first_where, is_free, least_free}
use Rattle.nb_core.proofs.free.least_free.Given as goal

abbrev pub invariant-loop-number : goal.invariant-loop-number
invariant-loop-number l = (c : Constants) → c.settings ≡ l.settings → least_free c l.state ≡ first_where (is_free c l.state) l.number-iterator
