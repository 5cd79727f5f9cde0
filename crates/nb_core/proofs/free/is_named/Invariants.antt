use Rattle.std.proofs.Common.{◌≡◌}
use Rattle.std.specs.List.{list_any}
use Rattle.nb_core.specs.State.{number_of}
use Rattle.nb_core.specs.After.{is_number, is_named}
use Rattle.nb_core.proofs.free.is_named.Given as goal

abbrev pub invariant-loop-w : goal.invariant-loop-w
invariant-loop-w l = is_named l.phases l.number ≡ list_any (λ x. is_number l.number (number_of x.1)) l._w-iterator
