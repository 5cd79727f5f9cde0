use Rattle.std.proofs.Common.{◌≡◌}
use Rattle.std.specs.List.{list_any}
use Rattle.std.specs.Option.{is_some}
use Rattle.nb_core.specs.After.{are_busy}
use Rattle.nb_core.specs.Standing.{number_of}
use Rattle.nb_hub.proofs.phases.are_busy.Given as goal

abbrev pub invariant-loop-w : goal.invariant-loop-w
invariant-loop-w l = are_busy l.phases ≡ list_any (λ x. is_some (number_of x.1)) l._w-iterator
