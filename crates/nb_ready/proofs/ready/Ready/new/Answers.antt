use Rattle.std.proofs.Common.{◌∙◌, sym, ap, arith}
use Rattle.std.specs.FinMap as finite
use Rattle.std.specs.Ordering.{nat_cmp}
use Rattle.nb_ready.specs.declared.seat.Seat.{Seat}
use Rattle.nb_ready.proofs.ready.Ready.new.Goals as goal

pub invariant_of-result : goal.invariant_of-result
invariant_of-result c = record { counted = sym (ap finite.len c.new.ensures ∙ finite.len-empty nat_cmp Seat); short = omega arith; room = omega arith; clear = c.new-2.ensures.len }
