use Rattle.std.specs.FinMap as finite
use Rattle.nb_ready.proofs.SeatLaws.{if_same, insert-swap}
use Rattle.nb_ready.proofs.tree.pair.Goals as goal

pub returns-else-n-m : goal.returns-else-n-m
returns-else-n-m c = if_same _ _ _ c.rising-else-n-m.ensures (insert-swap finite.empty c.args.n c.args.m c.args.s c.args.t c.requires.apart)
