use Rattle.std.proofs.Common.{◌↔◌, length}
use Rattle.nb_base.specs.Shown.{stored, AreFresh}
use Rattle.nb_hub.proofs.looking.are_fresh.Given as goal

abbrev pub invariant-loop-left : goal.invariant-loop-left
invariant-loop-left g l = AreFresh (stored l.store.tables) l.left ↔ AreFresh (stored l.store.tables) l.reads

abbrev pub decreases-loop-left : goal.decreases-loop-left
decreases-loop-left g l = length l.left
