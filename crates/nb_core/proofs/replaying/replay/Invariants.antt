use Rattle.std.proofs.Common.{take}
use Rattle.nb_core.proofs.Coming.{Came}
use Rattle.nb_core.specs.Replay.{constants_of}
use Rattle.nb_core.proofs.replaying.replay.Given as goal

abbrev pub invariant-loop-index : goal.invariant-loop-index
invariant-loop-index g l = Came (constants_of (g.H.Handling.meaning l.handling) l.settings) l.turns l.history.opening (take l.index l.history.events) l.progress
