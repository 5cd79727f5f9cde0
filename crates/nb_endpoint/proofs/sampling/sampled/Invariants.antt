use Rattle.std.proofs.Common.{◌≡◌}
use Rattle.nb_endpoint.specs.Sampling.{AreSampled}
use Rattle.nb_endpoint.proofs.sampling.sampled.Given as goal

abbrev pub invariant-loop-i : goal.invariant-loop-i
invariant-loop-i l = AreSampled l.seed l.i l.messages
