use Rattle.std.proofs.Common.{◌≡◌, drop}
use Rattle.nb_check.specs.Fits as spec
use Rattle.nb_check.proofs.fits.saga_named.Given as goal

abbrev pub invariant-loop-s : goal.invariant-loop-s
invariant-loop-s l = spec.saga_named l.name (drop l.s-index l.kinds) ≡ spec.saga_named l.name l.kinds
