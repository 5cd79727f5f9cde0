use Rattle.std.proofs.Common.{◌≡◌, drop}
use Rattle.nb_check.specs.Fits as spec
use Rattle.nb_check.proofs.fits.fits_fields.Given as goal

abbrev pub invariant-loop-f : goal.invariant-loop-f
invariant-loop-f l = spec.fits_fields l.revision (drop l.f-index l.declared) l.left ≡ spec.fits_fields l.revision l.declared l.stored
