use Rattle.std.proofs.Common.{◌≡◌, ◌++◌, drop}
use Rattle.nb_check.specs.Fits as spec
use Rattle.nb_check.proofs.fits.lifted_fields.Given as goal

abbrev pub invariant-loop-f : goal.invariant-loop-f
invariant-loop-f l = spec.lifted_fields l.revision l.declared l.stored ≡ l.fields ++ spec.lifted_fields l.revision (drop l.f-index l.declared) l.left
