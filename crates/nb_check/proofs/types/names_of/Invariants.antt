use Rattle.std.proofs.Common.{◌≡◌, ◌++◌, drop}
use Rattle.nb_check.specs.Declarations.{names_of}
use Rattle.nb_check.proofs.types.names_of.Given as goal

abbrev pub invariant-loop-m : goal.invariant-loop-m
invariant-loop-m l = names_of (l.messages) ≡ l.names ++ names_of ((drop l.m-index l.messages))
