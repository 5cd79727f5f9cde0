use Rattle.std.proofs.Common.{◌≡◌, ◌++◌, drop, map}
use Rattle.std.specs.Option.{option_copied}
use Rattle.nb_script.specs.Tree.{arg}
use Rattle.nb_check.specs.Statements.{args_faults}
use Rattle.nb_check.proofs.scope.Scope.want_args.Given as goal

abbrev pub invariant-loop-a : goal.invariant-loop-a
invariant-loop-a l = l.fn.breaches ++ args_faults (option_copied l.declared) (map arg l.args) l.self ≡ l.breaches ++ args_faults (option_copied l.declared) (map arg (drop l.a-index l.args)) l.self
