use Rattle.std.proofs.Common.{◌≡◌, ◌++◌, drop, map}
use Rattle.nb_script.specs.Tree.{arg}
use Rattle.nb_check.specs.Keys.{args_keys}
use Rattle.nb_check.proofs.known.Known.args_keys.Given as goal

abbrev pub invariant-loop-a : goal.invariant-loop-a
invariant-loop-a l = l.fn.keys ++ args_keys (map arg l.args) l.self ≡ l.keys ++ args_keys (map arg (drop l.a-index l.args)) l.self
