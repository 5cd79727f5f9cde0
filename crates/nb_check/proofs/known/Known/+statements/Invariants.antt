use Rattle.std.proofs.Common.{◌≡◌, ◌++◌, drop}
use Rattle.nb_script.specs.Tree.{listed}
use Rattle.nb_check.specs.Keys.{phrases_keys}
use Rattle.nb_check.proofs.known.Known.+statements.Given as goal

abbrev pub invariant-body_keys-loop-d : goal.invariant-body_keys-loop-d
invariant-body_keys-loop-d l = l.fn.keys ++ phrases_keys (listed l.b.body) l.self ≡ l.keys ++ phrases_keys (listed (drop l.d-index l.b.body)) l.self
