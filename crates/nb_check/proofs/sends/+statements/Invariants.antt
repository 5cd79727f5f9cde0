use Rattle.std.proofs.Common.{◌≡◌, ◌++◌, drop}
use Rattle.nb_script.specs.Tree.{listed}
use Rattle.nb_check.specs.Sends.{phrases_sends}
use Rattle.nb_check.proofs.sends.+statements.Given as goal

abbrev pub invariant-add_block-loop-d : goal.invariant-add_block-loop-d
invariant-add_block-loop-d l = l.fn.names ++ phrases_sends (listed l.b.body) ≡ l.names ++ phrases_sends (listed (drop l.d-index l.b.body))
