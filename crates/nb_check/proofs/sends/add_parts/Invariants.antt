use Rattle.std.proofs.Common.{◌≡◌, ◌++◌, drop, map}
use Rattle.nb_script.specs.Tree.{part}
use Rattle.nb_check.specs.Blocks.{part_blocks}
use Rattle.nb_check.specs.Sends.{blocks_sends}
use Rattle.nb_check.proofs.sends.add_parts.Given as goal

abbrev pub invariant-loop-p : goal.invariant-loop-p
invariant-loop-p l = l.fn.names ++ blocks_sends (part_blocks l.saga.name (map part l.saga.parts)) ≡ l.names ++ blocks_sends (part_blocks l.saga.name (map part (drop l.p-index l.saga.parts)))
