-- What stands behind an `if`, as its tree in memory is.
use Rattle.nb_script.specs.declared.blocks.Branch.{Branch as BranchTree}
use Rattle.nb_script.specs.Tree.{tree, block, otherwise}
use Rattle.nb_script.specs.ReadingScript.{Branch}

abbrev pub branch_of : BranchTree → Branch
branch_of b = record { test = tree b.test; block = block b.block; otherwise = otherwise b.otherwise }
