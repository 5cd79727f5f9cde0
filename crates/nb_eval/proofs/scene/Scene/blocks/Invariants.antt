use Rattle.std.proofs.Common.{◌≡◌, ◌+◌, drop}
use Rattle.nb_check.specs.Blocks.{blocks}
use Rattle.nb_check.specs.Declarations.{sagas}
use Rattle.nb_script.specs.Tree.{script}
use Rattle.nb_eval.specs.Blocks.{numbers_do}
use Rattle.nb_eval.specs.Worlds.{world_of}
use Rattle.nb_eval.proofs.scene.Scene.blocks.Given as goal

abbrev pub invariant-loop-number : goal.invariant-loop-number
invariant-loop-number l = numbers_do (sagas (script l.c)) (blocks (script l.c)) 1 l.met (world_of l.self) l.fn.state ≡ numbers_do (sagas (script l.c)) (blocks (script l.c)) (l.place + 1) (drop l.number-index l.met) (world_of l.self) l.state
