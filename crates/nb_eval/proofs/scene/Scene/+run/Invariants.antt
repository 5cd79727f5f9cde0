use Rattle.std.proofs.Common.{◌≡◌, drop}
use Rattle.nb_script.specs.Tree.{listed}
use Rattle.nb_eval.specs.Statements.{in_turn}
use Rattle.nb_eval.specs.Worlds.{world_of}
use Rattle.nb_eval.proofs.scene.Scene.+run.Given as goal

abbrev pub invariant-within-loop-d : goal.invariant-within-loop-d
invariant-within-loop-d l = in_turn (listed l.b.body) (world_of l.self) l.fn.state ≡ in_turn (listed (drop l.d-index l.b.body)) (world_of l.self) l.state
