use Rattle.std.proofs.Common.{◌≡◌, drop, map}
use Rattle.nb_script.specs.Tree.{arg}
use Rattle.nb_eval.specs.Making.{made}
use Rattle.nb_eval.specs.Worlds.{world_of}
use Rattle.nb_eval.proofs.Bodies.{made_after}
use Rattle.nb_eval.proofs.scene.Scene.made.Given as goal

abbrev pub invariant-loop-a : goal.invariant-loop-a
invariant-loop-a l = made (map arg l.args) (world_of l.self) l.state ≡ made_after l.fields (made (map arg (drop l.a-index l.args)) (world_of l.self) l.state)
