use Rattle.std.proofs.Common.{◌≡◌, drop}
use Rattle.serde_json.specs.View.{view}
use Rattle.nb_check.specs.Bodies.{behind, fields_in}
use Rattle.nb_check.proofs.bodies.fields_in.Given as goal

abbrev pub invariant-loop-f : goal.invariant-loop-f
invariant-loop-f l = fields_in l.fields (view l.object) ≡ behind l.found (fields_in (drop l.f-index l.fields) (view l.object))
