use Rattle.std.proofs.Common.{true, refl, sym, subst}
use Rattle.std.specs.Prelude.{Ok}
use Rattle.nb_endpoint.specs.Works.{Does}
use Rattle.nb_endpoint.specs.declared.chore.Chore.{Chore}
use Rattle.nb_pump.proofs.Going.{going_start}
use Rattle.nb_endpoint.proofs.work.serve.Goals as goal

pub returns-in-Rest-clause-does : goal.returns-in-Rest-clause-does
returns-in-Rest-clause-does g c =
    subst (λ (x : Chore). Does x c.args.task.now.messages c.args.task.now.until (Ok true) (g.D.Desk.view c.args.desk.now) (g.D.Desk.view c.args.desk.now)) (sym c.in-Rest.is)
    (refl, going_start _ c.requires.standing c.requires.on)
