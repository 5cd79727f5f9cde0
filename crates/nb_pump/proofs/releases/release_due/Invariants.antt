use Rattle.nb_core.specs.Calls.{state_of}
use Rattle.nb_pump.specs.Drains.{waiting}
use Rattle.nb_pump.proofs.Releasing.{Releasing}
use Rattle.nb_pump.proofs.releases.release_due.Given as goal

abbrev pub invariant-loop-next : goal.invariant-loop-next
invariant-loop-next g l =
    Releasing l.moment (g.D.Desk.view l.fn.desk) (g.D.Desk.view l.desk)
    × ((start : g.D.Desk.Start) → g.D.Desk.stands start l.fn.desk → g.D.Desk.stands start l.desk)
    × (g.D.Desk.caused l.fn.desk → g.D.Desk.caused l.desk)

abbrev pub decreases-loop-next : goal.decreases-loop-next
decreases-loop-next g l = waiting (state_of (g.D.Desk.view l.desk))
