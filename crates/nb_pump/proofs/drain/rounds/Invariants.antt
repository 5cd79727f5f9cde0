use Rattle.std.proofs.Common.{◌-◌}
use Rattle.nb_core.specs.Past.{takes}
use Rattle.nb_pump.proofs.Draining.{Draining}
use Rattle.nb_pump.proofs.drain.rounds.Given as goal

abbrev pub invariant-loop-later : goal.invariant-loop-later
invariant-loop-later g l =
    Draining l.until l.now (g.D.Desk.view l.fn.desk) (g.D.Desk.view l.desk)
    × ((start : g.D.Desk.Start) → g.D.Desk.stands start l.fn.desk → g.D.Desk.stands start l.desk)
    × (g.D.Desk.caused l.fn.desk → g.D.Desk.caused l.desk)

abbrev pub decreases-loop-later : goal.decreases-loop-later
decreases-loop-later g l = (g.D.Desk.view l.desk).fixed.turns - takes (g.D.Desk.view l.desk).events
