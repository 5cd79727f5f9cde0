use Rattle.std.proofs.Common.{◌≡◌, ◌-◌}
use Rattle.nb_core.specs.Past.{takes}
use Rattle.nb_pump.proofs.Working.{Working}
use Rattle.nb_pump.proofs.turns.take_turns.Given as goal

abbrev pub invariant-loop-fault : goal.invariant-loop-fault
invariant-loop-fault g l =
    Working l.moment (g.D.Desk.view l.fn.desk) (g.D.Desk.view l.desk)
    × ((start : g.D.Desk.Start) → g.D.Desk.stands start l.fn.desk → g.D.Desk.stands start l.desk)
    × (g.D.Desk.caused l.fn.desk → g.D.Desk.caused l.desk)
    × ((g.D.Desk.view l.desk).fixed.meaning ≡ (g.D.Desk.view l.fn.desk).fixed.meaning)

abbrev pub decreases-loop-fault : goal.decreases-loop-fault
decreases-loop-fault g l = (g.D.Desk.view l.desk).fixed.turns - takes (g.D.Desk.view l.desk).events
