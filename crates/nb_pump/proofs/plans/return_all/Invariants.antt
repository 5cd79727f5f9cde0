use Rattle.std.proofs.Common.{take}
use Rattle.std.specs.Prelude.{Ok}
use Rattle.nb_pump.specs.Plans.{Goes, returns_of}
use Rattle.nb_pump.proofs.Going.{CanFrom}
use Rattle.nb_pump.proofs.plans.return_all.Given as goal

abbrev pub invariant-loop-i : goal.invariant-loop-i
invariant-loop-i g l =
    Goes (returns_of (take l.i l.numbers)) (Ok tt) (g.D.Desk.view l.fn.desk) (g.D.Desk.view l.desk)
    × CanFrom l.i l.numbers (g.D.Desk.view l.desk)
    × ((start : g.D.Desk.Start) → g.D.Desk.stands start l.fn.desk → g.D.Desk.stands start l.desk)
    × (g.D.Desk.caused l.fn.desk → g.D.Desk.caused l.desk)
