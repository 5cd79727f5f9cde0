use Rattle.std.proofs.Common.{take}
use Rattle.std.specs.Prelude.{Ok}
use Rattle.nb_pump.specs.Plans.{Goes, loads_of}
use Rattle.nb_pump.proofs.plans.load_all.Given as goal

abbrev pub invariant-loop-i : goal.invariant-loop-i
invariant-loop-i g l =
    Goes (loads_of (take l.i l.messages)) (Ok tt) (g.D.Desk.view l.fn.desk) (g.D.Desk.view l.desk)
    × ((start : g.D.Desk.Start) → g.D.Desk.stands start l.fn.desk → g.D.Desk.stands start l.desk)
    × (g.D.Desk.caused l.fn.desk → g.D.Desk.caused l.desk)
