use Rattle.std.proofs.Common.{◌≡◌, ℕ, ◌+◌}
use Rattle.nb_pump.proofs.Following.{Dispatching}
use Rattle.nb_pump.proofs.rest.dispatch.Given as goal

abbrev pub invariant-loop : goal.invariant-loop
invariant-loop g l =
    ((rest : ℕ) × (rest + l.counter ≡ l.left) × Dispatching l.w rest (g.D.Desk.view l.fn.desk) (g.D.Desk.view l.desk))
    × ((start : g.D.Desk.Start) → g.D.Desk.stands start l.fn.desk → g.D.Desk.stands start l.desk)
    × (g.D.Desk.caused l.fn.desk → g.D.Desk.caused l.desk)
