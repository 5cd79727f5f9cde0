use Rattle.std.proofs.Common.{◌≡◌, ℕ, subst, List}
use Rattle.std.specs.List.{AllByRecursion}
use Rattle.nb_core.proofs.Pacing.{same, NoHalt, AllOne}
use Rattle.nb_core.proofs.laws.law_paced.Goals as goal
use Rattle.nb_core.specs.History.{opened}
use Rattle.nb_core.specs.Legal.{IsOfWorker}
use Rattle.nb_core.specs.Paced.{loading}
use Rattle.nb_core.specs.Step.{Event}

one : (n : ℕ) (es : List Event) → n ≡ 1 → AllByRecursion (IsOfWorker n) es → AllOne es
unfolding AllOne
one n es is h = subst (λ k. AllByRecursion (IsOfWorker k) es) is h

pub returns : goal.returns
unfolding NoHalt
returns _ c o until first second s t workers le a b p q nf ns ds dt same_loads =
    same c until loading (opened o) s t first second le p q a.run b.run (one o.workers first workers a.workers) (one o.workers second workers b.workers) nf ns ds dt same_loads
