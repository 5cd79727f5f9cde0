use Rattle.std.specs.FinMap as map
use Rattle.nb_core.proofs.Copies.{error_apart}
use Rattle.nb_core.proofs.Earning.{earned}
use Rattle.nb_core.proofs.Held.{phase_empty}
use Rattle.nb_core.proofs.Serials.{kept_at_opening}
use Rattle.nb_core.proofs.laws.law_earned.Goals as goal

pub returns : goal.returns
returns _ c h s legal =
    let first = kept_at_opening c h.opening legal.sound in
    earned legal.run (error_apart c.settings) first.below first.holding phase_empty (λ n. map.get-empty _ n)
