use Rattle.std.specs.FinMap as map
use Rattle.nb_core.proofs.Held.{phase_empty}
use Rattle.nb_core.proofs.Placing.{placed}
use Rattle.nb_core.proofs.Serials.{kept_at_opening}
use Rattle.nb_core.proofs.laws.law_placed.Goals as goal

pub returns : goal.returns
returns _ c h s legal =
    let first = kept_at_opening c h.opening legal.sound in
    placed legal.run first.below first.holding phase_empty (λ n. map.get-empty _ n)
