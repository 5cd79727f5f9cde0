use Rattle.std.proofs.Common.{◌∙◌, sym, ap}
use Rattle.nb_base.specs.declared.settings.Settings.{Settings}
use Rattle.nb_core.proofs.Trying.{if_ok}
use Rattle.nb_store.specs.Lookups.{purgeable}
use Rattle.nb_hub.proofs.hub.Hub.purgeable.Goals as goal

pub returns : goal.returns
returns g c =
    let kept = ap (λ (x : Settings). x.retention) c.settings.ensures in
    let state = c.self.invariant.state in
    rw (sym c.self.view_is) (if_ok c.purgeable.result _ _ (λ ids is. is ∙ (λ i. purgeable (state i).tables (kept i) (state i).moment)) c.purgeable.ensures)
