use Rattle.std.proofs.Common.{◌∙◌, sym, ap}
use Rattle.std.specs.FinMap as map
use Rattle.std.specs.List.{filter_map}
use Rattle.nb_base.specs.declared.settings.Settings.{Settings}
use Rattle.nb_base.specs.declared.tables.PostState.{PostState}
use Rattle.nb_core.proofs.Trying.{if_ok}
use Rattle.nb_core.specs.declared.state.State.{State}
use Rattle.nb_hub.specs.Returnable.{returning}
use Rattle.nb_hub.proofs.hub.Hub.returnable.Goals as goal

pub returns : goal.returns
returns g c =
    let error = ap (λ (x : Settings). x.error) c.settings.ensures in
    let entries = ap (λ (x : PostState). x.entries) c.state.ensures.value ∙ ap (λ (x : State). x.post.entries) c.self.invariant.state in
    rw (sym c.self.view_is) (if_ok c.returning_of.result _ _ (λ ns is. is ∙ (λ i. filter_map (returning (error i)) (map.entries (entries i)))) c.returning_of.ensures)
