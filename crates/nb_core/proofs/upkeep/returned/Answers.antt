use Rattle.std.proofs.Common.{sym, ap, ◌∙◌}
use Rattle.nb_base.specs.declared.settings.Settings.{Settings}
use Rattle.nb_core.proofs.Trying.{if_ok, returned_is, same_text, not_there}
use Rattle.nb_core.specs.Tried.{Returns}
use Rattle.nb_core.proofs.upkeep.returned.Goals as goal

pub returns : goal.returns
returns c k settings =
    let e = c.in-Some.entry.now in
    let error = same_text e.queue c.args.settings.now.error c.ne.result c.ne.ensures c.if-ne.false ∙ sym (ap (λ (x : Settings). x.error) settings) in
    if_ok c.return_copy.result _ (Returns k c.args.state.now c.args.number)
    (λ r is. returned_is k c.args.state.now c.args.number e r (sym c.in-Some.ensures) error (not_there e.due c.is_some.result c.is_some.ensures c.if-is_some.false) is)
    c.return_copy.ensures
