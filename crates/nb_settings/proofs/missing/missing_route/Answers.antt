use Rattle.std.proofs.Common.{◌∙◌, sym}
use Rattle.nb_check.specs.Checks.{declared_names}
use Rattle.nb_check.specs.Sends.{sends}
use Rattle.nb_script.specs.Tree.{script}
use Rattle.nb_settings.proofs.Numbered.{none_missing}
use Rattle.nb_settings.proofs.Unrouted.{all_routed, missing_some}
use Rattle.nb_settings.proofs.missing.missing_route.Goals as goal

pub returns-in-None-clause-all_routed : goal.returns-in-None-clause-all_routed
returns-in-None-clause-all_routed c none = all_routed c.args.settings.now.routes (sends (script c.args.checked.now)) (sym (rw c.sends.ensures.value at c.in-None.ensures))

pub returns-in-Some-clause-all_routed : goal.returns-in-Some-clause-all_routed
returns-in-Some-clause-all_routed c none =
    none_missing c.args.settings.now.routes (sends (script c.args.checked.now)) (declared_names (script c.args.checked.now)) c.sends.ensures.declared
    (sym (missing_some c.args.settings.now.routes (sends (script c.args.checked.now)) (declared_names (script c.args.checked.now)) c.in-Some.name.now (rw c.sends.ensures.value at c.in-Some.ensures))
    ∙ sym (rw c.names.ensures at c.number_of.ensures) ∙ none)

pub returns-in-Some-clause-number : goal.returns-in-Some-clause-number
returns-in-Some-clause-number c =
    c.number_of.ensures
    ∙ rw c.names.ensures (missing_some c.args.settings.now.routes (sends (script c.args.checked.now)) (declared_names (script c.args.checked.now)) c.in-Some.name.now (rw c.sends.ensures.value at c.in-Some.ensures))
