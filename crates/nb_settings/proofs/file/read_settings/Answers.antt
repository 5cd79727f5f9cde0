use Rattle.std.proofs.Common.{sym}
use Rattle.nb_check.specs.Sends.{sends}
use Rattle.nb_script.specs.Tree.{script}
use Rattle.nb_settings.proofs.Unrouted.{all_routed, fault_for, no_fault_for}
use Rattle.nb_settings.proofs.file.read_settings.Goals as goal

pub returns-in-Some-clause-reads : goal.returns-in-Some-clause-reads
returns-in-Some-clause-reads c =
    fault_for c.fault_under.result c.args.bytes.now c.in_ok-settings.settings.routes (sends (script c.args.checked.now)) c.in-Some.name.now
    c.in_ok-settings.ensures.0 c.in_ok-settings.ensures.1.routes (rw c.sends.ensures.value at c.in-Some.ensures) (rw c.as_str.ensures.value at c.fault_under.ensures)

pub returns-in-None-clause-reads : goal.returns-in-None-clause-reads
returns-in-None-clause-reads c =
    (no_fault_for c.args.bytes.now c.in_ok-settings.settings.routes (sends (script c.args.checked.now)) c.in_ok-settings.ensures.0 c.in_ok-settings.ensures.1.routes (rw c.sends.ensures.value at c.in-None.ensures), c.in_ok-settings.ensures.1)

pub returns-in-None-clause-routed : goal.returns-in-None-clause-routed
returns-in-None-clause-routed c = all_routed c.in_ok-settings.settings.routes (sends (script c.args.checked.now)) (sym (rw c.sends.ensures.value at c.in-None.ensures))
