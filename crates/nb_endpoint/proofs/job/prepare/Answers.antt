use Rattle.std.proofs.Common.{ℕ, List, refl, subst}
use Rattle.nb_endpoint.specs.Configured.{AreSettings}
use Rattle.nb_endpoint.specs.Scripts.{IsScript}
use Rattle.nb_script.specs.Tree.{script}
use Rattle.nb_endpoint.proofs.Gathering.{lines_refused, lines_loaded, script_refused, settings_refused}
use Rattle.nb_endpoint.proofs.job.prepare.Goals as goal

pub returns-in-Err-messages_for-clause-prepares : goal.returns-in-Err-messages_for-clause-prepares
returns-in-Err-messages_for-clause-prepares g c =
    lines_refused c.args.said.command _ c.in-Ok.bodies c.in-Ok.ensures.read (script c.in-Ok-checked_of.checked) c.in-Ok-settings_of.settings (
      subst (λ (b : List ℕ). IsScript b (script c.in-Ok-checked_of.checked)) c.as_slice.ensures.value c.in-Ok-checked_of.ensures,
      subst (λ (b : List ℕ). AreSettings b (script c.in-Ok-checked_of.checked) c.in-Ok-settings_of.settings) c.as_slice-2.ensures.value c.in-Ok-settings_of.ensures,
    ) c.in-Err-messages_for.status c.in-Err-messages_for.ensures

pub returns-clause-prepares : goal.returns-clause-prepares
returns-clause-prepares g c = (
  refl,
  c.moment_of.ensures,
  (c.in-Ok.bodies.script, c.in-Ok.ensures.read.script, subst (λ (b : List ℕ). IsScript b (script c.in-Ok-checked_of.checked)) c.as_slice.ensures.value c.in-Ok-checked_of.ensures),
  (c.in-Ok.bodies.settings, c.in-Ok.ensures.read.settings, subst (λ (b : List ℕ). AreSettings b (script c.in-Ok-checked_of.checked) c.in-Ok-settings_of.settings) c.as_slice-2.ensures.value c.in-Ok-settings_of.ensures),
  lines_loaded c.args.said.command _ c.in-Ok.bodies.lines c.in-Ok-messages_for.messages c.in-Ok.ensures.read.lines c.in-Ok-messages_for.ensures,
)
