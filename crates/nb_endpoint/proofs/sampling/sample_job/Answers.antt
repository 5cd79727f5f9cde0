use Rattle.std.proofs.Common.{◌∙◌, List, ℕ, refl, subst}
use Rattle.nb_endpoint.specs.Configured.{AreSettings}
use Rattle.nb_endpoint.specs.Scripts.{IsScript}
use Rattle.nb_script.specs.Tree.{script}
use Rattle.nb_endpoint.proofs.sampling.sample_job.Goals as goal

pub returns : goal.returns
returns c = record {
  said_is = c.sample_words.ensures;
  moment_is = refl;
  script_is = subst (λ (b : List ℕ). IsScript b (script c.in-Ok.checked)) (c.as_bytes.ensures.value ∙ c.script.ensures) c.in-Ok.ensures;
  settings_are = subst (λ (b : List ℕ). AreSettings b (script c.in-Ok.checked) c.in-Ok-settings_of.settings) (c.as_bytes-2.ensures.value ∙ c.settings.ensures) c.in-Ok-settings_of.ensures;
  messages_are = c.in_ok-messages.ensures;
}
