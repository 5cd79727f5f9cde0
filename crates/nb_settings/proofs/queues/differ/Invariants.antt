use Rattle.std.proofs.Common.{◌≡◌, length}
use Rattle.nb_base.specs.SettingsRules.{differ}
use Rattle.nb_settings.proofs.queues.differ.Given as goal

abbrev pub invariant-loop-text : goal.invariant-loop-text
invariant-loop-text l = differ l.texts ≡ differ l.rest

abbrev pub decreases-loop-text : goal.decreases-loop-text
decreases-loop-text l = length l.rest
