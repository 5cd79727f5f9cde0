use Rattle.std.proofs.Common.{drop}
use Rattle.nb_settings.proofs.Arrays.{Left}
use Rattle.nb_settings.proofs.subscribers.texts_in.Given as goal

abbrev pub invariant-loop-item : goal.invariant-loop-item
invariant-loop-item l = Left l.items l.texts (drop l.item-index l.items)
