use Rattle.std.proofs.Common.{◌≡◌}
use Rattle.toml.specs.View.{members_view}
use Rattle.nb_settings.specs.Unknown.{least_with, others_in}
use Rattle.nb_settings.proofs.unknown.least_within.Given as goal

abbrev pub invariant-loop-key : goal.invariant-loop-key
invariant-loop-key l = least_with l.best (others_in l.group (members_view l.key-iterator)) ≡ least_with l.fn.best (others_in l.group (members_view l.table.entries))
