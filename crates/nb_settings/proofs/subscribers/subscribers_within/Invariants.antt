use Rattle.nb_settings.specs.Faults.{subscriber_faults}
use Rattle.nb_settings.specs.Values.{subscribers_of}
use Rattle.nb_settings.proofs.Tables.{Goes}
use Rattle.nb_settings.proofs.subscribers.subscribers_within.Given as goal

abbrev pub invariant-loop-name : goal.invariant-loop-name
invariant-loop-name l = Goes subscriber_faults subscribers_of l.table.entries l.subscribers l.name-iterator
