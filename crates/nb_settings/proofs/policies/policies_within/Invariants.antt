use Rattle.nb_settings.specs.Faults.{policy_faults}
use Rattle.nb_settings.specs.Values.{policies_of}
use Rattle.nb_settings.proofs.Tables.{Goes}
use Rattle.nb_settings.proofs.policies.policies_within.Given as goal

abbrev pub invariant-loop-name : goal.invariant-loop-name
invariant-loop-name l = Goes policy_faults policies_of l.table.entries l.policies l.name-iterator
