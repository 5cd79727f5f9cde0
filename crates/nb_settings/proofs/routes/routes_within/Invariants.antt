use Rattle.nb_settings.specs.Faults.{route_faults}
use Rattle.nb_settings.specs.Values.{routes_of}
use Rattle.nb_settings.proofs.Tables.{Goes}
use Rattle.nb_settings.proofs.routes.routes_within.Given as goal

abbrev pub invariant-loop-name : goal.invariant-loop-name
invariant-loop-name l = Goes route_faults routes_of l.table.entries l.routes l.name-iterator
