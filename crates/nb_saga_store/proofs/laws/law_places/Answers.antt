use Rattle.nb_envelope.proofs.FormatLaws.{none_begins}
use Rattle.nb_saga_store.proofs.FormatLaws.{format_place}
use Rattle.nb_saga_store.proofs.laws.law_places.Goals as goal

pub returns-clause-both_ways : goal.returns-clause-both_ways
returns-clause-both_ways c = format_place

pub returns-clause-none_begins : goal.returns-clause-none_begins
returns-clause-none_begins c = none_begins _ _ _ format_place
