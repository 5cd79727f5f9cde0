use Rattle.nb_envelope.proofs.FormatLaws.{none_begins}
use Rattle.nb_envelope.proofs.ValueLaws.{format_value}
use Rattle.nb_envelope.proofs.laws.law_values.Goals as goal

pub returns-clause-both_ways : goal.returns-clause-both_ways
returns-clause-both_ways c = format_value

pub returns-clause-none_begins : goal.returns-clause-none_begins
returns-clause-none_begins c = none_begins _ _ _ format_value
