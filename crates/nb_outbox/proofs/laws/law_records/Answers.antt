use Rattle.nb_envelope.proofs.FormatLaws.{none_begins}
use Rattle.nb_outbox.proofs.FormatLaws.{format_record}
use Rattle.nb_outbox.proofs.laws.law_records.Goals as goal

pub returns-clause-both_ways : goal.returns-clause-both_ways
returns-clause-both_ways c = format_record

pub returns-clause-none_begins : goal.returns-clause-none_begins
returns-clause-none_begins c = none_begins _ _ _ format_record
