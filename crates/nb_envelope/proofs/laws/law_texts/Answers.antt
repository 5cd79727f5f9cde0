use Rattle.nb_envelope.proofs.FormatLaws.{format_text, none_begins}
use Rattle.nb_envelope.proofs.laws.law_texts.Goals as goal

pub returns-clause-both_ways : goal.returns-clause-both_ways
returns-clause-both_ways c = format_text

pub returns-clause-none_begins : goal.returns-clause-none_begins
returns-clause-none_begins c = none_begins _ _ _ format_text
