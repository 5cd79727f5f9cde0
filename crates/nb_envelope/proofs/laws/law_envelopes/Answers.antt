use Rattle.nb_envelope.proofs.FormatLaws.{none_begins}
use Rattle.nb_envelope.proofs.EnvelopeLaws.{format_envelope}
use Rattle.nb_envelope.proofs.laws.law_envelopes.Goals as goal

pub returns-clause-both_ways : goal.returns-clause-both_ways
returns-clause-both_ways c = format_envelope

pub returns-clause-none_begins : goal.returns-clause-none_begins
returns-clause-none_begins c = none_begins _ _ _ format_envelope
