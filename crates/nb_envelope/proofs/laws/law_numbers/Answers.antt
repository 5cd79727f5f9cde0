use Rattle.nb_envelope.proofs.FormatLaws.{format_u32, format_u64, format_int}
use Rattle.nb_envelope.proofs.laws.law_numbers.Goals as goal

pub returns-clause-short : goal.returns-clause-short
returns-clause-short c = format_u32

pub returns-clause-long : goal.returns-clause-long
returns-clause-long c = format_u64

pub returns-clause-signed : goal.returns-clause-signed
returns-clause-signed c = format_int
