use Rattle.std.proofs.Common.{◌∙◌}
use Rattle.nb_headers.proofs.Digits.{value_parsed}
use Rattle.nb_headers.proofs.reads.value.Goals as goal

pub returns : goal.returns
returns c = c.unwrap_or.ensures ∙ value_parsed c.args.text.now c.parse.result c.parse.ensures.value.0 c.requires.some c.requires.few c.requires.digits
