use Rattle.std.proofs.Common.{◌∙◌}
use Rattle.nb_words.proofs.NumberLaws.{value_parsed}
use Rattle.nb_words.proofs.numbers.value.Goals as goal

pub returns : goal.returns
returns c = c.ok.ensures.value ∙ value_parsed c.args.text.now c.parse.result c.parse.ensures.value.0 c.requires
