use Rattle.std.proofs.Common.{◌∙◌, ap}
use Rattle.std.proofs.lemmas.Result.{IfOk-weaker}
use Rattle.nb_envelope.specs.Written.{line_text}
use Rattle.nb_sample.specs.Sample.{sample_message}
use Rattle.nb_sample.proofs.line.sample_line.Goals as goal

pub returns : goal.returns
returns c =
    let is = c.in_ok-envelope.ensures ∙ ap (sample_message c.args.seed) c.message_number-number.ensures.value in
    IfOk-weaker c.write_line.result _ _ (λ b e. e ∙ ap line_text is) c.write_line.ensures.text
