use Rattle.std.proofs.Common.{◌∙◌, ap}
use Rattle.std.proofs.lemmas.Result.{IfOk-weaker}
use Rattle.nb_envelope.proofs.Writing.{line_text-from}
use Rattle.nb_envelope.proofs.Again.{line_again, read_value}
use Rattle.nb_envelope.proofs.write.write_line.Goals as goal

pub returns-clause-text : goal.returns-clause-text
returns-clause-text c =
    let bytes = ap (λ v. v.items) c.into_bytes.ensures.value in
    IfOk-weaker c.of_vec.result _ _ (λ t e. e ∙ bytes ∙ line_text-from _ c.args.envelope.now _ c.in_ok-value.ensures c.in_ok-text.ensures.text) c.of_vec.ensures

pub returns-clause-again : goal.returns-clause-again
returns-clause-again c =
    let bytes = ap (λ v. v.items) c.into_bytes.ensures.value in
    let utf8 = rw c.as_str-utf8.ensures.value at c.as_str-utf8.utf8 in
    let reads = read_value _ c.args.envelope.now _ c.in_ok-value.ensures c.in_ok-text.ensures.reads_back in
    IfOk-weaker c.of_vec.result _ _
    (λ t e short. let is = e ∙ bytes in line_again c.args.envelope.now t c.body-sound.ensures.sound (rw is utf8) (rw is reads) short)
    c.of_vec.ensures
