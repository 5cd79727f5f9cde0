use Rattle.std.proofs.Common.{◌∙◌, ap, length}
use Rattle.std.proofs.lemmas.Result.{IfOk-weaker}
use Rattle.uuid.specs.Text.{hyphenated_text, lower}
use Rattle.uuid.proofs.TextLemmas.{by_index_length}
use Rattle.nb_sample.specs.Ids.{uuid_of}
use Rattle.nb_sample.proofs.id.sample_id.Goals as goal

pub returns-clause-value : goal.returns-clause-value
returns-clause-value c =
    let id = c.hyphenated.ensures ∙ c.new_v5-id.ensures.value ∙ ap uuid_of (c.as_bytes.ensures.value ∙ c.in_ok-name.ensures.ok) in
    IfOk-weaker c.new.result _ _ (λ t e. e ∙ c.encode_lower.ensures.text ∙ ap (hyphenated_text lower) id) c.new.ensures

pub returns-clause-long : goal.returns-clause-long
returns-clause-long c = IfOk-weaker c.new.result _ _ (λ t e. ap length (e ∙ c.encode_lower.ensures.text) ∙ by_index_length 36 _) c.new.ensures
