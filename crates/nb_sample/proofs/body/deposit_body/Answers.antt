use Rattle.std.proofs.Common.{◌≡◌, ◌∙◌, ℕ, ◌%◌, List, ◌++◌, sym, append_assoc}
use Rattle.std.proofs.lemmas.Result.{IfOk-weaker}
use Rattle.std.specs.Prelude.{codes, decimal}
use Rattle.nb_sample.proofs.body.deposit_body.Goals as goal

regrouped : (a b c d e : List ℕ) → a ++ (b ++ (c ++ (d ++ e))) ≡ (((a ++ b) ++ c) ++ d) ++ e
regrouped a b c d e = sym (append_assoc ((a ++ b) ++ c) d e ∙ append_assoc (a ++ b) c (d ++ e) ∙ append_assoc a b (c ++ (d ++ e)))

pub returns : goal.returns
returns c =
    let n = decimal (c.args.k % 10) in
    IfOk-weaker c.of_string.result _ _
    (λ t e. e ∙ c.in_ok-text.ensures.ok ∙ regrouped (codes "{\"account\":\"a") n (codes "\",\"amount\":") n (codes "}"))
    c.of_string.ensures
