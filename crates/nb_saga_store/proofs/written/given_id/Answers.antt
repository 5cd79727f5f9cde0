use Rattle.std.specs.Prelude.{◌∷◌, ◌++◌, ℕ, List}
use Rattle.std.specs.Fmt.{decimal}
use Rattle.std.proofs.Common.{◌∙◌, ap, sym, append_assoc}
use Rattle.std.proofs.lemmas.Result.{IfOk-weaker}
use Rattle.nb_saga_store.proofs.written.given_id.Goals as goal

pub returns : goal.returns
returns c =
    IfOk-weaker c.of_string.result _ _
    (λ id e. e ∙ c.in_ok-id.ensures.ok ∙ sym (append_assoc c.as_str-endpoint.result.now (47 ∷ decimal c.args.n) (47 ∷ decimal c.args.block))
    ∙ ap (λ (endpoint : List ℕ). endpoint ++ 47 ∷ decimal c.args.n ++ 47 ∷ decimal c.args.block) c.as_str-endpoint.ensures.value) c.of_string.ensures
