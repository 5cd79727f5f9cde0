use Rattle.std.proofs.Common.{◌∙◌, sym, arith, true≢false}
use Rattle.nb_store.proofs.IdLaws.{id_some, id_plain, id_one_slash}
use Rattle.nb_store.proofs.id.is_saga_id.Goals as goal

pub returns-in_default : goal.returns-in_default
returns-in_default c = id_plain c.args.commits c.args.id.now c.in_default.ensures

pub returns-in_default-split_last : goal.returns-in_default-split_last
returns-in_default-split_last c = id_one_slash c.args.commits c.args.id.now c.in-Some.front.now c.in-Some.index.now c.in-Some.ensures.0 c.in-Some.ensures.1 c.in_default-split_last.ensures

pub returns-then-is_index : goal.returns-then-is_index
returns-then-is_index c =
    id_some c.args.commits c.args.id.now c.in-Some.front.now c.in-Some.index.now c.in-Some-split_last.field-0-0.now c.in-Some-split_last.number.now c.is_version.result c.in-Some.ensures.0 c.in-Some.ensures.1
    c.in-Some-split_last.ensures.0 c.in-Some-split_last.ensures.1 (omega arith) (λ e. c.is_version.ensures) (λ e. absurd (true≢false (sym (sym c.is_index.ensures ∙ c.if-is_index.true) ∙ e)))

pub returns-else-is_index : goal.returns-else-is_index
returns-else-is_index c =
    id_some c.args.commits c.args.id.now c.in-Some.front.now c.in-Some.index.now c.in-Some-split_last.field-0-0.now c.in-Some-split_last.number.now c.is_index.result c.in-Some.ensures.0 c.in-Some.ensures.1
    c.in-Some-split_last.ensures.0 c.in-Some-split_last.ensures.1 (omega arith) (λ e. absurd (true≢false (sym e ∙ sym c.is_index.ensures ∙ c.if-is_index.false))) (λ e. c.if-is_index.false)
