use Rattle.std.proofs.Common.{◌+◌, ◌≤◌, length, drop, sym, ap, ◌∙◌}
use Rattle.std.specs.FinMap as map
use Rattle.nb_check.specs.Kinds.{kind_in}
use Rattle.nb_check.proofs.Steps.{next_of}
use Rattle.nb_check.proofs.TableLaws.{or_else, or_none, of_none, none_yet, put_step, nothing_left}
use Rattle.nb_check.proofs.tables.kinds_of.Goals as goal

pub loop-d-init : goal.loop-d-init
loop-d-init c = λ name. of_none (map.get c.new-kinds.result name) (kind_in name c.args.declared.now) (ap (λ m. map.get m name) c.new-kinds.ensures ∙ none_yet name)

pub loop-d-preserved : goal.loop-d-preserved
loop-d-preserved c = λ name.
    let rest = drop (c.loop-d.d-index + 1) c.args.declared.now in
    c.loop-d.invariant name
    ∙ ap (λ ds. or_else (map.get c.loop-d.kinds name) (kind_in name ds)) (next_of c.args.declared.now c.loop-d.d-index c.d-item.result c.loop-d-test.true c.d-item.is)
    ∙ put_step c.loop-d.kinds c.d-item.result.name c.d-item.result.kind (kind_in name rest) name
    ∙ ap (λ m. or_else (map.get m name) (kind_in name rest)) (sym c.in_ok-put_first.ensures)

pub returns : goal.returns
returns c = λ name.
    let past : length c.args.declared.now ≤ c.loop-d.d-index = c.loop-d-test.false in
    sym (c.loop-d.invariant name ∙ ap (λ ds. or_else (map.get c.loop-d.kinds name) (kind_in name ds)) (nothing_left c.args.declared.now c.loop-d.d-index past) ∙ or_none (map.get c.loop-d.kinds name))
