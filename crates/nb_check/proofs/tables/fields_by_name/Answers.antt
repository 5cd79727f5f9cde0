use Rattle.std.proofs.Common.{◌+◌, ◌≤◌, length, drop, sym, ap, ◌∙◌}
use Rattle.std.specs.FinMap as map
use Rattle.nb_check.specs.Statements.{fields_of}
use Rattle.nb_check.specs.Tables.{with_first}
use Rattle.nb_check.proofs.Steps.{next_of}
use Rattle.nb_check.proofs.TableLaws.{or_else, or_none, of_none, none_yet, put_step, nothing_left}
use Rattle.nb_check.proofs.tables.fields_by_name.Goals as goal

pub loop-t-init : goal.loop-t-init
loop-t-init c = λ name. of_none (map.get c.new-table.result name) (fields_of name c.args.types.now) (ap (λ m. map.get m name) c.new-table.ensures ∙ none_yet name)

pub loop-t-preserved : goal.loop-t-preserved
loop-t-preserved c = λ name.
    let rest = drop (c.loop-t.t-index + 1) c.args.types.now in
    c.loop-t.invariant name
    ∙ ap (λ ts. or_else (map.get c.loop-t.table name) (fields_of name ts)) (next_of c.args.types.now c.loop-t.t-index c.t-item.result c.loop-t-test.true c.t-item.is)
    ∙ put_step c.loop-t.table c.t-item.result.name c.t-item.result.fields (fields_of name rest) name
    ∙ ap (λ fs. or_else (map.get (with_first c.loop-t.table c.t-item.result.name fs) name) (fields_of name rest)) (sym (c.in_ok-fields.ensures ∙ c.in_ok-copy.ensures))
    ∙ ap (λ m. or_else (map.get m name) (fields_of name rest)) (sym c.in_ok-put_first.ensures)

pub returns : goal.returns
returns c = λ name.
    let past : length c.args.types.now ≤ c.loop-t.t-index = c.loop-t-test.false in
    sym (c.loop-t.invariant name ∙ ap (λ ts. or_else (map.get c.loop-t.table name) (fields_of name ts)) (nothing_left c.args.types.now c.loop-t.t-index past) ∙ or_none (map.get c.loop-t.table name))
