use Rattle.std.proofs.Common.{◌+◌, ◌≤◌, length, drop, true, ◌||◌, is_some, sym, ap, ◌∙◌}
use Rattle.std.specs.FinMap as map
use Rattle.nb_check.specs.Statements.{has_name}
use Rattle.nb_check.proofs.Steps.{next_of}
use Rattle.nb_check.proofs.TableLaws.{none_yet, name_step, or_false, nothing_left}
use Rattle.nb_check.proofs.tables.names_table.Goals as goal

pub loop-n-init : goal.loop-n-init
loop-n-init c = λ name. sym (ap (λ o. is_some o || has_name name c.args.names.now) (ap (λ m. map.get m name) c.new-table.ensures ∙ none_yet name))

pub loop-n-preserved : goal.loop-n-preserved
loop-n-preserved c = λ name.
    let rest = has_name name (drop (c.loop-n.n-index + 1) c.args.names.now) in
    c.loop-n.invariant name
    ∙ ap (λ ns. is_some (map.get c.loop-n.table name) || has_name name ns) (next_of c.args.names.now c.loop-n.n-index c.n-item.result c.loop-n-test.true c.n-item.is)
    ∙ name_step c.loop-n.table c.n-item.result true rest name
    ∙ ap (λ m. is_some (map.get m name) || rest) (sym (c.in_ok-insert.ensures.ok ∙ ap (λ n. map.insert c.loop-n.table n true) c.in_ok-name.ensures))

pub returns : goal.returns
returns c = λ name.
    let past : length c.args.names.now ≤ c.loop-n.n-index = c.loop-n-test.false in
    sym (c.loop-n.invariant name ∙ ap (λ ns. is_some (map.get c.loop-n.table name) || has_name name ns) (nothing_left c.args.names.now c.loop-n.n-index past) ∙ or_false (is_some (map.get c.loop-n.table name)))
