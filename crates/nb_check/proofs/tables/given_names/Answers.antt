use Rattle.std.proofs.Common.{◌+◌, ◌≤◌, length, drop, map as map_list, ◌||◌, is_some, sym, ap, ◌∙◌}
use Rattle.std.specs.FinMap as map
use Rattle.nb_script.specs.Tree.{arg}
use Rattle.nb_check.specs.Statements.{is_given}
use Rattle.nb_check.proofs.Steps.{next_of}
use Rattle.nb_check.proofs.TableLaws.{none_yet, name_step, or_false, nothing_left}
use Rattle.nb_check.proofs.tables.given_names.Goals as goal

pub loop-a-init : goal.loop-a-init
loop-a-init c = λ name. sym (ap (λ o. is_some o || is_given name (map_list arg c.args.args.now)) (ap (λ m. map.get m name) c.new-given.ensures ∙ none_yet name))

pub loop-a-preserved : goal.loop-a-preserved
loop-a-preserved c = λ name.
    let rest = is_given name (map_list arg (drop (c.loop-a.a-index + 1) c.args.args.now)) in
    c.loop-a.invariant name
    ∙ ap (λ xs. is_some (map.get c.loop-a.given name) || is_given name (map_list arg xs)) (next_of c.args.args.now c.loop-a.a-index c.a-item.result c.loop-a-test.true c.a-item.is)
    ∙ name_step c.loop-a.given c.a-item.result.name c.a-item.result.at rest name
    ∙ ap (λ m. is_some (map.get m name) || rest) (sym (c.in_ok-insert.ensures.ok ∙ ap (λ n. map.insert c.loop-a.given n c.a-item.result.at) c.in_ok-name.ensures))

pub returns : goal.returns
returns c = λ name.
    let past : length c.args.args.now ≤ c.loop-a.a-index = c.loop-a-test.false in
    sym (c.loop-a.invariant name ∙ ap (λ xs. is_some (map.get c.loop-a.given name) || is_given name (map_list arg xs)) (nothing_left c.args.args.now c.loop-a.a-index past) ∙ or_false (is_some (map.get c.loop-a.given name)))
