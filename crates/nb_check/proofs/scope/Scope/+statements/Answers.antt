use Rattle.std.proofs.Common.{◌≡◌, ◌≤◌, length, take, sym, ap, ◌∙◌}
use Rattle.nb_check.specs.Statements.{all_after}
use Rattle.nb_script.specs.Tree.{listed}
use Rattle.nb_check.proofs.SightLaws.{cut_back, nothing_left}
use Rattle.nb_check.proofs.scope.Scope.+statements.Goals as goal

pub follow_block-returns-clause-after : goal.follow_block-returns-clause-after
follow_block-returns-clause-after t c =
    let past : length c.args.b.now.body ≤ c.loop-d.d-index = rw c.as_slice-d-items.ensures at c.loop-d-test.false in
    let e : c.loop-d.self ≡ all_after (listed c.args.b.now.body) c.args.self.now =
    sym (c.loop-d.invariant.after ∙ nothing_left c.args.b.now.body c.loop-d.d-index c.loop-d.self past) in
    c.cut.ensures ∙ ap (λ n. record c.loop-d.self { names = take n c.loop-d.self.names }) c.count-count.ensures ∙ cut_back (listed c.args.b.now.body) c.args.self.now c.loop-d.self e
