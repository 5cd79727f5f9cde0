use Rattle.std.proofs.Common.{◌≡◌, ◌+◌, ◌∷◌, ◌++◌, List, drop, ap, ◌∙◌}
use Rattle.nb_script.specs.declared.item.Item.{Item}
use Rattle.nb_script.specs.Tree.{script, item}
use Rattle.nb_check.specs.Blocks.{blocks, item_blocks}
use Rattle.nb_check.specs.Sends.{blocks_sends}
use Rattle.nb_check.proofs.SendLaws.{sends_step}
use Rattle.nb_check.proofs.Steps.{next_of}
use Rattle.nb_check.proofs.sends.sends.Goals as goal

pub loop-i-preserved : goal.loop-i-preserved
loop-i-preserved c =
    let rest = blocks (script (drop (c.loop-i.i-index + 1) c.args.items.now)) in
    let here = item_blocks (item c.i-item.result) in
    let next : drop c.loop-i.i-index c.args.items.now ≡ c.i-item.result ∷ drop (c.loop-i.i-index + 1) c.args.items.now = next_of c.args.items.now c.loop-i.i-index c.i-item.result c.loop-i-test.true c.i-item.is in
    let so_far : blocks_sends (blocks (script c.args.items.now)) ≡ c.loop-i.names ++ blocks_sends (here ++ rest) =
    c.loop-i.invariant ∙ ap (λ (is : List Item). c.loop-i.names ++ blocks_sends (blocks (script is))) next in
    sends_step _ c.loop-i.names c.add_item.new.names here rest so_far c.in_ok-add_item.ensures
