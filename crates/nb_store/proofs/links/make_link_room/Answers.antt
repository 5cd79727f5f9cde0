use Rattle.nb_store.proofs.BatchLaws.{among_at}
use Rattle.nb_store.proofs.LinkLaws.{linking_start, linking_next, wider_ids_next}
use Rattle.nb_store.proofs.links.make_link_room.Goals as goal

pub loop-i-init : goal.loop-i-init
loop-i-init c = linking_start c.args.links.now c.args.ids.now

pub loop-i-preserved : goal.loop-i-preserved
loop-i-preserved c = linking_next c.args.links.now c.loop-i.i c.args.ids.now c.loop-i.ids c.make_one_link_room.new.ids c.at.result.now c.at.ensures c.loop-i.invariant c.make_one_link_room.ensures.room c.in_ok-make_one_link_room.ensures.there

pub returns-in_err-make_one_link_room-clause-wider : goal.returns-in_err-make_one_link_room-clause-wider
returns-in_err-make_one_link_room-clause-wider c =
    wider_ids_next c.args.links.now c.args.ids.now c.loop-i.ids c.make_one_link_room.new.ids c.at.result.now (among_at c.args.links.now c.loop-i.i c.at.result.now c.at.ensures) c.loop-i.invariant.wider c.make_one_link_room.ensures.room
