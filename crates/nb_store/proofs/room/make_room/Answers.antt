use Rattle.std.proofs.Common.{◌∙◌}
use Rattle.nb_base.specs.Shown.{stored}
use Rattle.nb_store.proofs.BatchLaws.{making_start, making_next, wider_next, among_at}
use Rattle.nb_store.proofs.room.make_room.Goals as goal

pub loop-i-init : goal.loop-i-init
loop-i-init c = making_start c.args.writes.now c.args.tables.now

pub loop-i-preserved : goal.loop-i-preserved
loop-i-preserved c =
    making_next c.args.writes.now c.loop-i.i c.args.tables.now c.loop-i.tables c.make_one_room.new.tables c.at.result.now c.at.ensures c.loop-i.invariant c.make_one_room.ensures.room c.in_ok-make_one_room.ensures.there c.make_one_room.ensures.outbox

pub returns-in_err-make_one_room-clause-wider : goal.returns-in_err-make_one_room-clause-wider
returns-in_err-make_one_room-clause-wider c =
    wider_next c.args.writes.now (stored c.args.tables.now) (stored c.loop-i.tables) (stored c.make_one_room.new.tables) c.at.result.now (among_at c.args.writes.now c.loop-i.i c.at.result.now c.at.ensures) c.loop-i.invariant.wider
    c.make_one_room.ensures.room

pub returns-in_err-make_one_room-clause-outbox : goal.returns-in_err-make_one_room-clause-outbox
returns-in_err-make_one_room-clause-outbox c = c.make_one_room.ensures.outbox ∙ c.loop-i.invariant.outbox
