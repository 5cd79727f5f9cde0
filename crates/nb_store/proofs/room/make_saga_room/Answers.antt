use Rattle.nb_base.proofs.Maps.{places}
use Rattle.nb_store.proofs.BatchLaws.{there_after}
use Rattle.nb_store.proofs.room.make_saga_room.Goals as goal

pub returns-in_ok-insert-clause-there : goal.returns-in_ok-insert-clause-there
returns-in_ok-insert-clause-there c = there_after places c.args.sagas.now c.insert.new.self c.args.place.now _ _ c.in_ok-insert.ensures.ok c.in_ok-copy.ensures
