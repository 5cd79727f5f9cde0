use Rattle.nb_base.proofs.Maps.{names}
use Rattle.nb_store.proofs.BatchLaws.{there_after}
use Rattle.nb_store.proofs.room.make_row_room.Goals as goal

pub returns-in_ok-insert-clause-there : goal.returns-in_ok-insert-clause-there
returns-in_ok-insert-clause-there c = there_after names c.args.rows.now c.insert.new.self c.args.name.now _ _ c.in_ok-insert.ensures.ok c.in_ok-copy.ensures
