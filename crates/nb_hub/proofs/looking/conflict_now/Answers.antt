use Rattle.std.proofs.Common.{◌∙◌, ap}
use Rattle.nb_base.specs.Shown.{stored, seen}
use Rattle.nb_core.proofs.Reading.{as_many}
use Rattle.nb_hub.proofs.looking.conflict_now.Goals as goal

pub conflict-requires : goal.conflict-requires
conflict-requires g c =
    let t = stored c.args.store.now.tables in
    as_many t c.args.reads.now c.in_ok-now.now (c.in_ok-now.ensures ∙ ap (seen t) c.in_ok-keys.ensures)
