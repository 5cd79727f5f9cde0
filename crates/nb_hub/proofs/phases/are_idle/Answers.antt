use Rattle.std.proofs.Common.{sym}
use Rattle.nb_hub.proofs.Phasing.{idle_tells}
use Rattle.nb_hub.proofs.phases.are_idle.Goals as goal

pub returns : goal.returns
returns c = idle_tells c.args.phases.now c.are_busy.result (sym c.are_busy.ensures)
