use Rattle.std.proofs.Common.{sym}
use Rattle.nb_core.proofs.Settles.{look_made}
use Rattle.nb_core.proofs.settling.look.Goals as goal

pub returns : goal.returns
returns g c k meaning =
    look_made k c.args.state.now c.args.w c.in-Some.number c.in-Some-get.entry.now c.in_ok-phase.phase c.set_phase.new.state
    c.in-Some.ensures (sym c.in-Some-get.ensures) (c.in_ok-phase.ensures k meaning) c.in_ok-set_phase.ensures
