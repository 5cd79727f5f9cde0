use Rattle.std.proofs.Common.{sym, arith}
use Rattle.nb_core.proofs.Trying.{released_is}
use Rattle.nb_core.proofs.upkeep.released.Goals as goal

pub returns : goal.returns
returns c =
    released_is c.args.state.now c.args.number c.in-Some.entry.now c.in_ok-entry.entry c.in-Some-due.due (sym c.in-Some.ensures) c.in-Some-due.is
    (omega (arith, c.if-seconds.false, c.seconds.ensures.value, c.seconds-2.ensures.value)) c.in_ok-entry.ensures
