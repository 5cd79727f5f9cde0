use Rattle.nb_core.proofs.Serials.{serial, kept_at_opening}
use Rattle.nb_core.proofs.laws.law_serial.Goals as goal

pub returns : goal.returns
returns _ c h s means legal = serial means legal.run (kept_at_opening c h.opening legal.sound)
