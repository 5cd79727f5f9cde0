use Rattle.nb_core.proofs.Naming.{ids}
use Rattle.nb_core.proofs.Serials.{kept_at_opening}
use Rattle.nb_core.proofs.laws.law_ids.Goals as goal

pub returns : goal.returns
returns _ c h s means legal = ids means legal.run (kept_at_opening c h.opening legal.sound)
