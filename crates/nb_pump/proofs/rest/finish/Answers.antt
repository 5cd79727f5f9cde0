use Rattle.nb_pump.proofs.Following.{finish_is}
use Rattle.nb_pump.proofs.rest.finish.Goals as goal

pub returns-clause-follows : goal.returns-clause-follows
returns-clause-follows g c = finish_is c.args.w c.remove.result _ _ c.remove.ensures.call
