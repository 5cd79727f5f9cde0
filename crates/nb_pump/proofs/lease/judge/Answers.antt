use Rattle.nb_pump.proofs.Taking.{unjudged}
use Rattle.nb_pump.proofs.lease.judge.Goals as goal

pub returns-in-Err-clause-follows : goal.returns-in-Err-clause-follows
returns-in-Err-clause-follows g c = unjudged _ c.args.w _ _ _ _ c.requires.judged
