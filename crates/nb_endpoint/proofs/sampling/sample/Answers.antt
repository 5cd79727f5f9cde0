use Rattle.nb_endpoint.proofs.Sampled.{sample_is}
use Rattle.nb_endpoint.proofs.sampling.sample.Goals as goal

pub returns-in-Ok : goal.returns-in-Ok
returns-in-Ok g c = sample_is c.args.seed c.args.count c.in-Ok.text c.write.result _ _ _ _ c.in-Ok.ensures c.write.ensures
