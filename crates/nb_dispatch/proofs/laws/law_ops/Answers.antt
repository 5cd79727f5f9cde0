use Rattle.nb_dispatch.proofs.BatchLaws.{are_sound, are_few}
use Rattle.nb_dispatch.proofs.laws.law_ops.Goals as goal

pub returns-clause-sound : goal.returns-clause-sound
returns-clause-sound c = are_sound

pub returns-clause-few : goal.returns-clause-few
returns-clause-few c = are_few
