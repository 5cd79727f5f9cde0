use Rattle.nb_core.proofs.Sampling.{no_name, nothing_sound}
use Rattle.nb_core_trials.proofs.replay_tests.replayed.Goals as goal

pub replay-requires-clause-routes : goal.replay-requires-clause-routes
replay-requires-clause-routes c name among = absurd (no_name name among)

pub replay-requires-clause-sound : goal.replay-requires-clause-sound
replay-requires-clause-sound c = nothing_sound _ _ c.nothing-opening.ensures
