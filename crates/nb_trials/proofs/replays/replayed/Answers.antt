use Rattle.nb_core.proofs.Sampling.{nothing_sound}
use Rattle.nb_endpoint.proofs.Routing.{routes_of}
use Rattle.nb_script.specs.Tree.{script}
use Rattle.nb_trials.proofs.replays.replayed.Goals as goal

pub replay-requires-clause-routes : goal.replay-requires-clause-routes
replay-requires-clause-routes c = routes_of (script c.in-Ok-check.checked) c.in-Ok-read_settings.settings c.in-Ok-read_settings.ensures.routed

pub replay-requires-clause-sound : goal.replay-requires-clause-sound
replay-requires-clause-sound c = nothing_sound _ _ c.nothing-opening.ensures
