use denote.Param.Send.{sendable}
use Rattle.nb_script.proofs.Crossing.{shared}
use Rattle.nb_script.proofs.sharing.share_script.Goals as goal

pub share-requires-sync-T : goal.share-requires-sync-T
share-requires-sync-T c κs = search (shared, sendable) depth 60
