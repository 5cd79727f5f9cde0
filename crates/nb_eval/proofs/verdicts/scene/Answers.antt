use Rattle.std.proofs.Common.{refl}
use Rattle.nb_eval.proofs.verdicts.scene.Goals as goal

pub returns : goal.returns
returns c = rw (c.in_ok-id.ensures, c.message_id.ensures.value, c.in_ok-saga_id.ensures, c.in_ok-reply_to.ensures, c.round.ensures, c.sent.ensures) refl
