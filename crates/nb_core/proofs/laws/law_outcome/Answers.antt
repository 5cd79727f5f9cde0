use Rattle.nb_core.proofs.laws.law_outcome.Goals as goal

pub returns : goal.returns
returns k c h s means legal = record {
  serial = k.law_serial.ensures c h s means legal;
  once = k.law_once.ensures c h s legal;
  placed = k.law_placed.ensures c h s legal;
  earned = k.law_earned.ensures c h s legal;
  sent = k.law_sent.ensures c h s legal;
  pending = k.law_pending.ensures c h s legal;
  ids = k.law_ids.ensures c h s means legal;
}
