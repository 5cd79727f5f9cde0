use Rattle.nb_store.proofs.KeptLaws.{kept_without}
use Rattle.nb_store.proofs.kept.Kept.remove_record.Goals as goal

pub invariant_of-self : goal.invariant_of-self
invariant_of-self c = rw c.remove.ensures (kept_without c.self.inside.tables c.self.inside.ids c.args.id.now c.self.invariant)
