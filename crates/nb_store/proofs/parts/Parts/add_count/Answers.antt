use Rattle.std.proofs.Common.{arith}
use Rattle.nb_store.proofs.OpenLaws.{added_count}
use Rattle.nb_store.proofs.parts.Parts.add_count.Goals as goal

pub returns : goal.returns
returns c = added_count c.args.self.now c.args.n c.requires (record { new = c.if-self-ne0.false; from = omega arith; to = omega arith })
