use Rattle.std.proofs.Common.{arith}
use Rattle.nb_store.proofs.IdLaws.{version_some}
use Rattle.nb_store.proofs.id.is_version.Goals as goal

pub returns-in-Some : goal.returns-in-Some
returns-in-Some c = version_some c.args.commits c.in-Some.n c.args.text.now c.is_from_1.result c.is_from_1.ensures c.in-Some.ensures (omega arith) (omega arith)
