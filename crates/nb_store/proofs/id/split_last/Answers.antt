use Rattle.nb_store.proofs.IdLaws.{split_parts}
use Rattle.nb_store.proofs.id.split_last.Goals as goal

pub returns : goal.returns
returns c = split_parts c.args.text.now c.rsplit_once.result c.rsplit_once.ensures.cases
