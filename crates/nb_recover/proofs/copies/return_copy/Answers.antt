use Rattle.nb_headers.specs.Reads.{failed_queue}
use Rattle.nb_recover.specs.Copies.{return_copy}
use Rattle.nb_recover.proofs.copies.return_copy.Goals as goal

pub returns : goal.returns
unfolding return_copy failed_queue
returns c = rw c.header.ensures.value at c.returned_by.ensures
