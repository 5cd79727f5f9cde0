use Rattle.std.proofs.Common.{sym, subst, arith}
use Rattle.nb_cells.specs.Cells.{AreDistinct}
use Rattle.nb_queue.proofs.PostLaws.{distinct_removal, leads_removal}
use Rattle.nb_queue.proofs.post.Post.remove.Goals as goal

pub apply-requires-clause-distinct : goal.apply-requires-clause-distinct
apply-requires-clause-distinct g c = subst AreDistinct (sym c.in_ok-changes.ensures) (distinct_removal c.args.number)

pub returns-in-Ok-clause-applied : goal.returns-in-Ok-clause-applied
returns-in-Ok-clause-applied g c = c.in-Ok.ensures.applied _ _ (leads_removal c.args.self.now.queues c.args.number c.in_ok-changes.changes (omega arith) c.in_ok-changes.ensures)

pub returns-clause-applied : goal.returns-clause-applied
returns-clause-applied g c = c.in-Err.ensures.applied _ _ (leads_removal c.args.self.now.queues c.args.number c.in_ok-changes.changes (omega arith) c.in_ok-changes.ensures)
