use Rattle.std.proofs.Common.{sym, subst, arith}
use Rattle.nb_cells.specs.Cells.{AreDistinct}
use Rattle.nb_queue.proofs.PostLaws.{distinct_entry, leads_release, named_release}
use Rattle.nb_queue.proofs.post.Post.release.Goals as goal

pub entry_changes-requires : goal.entry_changes-requires
entry_changes-requires g c = let r = c.in_ok-entry.ensures.copy in named_release c.args.self.now.queues c.args.number r.0 c.in_ok-entry.entry c.copy_released.ensures.post r.1 r.2

pub apply-requires-clause-distinct : goal.apply-requires-clause-distinct
apply-requires-clause-distinct g c = subst AreDistinct (sym c.in_ok-changes.ensures.changes) (distinct_entry c.args.number c.in_ok-entry.entry)

pub returns-in-Ok-clause-applied : goal.returns-in-Ok-clause-applied
returns-in-Ok-clause-applied g c =
    let r = c.in_ok-entry.ensures.copy in
    c.in-Ok.ensures.applied _ _ (leads_release c.args.self.now.queues c.args.number r.0 c.in_ok-entry.entry c.in_ok-changes.changes (omega arith) r.1 r.2 c.in_ok-changes.ensures.changes)

pub returns-in-Err-clause-applied : goal.returns-in-Err-clause-applied
returns-in-Err-clause-applied g c =
    let r = c.in_ok-entry.ensures.copy in
    c.in-Err.ensures.applied _ _ (leads_release c.args.self.now.queues c.args.number r.0 c.in_ok-entry.entry c.in_ok-changes.changes (omega arith) r.1 r.2 c.in_ok-changes.ensures.changes)
