use Rattle.std.proofs.Common.{◌∙◌, ap}
use Rattle.nb_store.specs.Calls.{handled}
use Rattle.nb_store.proofs.CommitLaws.{new_row, applied_ok, applied_err}
use Rattle.nb_store.proofs.store.Store.commit_next.Goals as goal

pub returns-in-Ok-clause-applied : goal.returns-in-Ok-clause-applied
returns-in-Ok-clause-applied g c =
    applied_ok g.D.Cells.honest g.D.Cells.now g.D.Cells.images g.D.Cells.firm c.args.self.now.base c.commit.new.base c.args.self.now.tables _ _ c.in-Ok.field-0 _
    (c.in_ok-batch.ensures.after
    ∙ ap (handled c.args.endpoint.now c.args.self.now.tables c.args.id c.args.plan.now.writes) (new_row c.args.self.now.tables c.args.m c.commits-n.result c.args.ops.now c.in_ok-copy.field-0 c.commits-n.ensures.value c.in_ok-copy.ensures))
    c.in-Ok.ensures.applied

pub returns-in-Err-clause-applied : goal.returns-in-Err-clause-applied
returns-in-Err-clause-applied g c =
    applied_err g.D.Cells.honest g.D.Cells.now g.D.Cells.images g.D.Cells.firm c.args.self.now.base c.commit.new.base c.args.self.now.tables _ _ c.in-Err.fault
    (c.in_ok-batch.ensures.after
    ∙ ap (handled c.args.endpoint.now c.args.self.now.tables c.args.id c.args.plan.now.writes) (new_row c.args.self.now.tables c.args.m c.commits-n.result c.args.ops.now c.in_ok-copy.field-0 c.commits-n.ensures.value c.in_ok-copy.ensures))
    c.in-Err.ensures.applied
