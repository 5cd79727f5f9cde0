use Rattle.std.proofs.Common.{subst, ◌∙◌}
use Rattle.sqlite_pool.proofs.StateLemmas.{clean_is, may_leave_is}
use Rattle.sqlite_store.specs.FileStore.{view}
use Rattle.sqlite_trees.proofs.Doubt.{no_doubt}
use Rattle.sqlite_trees.specs.View.{IsClean}
use Rattle.sqlite_wal.specs.Files.{outcomes}
use Rattle.sqlite_wal.specs.Reads.{AreClean}
use Rattle.nb_sql.proofs.StopLemmas.{holds_one}
use Rattle.nb_sql.proofs.files.SqlCells+FileStore+D.into_files.Goals as goal

pub returns : goal.returns
returns g c p image honest never may =
    let it = c.into_store.result in
    let sure = subst (λ p. AreClean g.D.Disk p.0 p.1) c.close.ensures honest in
    let none : IsClean (view it) = no_doubt _ (clean_is it.pool ∙ sure) in
    let was = rw c.release.ensures at c.into_store.ensures.quiet.outcomes in
    let left = may_leave_is it.pool image sure (subst (λ p. outcomes g.D.Disk p.0 p.1 image) c.close.ensures may) in
    holds_one it c.args.self.conn.store was (c.into_store.ensures.numbered none) (c.into_store.ensures.sound none) image left p never
