use Rattle.nb_store.specs.Applied.{Leads}
use Rattle.nb_store.specs.Calls.{purged}
use Rattle.nb_store.proofs.ChangeLaws.{purge_leads}
use Rattle.nb_store.proofs.store.Store.purge.Goals as goal

pub returns-in-Ok-clause-applied : goal.returns-in-Ok-clause-applied
returns-in-Ok-clause-applied g c =
    let leads : Leads c.in_ok-changes.changes c.args.self.now.tables (purged c.args.self.now.tables c.args.id.now) = rw c.in_ok-changes.ensures.changes (purge_leads c.args.id.now c.args.self.now.tables) in
    c.in-Ok.ensures.applied _ _ leads

pub returns-clause-applied : goal.returns-clause-applied
returns-clause-applied g c =
    let leads : Leads c.in_ok-changes.changes c.args.self.now.tables (purged c.args.self.now.tables c.args.id.now) = rw c.in_ok-changes.ensures.changes (purge_leads c.args.id.now c.args.self.now.tables) in
    c.in-Err.ensures.applied _ _ leads
