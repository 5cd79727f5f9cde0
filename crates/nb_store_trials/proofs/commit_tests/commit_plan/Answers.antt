use Rattle.std.proofs.Common.{[], sym, subst}
use Rattle.nb_base.specs.Sound.{IsSoundTables}
use Rattle.nb_store.specs.Calls.{committed}
use Rattle.nb_store.proofs.RowLaws.{row_sound}
use Rattle.nb_store_trials.proofs.commit_tests.commit_plan.Goals as goal

pub commit-requires-clause-sound : goal.commit-requires-clause-sound
commit-requires-clause-sound c = λ room.
    let t = c.args.store.now.tables in
    let e = c.in_ok-endpoint.endpoint in
    let id = c.args.id.now in
    subst (λ i. IsSoundTables (committed e t i 0 c.args.plan.now.writes c.new-ops.result)) (sym c.requires.named)
    (subst (λ ops. IsSoundTables (committed e t id 0 c.args.plan.now.writes ops)) (sym c.new-ops.ensures)
    (subst (λ ws. IsSoundTables (committed e t id 0 ws [])) (sym c.requires.one)
    (row_sound e t id c.args.row.now 0 _ c.record.ensures.sound room c.requires.full)))
