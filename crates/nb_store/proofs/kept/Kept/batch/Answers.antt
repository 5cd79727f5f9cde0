use Rattle.std.proofs.Common.{◌∙◌, map as map_list, ap, subst, refl}
use Rattle.std.specs.List.{AllByRecursion}
use Rattle.nb_base.specs.Shown.{stored}
use Rattle.nb_base.specs.declared.tables.Tables.{Tables}
use Rattle.nb_saga_store.specs.Maps.{AreSpelled}
use Rattle.nb_saga_store.specs.Writes.{written_of}
use Rattle.nb_saga_store.specs.Written.{IsSpelled}
use Rattle.nb_store.specs.Batches.{touched_ids}
use Rattle.nb_store.proofs.CommitLaws.{can_write, handled_named, handled_queues, handled_sent, is_batch, after_handled}
use Rattle.nb_store.proofs.kept.Kept.batch.Goals as goal

pub commit_changes-requires-clause-writes : goal.commit_changes-requires-clause-writes
commit_changes-requires-clause-writes c = can_write c.args.endpoint.now c.args.self.now c.args.id c.args.plan.now.writes c.args.row.now c.requires.apart c.requires.sound

pub commit_changes-requires-clause-named : goal.commit_changes-requires-clause-named
commit_changes-requires-clause-named c = handled_named c.args.endpoint.now c.args.self.now c.args.id c.args.plan.now.writes c.args.row.now c.requires.sound

pub commit_changes-requires-clause-queues : goal.commit_changes-requires-clause-queues
commit_changes-requires-clause-queues c = handled_queues c.args.endpoint.now c.args.self.now c.args.id c.args.plan.now.writes c.args.row.now c.requires.sound

pub commit_changes-requires-clause-sent : goal.commit_changes-requires-clause-sent
commit_changes-requires-clause-sent c = handled_sent c.args.endpoint.now c.args.self.now c.args.id c.args.plan.now.writes c.args.row.now c.requires.sound

pub returns-clause-batch : goal.returns-clause-batch
returns-clause-batch c =
    is_batch c.args.endpoint.now c.args.self.now c.args.id c.args.plan.now.writes c.args.row.now _ (subst (λ (t : Tables). AreSpelled (stored t)) c.self.view_is c.self.invariant.spelled) c.requires.unrecorded c.requires.apart c.requires.sound
    c.requires.number refl (c.in_ok-writes.ensures ∙ ap (λ k. map_list (written_of c.args.endpoint.now k) c.args.plan.now.writes) c.requires.number) c.in_ok-changes.ensures.changes
    (subst (λ k. AllByRecursion (λ w. IsSpelled (written_of c.args.endpoint.now k w)) c.args.plan.now.writes) c.requires.number c.in_ok-changes.ensures.fits) c.in_ok-changes.ensures.handled c.in_ok-links.ensures
    (c.in_ok-names.ensures ∙ ap (λ (t : Tables). touched_ids t.sagas c.in_ok-writes.writes) c.self.view_is)

pub returns-clause-after : goal.returns-clause-after
returns-clause-after c =
    after_handled c.args.endpoint.now c.args.self.now c.args.id c.args.plan.now.writes c.args.row.now
    (record { id = c.args.id; writes = c.in_ok-writes.writes; links = c.in_ok-links.links; names = c.in_ok-names.names; changes = c.in_ok-changes.changes }) refl (c.in_ok-writes.ensures ∙ ap (λ k. map_list (written_of c.args.endpoint.now k) c.args.plan.now.writes) c.requires.number)
