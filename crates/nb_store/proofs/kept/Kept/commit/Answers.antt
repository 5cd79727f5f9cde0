use Rattle.std.proofs.Common.{◌≡◌, ◌∙◌, ap, sym, subst}
use Rattle.std.specs.FinMap as map
use Rattle.nb_base.specs.declared.tables.Tables.{Tables}
use Rattle.nb_store.specs.Batches.{IsBatch, AreSwept, after_batch, linked}
use Rattle.nb_store.specs.Kept.{IsKept}
use Rattle.std.proofs.Common.{fold}
use Rattle.nb_store.proofs.CommitLaws.{done_tables, kept_after, undone_tables, undone_ids}
use Rattle.nb_store.proofs.kept.Kept.commit.Goals as goal

pub returns-in-Ok-clause-tables : goal.returns-in-Ok-clause-tables
returns-in-Ok-clause-tables g c =
    done_tables c.self.inside.tables c.attempt.new.tables c.fulfil.new.tables c.args.batch c.args.row c.attempt.ensures.wider (c.in-Ok.ensures.there ∙ ap (λ k. map.insert c.self.inside.tables.outbox k c.args.row) c.in_ok-id.ensures)
    c.fulfil.ensures.written c.fulfil.ensures.outbox
    ∙ ap (λ t. after_batch t c.args.batch c.args.row) c.self.view_is

pub invariant_of-self : goal.invariant_of-self
invariant_of-self g c =
    let done : c.fulfil.new.tables ≡ after_batch c.self.inside.tables c.args.batch c.args.row =
    done_tables c.self.inside.tables c.attempt.new.tables c.fulfil.new.tables c.args.batch c.args.row c.attempt.ensures.wider (c.in-Ok.ensures.there ∙ ap (λ k. map.insert c.self.inside.tables.outbox k c.args.row) c.in_ok-id.ensures)
    c.fulfil.ensures.written c.fulfil.ensures.outbox in
    subst (λ t. IsKept t c.fulfil.new.ids) (sym done)
    (kept_after c.self.inside.tables c.args.batch c.args.row c.self.inside.ids c.attempt.new.ids c.fulfil.new.ids c.self.invariant (subst (λ t. IsBatch t c.args.batch c.args.row) (sym c.self.view_is) c.requires) c.attempt.ensures.ids
    (subst (λ (t : Tables). AreSwept t.sagas c.args.batch.names (fold linked c.attempt.new.ids c.args.batch.links) c.fulfil.new.ids) done c.fulfil.ensures.ids))

pub invariant_of-self-in-Err-1 : goal.invariant_of-self-in-Err-1
invariant_of-self-in-Err-1 g c =
    let batch : IsBatch c.self.inside.tables c.args.batch c.args.row = subst (λ t. IsBatch t c.args.batch c.args.row) (sym c.self.view_is) c.requires in
    let tables : c.undo.new.tables ≡ c.self.inside.tables =
    undone_tables c.self.inside.tables c.attempt.new.tables c.undo.new.tables c.args.batch c.args.row c.in_ok-id.id c.self.inside.ids c.self.invariant batch c.in_ok-id.ensures c.attempt.ensures.wider c.attempt.ensures.outbox
    c.undo.ensures.before c.undo.ensures.outbox in
    let ids : c.undo.new.ids ≡ c.self.inside.ids =
    undone_ids c.self.inside.tables c.args.batch c.args.row c.self.inside.ids c.attempt.new.ids c.undo.new.ids c.self.invariant batch c.attempt.ensures.ids
    (subst (λ (t : Tables). AreSwept t.sagas c.args.batch.names c.attempt.new.ids c.undo.new.ids) tables c.undo.ensures.ids) in
    subst (λ t. IsKept t c.undo.new.ids) (sym tables) (subst (IsKept c.self.inside.tables) (sym ids) c.self.invariant)

pub returns-in-Ok-clause-applied : goal.returns-in-Ok-clause-applied
returns-in-Ok-clause-applied g c = c.in-Ok.ensures.applied c.args.self.now (after_batch c.args.self.now c.args.batch c.args.row) c.requires.leads

pub returns-in-Err-clause-tables : goal.returns-in-Err-clause-tables
returns-in-Err-clause-tables g c =
    undone_tables c.self.inside.tables c.attempt.new.tables c.undo.new.tables c.args.batch c.args.row c.in_ok-id.id c.self.inside.ids c.self.invariant (subst (λ t. IsBatch t c.args.batch c.args.row) (sym c.self.view_is) c.requires)
    c.in_ok-id.ensures c.attempt.ensures.wider c.attempt.ensures.outbox c.undo.ensures.before c.undo.ensures.outbox
    ∙ c.self.view_is
