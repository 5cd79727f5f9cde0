use Rattle.std.proofs.Common.{◌∙◌, sym}
use Rattle.nb_store.proofs.SeenLaws.{with_id-place, with_id-other, with_id-absent, same_from, other_from}
use Rattle.nb_store.proofs.kept.Kept.saga_with.Goals as goal

pub returns-in_default : goal.returns-in_default
returns-in_default c = rw (← c.self.view_is) (sym (with_id-absent c.args.saga.now c.args.id.now c.self.inside.tables.sagas c.self.inside.ids c.self.invariant.index (sym c.in_default.ensures)))

pub returns-then-ne : goal.returns-then-ne
returns-then-ne c =
    rw (← c.self.view_is)
    (sym (with_id-other c.args.saga.now c.args.id.now c.self.inside.tables.sagas c.self.inside.ids c.in-Some.place.now c.self.invariant.index (sym c.in-Some.ensures) (other_from _ _ (c.if-ne.ensures {u = tt}))))

pub returns : goal.returns
returns c =
    rw (← c.self.view_is)
    (c.get-2.ensures
    ∙ sym (with_id-place c.args.saga.now c.args.id.now c.self.inside.tables.sagas c.self.inside.ids c.in-Some.place.now c.self.invariant.index (sym c.in-Some.ensures) (same_from _ _ _ c.ne.ensures c.if-ne.false)))
