use Rattle.std.proofs.Common.{◌≡◌, ◌∷◌, ◌∙◌, sym, ap, length, arith, rules}
use Rattle.std.specs.Vec.Iter.{into_iter_items}
use Rattle.nb_store.proofs.BatchLaws.{writing_start, writing_next, writing_room, writing_end}
use Rattle.nb_store.proofs.room.write_all.Goals as goal

pub write_one-requires : goal.write_one-requires
write_one-requires c = writing_room c.args.writes (into_iter_items c.loop-write.write-iterator) (into_iter_items c.next.new.self) c.args.tables.now c.loop-write.tables c.in-Some.write c.in-Some.ensures.steps.0 c.loop-write.invariant.0

pub loop-write-preserved : goal.loop-write-preserved
loop-write-preserved c =
    let steps : into_iter_items c.loop-write.write-iterator ≡ c.in-Some.write ∷ into_iter_items c.next.new.self = c.in-Some.ensures.steps.0 in (
      writing_next c.args.writes (into_iter_items c.loop-write.write-iterator) (into_iter_items c.next.new.self) c.args.tables.now c.loop-write.tables c.write_one.new.tables c.in-Some.write steps c.loop-write.invariant.0
          c.write_one.ensures.written c.write_one.ensures.outbox,
      let was = c.loop-write.invariant.1 in
          let gone = c.in-Some.ensures.steps.1 in
          let short = ap length steps in
          omega arith,
    )

pub returns-clause-written : goal.returns-clause-written
returns-clause-written c =
    writing_end c.args.writes (into_iter_items c.loop-write.write-iterator) c.args.tables.now c.loop-write.tables (sym c.loop-write.invariant.1 ∙ c.in-None.ensures.steps.0) c.loop-write.invariant.0

pub returns-clause-outbox : goal.returns-clause-outbox
returns-clause-outbox c = c.loop-write.invariant.0.outbox

pub loop-write-init : goal.loop-write-init
loop-write-init c = (
  writing_start c.args.writes (into_iter_items c.into_iter-write-iterator.result) c.args.tables.now (c.into_iter-write-iterator.ensures.into_iter_gives.0 ∙ c.into_vec-write-items.ensures) c.requires.room c.requires.apart,
  search rules,
)
