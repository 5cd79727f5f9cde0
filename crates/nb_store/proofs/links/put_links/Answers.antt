use Rattle.std.proofs.Common.{◌≡◌, ◌∷◌, ◌∙◌, sym, ap, length, arith, rules}
use Rattle.std.specs.Vec.Iter.{into_iter_items}
use Rattle.nb_store.proofs.LinkLaws.{putting_start, putting_next, putting_room, putting_end}
use Rattle.nb_store.proofs.links.put_links.Goals as goal

pub put_link-requires : goal.put_link-requires
put_link-requires c = putting_room c.args.links (into_iter_items c.loop-link.link-iterator) (into_iter_items c.next.new.self) c.args.ids.now c.loop-link.ids c.in-Some.link c.in-Some.ensures.steps.0 c.loop-link.invariant.0

pub loop-link-preserved : goal.loop-link-preserved
loop-link-preserved c =
    let steps : into_iter_items c.loop-link.link-iterator ≡ c.in-Some.link ∷ into_iter_items c.next.new.self = c.in-Some.ensures.steps.0 in (
      putting_next c.args.links (into_iter_items c.loop-link.link-iterator) (into_iter_items c.next.new.self) c.args.ids.now c.loop-link.ids c.put_link.new.ids c.in-Some.link steps c.loop-link.invariant.0 c.put_link.ensures,
      let was = c.loop-link.invariant.1 in
          let gone = c.in-Some.ensures.steps.1 in
          let short = ap length steps in
          omega arith,
    )

pub loop-link-init : goal.loop-link-init
loop-link-init c = (
  putting_start c.args.links (into_iter_items c.into_iter-link-iterator.result) c.args.ids.now (c.into_iter-link-iterator.ensures.into_iter_gives.0 ∙ c.into_vec-link-items.ensures) c.requires,
  search rules,
)

pub returns : goal.returns
returns c = putting_end c.args.links (into_iter_items c.loop-link.link-iterator) c.args.ids.now c.loop-link.ids (sym c.loop-link.invariant.1 ∙ c.in-None.ensures.steps.0) c.loop-link.invariant.0
