use Rattle.std.proofs.Common.{◌≡◌, ◌∷◌, ◌∙◌, [], List, refl, sym, ap, length, arith, rules}
use Rattle.std.specs.Vec.Iter.{into_iter_items}
use Rattle.serde_json.specs.Data.{object, no_members}
use Rattle.serde_json.specs.View.{members_view}
use Rattle.serde_json.proofs.Views.{view-Object}
use Rattle.nb_base.specs.declared.value.Field.{Field}
use Rattle.nb_eval.specs.Making.{with_members}
use Rattle.nb_eval.proofs.make.object_of.Goals as goal

none-left : (fs : List Field) → length fs ≡ 0 → fs ≡ []
none-left [] h = refl
none-left (f ∷ fs) h = absurd (omega (arith, h))

pub loop-f-init : goal.loop-f-init
loop-f-init c = (ap (with_members no_members) (sym (c.into_iter-f-iterator.ensures.into_iter_gives.0 ∙ c.into_vec-f-items.ensures)) ∙ rw c.new-members.ensures.empty refl, search rules)

pub loop-f-preserved : goal.loop-f-preserved
loop-f-preserved c =
    let steps : into_iter_items c.loop-f.f-iterator ≡ c.in-Some.f ∷ into_iter_items c.next.new.self = c.in-Some.ensures.steps.0 in (
      c.loop-f.invariant.0 ∙ ap (with_members (members_view c.loop-f.members.entries)) steps ∙ ap (λ ms. with_members ms (into_iter_items c.next.new.self)) (sym c.in_ok-add_member.ensures),
      let was = c.loop-f.invariant.1 in
          let gone = c.in-Some.ensures.steps.1 in
          let short = ap length steps in
          omega arith,
    )

pub returns : goal.returns
returns c = view-Object c.loop-f.members ∙ sym (ap object (c.loop-f.invariant.0 ∙ ap (with_members (members_view c.loop-f.members.entries)) (none-left (into_iter_items c.loop-f.f-iterator) (sym c.loop-f.invariant.1 ∙ c.in-None.ensures.steps.0))))
