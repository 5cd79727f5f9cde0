use Rattle.std.proofs.Common.{arith, subst, refl}
use Rattle.std.specs.Prelude.{Ok, Option}
use Rattle.nb_base.specs.declared.entry.Waiting.{Waiting}
use Rattle.nb_core.specs.Calls.{Called}
use Rattle.nb_core.specs.declared.call.Answer.TheVariants as answer
use Rattle.nb_core.specs.declared.call.Call.TheVariants as call
use Rattle.nb_schedule.proofs.Ending.{may_release, releases, told_due}
use Rattle.nb_schedule.proofs.Seating.{shown}
use Rattle.nb_schedule.proofs.stage.Stage.release.Goals as goal

pub release-requires : goal.release-requires
release-requires c =
    let due = c.seconds.ensures.value in
    let now = c.seconds-2.ensures.value in
    let by = c.if-seconds.false in
    let called = subst (λ (o : Option Waiting). Called call.NextDue (answer.Due (Ok o)) (shown c.self.inside.hub) (shown c.next_due.new.self)) c.in-Ok-Some.field-0-is c.in-Ok-Some.ensures.call in
    may_release _ _ _ _ _ c.self.invariant (c.if-not-is_empty.ensures refl) c.in-Ok-Some.next _ (omega (arith, due, now, by)) called

pub invariant_of-self-2 : goal.invariant_of-self-2
invariant_of-self-2 c =
    releases _ _ _ _ _ (told_due _ _ _ _ _ c.self.invariant c.next_due.result _ c.next_due.ensures.call) (c.if-not-is_empty.ensures refl) c.in-Ok-Some.next.number c.release.result _ c.release.ensures.call
