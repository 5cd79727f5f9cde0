use Rattle.std.proofs.Common.{arith, sym, ap, subst, ◌∙◌, ◌≡◌}
use Rattle.std.specs.Prelude.{Ok, Some}
use Rattle.std.specs.FinMap as map
use Rattle.nb_core.specs.Calls.{Called}
use Rattle.nb_core.specs.declared.answers.Look.{Look as LookAnswer}
use Rattle.nb_core.specs.declared.answers.Look.TheVariants.{Known}
use Rattle.nb_core.specs.declared.call.Answer.TheVariants as answer
use Rattle.nb_core.specs.declared.call.Call.TheVariants as call
use Rattle.nb_schedule.proofs.Seating.{shown}
use Rattle.nb_schedule.proofs.Turning.{lost_there, left_new, restored, looked, looked_sent, looked_unsent, look_refused}
use Rattle.nb_schedule.specs.declared.seat.Seat.TheVariants.{Held}
use Rattle.nb_schedule.proofs.stage.Stage.look.Goals as goal

pub sit-requires : goal.sit-requires
sit-requires c = rw (left_new _ _ _ _ c.in-Some.ensures.value c.in-Some.ensures.rest) (lost_there c.self.inside.seats c.args.w)

pub invariant_of-self : goal.invariant_of-self
invariant_of-self c =
    rw (c.sit.ensures, left_new _ _ _ _ c.in-Some.ensures.value c.in-Some.ensures.rest)
    (restored _ _ _ _ _ c.self.invariant c.args.w c.in-Some.other (sym c.in-Some.ensures.value))

pub sit-requires-in-Ok-Fresh : goal.sit-requires-in-Ok-Fresh
sit-requires-in-Ok-Fresh c = rw (left_new _ _ _ _ c.in-Some-Held.ensures.value c.in-Some-Held.ensures.rest) (lost_there c.self.inside.seats c.args.w)

pub invariant_of-self-in_err-copy-in-Ok-Fresh : goal.invariant_of-self-in_err-copy-in-Ok-Fresh
invariant_of-self-in_err-copy-in-Ok-Fresh c =
    let below = c.if-w-self.false in
    let there : map.get c.self.inside.seats c.args.w ≡ Some (Held c.in-Some-Held.envelope) = sym c.in-Some-Held.ensures.value ∙ ap Some c.in-Some-Held.field-0-is in
    let called = subst (λ (l : LookAnswer). Called (call.Look c.args.w) (answer.Saw (Ok l)) (shown c.self.inside.hub) (shown c.look.new.self)) c.in-Ok-Fresh.field-0-is c.in-Ok-Fresh.ensures.call in
    rw (c.sit-in-Ok-Fresh.ensures, left_new _ _ _ _ c.in-Some-Held.ensures.value c.in-Some-Held.ensures.rest)
    (looked _ _ _ _ _ c.self.invariant c.args.w c.in-Some-Held.envelope (omega (arith, below)) there _ c.in-Ok-Fresh.reads c.is_meaning.ensures called)

pub invariant_of-self-in-Ok-Fresh : goal.invariant_of-self-in-Ok-Fresh
invariant_of-self-in-Ok-Fresh c =
    let below = c.if-w-self.false in
    let there : map.get c.self.inside.seats c.args.w ≡ Some (Held c.in-Some-Held.envelope) = sym c.in-Some-Held.ensures.value ∙ ap Some c.in-Some-Held.field-0-is in
    let called = subst (λ (l : LookAnswer). Called (call.Look c.args.w) (answer.Saw (Ok l)) (shown c.self.inside.hub) (shown c.look.new.self)) c.in-Ok-Fresh.field-0-is c.in-Ok-Fresh.ensures.call in
    rw (c.sit-in-Ok-Fresh.ensures, left_new _ _ _ _ c.in-Some-Held.ensures.value c.in-Some-Held.ensures.rest)
    (looked _ _ _ _ _ c.self.invariant c.args.w c.in-Some-Held.envelope (omega (arith, below)) there _ c.in-Ok-Fresh.reads c.is_meaning.ensures called)

pub sit-requires-in-Ok-Known-true : goal.sit-requires-in-Ok-Known-true
sit-requires-in-Ok-Known-true c = rw (left_new _ _ _ _ c.in-Some-Held.ensures.value c.in-Some-Held.ensures.rest) (lost_there c.self.inside.seats c.args.w)

pub invariant_of-self-in-Ok-Known-true : goal.invariant_of-self-in-Ok-Known-true
invariant_of-self-in-Ok-Known-true c =
    let below = c.if-w-self.false in
    let there : map.get c.self.inside.seats c.args.w ≡ Some (Held c.in-Some-Held.envelope) = sym c.in-Some-Held.ensures.value ∙ ap Some c.in-Some-Held.field-0-is in
    let called = subst (λ (l : LookAnswer). Called (call.Look c.args.w) (answer.Saw (Ok l)) (shown c.self.inside.hub) (shown c.look.new.self)) (c.in-Ok-Known-true.field-0-is ∙ ap Known c.in-Ok-Known-true.field-0-0-test) c.in-Ok-Known-true.ensures.call in
    rw (c.sit-in-Ok-Known-true.ensures, left_new _ _ _ _ c.in-Some-Held.ensures.value c.in-Some-Held.ensures.rest)
    (looked_sent _ _ _ _ _ c.self.invariant c.args.w c.in-Some-Held.envelope (omega (arith, below)) there _ called)

pub sit-requires-in-Ok-Known-false : goal.sit-requires-in-Ok-Known-false
sit-requires-in-Ok-Known-false c = rw (left_new _ _ _ _ c.in-Some-Held.ensures.value c.in-Some-Held.ensures.rest) (lost_there c.self.inside.seats c.args.w)

pub invariant_of-self-in-Ok-Known-false : goal.invariant_of-self-in-Ok-Known-false
invariant_of-self-in-Ok-Known-false c =
    let below = c.if-w-self.false in
    let there : map.get c.self.inside.seats c.args.w ≡ Some (Held c.in-Some-Held.envelope) = sym c.in-Some-Held.ensures.value ∙ ap Some c.in-Some-Held.field-0-is in
    let called = subst (λ (l : LookAnswer). Called (call.Look c.args.w) (answer.Saw (Ok l)) (shown c.self.inside.hub) (shown c.look.new.self)) (c.in-Ok-Known-false.field-0-is ∙ ap Known c.in-Ok-Known-false.field-0-0-test) c.in-Ok-Known-false.ensures.call in
    rw (c.sit-in-Ok-Known-false.ensures, left_new _ _ _ _ c.in-Some-Held.ensures.value c.in-Some-Held.ensures.rest)
    (looked_unsent _ _ _ _ _ c.self.invariant c.args.w c.in-Some-Held.envelope (omega (arith, below)) there _ called)

pub sit-requires-in-Err : goal.sit-requires-in-Err
sit-requires-in-Err c = rw (left_new _ _ _ _ c.in-Some-Held.ensures.value c.in-Some-Held.ensures.rest) (lost_there c.self.inside.seats c.args.w)

pub invariant_of-self-in-Err : goal.invariant_of-self-in-Err
invariant_of-self-in-Err c =
    let below = c.if-w-self.false in
    let there : map.get c.self.inside.seats c.args.w ≡ Some (Held c.in-Some-Held.envelope) = sym c.in-Some-Held.ensures.value ∙ ap Some c.in-Some-Held.field-0-is in
    rw (c.sit-in-Err.ensures, left_new _ _ _ _ c.in-Some-Held.ensures.value c.in-Some-Held.ensures.rest)
    (look_refused _ _ _ _ _ c.self.invariant c.args.w c.in-Some-Held.envelope (omega (arith, below)) there _ c.in-Err.fault c.in-Err.ensures.call)
