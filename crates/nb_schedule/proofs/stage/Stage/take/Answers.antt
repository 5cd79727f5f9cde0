use Rattle.std.proofs.Common.{arith, subst, refl}
use Rattle.std.specs.Prelude.{Ok}
use Rattle.nb_core.specs.Calls.{Called}
use Rattle.nb_core.specs.declared.answers.Taken.{Taken}
use Rattle.nb_core.specs.declared.call.Answer.TheVariants as answer
use Rattle.nb_core.specs.declared.call.Call.TheVariants as call
use Rattle.nb_schedule.proofs.Seating.{shown}
use Rattle.nb_schedule.proofs.Turning.{lost_there, took, took_nothing, took_limit, took_refused}
use Rattle.nb_schedule.proofs.stage.Stage.take.Goals as goal

pub sit-requires : goal.sit-requires
sit-requires c = rw c.in_ok-forget.ensures.ok (lost_there c.self.inside.seats c.args.w)

pub invariant_of-self-in_err-copy-in-Ok-Got : goal.invariant_of-self-in_err-copy-in-Ok-Got
invariant_of-self-in_err-copy-in-Ok-Got c =
    let below = c.if-w-self.false in
    let called = subst (λ (t : Taken). Called (call.Take c.args.w) (answer.Took (Ok t)) (shown c.self.inside.hub) (shown c.take.new.self)) c.in-Ok-Got.field-0-is c.in-Ok-Got.ensures.call in
    rw (c.sit.ensures, c.in_ok-forget.ensures.ok) (took _ _ _ _ _ c.self.invariant c.args.w (omega (arith, below)) (c.if-not-is_idle.ensures refl) _ c.in-Ok-Got.envelope called)

pub invariant_of-self-in-Ok-Got : goal.invariant_of-self-in-Ok-Got
invariant_of-self-in-Ok-Got c =
    let below = c.if-w-self.false in
    let called = subst (λ (t : Taken). Called (call.Take c.args.w) (answer.Took (Ok t)) (shown c.self.inside.hub) (shown c.take.new.self)) c.in-Ok-Got.field-0-is c.in-Ok-Got.ensures.call in
    rw (c.sit.ensures, c.in_ok-forget.ensures.ok) (took _ _ _ _ _ c.self.invariant c.args.w (omega (arith, below)) (c.if-not-is_idle.ensures refl) _ c.in-Ok-Got.envelope called)

pub sit-requires-in-Ok-Nothing : goal.sit-requires-in-Ok-Nothing
sit-requires-in-Ok-Nothing c = rw c.in_ok-forget.ensures.ok (lost_there c.self.inside.seats c.args.w)

pub invariant_of-self-in-Ok-Nothing : goal.invariant_of-self-in-Ok-Nothing
invariant_of-self-in-Ok-Nothing c =
    let below = c.if-w-self.false in
    let called = subst (λ (t : Taken). Called (call.Take c.args.w) (answer.Took (Ok t)) (shown c.self.inside.hub) (shown c.take.new.self)) c.in-Ok-Nothing.field-0-is c.in-Ok-Nothing.ensures.call in
    rw (c.sit-in-Ok-Nothing.ensures, c.in_ok-forget.ensures.ok) (took_nothing _ _ _ _ _ c.self.invariant c.args.w (omega (arith, below)) (c.if-not-is_idle.ensures refl) _ called)

pub sit-requires-in-Ok-Limit : goal.sit-requires-in-Ok-Limit
sit-requires-in-Ok-Limit c = rw c.in_ok-forget.ensures.ok (lost_there c.self.inside.seats c.args.w)

pub invariant_of-self-in-Ok-Limit : goal.invariant_of-self-in-Ok-Limit
invariant_of-self-in-Ok-Limit c =
    let below = c.if-w-self.false in
    let called = subst (λ (t : Taken). Called (call.Take c.args.w) (answer.Took (Ok t)) (shown c.self.inside.hub) (shown c.take.new.self)) c.in-Ok-Limit.field-0-is c.in-Ok-Limit.ensures.call in
    rw (c.sit-in-Ok-Limit.ensures, c.in_ok-forget.ensures.ok) (took_limit _ _ _ _ _ c.self.invariant c.args.w (omega (arith, below)) (c.if-not-is_idle.ensures refl) _ called)

pub sit-requires-in-Err : goal.sit-requires-in-Err
sit-requires-in-Err c = rw c.in_ok-forget.ensures.ok (lost_there c.self.inside.seats c.args.w)

pub invariant_of-self-in-Err : goal.invariant_of-self-in-Err
invariant_of-self-in-Err c =
    let below = c.if-w-self.false in
    rw (c.sit-in-Err.ensures, c.in_ok-forget.ensures.ok) (took_refused _ _ _ _ _ c.self.invariant c.args.w (omega (arith, below)) (c.if-not-is_idle.ensures refl) _ c.in-Err.fault c.in-Err.ensures.call)
