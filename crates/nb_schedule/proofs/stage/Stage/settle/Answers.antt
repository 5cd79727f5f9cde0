use Rattle.std.proofs.Common.{arith, sym, ap, subst, List, ◌∙◌, ◌≡◌}
use Rattle.std.specs.Prelude.{Some}
use Rattle.std.specs.FinMap as map
use Rattle.nb_base.specs.Meanings.{IsShown}
use Rattle.nb_base.specs.declared.saga_row.Read.{Read}
use Rattle.nb_eval.specs.Meanings.{meaning_of}
use Rattle.nb_script.specs.Tree.{script}
use Rattle.nb_schedule.proofs.Turning.{lost_there, left_new, restored, forgot, may_judge_it, may_settle, settled_so, settle_refused}
use Rattle.nb_schedule.specs.declared.seat.Seat.TheVariants.{Looked}
use Rattle.nb_schedule.proofs.stage.Stage.settle.Goals as goal

pub sit-requires : goal.sit-requires
sit-requires c = rw (left_new _ _ _ _ c.in-Some.ensures.value c.in-Some.ensures.rest) (lost_there c.self.inside.seats c.args.w)

pub invariant_of-self : goal.invariant_of-self
invariant_of-self c =
    rw (c.sit.ensures, left_new _ _ _ _ c.in-Some.ensures.value c.in-Some.ensures.rest)
    (restored _ _ _ _ _ c.self.invariant c.args.w c.in-Some.other (sym c.in-Some.ensures.value))

pub invariant_of-self-in_err-copy : goal.invariant_of-self-in_err-copy
invariant_of-self-in_err-copy c = rw (left_new _ _ _ _ c.in-Some-Looked.ensures.value c.in-Some-Looked.ensures.rest) (forgot _ _ _ _ _ c.self.invariant c.args.w)

pub judge-requires : goal.judge-requires
judge-requires c =
    let below = c.if-w-self.false in
    let there : map.get c.self.inside.seats c.args.w ≡ Some (Looked c.in-Some-Looked.envelope c.in-Some-Looked.reads) = sym c.in-Some-Looked.ensures.value ∙ ap Some c.in-Some-Looked.field-0-is in
    subst (λ (rs : List Read). IsShown (meaning_of (script c.self.inside.handlers.now.checked)) c.in-Some-Looked.envelope rs) (sym c.in_ok-copy.ensures)
    (may_judge_it _ _ _ _ _ c.self.invariant c.args.w c.in-Some-Looked.envelope c.in-Some-Looked.reads (omega (arith, below)) there)

pub invariant_of-self-in-Err : goal.invariant_of-self-in-Err
invariant_of-self-in-Err c = rw (left_new _ _ _ _ c.in-Some-Looked.ensures.value c.in-Some-Looked.ensures.rest) (forgot _ _ _ _ _ c.self.invariant c.args.w)

pub settle-requires : goal.settle-requires
settle-requires c =
    let below = c.if-w-self.false in
    let there : map.get c.self.inside.seats c.args.w ≡ Some (Looked c.in-Some-Looked.envelope c.in-Some-Looked.reads) = sym c.in-Some-Looked.ensures.value ∙ ap Some c.in-Some-Looked.field-0-is in
    may_settle _ _ _ _ _ c.self.invariant c.args.w c.in-Some-Looked.envelope c.in-Some-Looked.reads (omega (arith, below)) there c.in-Ok.outcome
    (c.in-Ok.ensures ∙ (λ i. record { reads = c.in_ok-copy.ensures i; verdict = (meaning_of (script c.self.inside.handlers.now.checked)).on_reads (c.in_ok-copy.ensures i) c.in-Some-Looked.envelope c.self.inside.moment }))

pub sit-requires-in-Ok-settle : goal.sit-requires-in-Ok-settle
sit-requires-in-Ok-settle c = rw (left_new _ _ _ _ c.in-Some-Looked.ensures.value c.in-Some-Looked.ensures.rest) (lost_there c.self.inside.seats c.args.w)

pub invariant_of-self-in-Ok-settle : goal.invariant_of-self-in-Ok-settle
invariant_of-self-in-Ok-settle c =
    let below = c.if-w-self.false in
    let there : map.get c.self.inside.seats c.args.w ≡ Some (Looked c.in-Some-Looked.envelope c.in-Some-Looked.reads) = sym c.in-Some-Looked.ensures.value ∙ ap Some c.in-Some-Looked.field-0-is in
    rw (c.sit-in-Ok-settle.ensures, c.seat_after.ensures, left_new _ _ _ _ c.in-Some-Looked.ensures.value c.in-Some-Looked.ensures.rest)
    (settled_so _ _ _ _ _ c.self.invariant c.args.w c.in-Some-Looked.envelope c.in-Some-Looked.reads (omega (arith, below)) there _ c.in-Ok.outcome c.in-Ok-settle.settled c.in-Ok-settle.ensures.call)

pub sit-requires-in-Err-settle : goal.sit-requires-in-Err-settle
sit-requires-in-Err-settle c = rw (left_new _ _ _ _ c.in-Some-Looked.ensures.value c.in-Some-Looked.ensures.rest) (lost_there c.self.inside.seats c.args.w)

pub invariant_of-self-in-Err-settle : goal.invariant_of-self-in-Err-settle
invariant_of-self-in-Err-settle c =
    let below = c.if-w-self.false in
    let there : map.get c.self.inside.seats c.args.w ≡ Some (Looked c.in-Some-Looked.envelope c.in-Some-Looked.reads) = sym c.in-Some-Looked.ensures.value ∙ ap Some c.in-Some-Looked.field-0-is in
    rw (c.sit-in-Err-settle.ensures, left_new _ _ _ _ c.in-Some-Looked.ensures.value c.in-Some-Looked.ensures.rest)
    (settle_refused _ _ _ _ _ c.self.invariant c.args.w c.in-Some-Looked.envelope c.in-Some-Looked.reads (omega (arith, below)) there _ c.in-Ok.outcome c.in-Err-settle.fault c.in-Err-settle.ensures.call)
