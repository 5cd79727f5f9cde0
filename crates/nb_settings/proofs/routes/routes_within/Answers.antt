use Rattle.std.proofs.Common.{◌∙◌, refl, ap}
use Rattle.std.proofs.lemmas.Result.{err_from_is_err_and}
use Rattle.toml.specs.View.{members_view}
use Rattle.nb_settings.specs.Faults.{route_faults}
use Rattle.nb_settings.specs.Values.{routes_of}
use Rattle.nb_settings.proofs.SoundTables.{are_routes-made}
use Rattle.nb_settings.proofs.Tables.{Goes-start, Goes-next, Goes-fails}
use Rattle.nb_settings.proofs.routes.routes_within.Goals as goal

pub loop-name-init : goal.loop-name-init
loop-name-init c = Goes-start _ _ _ _ _ (c.into_iter-name-iterator.ensures.into_iter_gives ∙ c.iter-name-items.ensures.rest) c.new-routes.ensures

pub returns-in_err-queue-clause-reads : goal.returns-in_err-queue-clause-reads
returns-in_err-queue-clause-reads c =
    let p = err_from_is_err_and c.from_residual.result c.from_residual.ensures.1 in
    rw (p.1, p.2)
    (Goes-fails c.in_err-queue.field-0.0 route_faults routes_of _ _ _ _ _ (rw c.as_str.ensures.value at c.in_err-queue.ensures)
    (ap (λ es. route_faults (members_view es)) c.in-Some.ensures.steps) c.loop-name.invariant)

pub loop-name-preserved : goal.loop-name-preserved
loop-name-preserved c =
    rw c.in_ok-push.ensures.ok
    (Goes-next route_faults routes_of _ _ _ _ _ _ _ (rw c.as_str.ensures.value at c.in_ok-queue.ensures.0) refl
    (ap (λ es. route_faults (members_view es)) c.in-Some.ensures.steps)
    (ap (λ es. routes_of (members_view es)) c.in-Some.ensures.steps ∙ rw (c.in_ok-name.ensures, c.as_str-in-loop-name.ensures.value, c.in_ok-queue.ensures.1) refl)
    c.loop-name.invariant)

pub returns-clause-sound : goal.returns-clause-sound
returns-clause-sound c = are_routes-made _ _ _ c.in-None.ensures.steps.0 c.iter-name-items.ensures.ordered c.loop-name.invariant
