use Rattle.std.proofs.lemmas.Result.{err_from_is_err_and}
use Rattle.toml.specs.View.{view}
use Rattle.nb_settings.proofs.Firsts.{AreRightNames, first_at_retries, first_at_routes, first_at_subscribers, first_at_policies}
use Rattle.nb_settings.proofs.file.settings_at.Goals as goal

pub returns-in_err-retries : goal.returns-in_err-retries
returns-in_err-retries c =
    let p = err_from_is_err_and c.from_residual-in_err-retries.result c.from_residual-in_err-retries.ensures.1 in
    let right : AreRightNames (view c.args.root.now) c.in_ok-endpoint.endpoint = record { endpoint_right = c.in_ok-endpoint.ensures.reads.0; is_endpoint = c.in_ok-endpoint.ensures.reads.1; error_right = c.in_ok-error.ensures.reads.0 } in
    rw (p.1, p.2) (first_at_retries (view c.args.root.now) c.in_ok-endpoint.endpoint c.in_err-retries.field-0.0 right c.in_err-retries.ensures.reads)

pub returns-in_err-routes : goal.returns-in_err-routes
returns-in_err-routes c =
    let p = err_from_is_err_and c.from_residual-in_err-routes.result c.from_residual-in_err-routes.ensures.1 in
    let right : AreRightNames (view c.args.root.now) c.in_ok-endpoint.endpoint = record { endpoint_right = c.in_ok-endpoint.ensures.reads.0; is_endpoint = c.in_ok-endpoint.ensures.reads.1; error_right = c.in_ok-error.ensures.reads.0 } in
    rw (p.1, p.2) (first_at_routes (view c.args.root.now) c.in_ok-endpoint.endpoint c.in_err-routes.field-0.0 right c.in_ok-retries.ensures.reads.0 c.in_ok-retention.ensures.reads.0 c.in_err-routes.ensures.reads)

pub returns-in_err-subscribers : goal.returns-in_err-subscribers
returns-in_err-subscribers c =
    let p = err_from_is_err_and c.from_residual-in_err-subscribers.result c.from_residual-in_err-subscribers.ensures.1 in
    let right : AreRightNames (view c.args.root.now) c.in_ok-endpoint.endpoint = record { endpoint_right = c.in_ok-endpoint.ensures.reads.0; is_endpoint = c.in_ok-endpoint.ensures.reads.1; error_right = c.in_ok-error.ensures.reads.0 } in
    rw (p.1, p.2) (first_at_subscribers (view c.args.root.now) c.in_ok-endpoint.endpoint c.in_err-subscribers.field-0.0 right c.in_ok-retries.ensures.reads.0 c.in_ok-retention.ensures.reads.0 c.in_ok-routes.ensures.reads.0 c.in_err-subscribers.ensures.reads)

pub returns-in_err-policies : goal.returns-in_err-policies
returns-in_err-policies c =
    let p = err_from_is_err_and c.from_residual-in_err-policies.result c.from_residual-in_err-policies.ensures.1 in
    let right : AreRightNames (view c.args.root.now) c.in_ok-endpoint.endpoint = record { endpoint_right = c.in_ok-endpoint.ensures.reads.0; is_endpoint = c.in_ok-endpoint.ensures.reads.1; error_right = c.in_ok-error.ensures.reads.0 } in
    rw (p.1, p.2) (first_at_policies (view c.args.root.now) c.in_ok-endpoint.endpoint c.in_err-policies.field-0.0 right c.in_ok-retries.ensures.reads.0 c.in_ok-retention.ensures.reads.0 c.in_ok-routes.ensures.reads.0 c.in_ok-subscribers.ensures.reads.0 c.in_err-policies.ensures.reads)
