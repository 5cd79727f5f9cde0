use Rattle.std.proofs.Common.{◌∙◌, subst}
use Rattle.std.specs.Prelude.{Ok}
use Rattle.std.proofs.lemmas.Result.{err_from_is_err_and}
use Rattle.nb_core.specs.Calls.{Called}
use Rattle.nb_core.specs.declared.answers.Taken.{Taken}
use Rattle.nb_core.specs.declared.call.Answer.TheVariants as answer
use Rattle.nb_core.specs.declared.call.Call.TheVariants as call
use Rattle.nb_pump.proofs.Taking.{take_refused, got_holds, got_moment, lease_broken, lease_done, took_nothing, took_limit}
use Rattle.nb_pump.proofs.lease.turn.Goals as goal

pub returns-in_err-envelope-clause-turn : goal.returns-in_err-envelope-clause-turn
returns-in_err-envelope-clause-turn g c =
    let p = err_from_is_err_and c.from_residual.result c.from_residual.ensures.1 in
    rw (p.1, p.2) (take_refused c.args.w c.in_err-envelope.field-0.0 _ _ c.in_err-envelope.ensures.call)

pub handle-requires-clause-holds : goal.handle-requires-clause-holds
handle-requires-clause-holds g c =
    let P : Taken → Type 0 = λ t. Called (call.Take c.args.w) (answer.Took (Ok t)) (g.D.Desk.view c.args.desk.now) (g.D.Desk.view c.take.new.self) in
    got_holds c.args.w c.in-Got.envelope _ _ c.requires.idle (subst P c.in-Got.is c.in_ok-envelope.ensures.call)

pub handle-requires-clause-moment : goal.handle-requires-clause-moment
handle-requires-clause-moment g c =
    let P : Taken → Type 0 = λ t. Called (call.Take c.args.w) (answer.Took (Ok t)) (g.D.Desk.view c.args.desk.now) (g.D.Desk.view c.take.new.self) in
    got_moment c.args.w c.in-Got.envelope _ _ c.requires.idle (subst P c.in-Got.is c.in_ok-envelope.ensures.call) ∙ c.requires.moment

pub returns-in_err-handle-in-Got-clause-turn : goal.returns-in_err-handle-in-Got-clause-turn
returns-in_err-handle-in-Got-clause-turn g c =
    let P : Taken → Type 0 = λ t. Called (call.Take c.args.w) (answer.Took (Ok t)) (g.D.Desk.view c.args.desk.now) (g.D.Desk.view c.take.new.self) in
    let p = err_from_is_err_and c.from_residual-in_err-handle-in-Got.result c.from_residual-in_err-handle-in-Got.ensures.1 in
    rw (p.1, p.2) (lease_broken c.args.w c.in-Got.envelope c.in_err-handle-in-Got.field-0.0 _ _ _ (subst P c.in-Got.is c.in_ok-envelope.ensures.call) c.in_err-handle-in-Got.ensures.follows)

pub returns-in_ok-handle-in-Got-clause-turn : goal.returns-in_ok-handle-in-Got-clause-turn
returns-in_ok-handle-in-Got-clause-turn g c =
    let P : Taken → Type 0 = λ t. Called (call.Take c.args.w) (answer.Took (Ok t)) (g.D.Desk.view c.args.desk.now) (g.D.Desk.view c.take.new.self) in
    lease_done c.args.w c.in-Got.envelope _ _ _ (subst P c.in-Got.is c.in_ok-envelope.ensures.call) c.in_ok-handle-in-Got.ensures.follows

pub returns-in-Nothing-clause-turn : goal.returns-in-Nothing-clause-turn
returns-in-Nothing-clause-turn g c =
    let P : Taken → Type 0 = λ t. Called (call.Take c.args.w) (answer.Took (Ok t)) (g.D.Desk.view c.args.desk.now) (g.D.Desk.view c.take.new.self) in
    took_nothing c.args.w _ _ (subst P c.in-Nothing.is c.in_ok-envelope.ensures.call)

pub returns-in-Limit-clause-turn : goal.returns-in-Limit-clause-turn
returns-in-Limit-clause-turn g c =
    let P : Taken → Type 0 = λ t. Called (call.Take c.args.w) (answer.Took (Ok t)) (g.D.Desk.view c.args.desk.now) (g.D.Desk.view c.take.new.self) in
    took_limit c.args.w _ _ (subst P c.in-Limit.is c.in_ok-envelope.ensures.call)
