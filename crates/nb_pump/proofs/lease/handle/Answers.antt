use Rattle.std.proofs.Common.{◌∙◌, ap, subst}
use Rattle.std.specs.Prelude.{Ok}
use Rattle.std.proofs.lemmas.Result.{err_from_is_err_and}
use Rattle.nb_core.specs.Calls.{Called}
use Rattle.nb_core.specs.declared.answers.Look.{Look as LookAnswer}
use Rattle.nb_core.specs.declared.answers.Look.TheVariants.{Known}
use Rattle.nb_core.specs.declared.call.Answer.TheVariants as answer
use Rattle.nb_core.specs.declared.call.Call.TheVariants as call
use Rattle.nb_pump.proofs.Taking.{look_refused, looked_then, may_finish, may_dispatch, may_judge}
use Rattle.nb_pump.proofs.lease.handle.Goals as goal

pub returns-in_err-reads-clause-follows : goal.returns-in_err-reads-clause-follows
returns-in_err-reads-clause-follows g c =
    let p = err_from_is_err_and c.from_residual.result c.from_residual.ensures.1 in
    rw (p.1, p.2) (look_refused c.args.w c.in_err-reads.field-0.0 _ _ c.in_err-reads.ensures.call)

pub judge-requires : goal.judge-requires
judge-requires g c =
    let P : LookAnswer → Type 0 = λ l. Called (call.Look c.args.w) (answer.Saw (Ok l)) (g.D.Desk.view c.args.desk.now) (g.D.Desk.view c.look.new.self) in
    record { judged = may_judge _ c.args.w _ c.in-Fresh.reads _ _ _ c.requires.meaning c.is_meaning.ensures c.requires.owns c.requires.holds c.requires.moment (subst P c.in-Fresh.is c.in_ok-reads.ensures.call) }

pub follow-requires : goal.follow-requires
follow-requires g c =
    let P : LookAnswer → Type 0 = λ l. Called (call.Look c.args.w) (answer.Saw (Ok l)) (g.D.Desk.view c.args.desk.now) (g.D.Desk.view c.look.new.self) in
    may_finish c.args.w _ _ c.requires.owns (subst P (c.in-Known-true.is ∙ ap Known c.in-Known-true.sent-test) c.in_ok-reads.ensures.call)

pub follow-requires-in-Known-false : goal.follow-requires-in-Known-false
follow-requires-in-Known-false g c =
    let P : LookAnswer → Type 0 = λ l. Called (call.Look c.args.w) (answer.Saw (Ok l)) (g.D.Desk.view c.args.desk.now) (g.D.Desk.view c.look.new.self) in
    may_dispatch c.args.w _ _ c.requires.owns (subst P (c.in-Known-false.is ∙ ap Known c.in-Known-false.sent-test) c.in_ok-reads.ensures.call)

pub returns-in-Fresh-clause-follows : goal.returns-in-Fresh-clause-follows
returns-in-Fresh-clause-follows g c = looked_then c.args.w _ c.judge.result _ _ _ c.in_ok-reads.ensures.call c.judge.ensures.follows

pub returns-in-Known-true-clause-follows : goal.returns-in-Known-true-clause-follows
returns-in-Known-true-clause-follows g c = looked_then c.args.w _ c.follow.result _ _ _ c.in_ok-reads.ensures.call c.follow.ensures.follows

pub returns-in-Known-false-clause-follows : goal.returns-in-Known-false-clause-follows
returns-in-Known-false-clause-follows g c =
    looked_then c.args.w _ c.follow-in-Known-false.result _ _ _ c.in_ok-reads.ensures.call c.follow-in-Known-false.ensures.follows
