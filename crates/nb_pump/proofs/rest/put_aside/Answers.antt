use Rattle.std.proofs.lemmas.Result.{err_from_is_err_and}
use Rattle.nb_pump.proofs.Following.{may_finish_aside, aside_refused, put_then}
use Rattle.nb_pump.proofs.rest.put_aside.Goals as goal

pub returns-in_err-aside-clause-follows : goal.returns-in_err-aside-clause-follows
returns-in_err-aside-clause-follows g c =
    let p = err_from_is_err_and c.from_residual.result c.from_residual.ensures.1 in
    rw (p.1, p.2) (aside_refused c.args.w c.in_err-aside.field-0.0 _ _ c.requires c.in_err-aside.ensures.call)

pub finish-requires : goal.finish-requires
finish-requires g c = may_finish_aside c.args.w _ _ c.requires.0 c.in_ok-aside.ensures.call

pub returns-clause-follows : goal.returns-clause-follows
returns-clause-follows g c = put_then c.args.w c.finish.result _ _ _ c.in_ok-aside.ensures.call c.finish.ensures.follows
