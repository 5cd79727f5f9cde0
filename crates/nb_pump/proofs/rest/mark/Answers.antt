use Rattle.std.proofs.lemmas.Result.{err_from_is_err_and}
use Rattle.nb_pump.proofs.Following.{may_finish_marked, mark_refused, marked}
use Rattle.nb_pump.proofs.rest.mark.Goals as goal

pub returns-in_err-mark-clause-follows : goal.returns-in_err-mark-clause-follows
returns-in_err-mark-clause-follows g c =
    let p = err_from_is_err_and c.from_residual.result c.from_residual.ensures.1 in
    rw (p.1, p.2) (mark_refused c.args.w c.in_err-mark.field-0.0 _ _ c.in_err-mark.ensures.call)

pub finish-requires : goal.finish-requires
finish-requires g c = may_finish_marked c.args.w _ _ c.requires.0 c.in_ok-mark.ensures.call

pub returns-clause-follows : goal.returns-clause-follows
returns-clause-follows g c = marked c.args.w c.finish.result _ _ _ c.in_ok-mark.ensures.call c.finish.ensures.follows
