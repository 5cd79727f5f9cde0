use Rattle.std.proofs.Common.{sym, subst}
use Rattle.std.proofs.lemmas.Result.{err_from_is_err_and}
use Rattle.nb_pump.specs.Leases.{CanFollow}
use Rattle.nb_pump.specs.declared.outcome.Next.{Next}
use Rattle.nb_pump.proofs.Settling.{may_follow, settled_then, settle_refused}
use Rattle.nb_pump.proofs.rest.settle.Goals as goal

pub returns-in_err-settled-clause-follows : goal.returns-in_err-settled-clause-follows
returns-in_err-settled-clause-follows g c =
    let p = err_from_is_err_and c.from_residual.result c.from_residual.ensures.1 in
    rw (p.1, p.2) (settle_refused c.args.w c.args.outcome c.in_err-settled.field-0.0 _ _ c.in_err-settled.ensures.call)

pub follow-requires : goal.follow-requires
follow-requires g c =
    subst (λ (n : Next). CanFollow n c.args.w (g.D.Desk.view c.settle.new.self)) (sym c.next_after.ensures)
    (may_follow c.args.w c.args.outcome c.in_ok-settled.settled _ _ c.requires.0 c.in_ok-settled.ensures.call)

pub returns-clause-follows : goal.returns-clause-follows
returns-clause-follows g c = settled_then c.args.w c.args.outcome c.in_ok-settled.settled c.follow.result _ _ _ c.in_ok-settled.ensures.call c.follow.ensures.follows
