use Rattle.std.proofs.Common.{sym, subst, ◌∙◌, arith}
use Rattle.nb_core.proofs.Trying.{put_back_made, put_back_not}
use Rattle.nb_core.specs.Tried.{Returns}
use Rattle.nb_core.specs.Step.{Step, PutBack}
use Rattle.nb_core.proofs.upkeep.put_back.Goals as goal

pub returns-in_default : goal.returns-in_default
returns-in_default c k settings =
    put_back_not k c.args.state.now c.args.number (subst (Returns k c.args.state.now c.args.number) c.in_default.is (c.in_ok-returned.ensures k settings))

pub returns : goal.returns
returns c k settings =
    let s = c.args.state.now in
    let t = c.put.new.state in
    subst (λ back. Step k s (PutBack c.args.number) (record t { back = back })) (sym c.in_ok-insert.ensures.ok)
    (put_back_made k s c.args.number c.in-Some.returned t (sym c.are_busy.ensures ∙ c.if-are_busy.false) (omega (arith, c.if-state-ge-LIMIT.false))
    (subst (Returns k s c.args.number) c.in-Some.is (c.in_ok-returned.ensures k settings)) c.in_ok-put.ensures)
