use Rattle.nb_base.specs.Takes.{TakesSome}
use Rattle.nb_base.proofs.Joins.{Consumes-more, on_err}
use Rattle.nb_base.proofs.source.read_all.Goals as goal

pub returns-in_err-extend_from_slice-clause-err : goal.returns-in_err-extend_from_slice-clause-err
returns-in_err-extend_from_slice-clause-err g c =
    let some : TakesSome (g.S.Source.left c.args.source.now) (g.S.Source.left c.read.new.self) = (_, Consumes-more _ _ _ _ _ c.loop-room.invariant.taken c.in_ok-n.ensures.bytes.0) in
    on_err _ some
