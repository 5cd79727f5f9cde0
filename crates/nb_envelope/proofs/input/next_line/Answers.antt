use Rattle.std.proofs.Common.{◌<◌, sym, arith, length}
use Rattle.std.proofs.lemmas.List.{take_rest, drop_all}
use Rattle.nb_envelope.proofs.InputLaws.{lines_first, lines_last}
use Rattle.nb_envelope.proofs.input.next_line.Goals as goal

pub returns-in-Some-clause-value : goal.returns-in-Some-clause-value
returns-in-Some-clause-value c = rw (take_rest, c.stripped.ensures) (lines_first c.args.rest.now c.in-Some.i (sym c.in-Some.ensures.place))

pub returns-in-None-clause-value : goal.returns-in-None-clause-value
returns-in-None-clause-value c =
    let e = c.is_empty.ensures in
    let f = c.if-is_empty.false in
    let some : 0 < length c.args.rest.now = grind arith in
    rw (take_rest, drop_all (length c.args.rest.now) c.args.rest.now (omega arith)) (lines_last c.args.rest.now some (sym c.in-None.ensures.place))
