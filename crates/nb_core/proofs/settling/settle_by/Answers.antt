use Rattle.std.proofs.Common.{subst}
use Rattle.nb_base.specs.Shown.{stored}
use Rattle.nb_core.proofs.Reading.{as_many}
use Rattle.nb_core.proofs.Settles.{fault_made, conflict_made, commit_made}
use Rattle.nb_core.proofs.Trying.{if_ok}
use Rattle.nb_core.specs.Conflicts.{Conflicts}
use Rattle.nb_core.proofs.settling.settle_by.Goals as goal

pub returns-in-Fault : goal.returns-in-Fault
returns-in-Fault c k settings new =
    let a = c.args.attempt.now in
    fault_made k c.args.state.now a.w a.number a.envelope.now c.args.outcome new c.in-Fault.fault c.fail.new.state c.in-Fault.is (c.in_ok-fail-in-Fault.ensures k settings)

pub conflict-requires : goal.conflict-requires
conflict-requires c = as_many (stored c.args.state.now.tables) c.args.outcome.reads c.in_ok-now-in-Done.now c.in_ok-now-in-Done.ensures

pub returns-in-Some : goal.returns-in-Some
returns-in-Some c k settings new =
    let a = c.args.attempt.now in
    let t = stored c.args.state.now.tables in
    conflict_made k c.args.state.now a.w a.number a.envelope.now c.args.outcome new c.in-Done.plan c.in-Some.why c.fail-in-Some.new.state c.in-Done.is
    (subst (Conflicts t c.args.outcome.reads) c.in-Some.is (c.in_ok-why-in-Done.ensures t c.in_ok-now-in-Done.ensures))
    (c.in_ok-fail-in-Some.ensures k settings)

pub returns : goal.returns
returns c k settings new =
    let a = c.args.attempt.now in
    let t = stored c.args.state.now.tables in
    if_ok c.commit.result _ _
    (λ b made. commit_made k c.args.state.now a.w a.number a.envelope.now c.args.outcome new c.in-Done.plan _ b c.in-Done.is
    (subst (Conflicts t c.args.outcome.reads) c.in-None.is (c.in_ok-why-in-Done.ensures t c.in_ok-now-in-Done.ensures)) made)
    (c.commit.ensures k settings)
