use Rattle.std.proofs.Common.{arith}
use Rattle.std.proofs.lemmas.List.{take_all}
use Rattle.nb_core.proofs.Coming.{came_first, goes_on, stops, replayed}
use Rattle.nb_core.proofs.Judging.{can_settle}
use Rattle.nb_core.specs.Replay.{constants_of}
use Rattle.nb_core.proofs.replaying.replay.Goals as goal

pub loop-index-init : goal.loop-index-init
loop-index-init g c =
    came_first (constants_of (g.H.Handling.meaning c.args.handling.now) c.args.settings.now) c.args.turns c.args.history.now.opening c.in_ok-state.state c.in_ok-state.ensures

pub advance-requires : goal.advance-requires
advance-requires g c = can_settle c.is_meaning.ensures c.requires.routes c.requires.sound c.loop-index.invariant.run

pub returns-then-not-branch : goal.returns-then-not-branch
returns-then-not-branch g c =
    stops (constants_of (g.H.Handling.meaning c.args.handling.now) c.args.settings.now) c.args.turns c.args.history.now c.loop-index.index c.at-event.result.now c.at-event.ensures
    c.loop-index.progress c.loop-index.invariant c.advance.new.progress _ c.in_ok-advance.ensures c.requires.routes c.requires.sound c.if-not-branch.true

pub loop-index-preserved : goal.loop-index-preserved
loop-index-preserved g c =
    goes_on (constants_of (g.H.Handling.meaning c.args.handling.now) c.args.settings.now) c.args.turns c.args.history.now c.loop-index.index c.at-event.result.now c.at-event.ensures
    c.loop-index.progress c.loop-index.invariant c.advance.new.progress _ c.in_ok-advance.ensures c.if-not-branch.false

pub returns : goal.returns
returns g c =
    replayed (constants_of (g.H.Handling.meaning c.args.handling.now) c.args.settings.now) c.args.turns c.args.history.now c.loop-index.index
    c.loop-index.progress c.loop-index.invariant
    (take_all c.loop-index.index c.args.history.now.events (omega (arith, c.loop-index-test.false, c.len-index-end.ensures.value)))
    c.requires.routes c.requires.sound
