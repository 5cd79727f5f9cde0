use Rattle.std.proofs.Common.{sym, subst, refl}
use Rattle.std.specs.Prelude.{IfOk}
use Rattle.nb_core.specs.Replay.{constants_of}
use Rattle.nb_core.specs.Step.{Event}
use Rattle.nb_core.specs.Tried.{Tried}
use Rattle.nb_core.proofs.replaying.attempt.Goals as goal

pub returns-in-Load : goal.returns-in-Load
returns-in-Load g c =
    let k = constants_of (g.H.Handling.meaning c.args.handling.now) c.args.settings.now in
    subst (λ (e : Event). IfOk c.load.result (λ b. Tried k c.args.state.now e c.load.new.state b)) (sym c.in-Load.is) (c.load.ensures k refl)

pub returns-in-Take : goal.returns-in-Take
returns-in-Take g c =
    let k = constants_of (g.H.Handling.meaning c.args.handling.now) c.args.settings.now in
    subst (λ (e : Event). IfOk c.take.result (λ b. Tried k c.args.state.now e c.take.new.state b)) (sym c.in-Take.is) (c.take.ensures k refl)

pub returns-in-Look : goal.returns-in-Look
returns-in-Look g c =
    let k = constants_of (g.H.Handling.meaning c.args.handling.now) c.args.settings.now in
    subst (λ (e : Event). IfOk c.look.result (λ b. Tried k c.args.state.now e c.look.new.state b)) (sym c.in-Look.is) (c.look.ensures k refl)

pub returns-in-Settle : goal.returns-in-Settle
returns-in-Settle g c =
    let k = constants_of (g.H.Handling.meaning c.args.handling.now) c.args.settings.now in
    subst (λ (e : Event). IfOk c.settle.result (λ b. Tried k c.args.state.now e c.settle.new.state b)) (sym c.in-Settle.is) c.settle.ensures

pub returns-in-Send : goal.returns-in-Send
returns-in-Send g c =
    let k = constants_of (g.H.Handling.meaning c.args.handling.now) c.args.settings.now in
    subst (λ (e : Event). IfOk c.send.result (λ b. Tried k c.args.state.now e c.send.new.state b)) (sym c.in-Send.is) (c.send.ensures k)

pub returns-in-Mark : goal.returns-in-Mark
returns-in-Mark g c =
    let k = constants_of (g.H.Handling.meaning c.args.handling.now) c.args.settings.now in
    subst (λ (e : Event). IfOk c.mark.result (λ b. Tried k c.args.state.now e c.mark.new.state b)) (sym c.in-Mark.is) (c.mark.ensures k)

pub returns-in-Aside : goal.returns-in-Aside
returns-in-Aside g c =
    let k = constants_of (g.H.Handling.meaning c.args.handling.now) c.args.settings.now in
    subst (λ (e : Event). IfOk c.aside.result (λ b. Tried k c.args.state.now e c.aside.new.state b)) (sym c.in-Aside.is) (c.aside.ensures k)

pub returns-in-Remove : goal.returns-in-Remove
returns-in-Remove g c =
    let k = constants_of (g.H.Handling.meaning c.args.handling.now) c.args.settings.now in
    subst (λ (e : Event). IfOk c.remove.result (λ b. Tried k c.args.state.now e c.remove.new.state b)) (sym c.in-Remove.is) (c.remove.ensures k)

pub returns-in-Release : goal.returns-in-Release
returns-in-Release g c =
    let k = constants_of (g.H.Handling.meaning c.args.handling.now) c.args.settings.now in
    subst (λ (e : Event). IfOk c.release.result (λ b. Tried k c.args.state.now e c.release.new.state b)) (sym c.in-Release.is) (c.release.ensures k)

pub returns-in-PutBack : goal.returns-in-PutBack
returns-in-PutBack g c =
    let k = constants_of (g.H.Handling.meaning c.args.handling.now) c.args.settings.now in
    subst (λ (e : Event). IfOk c.put_back.result (λ b. Tried k c.args.state.now e c.put_back.new.state b)) (sym c.in-PutBack.is) (c.put_back.ensures k refl)

pub returns-in-Tick : goal.returns-in-Tick
returns-in-Tick g c =
    let k = constants_of (g.H.Handling.meaning c.args.handling.now) c.args.settings.now in
    subst (λ (e : Event). Tried k c.args.state.now e c.tick.new.state c.tick.result) (sym c.in-Tick.is) (c.tick.ensures k)

pub returns-in-Purge : goal.returns-in-Purge
returns-in-Purge g c =
    let k = constants_of (g.H.Handling.meaning c.args.handling.now) c.args.settings.now in
    subst (λ (e : Event). Tried k c.args.state.now e c.purge.new.state c.purge.result) (sym c.in-Purge.is) (c.purge.ensures k refl)

pub returns-in-DropBack : goal.returns-in-DropBack
returns-in-DropBack g c =
    let k = constants_of (g.H.Handling.meaning c.args.handling.now) c.args.settings.now in
    subst (λ (e : Event). Tried k c.args.state.now e c.drop_back.new.state c.drop_back.result) (sym c.in-DropBack.is) (c.drop_back.ensures k)
