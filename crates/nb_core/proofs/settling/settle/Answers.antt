use Rattle.std.proofs.Common.{sym, ap, ◌∙◌, subst, refl}
use Rattle.nb_base.specs.Meanings.{IsShown}
use Rattle.nb_base.specs.Messages.{Message}
use Rattle.nb_base.specs.declared.plan.Outcome.{Outcome}
use Rattle.nb_headers.specs.Reads.{id_of}
use Rattle.nb_core.proofs.Settles.{twin_made, is_new}
use Rattle.nb_core.specs.Replay.{constants_of}
use Rattle.nb_core.specs.State.{Looked, recorded}
use Rattle.nb_core.specs.Tried.{LooksAt}
use Rattle.nb_core.proofs.settling.settle.Goals as goal

pub returns-in-Some-2 : goal.returns-in-Some-2
returns-in-Some-2 g c =
    let s = c.args.state.now in
    let x = c.in-Some.looked in
    twin_made (constants_of (g.H.Handling.meaning c.args.handling.now) c.args.settings.now) s c.args.w x c.in-Some-2.phase c.set_phase.new.state
    (subst (LooksAt s c.args.w) c.in-Some.is c.in_ok-looked.ensures) (sym c.in-Some-2.is ∙ c.in_ok-phase.ensures) c.in_ok-set_phase.ensures

pub judge-requires : goal.judge-requires
judge-requires g c =
    let x = c.in-Some.looked in
    let at = subst (LooksAt c.args.state.now c.args.w) c.in-Some.is c.in_ok-looked.ensures in
    subst (λ (m : Message). IsShown (g.H.Handling.meaning c.args.handling.now) m x.reads) at.3 (c.requires.shown c.args.w x.number x.reads at.0 at.1 at.2)

pub settle_by-requires-clause-can : goal.settle_by-requires-clause-can
settle_by-requires-clause-can g c plan is =
    let s = c.args.state.now in
    let x = c.in-Some.looked in
    let at = subst (LooksAt s c.args.w) c.in-Some.is c.in_ok-looked.ensures in
    c.requires.can c.args.w x.number x.reads at.0 plan at.1 at.2
    (ap (λ (m : Message). (g.H.Handling.meaning c.args.handling.now).on_reads x.reads m s.moment) at.3 ∙ sym (ap (λ (o : Outcome). o.verdict) c.in_ok-outcome.ensures) ∙ is)

pub returns : goal.returns
returns g c =
    let s = c.args.state.now in
    let x = c.in-Some.looked in
    let k = constants_of (g.H.Handling.meaning c.args.handling.now) c.args.settings.now in
    let at = subst (LooksAt s c.args.w) c.in-Some.is c.in_ok-looked.ensures in
    let same = ap (λ (o : Outcome). o.reads) c.in_ok-outcome.ensures in
    c.settle_by.ensures k refl (record {
      it = at.0;
      looked = at.1 ∙ ap (Looked x.number) (sym same);
      there = at.2;
      message_is = at.3;
      new = is_new x.number x.envelope (recorded s (id_of x.envelope)) (sym c.in_default-2.is ∙ c.in_ok-phase.ensures);
      verdict_is = ap (λ (o : Outcome). o.verdict) c.in_ok-outcome.ensures ∙ ap (λ rs. k.meaning.on_reads rs x.envelope s.moment) (sym same);
    })
