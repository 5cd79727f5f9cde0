use Rattle.std.proofs.Common.{◌≡◌, None, Some, true≢false, refl, sym, ap, ◌∙◌}
use Rattle.nb_endpoint.specs.Asked.{asked_by}
use Rattle.nb_endpoint.specs.Sources.{flow}
use Rattle.nb_endpoint.proofs.Completing.{headline}
use Rattle.nb_endpoint.proofs.Saying.{some_turns, served, serve, not_apart}
use Rattle.nb_endpoint.proofs.Lifting.{asked, has_routes, not_called, performed, prints_short, refused_risen, sample_risen, sampled, unprepared}
use Rattle.nb_words.specs.declared.words.Words.{Words as Said}
use Rattle.nb_endpoint.proofs.top.run_alone.Goals as goal

pub perform-requires-clause-routes : goal.perform-requires-clause-routes
perform-requires-clause-routes g c = has_routes (flow g.S.Source c.args.settings.now c.prepare.new.settings) c.in-Ok.job c.in-Ok.ensures.prepares.3

pub perform-requires-clause-some : goal.perform-requires-clause-some
perform-requires-clause-some g c =
    some_turns c.args.words.now c.in-Ok-Some.said c.in-Ok.job
    (serve c.args.words.now c.in-Ok-Some.said (sym c.in-Ok-Some.ensures ∙ c.in-Ok-Some.field-0-is) (λ e. true≢false (sym (c.is_sample.ensures.1 e) ∙ c.if-is_sample.false)))
    c.in-Ok.ensures.prepares.0

pub perform-requires-clause-built : goal.perform-requires-clause-built
perform-requires-clause-built g c = λ e. true≢false (sym (c.is_sample.ensures.1 (ap (λ (x : Said). x.command) (sym c.in-Ok.ensures.prepares.0) ∙ e)) ∙ c.if-is_sample.false)

pub returns-in-Ok : goal.returns-in-Ok
returns-in-Ok g c =
    let is = sym c.in-Ok-Some.ensures ∙ c.in-Ok-Some.field-0-is in
    let serves = serve c.args.words.now c.in-Ok-Some.said is (λ e. true≢false (sym (c.is_sample.ensures.1 e) ∙ c.if-is_sample.false)) in
    record {
      headline = headline g.S.Source g.O.Sink g.P.Cells g.D.Cells (λ said. 1) _
          (performed g.S.Source g.O.Sink g.P.Cells g.D.Cells _ (asked_by c.in-Ok.job) (asked _ _ _ c.in-Ok-Some.said c.in-Ok.job serves c.in-Ok.ensures.prepares)
          c.law_outcome.ensures c.law_drained.ensures c.perform.result.history c.perform.ensures.begins c.perform.ensures.follows c.perform.ensures.shows c.perform.ensures.prints
          c.perform.ensures.means c.perform.ensures.left c.perform.ensures.base_kept c.perform.ensures.post_kept c.perform.ensures.base_damage c.perform.ensures.post_damage)
          c.perform.ensures.risen (λ no. c.in-Ok.ensures.unread (λ run. no (c.in-Ok-Some.said, is, run))) (λ none. absurd (not_apart c.args.words.now c.in-Ok-Some.said serves none));
    }

pub returns-in-Err-prepare : goal.returns-in-Err-prepare
returns-in-Err-prepare g c =
    let is = sym c.in-Ok-Some.ensures ∙ c.in-Ok-Some.field-0-is in
    let serves = serve c.args.words.now c.in-Ok-Some.said is (λ e. true≢false (sym (c.is_sample.ensures.1 e) ∙ c.if-is_sample.false)) in
    rw c.refused-in-Err-prepare.ensures
    (record {
      headline = headline g.S.Source g.O.Sink g.P.Cells g.D.Cells (λ said. 1) _
          (unprepared g.S.Source g.O.Sink g.P.Cells g.D.Cells _ c.in-Ok-Some.said serves c.in-Err-prepare.ensures.prepares (not_called g.D.Cells c.args.base) (not_called g.P.Cells c.args.post) (refl, refl))
          (refused_risen _ _ _ c.in-Err-prepare.status c.in-Err-prepare.ensures.prepares) (λ no. c.in-Err-prepare.ensures.unread (λ run. no (c.in-Ok-Some.said, is, run)))
          (λ none. absurd (not_apart c.args.words.now c.in-Ok-Some.said serves none));
    })

pub returns-in-Err : goal.returns-in-Err
returns-in-Err g c =
    rw c.refused-in-Err.ensures
    (record {
      headline = headline g.S.Source g.O.Sink g.P.Cells g.D.Cells (λ said. 1) _
          (record { shows = tt; base_kept = not_called g.D.Cells c.args.base; post_kept = not_called g.P.Cells c.args.post; prints = prints_short _ 0 _ _ (refl, refl) })
          tt (λ no. refl) (λ none. record { script = refl; settings = refl; lines = refl; base = refl; post = refl });
    })

pub returns-then-is_sample : goal.returns-then-is_sample
returns-then-is_sample g c =
    record {
      headline = headline g.S.Source g.O.Sink g.P.Cells g.D.Cells (λ said. 1) _
          (sampled g.S.Source g.O.Sink g.P.Cells g.D.Cells _ c.in-Ok-Some.said (sym c.in-Ok-Some.ensures ∙ c.in-Ok-Some.field-0-is) (c.is_sample.ensures.0 c.if-is_sample.true)
          c.sample-status.ensures.prints (not_called g.D.Cells c.args.base) (not_called g.P.Cells c.args.post))
          (sample_risen _ _ _ _ _ _ _ c.sample-status.ensures.prints c.sample-status.ensures.risen) (λ no. refl) (λ none. record { script = refl; settings = refl; lines = refl; base = refl; post = refl });
    }
