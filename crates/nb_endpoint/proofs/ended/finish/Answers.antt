use Rattle.std.proofs.Common.{◌≡◌, ℕ, ◌<◌, ◌∙◌, sym, ap, subst, arith}
use Rattle.nb_core.specs.declared.history.History.{History}
use Rattle.nb_endpoint.specs.Left.{AreLeft}
use Rattle.nb_hub.specs.Kept.{seen}
use Rattle.nb_hub.specs.Ledgers.{past_of}
use Rattle.nb_endpoint.proofs.Finishing.{standing_new, history_met, finished, risen_finish, stores_left}
use Rattle.nb_endpoint.proofs.ended.finish.Goals as goal

pub work-done-requires-clause-standing : goal.work-done-requires-clause-standing
work-done-requires-clause-standing g c =
    let p = past_of (g.M.Handling.meaning c.args.hub.handlers) c.args.hub.course in
    let one = c.requires.one in
    standing_new p.fixed p.events c.requires.none (omega (arith, one)) c.legal.ensures

pub end-worked-requires : goal.end-worked-requires
end-worked-requires g c =
    let p = past_of (g.M.Handling.meaning c.args.hub.handlers) c.args.hub.course in
    let q = past_of (g.M.Handling.meaning c.work-done.new.hub.handlers) c.work-done.new.hub.course in
    history_met c.args.said.command c.args.task.now.messages c.args.task.now.until c.work-done.result p q c.close-post.result.history.events c.requires.none
    (ap (λ (h : History). h.events) (sym c.close-post.ensures.history)) c.work-done.ensures.works

pub returns-clause-finished : goal.returns-clause-finished
returns-clause-finished g c = λ a new.
    let p = past_of (g.M.Handling.meaning c.args.hub.handlers) c.args.hub.course in
    let q = past_of (g.M.Handling.meaning c.work-done.new.hub.handlers) c.work-done.new.hub.course in
    finished 1 a c.args.said c.args.task.now p q c.close-post.result.history c.work-done.result new c.work-done.ensures.works c.close-post.ensures.legal c.close-post.ensures.history
    c.close-post.result.state c.end-worked.result (g.O.Sink.held c.args.out.now) (g.O.Sink.held c.end-worked.new.out) (g.O.Sink.count c.args.out.now) (g.O.Sink.count c.end-worked.new.out)
    c.close-post.ensures.state c.end-worked.ensures

pub returns-clause-risen : goal.returns-clause-risen
returns-clause-risen g c =
    let p = past_of (g.M.Handling.meaning c.args.hub.handlers) c.args.hub.course in
    let q = past_of (g.M.Handling.meaning c.work-done.new.hub.handlers) c.work-done.new.hub.course in
    risen_finish c.args.said.command c.args.task.now.messages c.args.task.now.until c.work-done.result p q c.close-post.result.history c.args.said.turns c.close-post.result.state c.end-worked.result
    (g.O.Sink.held c.args.out.now) (g.O.Sink.held c.end-worked.new.out) (g.D.Cells.count c.close-post.result.base) (g.P.Cells.count c.close-post.result.post)
    (g.O.Sink.count c.args.out.now) (g.O.Sink.count c.end-worked.new.out)
    c.requires.none c.work-done.ensures.works c.close-post.ensures.history c.close-post.ensures.counted c.end-worked.ensures

pub returns-clause-left : goal.returns-clause-left
returns-clause-left g c = λ a start new stands.
    let p = past_of (g.M.Handling.meaning c.args.hub.handlers) c.args.hub.course in
    let q = past_of (g.M.Handling.meaning c.work-done.new.hub.handlers) c.work-done.new.hub.course in
    let left = stores_left 1 a c.args.said c.args.task.now p q c.close-post.result.history c.work-done.result new c.work-done.ensures.works c.close-post.ensures.legal c.close-post.ensures.history
    g.P.Cells g.D.Cells c.work-done.new.hub.base c.work-done.new.hub.post start (c.work-done.ensures.stands start stands) in
    subst (λ (x : g.row.P.Denot × g.row.D.Denot). AreLeft g.P.Cells g.D.Cells start a c.close-post.result.history x.0 x.1)
    (λ i. (sym c.close-post.ensures.post i, sym c.close-post.ensures.base i)) left
