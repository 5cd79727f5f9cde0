use Rattle.std.proofs.Common.{◌≡◌, [], false, MatchResult, IfOk, Ok, Err, sym, ap, subst}
use Rattle.nb_hub.specs.Ledgers.{course}
use Rattle.nb_hub.specs.Starting.{opening_of, IsRead, Told}
use Rattle.nb_hub.specs.declared.ledger.Course.{Course}
use Rattle.nb_queue.specs.Maps as queue
use Rattle.nb_hub.proofs.start.Terms.with_base.Goals as goal

pub returns-in-Ok-clause-read : goal.returns-in-Ok-clause-read
returns-in-Ok-clause-read g c =
    let read : IsRead g.P.Cells.honest g.P.Cells.now g.P.Cells.images g.P.Cells.firm g.P.Cells.count c.args.post c.in-Ok.queues.cells =
    record { honest_before = c.in-Ok.ensures.honest_before; kept_firm = c.in-Ok.ensures.kept_firm; kept = c.in-Ok.ensures.kept; fewer = c.in-Ok.ensures.images; later = c.in-Ok.ensures.later } in
    elim c.with_stores.result as (λ x. MatchResult x (λ h. h.post ≡ c.in-Ok.queues.cells) (λ r. r.post ≡ c.in-Ok.queues.cells)
    → MatchResult x (λ h. IsRead g.P.Cells.honest g.P.Cells.now g.P.Cells.images g.P.Cells.firm g.P.Cells.count c.args.post h.post) (λ r. IsRead g.P.Cells.honest g.P.Cells.now g.P.Cells.images g.P.Cells.firm g.P.Cells.count c.args.post r.post)) [
      | Ok h ↦ λ same. subst (λ b. IsRead g.P.Cells.honest g.P.Cells.now g.P.Cells.images g.P.Cells.firm g.P.Cells.count c.args.post b) (sym same) read
      | Err r ↦ λ same. subst (λ b. IsRead g.P.Cells.honest g.P.Cells.now g.P.Cells.images g.P.Cells.firm g.P.Cells.count c.args.post b) (sym same) read
    ] c.with_stores.ensures.post

pub returns-in-Ok-clause-cells : goal.returns-in-Ok-clause-cells
returns-in-Ok-clause-cells g c m =
    elim c.with_stores.result as (λ x. MatchResult x (λ h. h.post ≡ c.in-Ok.queues.cells) (λ r. r.post ≡ c.in-Ok.queues.cells)
    → IfOk x (λ h. h.course ≡ course c.args.self.settings c.args.self.turns (opening_of c.args.opened.store.tables c.in-Ok.queues.queues c.args.self.moment c.args.self.workers) (g.D.Cells.count c.args.opened.store.base) (g.P.Cells.count c.in-Ok.queues.cells) [] false)
    → IfOk x (λ h. Told g.P.Cells.honest g.P.Cells.now g.P.Cells.firm c.args.post h.post m → queue.HasCells m h.course.opening.post)) [
      | Ok h ↦ λ same is told.
          let at = subst (λ b. Told g.P.Cells.honest g.P.Cells.now g.P.Cells.firm c.args.post b m) same told in
          subst (queue.HasCells m) (sym (ap (λ (k : Course). k.opening.post) is)) (c.in-Ok.ensures.opened m at.honest_is at.firm_is at.now_is)
      | Err r ↦ λ same is. tt
    ] c.with_stores.ensures.post c.with_stores.ensures.course
