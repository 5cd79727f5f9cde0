use Rattle.std.proofs.Common.{◌≡◌, [], false, MatchResult, IfOk, IfErr, Ok, Err, sym, ap, subst}
use Rattle.nb_hub.proofs.Starts.{base_by_post, base_first, post_first}
use Rattle.nb_hub.specs.Ledgers.{course, past_of}
use Rattle.nb_hub.specs.Starting.{opening_of, IsRead, Told, TellsOne, RefusesBase, IsOfPost}
use Rattle.nb_hub.specs.Stores.{BaseStands, PostStands}
use Rattle.nb_hub.specs.declared.ledger.Course.{Course}
use Rattle.nb_queue.specs.Maps as queue
use Rattle.nb_store.specs.CellMaps as table
use Rattle.nb_hub.proofs.hub.Hub.start.Goals as goal

pub returns-in-Ok-clause-base_cells : goal.returns-in-Ok-clause-base_cells
returns-in-Ok-clause-base_cells g c m =
    elim c.with_base.result as (λ x. MatchResult x (λ h. h.base ≡ c.in-Ok.opened.store.base) (λ r. r.base ≡ c.in-Ok.opened.store.base)
    → IfOk x (λ h. h.course ≡ course c.args.settings c.args.turns (opening_of c.in-Ok.opened.store.tables h.course.opening.post c.args.moment c.args.workers) (g.D.Cells.count c.in-Ok.opened.store.base) (g.P.Cells.count h.post) [] false)
    → IfOk x (λ h. Told g.D.Cells.honest g.D.Cells.now g.D.Cells.firm c.args.base h.base m → table.HasCells m h.course.opening.tables)) [
      | Ok h ↦ λ same is told. subst (table.HasCells m) (sym (ap (λ (k : Course). k.opening.tables) is)) (c.in-Ok.ensures.cells m (subst (λ b. Told g.D.Cells.honest g.D.Cells.now g.D.Cells.firm c.args.base b m) same told))
      | Err r ↦ λ same is. tt
    ] c.with_base.ensures.base c.with_base.ensures.course

pub returns-in-Ok-clause-base_stands : goal.returns-in-Ok-clause-base_stands
returns-in-Ok-clause-base_stands g c m =
    elim c.with_base.result as (λ x. MatchResult x (λ h. h.base ≡ c.in-Ok.opened.store.base) (λ r. r.base ≡ c.in-Ok.opened.store.base)
    → IfOk x (λ h. h.course ≡ course c.args.settings c.args.turns (opening_of c.in-Ok.opened.store.tables h.course.opening.post c.args.moment c.args.workers) (g.D.Cells.count c.in-Ok.opened.store.base) (g.P.Cells.count h.post) [] false)
    → IfOk x (λ h. TellsOne g.D.Cells.now g.D.Cells.images g.D.Cells.firm c.args.base m → BaseStands g.D.Cells.honest g.D.Cells.now g.D.Cells.images g.D.Cells.firm h.base (past_of (g.M.Handling.meaning h.handlers) h.course))) [
      | Ok h ↦ λ same is tells.
          base_first c.args.base h.base (g.M.Handling.meaning h.handlers) h.course c.args.settings c.args.turns (g.D.Cells.count c.in-Ok.opened.store.base) (g.P.Cells.count h.post) (opening_of c.in-Ok.opened.store.tables h.course.opening.post c.args.moment c.args.workers) m is
          (subst (λ b. IsRead g.D.Cells.honest g.D.Cells.now g.D.Cells.images g.D.Cells.firm g.D.Cells.count c.args.base b) (sym same) c.in-Ok.ensures.read) tells
          (λ told. c.in-Ok.ensures.cells m (subst (λ b. Told g.D.Cells.honest g.D.Cells.now g.D.Cells.firm c.args.base b m) same told))
      | Err r ↦ λ same is. tt
    ] c.with_base.ensures.base c.with_base.ensures.course

pub returns-in-Ok-clause-post_stands : goal.returns-in-Ok-clause-post_stands
returns-in-Ok-clause-post_stands g c m =
    elim c.with_base.result as (λ x. MatchResult x (λ h. IsRead g.P.Cells.honest g.P.Cells.now g.P.Cells.images g.P.Cells.firm g.P.Cells.count c.args.post h.post) (λ r. IsRead g.P.Cells.honest g.P.Cells.now g.P.Cells.images g.P.Cells.firm g.P.Cells.count c.args.post r.post)
    → IfOk x (λ h. h.course ≡ course c.args.settings c.args.turns (opening_of c.in-Ok.opened.store.tables h.course.opening.post c.args.moment c.args.workers) (g.D.Cells.count c.in-Ok.opened.store.base) (g.P.Cells.count h.post) [] false)
    → IfOk x (λ h. Told g.P.Cells.honest g.P.Cells.now g.P.Cells.firm c.args.post h.post m → queue.HasCells m h.course.opening.post)
    → IfOk x (λ h. TellsOne g.P.Cells.now g.P.Cells.images g.P.Cells.firm c.args.post m → PostStands g.P.Cells.honest g.P.Cells.now g.P.Cells.images g.P.Cells.firm h.post (past_of (g.M.Handling.meaning h.handlers) h.course))) [
      | Ok h ↦ λ read is cells tells.
          post_first c.args.post h.post (g.M.Handling.meaning h.handlers) h.course c.args.settings c.args.turns (g.D.Cells.count c.in-Ok.opened.store.base) (g.P.Cells.count h.post) (opening_of c.in-Ok.opened.store.tables h.course.opening.post c.args.moment c.args.workers) m is read tells cells
      | Err r ↦ λ read is cells. tt
    ] c.with_base.ensures.read c.with_base.ensures.course (c.with_base.ensures.cells m)

pub returns-in-Ok-clause-base_refused : goal.returns-in-Ok-clause-base_refused
returns-in-Ok-clause-base_refused g c m =
    elim c.with_base.result as (λ x. MatchResult x (λ h. h.base ≡ c.in-Ok.opened.store.base) (λ r. r.base ≡ c.in-Ok.opened.store.base) → IfErr x (λ r. IsOfPost r.fault)
    → IfErr x (λ r. Told g.D.Cells.honest g.D.Cells.now g.D.Cells.firm c.args.base r.base m → RefusesBase (g.M.Handling.meaning c.args.handlers) m r.fault)) [
      | Ok h ↦ λ same kind. tt
      | Err r ↦ λ same kind told.
          let at = subst (λ b. Told g.D.Cells.honest g.D.Cells.now g.D.Cells.firm c.args.base b m) same told in
          base_by_post (g.M.Handling.meaning c.args.handlers) m c.in-Ok.opened.store.tables r.fault kind (c.in-Ok.ensures.opened m at) c.in-Ok.ensures.fit
    ] c.with_base.ensures.base c.with_base.ensures.kind
