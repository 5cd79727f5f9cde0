use Rattle.std.proofs.Common.{◌≡◌, MatchResult, IfErr, Ok, Err, sym, subst}
use Rattle.nb_hub.proofs.Starts.{misfit_refuses}
use Rattle.nb_hub.specs.Starting.{IsMisfitOf, Told, RefusesBase}
use Rattle.nb_store.specs.Scanning.{Opens}
use Rattle.nb_hub.proofs.start.open_base.Goals as goal

pub returns-in-Ok-clause-opened : goal.returns-in-Ok-clause-opened
returns-in-Ok-clause-opened g c m =
    let meaning = g.M.Handling.meaning c.args.handlers.now in
    elim c.with_tables.result as (λ x. MatchResult x (λ o. o.store ≡ c.in-Ok.store) (λ r. r.base ≡ c.in-Ok.store.base) → IfErr x (λ r. IsMisfitOf meaning c.in-Ok.store.tables r.fault)
    → MatchResult x (λ o. Told g.D.Cells.honest g.D.Cells.now g.D.Cells.firm c.args.base o.store.base m → Opens m o.store.tables) (λ r. Told g.D.Cells.honest g.D.Cells.now g.D.Cells.firm c.args.base r.base m → RefusesBase meaning m r.fault)) [
      | Ok o ↦ λ same misfit. subst (λ s. Told g.D.Cells.honest g.D.Cells.now g.D.Cells.firm c.args.base s.base m → Opens m s.tables) (sym same) (λ told. c.in-Ok.ensures.opened m told.honest_is told.firm_is told.now_is)
      | Err r ↦ λ same misfit told.
          let at = subst (λ b. Told g.D.Cells.honest g.D.Cells.now g.D.Cells.firm c.args.base b m) same told in
          misfit_refuses meaning m c.in-Ok.store.tables r.fault misfit (c.in-Ok.ensures.opened m at.honest_is at.firm_is at.now_is)
    ] c.with_tables.ensures.store c.with_tables.ensures.misfit
