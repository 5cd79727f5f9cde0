use Rattle.std.proofs.Common.{◌≡◌, Option, Some, None, List, ℕ, subst}
use Rattle.std.specs.FinMap as map
use Rattle.nb_base.specs.declared.tables.Tables.{Tables}
use Rattle.nb_hub.proofs.Starts.{all_fit}
use Rattle.nb_hub.specs.Starting.{IsLeastMisfit}
use Rattle.nb_hub.proofs.start.fitting.Goals as goal

pub least_misfit-requires : goal.least_misfit-requires
least_misfit-requires g c =
    (c.args.store.now.tables.commits, λ place row there. c.commits-sound.ensures.sound.base.sagas place row (subst (λ (t : Tables). map.get t.sagas place ≡ Some row) c.in_ok-tables.ensures there))

pub returns-in-None-clause-fit : goal.returns-in-None-clause-fit
returns-in-None-clause-fit g c =
    let meaning = g.M.Handling.meaning c.args.handlers.now in
    let none = subst (λ (o : Option (List ℕ)). IsLeastMisfit meaning (map.entries c.in_ok-tables.tables.sagas) o) c.in-None.is c.in_ok-least_misfit.ensures in
    all_fit meaning c.args.store.now.tables (subst (λ (t : Tables). IsLeastMisfit meaning (map.entries t.sagas) None) c.in_ok-tables.ensures none)
