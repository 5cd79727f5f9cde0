-- Settings without a fault have a route for each message that is sent.
use Rattle.std.proofs.Common.{◌≡◌, List, ℕ, true, true≢false, Option, Some, None, refl, sym, ap, ◌∙◌}
use Rattle.std.specs.Prelude.{find, bytes_eq, is_some, option_map}
use Rattle.nb_base.specs.declared.route.Route.{Route}
use Rattle.nb_base.specs.declared.settings.Settings.{Settings}
use Rattle.nb_check.specs.Sends.{sends}
use Rattle.nb_core.specs.Legal.{HasRoutes}
use Rattle.nb_dispatch.specs.Dispatches.{route_of}
use Rattle.nb_eval.specs.Meanings.{meaning_of}
use Rattle.nb_script.specs.Grammar.{ItemTerm}
use Rattle.nb_settings.specs.Missing.{AreRouted, has_route}

found : (routes : List Route) (name : List ℕ) → has_route routes name ≡ true → (queue : List ℕ) × (route_of routes name ≡ Some queue)
found routes name h = go (find (λ (r : Route). bytes_eq name r.name) routes) refl
  where
    go : (o : Option Route) → find (λ (r : Route). bytes_eq name r.name) routes ≡ o → (queue : List ℕ) × (route_of routes name ≡ Some queue)
    go None is = absurd (true≢false (sym h ∙ ap is_some is))
    go (Some r) is = (r.queue, ap (option_map (λ (r : Route). r.queue)) is)

pub routes_of : (items : List ItemTerm) (settings : Settings) → AreRouted settings.routes (sends items) → HasRoutes (record { meaning = meaning_of items; settings = settings })
routes_of items settings routed name among = found settings.routes name (routed name among)
