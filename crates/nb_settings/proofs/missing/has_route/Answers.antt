use Rattle.std.proofs.Common.{◌∙◌, rules, nat_cmp}
use Rattle.std.specs.Cmp.Lexicographic.{slice_cmp}
use Rattle.std.proofs.lemmas.Fn.{always_returns_same}
use Rattle.nb_base.specs.declared.route.Route.{Route}
use Rattle.nb_settings.proofs.Searched.{searched, routes_rise}
use Rattle.nb_settings.proofs.missing.has_route.Goals as goal

pub returns : goal.returns
returns c =
    let facts = c.binary_search_by.ensures in
    let settings = c.args.settings.now in
    let rise = routes_rise settings.endpoint settings.error settings.immediate settings.delayed settings.increase settings.retention settings.routes settings.subscribers settings.policies settings.sound in
    let by_name = facts.position (λ (route : Route). slice_cmp nat_cmp route.name c.args.name.now) (always_returns_same _ _ _ (λ a r f called. search rules)) in
    c.is_ok.ensures.value ∙ searched settings.routes c.args.name.now c.binary_search_by.result rise (rw c.as_slice.ensures at facts.bound) (rw c.as_slice.ensures at by_name)
