use Rattle.std.proofs.Common.{◌≡◌, ◌∙◌, ◌++◌, sym, ap, map as map_list, rules}
use Rattle.std.proofs.lemmas.List.{map-append}
use Rattle.std.specs.FinMap as map
use Rattle.std.specs.List.{filter_map}
use Rattle.std.specs.Option.{option_to_list}
use Rattle.std.specs.Map.Iter.{deref_pair}
use Rattle.std.proofs.lemmas.Map.Iter.{iter_end}
use Rattle.nb_hub.specs.Returnable.{returning}
use Rattle.nb_hub.proofs.Listing.{one_listed}
use Rattle.nb_hub.proofs.closing.returning_of.Goals as goal

pub loop-number-preserved : goal.loop-number-preserved
loop-number-preserved c =
    c.in_ok-add_returning.ensures
    ∙ ap (λ list. list ++ option_to_list (returning c.args.error.now (c.in-Some.number.now, c.in-Some.entry.now))) c.loop-number.invariant
    ∙ sym (one_listed (returning c.args.error.now) (map_list deref_pair c.loop-number.yielded) (c.in-Some.number.now, c.in-Some.entry.now))
    ∙ ap (filter_map (returning c.args.error.now)) (sym (map-append deref_pair c.loop-number.yielded _))

pub returns : goal.returns
returns c =
    let all : map_list deref_pair c.loop-number.yielded ≡ map.entries c.args.entries.now = search (rules, iter_end) in
    c.loop-number.invariant ∙ ap (filter_map (returning c.args.error.now)) all
