use Rattle.std.proofs.Common.{◌≡◌, ◌∙◌, ◌++◌, sym, ap, map as map_list, rules}
use Rattle.std.proofs.lemmas.List.{map-append}
use Rattle.std.specs.FinMap as map
use Rattle.std.specs.List.{filter_map}
use Rattle.std.specs.Option.{option_to_list}
use Rattle.std.specs.Map.Iter.{deref_pair}
use Rattle.std.proofs.lemmas.Map.Iter.{iter_end}
use Rattle.nb_store.specs.Lookups.{going}
use Rattle.nb_store.proofs.LookupLaws.{going_next}
use Rattle.nb_store.proofs.lookups.purgeable.Goals as goal

pub loop-id-preserved : goal.loop-id-preserved
loop-id-preserved c =
    c.in_ok-add_going.ensures
    ∙ ap (λ list. list ++ option_to_list (going c.args.retention c.args.m (c.in-Some.id.now, c.in-Some.row.now))) c.loop-id.invariant
    ∙ sym (going_next c.args.retention c.args.m (map_list deref_pair c.loop-id.yielded) (c.in-Some.id.now, c.in-Some.row.now))
    ∙ ap (filter_map (going c.args.retention c.args.m)) (sym (map-append deref_pair c.loop-id.yielded _))

pub returns : goal.returns
returns c =
    let all : map_list deref_pair c.loop-id.yielded ≡ map.entries c.args.records.now = search (rules, iter_end) in
    c.loop-id.invariant ∙ ap (filter_map (going c.args.retention c.args.m)) all
