use Rattle.std.proofs.Common.{◌≡◌, ◌∙◌, ◌++◌, sym, ap, map as map_list, rules}
use Rattle.std.proofs.lemmas.List.{map-append}
use Rattle.std.specs.FinMap as map
use Rattle.std.specs.List.{filter_map}
use Rattle.std.specs.Option.{option_to_list}
use Rattle.std.specs.Map.Iter.{deref_pair}
use Rattle.std.proofs.lemmas.Map.Iter.{iter_end}
use Rattle.nb_queue.specs.Listed.{waiting_in}
use Rattle.nb_queue.proofs.ListedLaws.{one_listed}
use Rattle.nb_queue.proofs.listed.waiting.Goals as goal

pub loop-number-preserved : goal.loop-number-preserved
loop-number-preserved c =
    c.in_ok-add_waiting.ensures
    ∙ ap (λ list. list ++ option_to_list (waiting_in (c.in-Some.number.now, c.in-Some.entry.now))) c.loop-number.invariant
    ∙ sym (one_listed waiting_in (map_list deref_pair c.loop-number.yielded) (c.in-Some.number.now, c.in-Some.entry.now))
    ∙ ap (filter_map waiting_in) (sym (map-append deref_pair c.loop-number.yielded _))

pub returns : goal.returns
returns c =
    let all : map_list deref_pair c.loop-number.yielded ≡ map.entries c.args.entries.now = search (rules, iter_end) in
    c.loop-number.invariant ∙ ap (filter_map waiting_in) all
