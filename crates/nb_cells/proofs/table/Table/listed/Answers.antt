use Rattle.std.proofs.Common.{◌≡◌, ◌∙◌, ◌++◌, sym, ap, map, rules}
use Rattle.std.proofs.lemmas.List.{map-append}
use Rattle.std.specs.List.{filter_map}
use Rattle.std.specs.Option.{option_to_list}
use Rattle.std.specs.Map.Iter.{deref_pair}
use Rattle.std.proofs.lemmas.Map.Iter.{iter_end}
use Rattle.nb_cells.specs.Slots.{cell_in}
use Rattle.nb_cells.specs.Table.{listed}
use Rattle.nb_cells.proofs.TableLaws.{listed-shown, filter_map-cell_in}
use Rattle.nb_cells.proofs.table.Table.listed.Goals as goal

pub loop-place-preserved : goal.loop-place-preserved
loop-place-preserved c =
    c.in_ok-add_asked.ensures
    ∙ ap (λ cells. cells ++ option_to_list (cell_in c.args.asked (c.in-Some.place.now, c.in-Some.slot.now))) c.loop-place.invariant
    ∙ sym (filter_map-cell_in c.args.asked (map deref_pair c.loop-place.yielded) (c.in-Some.place.now, c.in-Some.slot.now))
    ∙ ap (filter_map (cell_in c.args.asked)) (sym (map-append deref_pair c.loop-place.yielded _))

pub returns : goal.returns
returns c =
    let all : map deref_pair c.loop-place.yielded ≡ c.self.inside.slots.entries = search (rules, iter_end) in
    c.loop-place.invariant ∙ ap (filter_map (cell_in c.args.asked)) all ∙ listed-shown c.args.asked c.self.inside.slots.entries c.into_iter-place-iterator.ensures.into_iter_gives.5 ∙ ap (listed c.args.asked) c.self.view_is
