use Rattle.std.proofs.Common.{◌≡◌, ◌∙◌, ◌∷◌, ◌++◌, [], sym, ap, subst, fold, map as map_list, rules}
use Rattle.std.proofs.lemmas.List.{map-append}
use Rattle.std.proofs.lemmas.Map.Iter.{iter_end, rest_so_far}
use Rattle.std.specs.FinMap as map
use Rattle.std.specs.Map.Iter.{deref_pair}
use Rattle.nb_hub.proofs.Indexing.{none_seated, indexed_noted}
use Rattle.nb_hub.proofs.Starts.{none_indexed, none_held, free_noted}
use Rattle.nb_hub.specs.Indexed.{IsIndexed}
use Rattle.nb_hub.specs.Starting.{AreFree}
use Rattle.nb_queue.proofs.FoldLaws.{with_one, one_more, none_before, fold-entries}
use Rattle.nb_hub.proofs.start.index_of.Goals as goal

pub note-requires : goal.note-requires
note-requires c =
    let start : c.into_iter-number-iterator.result ≡ map.entries c.args.entries.now = search rules in
    let all : map.entries c.args.entries.now ≡ map_list deref_pair c.loop-number.yielded ++ (c.in-Some.number.now, c.in-Some.entry.now) ∷ c.next.new.self =
    sym start ∙ rest_so_far deref_pair c.loop-number.yielded _ _ c.loop-number.yielded_by ∙ ap (λ es. map_list deref_pair c.loop-number.yielded ++ es) c.in-Some.ensures.steps in
    none_seated c.args.own.now _ c.loop-number.ready c.in-Some.number.now c.loop-number.invariant.indexed (none_before c.args.entries.now _ _ _ all)

pub loop-number-init : goal.loop-number-init
loop-number-init c = record {
  indexed = subst (IsIndexed c.args.own.now map.empty) (sym c.new-ready.ensures) (none_indexed c.args.own.now);
  free = subst AreFree (sym c.new-ready.ensures) none_held;
}

pub loop-number-preserved : goal.loop-number-preserved
loop-number-preserved c =
    let before = fold with_one map.empty (map_list deref_pair c.loop-number.yielded) in
    let more : fold with_one map.empty (map_list deref_pair (c.loop-number.yielded ++ (c.in-Some.number, c.in-Some.entry) ∷ [])) ≡ map.insert before c.in-Some.number.now c.in-Some.entry.now =
    ap (fold with_one map.empty) (map-append deref_pair c.loop-number.yielded _) ∙ one_more map.empty (map_list deref_pair c.loop-number.yielded) (c.in-Some.number.now, c.in-Some.entry.now) in
    let start : c.into_iter-number-iterator.result ≡ map.entries c.args.entries.now = search rules in
    let all : map.entries c.args.entries.now ≡ map_list deref_pair c.loop-number.yielded ++ (c.in-Some.number.now, c.in-Some.entry.now) ∷ c.next.new.self =
    sym start ∙ rest_so_far deref_pair c.loop-number.yielded _ _ c.loop-number.yielded_by ∙ ap (λ es. map_list deref_pair c.loop-number.yielded ++ es) c.in-Some.ensures.steps in
    let added = indexed_noted c.args.own.now before c.loop-number.ready c.in-Some.number.now c.in-Some.entry.now c.loop-number.invariant.indexed (none_before c.args.entries.now _ _ _ all) in
    record {
      indexed = subst (λ m. IsIndexed c.args.own.now m c.note.new.ready) (sym more) (subst (IsIndexed c.args.own.now (map.insert before c.in-Some.number.now c.in-Some.entry.now)) (sym c.in_ok-note.ensures.ok) added);
      free = subst AreFree (sym c.in_ok-note.ensures.ok) (free_noted c.args.own.now c.loop-number.ready c.in-Some.number.now c.in-Some.entry.now.queue c.in-Some.entry.now.due c.loop-number.invariant.free);
    }

pub returns-clause-indexed : goal.returns-clause-indexed
returns-clause-indexed c =
    let all : map_list deref_pair c.loop-number.yielded ≡ map.entries c.args.entries.now = search (rules, iter_end) in
    subst (λ m. IsIndexed c.args.own.now m c.loop-number.ready) (ap (fold with_one map.empty) all ∙ fold-entries c.args.entries.now) c.loop-number.invariant.indexed
