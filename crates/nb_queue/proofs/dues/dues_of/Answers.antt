use Rattle.std.proofs.Common.{◌≡◌, ◌∙◌, ◌∷◌, ◌++◌, [], sym, ap, subst, fold, map as map_list, rules}
use Rattle.std.proofs.lemmas.List.{map-append}
use Rattle.std.proofs.lemmas.Map.Iter.{iter_end, rest_so_far}
use Rattle.std.specs.FinMap as map
use Rattle.std.specs.Map.Iter.{deref_pair}
use Rattle.nb_queue.specs.Dues.{HasDues, seat_of}
use Rattle.nb_queue.proofs.DuesLaws.{dues_none, dues_added}
use Rattle.nb_queue.proofs.FoldLaws.{with_one, one_more, none_before, fold-entries}
use Rattle.nb_queue.proofs.dues.dues_of.Goals as goal

pub note-requires : goal.note-requires
note-requires c =
    let start : c.into_iter-number-iterator.result ≡ map.entries c.args.entries.now = search rules in
    let all : map.entries c.args.entries.now ≡ map_list deref_pair c.loop-number.yielded ++ (c.in-Some.number.now, c.in-Some.entry.now) ∷ c.next.new.self =
    sym start ∙ rest_so_far deref_pair c.loop-number.yielded _ _ c.loop-number.yielded_by ∙ ap (λ es. map_list deref_pair c.loop-number.yielded ++ es) c.in-Some.ensures.steps in
    c.loop-number.invariant c.in-Some.number.now ∙ ap seat_of (none_before c.args.entries.now _ _ _ all)

pub loop-number-init : goal.loop-number-init
loop-number-init c = subst (HasDues map.empty) (sym c.new-dues.ensures) dues_none

pub loop-number-preserved : goal.loop-number-preserved
loop-number-preserved c =
    let before = fold with_one map.empty (map_list deref_pair c.loop-number.yielded) in
    let more : fold with_one map.empty (map_list deref_pair (c.loop-number.yielded ++ (c.in-Some.number, c.in-Some.entry) ∷ [])) ≡ map.insert before c.in-Some.number.now c.in-Some.entry.now =
    ap (fold with_one map.empty) (map-append deref_pair c.loop-number.yielded _) ∙ one_more map.empty (map_list deref_pair c.loop-number.yielded) (c.in-Some.number.now, c.in-Some.entry.now) in
    let start : c.into_iter-number-iterator.result ≡ map.entries c.args.entries.now = search rules in
    let all : map.entries c.args.entries.now ≡ map_list deref_pair c.loop-number.yielded ++ (c.in-Some.number.now, c.in-Some.entry.now) ∷ c.next.new.self =
    sym start ∙ rest_so_far deref_pair c.loop-number.yielded _ _ c.loop-number.yielded_by ∙ ap (λ es. map_list deref_pair c.loop-number.yielded ++ es) c.in-Some.ensures.steps in
    let added = dues_added before c.loop-number.dues c.in-Some.number.now c.in-Some.entry.now c.loop-number.invariant (none_before c.args.entries.now _ _ _ all) in
    subst (λ m. HasDues m c.note.new.dues) (sym more) (subst (HasDues (map.insert before c.in-Some.number.now c.in-Some.entry.now)) (sym c.in_ok-note.ensures.ok) added)

pub returns : goal.returns
returns c =
    let all : map_list deref_pair c.loop-number.yielded ≡ map.entries c.args.entries.now = search (rules, iter_end) in
    subst (λ m. HasDues m c.loop-number.dues) (ap (fold with_one map.empty) all ∙ fold-entries c.args.entries.now) c.loop-number.invariant
