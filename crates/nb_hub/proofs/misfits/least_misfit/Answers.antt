use Rattle.std.proofs.Common.{◌≡◌, ◌∙◌, ◌∷◌, ◌++◌, [], Some, sym, ap, subst, map as map_list, rules}
use Rattle.std.proofs.lemmas.List.{map-append}
use Rattle.std.proofs.lemmas.Map.Iter.{iter_end, rest_so_far}
use Rattle.std.specs.FinMap as map
use Rattle.std.specs.Map.Iter.{deref_pair}
use Rattle.nb_base.specs.declared.saga_key.SagaKey.{SagaKey}
use Rattle.nb_base.specs.declared.saga_row.SagaRow.{SagaRow}
use Rattle.nb_base.proofs.Maps.{places}
use Rattle.nb_hub.proofs.Starts.{no_misfit, misfit_same, misfit_more, entry_stands}
use Rattle.nb_hub.specs.Starting.{IsLeastMisfit}
use Rattle.nb_hub.proofs.misfits.least_misfit.Goals as goal

pub key_of-requires : goal.key_of-requires
key_of-requires g c =
    let start : c.into_iter-place-iterator.result ≡ map.entries c.args.sagas.now = search rules in
    let all : map.entries c.args.sagas.now ≡ map_list deref_pair c.loop-place.yielded ++ (c.in-Some.place.now, c.in-Some.row.now) ∷ c.next.new.self =
    sym start ∙ rest_so_far deref_pair c.loop-place.yielded _ _ c.loop-place.yielded_by ∙ ap (λ es. map_list deref_pair c.loop-place.yielded ++ es) c.in-Some.ensures.steps in
    let sound = c.requires.1 c.in-Some.place.now c.in-Some.row.now (entry_stands places c.args.sagas.now _ _ _ all) in
    record { corr = sound.corr; kind = sound.kind; revision = sound.revision; names = sound.fields }

pub loop-place-init : goal.loop-place-init
loop-place-init g c = no_misfit (g.M.Handling.meaning c.args.handlers.now)

pub loop-place-preserved : goal.loop-place-preserved
loop-place-preserved g c =
    let meaning = g.M.Handling.meaning c.args.handlers.now in
    let e : SagaKey × SagaRow = (c.in-Some.place.now, c.in-Some.row.now) in
    let joined : map_list deref_pair (c.loop-place.yielded ++ (c.in-Some.place, c.in-Some.row) ∷ []) ≡ map_list deref_pair c.loop-place.yielded ++ e ∷ [] = map-append deref_pair c.loop-place.yielded _ in
    subst (λ es. IsLeastMisfit meaning es c.loop-place.least) (sym joined)
    (misfit_same meaning (map_list deref_pair c.loop-place.yielded) e c.loop-place.least c.loop-place.invariant (sym c.fits.ensures ∙ c.if-not-fits.false))

pub loop-place-preserved-then-not-fits : goal.loop-place-preserved-then-not-fits
loop-place-preserved-then-not-fits g c =
    let meaning = g.M.Handling.meaning c.args.handlers.now in
    let e : SagaKey × SagaRow = (c.in-Some.place.now, c.in-Some.row.now) in
    let key = c.in_ok-key.ensures in
    let joined : map_list deref_pair (c.loop-place.yielded ++ (c.in-Some.place, c.in-Some.row) ∷ []) ≡ map_list deref_pair c.loop-place.yielded ++ e ∷ [] = map-append deref_pair c.loop-place.yielded _ in
    subst (λ es. IsLeastMisfit meaning es (Some c.lesser.result)) (sym joined)
    (misfit_more meaning (map_list deref_pair c.loop-place.yielded) e c.loop-place.least c.in_ok-key.key c.lesser.result c.loop-place.invariant (sym c.fits.ensures ∙ c.if-not-fits.true) key c.lesser.ensures.one c.lesser.ensures.key c.lesser.ensures.least)

pub returns : goal.returns
returns g c =
    let all : map_list deref_pair c.loop-place.yielded ≡ map.entries c.args.sagas.now = search (rules, iter_end) in
    subst (λ es. IsLeastMisfit (g.M.Handling.meaning c.args.handlers.now) es c.loop-place.least) all c.loop-place.invariant
