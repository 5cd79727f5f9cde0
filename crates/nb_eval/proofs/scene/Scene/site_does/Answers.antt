use Rattle.std.proofs.Common.{◌≡◌, [], sym, ap, ◌∙◌, subst, Some, option_map}
use Rattle.std.specs.Option.{option_copied}
use Rattle.nb_script.specs.Tree.{script, item}
use Rattle.nb_check.specs.Declarations.{sagas}
use Rattle.nb_check.specs.Rules.{script_faults}
use Rattle.nb_check.specs.Sites.{block_in, site_block}
use Rattle.nb_check.proofs.SiteLaws.{block_here, no_part, some_part}
use Rattle.nb_eval.specs.Blocks.{IsDeclared, at_does}
use Rattle.nb_eval.specs.Statements.{Does}
use Rattle.nb_eval.specs.Worlds.{world_of}
use Rattle.nb_eval.proofs.CheckedBlocks.{declared_at}
use Rattle.nb_eval.proofs.scene.Scene.site_does.Goals as goal

pub part_does-requires-clause-declared : goal.part_does-requires-clause-declared
part_does-requires-clause-declared c =
    let v = c.items.ensures.value in
    let x = c.in-Some-Saga.field-0.now in
    let there = c.in-Some-Saga.ensures.lookup in
    let d : IsDeclared (sagas (script c.items.result.now)) (item x) =
    declared_at c.items.result.now c.args.site.now.item x (subst (λ xs. script_faults (script xs) ≡ []) (sym v) c.items.ensures.rules) there.3.0 there.1 in
    subst (λ y. IsDeclared (sagas (script c.args.c.now)) (item y)) c.in-Some-Saga.field-0-is (subst (λ xs. IsDeclared (sagas (script xs)) (item x)) v d)

pub returns-in-Some-Handler : goal.returns-in-Some-Handler
returns-in-Some-Handler c =
    let n = c.args.site.now.part in
    let e = ap (λ xs. site_block (script xs) c.args.site.now) (sym c.items.ensures.value) ∙ block_here c.items.result.now c.args.site.now c.get.result c.get.ensures.lookup
    ∙ ap (λ r. block_in n (option_map item (option_copied r))) c.in-Some-Handler.is ∙ ap (λ i. block_in n (Some (item i))) c.in-Some-Handler.field-0-is in
    subst (λ o. Does c.in_block.result c.in_block.new.state (at_does (sagas (script c.args.c.now)) c.args.place o (world_of c.args.self.now) c.args.state.now)) (sym e) c.in_block.ensures

pub returns-in-Some : goal.returns-in-Some
returns-in-Some c =
    let n = c.args.site.now.part in
    let e = ap (λ xs. site_block (script xs) c.args.site.now) (sym c.items.ensures.value) ∙ block_here c.items.result.now c.args.site.now c.get.result c.get.ensures.lookup
    ∙ ap (λ r. block_in n (option_map item (option_copied r))) c.in-Some-Saga.is ∙ ap (λ i. block_in n (Some (item i))) c.in-Some-Saga.field-0-is
    ∙ some_part c.in-Some-Saga.saga n c.as_slice.result.now c.get-in-Some-Saga.result c.in-Some.p c.as_slice.ensures c.get-in-Some-Saga.ensures.lookup c.in-Some.is in
    subst (λ o. Does c.part_does.result c.part_does.new.state (at_does (sagas (script c.args.c.now)) c.args.place o (world_of c.args.self.now) c.args.state.now)) (sym e) c.part_does.ensures

pub returns-in-None-get : goal.returns-in-None-get
returns-in-None-get c =
    let n = c.args.site.now.part in
    ap (λ o. at_does (sagas (script c.args.c.now)) c.args.place o (world_of c.args.self.now) c.args.state.now)
    (ap (λ xs. site_block (script xs) c.args.site.now) (sym c.items.ensures.value) ∙ block_here c.items.result.now c.args.site.now c.get.result c.get.ensures.lookup
    ∙ ap (λ r. block_in n (option_map item (option_copied r))) c.in-Some-Saga.is ∙ ap (λ i. block_in n (Some (item i))) c.in-Some-Saga.field-0-is
    ∙ no_part c.in-Some-Saga.saga n c.as_slice.result.now c.get-in-Some-Saga.result c.as_slice.ensures c.get-in-Some-Saga.ensures.lookup c.in-None-get.is)

pub returns-in-Some-Message : goal.returns-in-Some-Message
returns-in-Some-Message c =
    let n = c.args.site.now.part in
    ap (λ o. at_does (sagas (script c.args.c.now)) c.args.place o (world_of c.args.self.now) c.args.state.now)
    (ap (λ xs. site_block (script xs) c.args.site.now) (sym c.items.ensures.value) ∙ block_here c.items.result.now c.args.site.now c.get.result c.get.ensures.lookup
    ∙ ap (λ r. block_in n (option_map item (option_copied r))) c.in-Some-Message.is ∙ ap (λ i. block_in n (Some (item i))) c.in-Some-Message.field-0-is)

pub returns-in-None : goal.returns-in-None
returns-in-None c =
    let n = c.args.site.now.part in
    ap (λ o. at_does (sagas (script c.args.c.now)) c.args.place o (world_of c.args.self.now) c.args.state.now)
    (ap (λ xs. site_block (script xs) c.args.site.now) (sym c.items.ensures.value) ∙ block_here c.items.result.now c.args.site.now c.get.result c.get.ensures.lookup
    ∙ ap (λ r. block_in n (option_map item (option_copied r))) c.in-None.is)
