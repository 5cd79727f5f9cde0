use Rattle.std.proofs.Common.{ap, ◌∙◌, Some, option_map}
use Rattle.std.specs.Option.{option_copied}
use Rattle.nb_script.specs.Tree.{script, item}
use Rattle.nb_check.specs.Sites.{block_in, site_block}
use Rattle.nb_check.proofs.SiteLaws.{no_keys, block_here, no_part}
use Rattle.nb_check.proofs.incoming.Incoming.site_keys.Goals as goal

pub returns-in-None-get : goal.returns-in-None-get
returns-in-None-get c =
    let n = c.args.site.now.part in
    no_keys c.args.self.now c.args.known.now c.args.keys.now (site_block (script c.args.items.now) c.args.site.now)
    (block_here c.args.items.now c.args.site.now c.get.result c.get.ensures.lookup ∙ ap (λ r. block_in n (option_map item (option_copied r))) c.in-Some-Saga.is ∙ ap (λ i. block_in n (Some (item i))) c.in-Some-Saga.field-0-is
    ∙ no_part c.in-Some-Saga.saga n c.as_slice.result.now c.get-in-Some-Saga.result c.as_slice.ensures c.get-in-Some-Saga.ensures.lookup c.in-None-get.is)

pub returns-in-Some-Message : goal.returns-in-Some-Message
returns-in-Some-Message c =
    let n = c.args.site.now.part in
    no_keys c.args.self.now c.args.known.now c.args.keys.now (site_block (script c.args.items.now) c.args.site.now)
    (block_here c.args.items.now c.args.site.now c.get.result c.get.ensures.lookup ∙ ap (λ r. block_in n (option_map item (option_copied r))) c.in-Some-Message.is ∙ ap (λ i. block_in n (Some (item i))) c.in-Some-Message.field-0-is)

pub returns-in-None : goal.returns-in-None
returns-in-None c =
    let n = c.args.site.now.part in
    no_keys c.args.self.now c.args.known.now c.args.keys.now (site_block (script c.args.items.now) c.args.site.now)
    (block_here c.args.items.now c.args.site.now c.get.result c.get.ensures.lookup ∙ ap (λ r. block_in n (option_map item (option_copied r))) c.in-None.is)
