use Rattle.std.proofs.Common.{ap, ◌∙◌, slice_get}
use Rattle.nb_script.specs.Tree.{script}
use Rattle.nb_check.specs.Sites.{block_at}
use Rattle.nb_check.proofs.SiteLaws.{site_leads}
use Rattle.nb_check.proofs.Steps.{item_at}
use Rattle.nb_check.proofs.checked.Checked.site.Goals as goal

pub returns : goal.returns
returns c =
    ap (block_at (script c.args.self.now)) (item_at c.sites.result.now c.args.number c.get.result c.get.ensures.lookup ∙ ap (λ ss. slice_get ss c.args.number) c.sites.ensures)
    ∙ site_leads (script c.args.self.now) c.args.number
