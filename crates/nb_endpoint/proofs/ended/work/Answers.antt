use Rattle.std.proofs.Common.{ap}
use Rattle.nb_core.specs.Past.{Fixed}
use Rattle.nb_hub.specs.Kept.{seen}
use Rattle.nb_hub.specs.Ledgers.{past_of}
use Rattle.nb_endpoint.proofs.Performing.{does_fixed}
use Rattle.nb_endpoint.proofs.ended.work.Goals as goal

pub returns-in-Ok-clause-handlers : goal.returns-in-Ok-clause-handlers
returns-in-Ok-clause-handlers g c =
    ap (λ (f : Fixed). f.meaning)
    (does_fixed c.in-Ok.chore c.args.task.now.messages c.args.task.now.until c.serve.result
    (seen (past_of (g.M.Handling.meaning c.args.hub.now.handlers) c.args.hub.now.course))
    (seen (past_of (g.M.Handling.meaning c.serve.new.desk.handlers) c.serve.new.desk.course))
    c.serve.ensures.does)
