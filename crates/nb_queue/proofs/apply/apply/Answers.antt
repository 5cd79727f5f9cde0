use Rattle.std.proofs.Common.{◌∙◌}
use Rattle.nb_cells.specs.Cells.{changed}
use Rattle.nb_queue.proofs.apply.apply.Goals as goal

pub returns-in-Ok-clause-applied : goal.returns-in-Ok-clause-applied
returns-in-Ok-clause-applied g c = λ before after leads. record {
  honest_before = λ h. c.in-Ok.ensures.honest_before h;
  ok = λ h f s. record { map = changed c.args.changes.now s.map; told = c.in-Ok.ensures.ok s.map h f s.told; cells = leads s.map s.cells };
  ok_firm = λ h f. c.in-Ok.ensures.ok_firm h f;
  ok_images = λ h f s n i space key is. c.in-Ok.ensures.ok_images s.map n h f s.told i space key ∙ leads s.map s.cells space key is;
  no_memory = λ h f s e. absurd cc;
  no_memory_firm = λ h f e. absurd cc;
  no_memory_images = λ h e. absurd cc;
  failed = λ h f s e. absurd cc;
  failed_images = λ h f s e. absurd cc;
  spent = λ e. absurd cc;
}
