use Rattle.std.proofs.Common.{sym, subst}
use Rattle.std.specs.Prelude.{Err}
use Rattle.nb_endpoint.specs.Scripts.{Checks}
use Rattle.nb_endpoint.specs.declared.status.Status.{Status}
use Rattle.nb_endpoint.proofs.Reading.{text_refused}
use Rattle.nb_endpoint.proofs.script.checked_of.Goals as goal

pub returns-in-Err : goal.returns-in-Err
returns-in-Err c = subst (λ (s : Status). Checks c.args.bytes.now (Err s)) (sym c.of_text.ensures) (text_refused c.args.bytes.now c.in-Err.fault c.in-Err.ensures.err)
