use Rattle.std.proofs.Common.{arith}
use Rattle.nb_envelope.proofs.FormatLaws.{decoded_found, decoded_only, decoded_damaged}
use Rattle.nb_envelope.proofs.EnvelopeLaws.{format_envelope}
use Rattle.nb_envelope.proofs.cell.from_cell.Goals as goal

pub returns-clause-found : goal.returns-clause-found
returns-clause-found c = decoded_found _ _ _ c.args.bytes.now c.read_cell.result format_envelope (λ i. omega (arith, c.type_inv.bytes i)) c.read_cell.ensures

pub returns-clause-only : goal.returns-clause-only
returns-clause-only c = decoded_only _ _ _ c.args.bytes.now c.read_cell.result format_envelope c.read_cell.ensures

pub returns-clause-damaged : goal.returns-clause-damaged
returns-clause-damaged c = decoded_damaged _ _ _ c.args.bytes.now c.read_cell.result format_envelope c.read_cell.ensures
