use Rattle.std.proofs.Common.{◌≤◌, ◌+◌, length, arith}
use Rattle.nb_base.proofs.Pieces.{copied_piece, no_piece}
use Rattle.nb_base.proofs.mem_source.MemSourceSource.read.Goals as goal

pub returns-clause-bytes : goal.returns-clause-bytes
returns-clause-bytes c =
    let old = c.self.inside in
    let after = rw c.as_slice-bytes.ensures.value at c.copy_from_slice.ensures.after in
    let second = rw c.as_slice-bytes.ensures.value at c.min-n.ensures in
    let fits : old.at + c.min-n.result ≤ length old.bytes = omega (arith, second, c.self.invariant.0) in
    rw (← c.self.view_is) (
      copied_piece old.bytes c.args.into.now _ old.at c.min-n.result fits after,
      no_piece old.bytes c.args.into.now _ old.at c.min-n.result c.min.result old.piece c.self.invariant.0 c.self.invariant.1 c.min.ensures second after,
    )
