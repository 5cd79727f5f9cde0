use Rattle.std.proofs.Common.{◌≡◌, length}
use denote.Text.{Utf8}
use denote.Shadow.{shadow}
use Rattle.nb_headers.specs.Reads.{entries_of, first_declared}
use Rattle.nb_headers.proofs.reads.first_declared.Given as goal

abbrev pub invariant-loop-entry : goal.invariant-loop-entry
invariant-loop-entry l = shadow (Utf8 l.rest) × (first_declared l.declared (entries_of l.rest) ≡ first_declared l.declared (entries_of l.text))

abbrev pub decreases-loop-entry : goal.decreases-loop-entry
decreases-loop-entry l = length l.rest
