use Rattle.std.proofs.Common.{◌≡◌, ◌++◌, drop}
use Rattle.nb_script.specs.Tree.{listed}
use Rattle.nb_check.specs.Statements.{phrases_faults, all_after}
use Rattle.nb_check.proofs.scope.Scope.+statements.Given as goal

abbrev pub invariant-follow_block-loop-d : goal.invariant-follow_block-loop-d
invariant-follow_block-loop-d l = record {
  broken : l.fn.breaches ++ phrases_faults l.messages (listed l.b.body) l.fn.self ≡ l.breaches ++ phrases_faults l.messages (listed (drop l.d-index l.b.body)) l.self;
  after : all_after (listed l.b.body) l.fn.self ≡ all_after (listed (drop l.d-index l.b.body)) l.self;
}
