use Rattle.std.proofs.Common.{drop, ◌≡◌, ◌++◌, false}
use Rattle.nb_script.specs.Lexing.{unescaped}
use Rattle.nb_script.proofs.content.unescaped.Given as goal

abbrev pub invariant-loop-b : goal.invariant-loop-b
invariant-loop-b l = l.bytes.items ++ unescaped l.behind (drop l.b-index l.raw) ≡ unescaped false l.raw
