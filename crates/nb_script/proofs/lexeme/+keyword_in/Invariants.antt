use Rattle.std.proofs.Common.{length}
use Rattle.nb_script.proofs.lexeme.+keyword_in.Given as goal

abbrev pub decreases-keyword_in : goal.decreases-keyword_in
decreases-keyword_in l = length l.keywords.now
