use Rattle.std.proofs.Common.{◌≡◌, ◌∙◌}
use Rattle.nb_words.proofs.CliLaws.{taken, refused, map_same}
use Rattle.nb_words.proofs.command.matches_in.Goals as goal

pub returns-in-Ok : goal.returns-in-Ok
returns-in-Ok c = taken _ _ _ _ c.in_ok-command.ensures (map_same c.args.words.now) c.in-Ok.ensures.kinds c.in-Ok.ensures.matches

pub returns : goal.returns
returns c = refused _ _ _ c.in-Err.e c.in_ok-command.ensures (map_same c.args.words.now) c.in-Err.ensures.kinds (λ m. c.in_default.not-OutOfMemory (c.kind.ensures ∙ m))
