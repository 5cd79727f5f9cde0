use Rattle.std.proofs.Common.{◌≡◌, ◌∙◌, sym, subst}
use Rattle.nb_hub.specs.Starting.{IsUpTo}
use Rattle.nb_hub.proofs.Starts.{up_to_itself, up_to_later}
use Rattle.nb_hub.proofs.misfits.lesser.Goals as goal

pub returns-then-lt-clause-key : goal.returns-then-lt-clause-key
returns-then-lt-clause-key c = up_to_itself c.args.key

pub returns-else-lt-clause-key : goal.returns-else-lt-clause-key
returns-else-lt-clause-key c = up_to_later c.in-Some.least c.args.key (sym c.lt.ensures ∙ c.if-lt.false)

pub returns-else-lt-clause-least : goal.returns-else-lt-clause-least
returns-else-lt-clause-least c l is = let same : c.in-Some.least ≡ l = cc in subst (IsUpTo c.in-Some.least) same (up_to_itself c.in-Some.least)

pub returns-in-None-clause-key : goal.returns-in-None-clause-key
returns-in-None-clause-key c = up_to_itself c.args.key
