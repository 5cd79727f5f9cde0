use Rattle.std.proofs.Common.{◌∙◌, sym, ap}
use Rattle.std.specs.FinMap as map
use Rattle.nb_hub.proofs.Marks.{marked_back, marked_twice}
use Rattle.nb_hub.proofs.parts.unmark.Goals as goal

pub returns-then-not-was_back : goal.returns-then-not-was_back
returns-then-not-was_back c old was now =
    c.remove.ensures ∙ ap (λ m. map.remove m c.args.number) now ∙ marked_back old c.args.number (sym was ∙ c.if-not-was_back.true)

pub returns-else-not-was_back : goal.returns-else-not-was_back
returns-else-not-was_back c old was now = now ∙ marked_twice old c.args.number (sym was ∙ c.if-not-was_back.false)
