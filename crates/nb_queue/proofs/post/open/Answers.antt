use Rattle.std.proofs.lemmas.Result.{MatchResult-from_both, IfOk-weaker, IfErr-weaker}
use Rattle.nb_queue.proofs.DamageLaws.{found_damage}
use Rattle.nb_queue.proofs.OpenedLaws.{opened_cells}
use Rattle.nb_queue.proofs.post.open.Goals as goal

pub returns-in-Ok-clause-opened : goal.returns-in-Ok-clause-opened
returns-in-Ok-clause-opened g c = λ m honest firm told.
    let scans = c.in-Ok.ensures.ok m honest firm told in
    MatchResult-from_both c.load.result _ _
    (IfOk-weaker c.load.result _ _ (λ p is. opened_cells m p _ _ _ _ scans is) c.load.ensures.ok)
    (IfErr-weaker c.load.result _ _ (λ f is. found_damage m _ _ _ _ f scans is) (c.load.ensures.err scans.first.ascending))
