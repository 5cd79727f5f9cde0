use Rattle.std.proofs.Common.{◌≡◌, ◌+◌, ◌∷◌, drop, is_some, false, sym, ap, ◌∙◌, subst}
use Rattle.std.specs.FinMap as map
use Rattle.nb_check.specs.Breaches.{twice}
use Rattle.nb_check.proofs.Steps.{next_of}
use Rattle.nb_check.proofs.TableLaws.{NoneOf, new_name}
use Rattle.nb_check.proofs.breach.all_differ.Goals as goal

pub loop-p-preserved : goal.loop-p-preserved
loop-p-preserved c = λ rule h e.
    let before = c.loop-p.before in
    let p = c.p-item.result in
    let rest = drop (c.loop-p.p-index + 1) c.args.names.now in
    let here : drop c.loop-p.p-index c.args.names.now ≡ p ∷ rest = next_of c.args.names.now c.loop-p.p-index p c.loop-p-test.true c.p-item.is in
    let put : c.insert.new.self ≡ map.insert before p.name p.at = c.in_ok-insert.ensures.ok ∙ ap (λ n. map.insert before n p.at) c.in_ok-name.ensures in
    let new : is_some (map.get before p.name) ≡ false = sym c.is_among.ensures ∙ c.if-is_among.false in
    let both = new_name before p p.at rule rest new (subst (λ m. NoneOf m rest) put h) e in
    c.loop-p.invariant rule (subst (λ ps. NoneOf before ps) (sym here) both.0) (ap (λ ps. twice rule ps) here ∙ both.1)
