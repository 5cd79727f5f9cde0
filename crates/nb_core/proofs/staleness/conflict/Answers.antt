use Rattle.std.proofs.Common.{◌≡◌, Some, ap, sym, ◌∙◌, subst}
use Rattle.nb_base.specs.Shown.{version_of}
use Rattle.nb_base.specs.declared.saga_row.Read.{Read}
use Rattle.nb_base.specs.declared.value.Key.{Key}
use Rattle.nb_core.proofs.Least.{conflicts}
use Rattle.nb_core.proofs.staleness.conflict.Goals as goal
use Rattle.nb_core.specs.Conflicts.{Conflicts}
use Rattle.nb_recover.specs.declared.fail.Fail.TheVariants.{Conflict}

some_is : {A : Type 0} {x y : A} → Some x ≡ Some y → x ≡ y
some_is e = cc

pub returns-in_ok-copy-in-Some : goal.returns-in_ok-copy-in-Some
returns-in_ok-copy-in-Some c t is =
    let x = c.at.result.now in
    let v = c.version.result in
    let w = c.version-in-Some.result in
    let same : c.at-in-Some.result.now ≡ x = some_is (sym c.at-in-Some.ensures ∙ c.at.ensures) in
    let v_is : v ≡ version_of x.seen = c.version.ensures ∙ ap (λ (r : Read). version_of r.seen) same in
    subst (λ (k : Key). Conflicts t c.args.reads.now (Some (Conflict k v w))) (sym c.in_ok-copy-in-Some.ensures)
    (conflicts t c.args.reads.now c.args.shown.now c.in-Some.i x c.at-in-Some-2.result.now v w is c.at.ensures c.at-in-Some-2.ensures v_is c.version-in-Some.ensures (c.in-Some.ensures.best t is))
