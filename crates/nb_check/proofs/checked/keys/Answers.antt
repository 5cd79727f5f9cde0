use Rattle.std.proofs.Common.{◌≡◌, List, sym, subst, Result, Ok, Err}
use Rattle.std.specs.Prelude.{IfOk}
use Rattle.std.specs.List.{IsDistinct}
use Rattle.nb_base.specs.declared.value.Key.{Key}
use Rattle.nb_script.specs.Tree.{script}
use Rattle.nb_check.specs.Declarations.{messages}
use Rattle.nb_check.specs.Keys.{same_key}
use Rattle.nb_check.proofs.KeyLaws.{read_set-distinct}
use Rattle.nb_check.proofs.checked.keys.Goals as goal

distinct_if : {E : Type 0} (r : Result (List Key) E) (all : List Key) → IfOk r (λ ks. ks ≡ all) → IsDistinct same_key all → IfOk r (λ ks. IsDistinct same_key ks)
distinct_if (Ok ks) all h d = subst (λ x. IsDistinct same_key x) (sym h) d
distinct_if (Err e) all h d = tt

pub returns-clause-distinct : goal.returns-clause-distinct
returns-clause-distinct c =
    distinct_if c.read_set.result _ c.read_set.ensures (read_set-distinct (script c.args.c.now) (messages (script c.args.c.now)) c.args.e.now)
