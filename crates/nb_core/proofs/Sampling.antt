-- The script and the opening that tests replay are a script and a sound opening.
use Rattle.std.proofs.Common.{◌≡◌, ◌≤◌, ℕ, Some, None, refl, sym, ◌∙◌, subst, arith, List, []}
use Rattle.std.specs.FinMap as map
use Rattle.nb_base.specs.Meanings.{IsAmong, IsMeaning}
use Rattle.nb_core.specs.History.{Opening}
use Rattle.nb_core.specs.Legal.{IsSound}
use Rattle.nb_core.specs.Samples.{marking, nothing}
use Rattle.nb_core.specs.State.{Constants}

none_some : {A : Type 0} {x : A} → None ≡ Some x → ⊥
none_some e = cc

pub marking_is_meaning : IsMeaning marking
marking_is_meaning = record {
  local = λ t sound fit m at. refl;
  plans = λ t sound fit m at plan is. subst (Rattle.nb_base.specs.Meanings.IsRightPlan marking t) (done is) (record { apart = (tt, tt); writes = (tt, tt); few = omega arith; targets = tt });
}
  where
    done : {x y : Rattle.nb_base.specs.declared.plan.Plan.Plan} → Rattle.nb_base.specs.declared.plan.Verdict.TheVariants.Done x ≡ Rattle.nb_base.specs.declared.plan.Verdict.TheVariants.Done y → x ≡ y
    done e = cc

-- no name is among none
pub no_name : (name : List ℕ) → IsAmong name [] → ⊥
no_name name among = none_some among.1

pub nothing_sound : (c : Constants) (o : Opening) → o ≡ nothing → IsSound c o
nothing_sound c o is = subst (IsSound c) (sym is) (record {
  tables = record {
    base = record {
      commits = omega arith;
      sagas = λ place row at. absurd (none_some (sym (map.get-empty _ place) ∙ at));
      ids = λ p q a b at at' same. absurd (none_some (sym (map.get-empty _ p) ∙ at));
      rows = λ name row at. absurd (none_some (sym (map.get-empty _ name) ∙ at));
    };
    records = λ id r at. absurd (none_some (sym (map.get-empty _ id) ∙ at));
    numbers = λ i j a b at at' same. absurd (none_some (sym (map.get-empty _ i) ∙ at));
  };
  post = record {
    from = omega arith;
    to = omega arith;
    entries = λ number e at. absurd (none_some (sym (map.get-empty _ number) ∙ at));
  };
  fits = λ place row at. absurd (none_some (sym (map.get-empty _ place) ∙ at));
})
