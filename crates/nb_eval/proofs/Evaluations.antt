-- The verdict of a message whose type is declared.
use Rattle.std.proofs.Common.{◌≡◌, ◌≢◌, ℕ, refl, sym, ap, ◌∙◌, List, [], ◌∷◌, Some}
use Rattle.nb_base.specs.Messages.{Message}
use Rattle.nb_base.specs.declared.plan.Verdict.{Verdict}
use Rattle.nb_base.specs.declared.saga_row.Seen.{Seen}
use Rattle.nb_base.specs.declared.value.Key.{Key}
use Rattle.nb_script.specs.Grammar.{ItemTerm}
use Rattle.nb_check.specs.Blocks.{blocks}
use Rattle.nb_check.specs.Checks.{declared_names, body_fields}
use Rattle.nb_check.specs.Meets.{incoming, met_from, met_by}
use Rattle.nb_check.specs.declared.incoming.Incoming.{Incoming}
use Rattle.nb_eval.specs.Verdicts.{on_body, on_met, on_type, verdict_over}

over-met : (items : List ItemTerm) (look : Key → Seen) (e : Message) (at : ℕ) (m : Incoming) (met : List ℕ) → incoming (declared_names items) e ≡ Some m → met ≡ met_from m 0 (blocks items)
    → verdict_over items look e at ≡ on_met items look e at m met
over-met items look e at m met inc is = ap (on_type items look e at) inc ∙ ap (on_met items look e at m) (ap (met_by (blocks items)) inc ∙ sym is)

some-met : (items : List ItemTerm) (look : Key → Seen) (e : Message) (at : ℕ) (m : Incoming) (ns : List ℕ) → ns ≢ [] → on_met items look e at m ns ≡ on_body items look e at m (body_fields items m.message e.body)
some-met items look e at m [] some = absurd (some refl)
some-met items look e at m (n ∷ ns) some = refl

pub evaluated : (items : List ItemTerm) (look : Key → Seen) (e : Message) (at : ℕ) (m : Incoming) (met : List ℕ) (v : Verdict) → incoming (declared_names items) e ≡ Some m → met ≡ met_from m 0 (blocks items) → met ≢ []
    → v ≡ on_body items look e at m (body_fields items m.message e.body) → v ≡ verdict_over items look e at
evaluated items look e at m met v inc is some h = h ∙ sym (over-met items look e at m met inc is ∙ some-met items look e at m met some)
