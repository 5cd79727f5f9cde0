-- A run goes on by one step.
use Rattle.nb_base.specs.declared.entry.Which.{Which}
use Rattle.std.proofs.Common.{◌≡◌, refl, sym, subst, List, [], ◌∷◌, ◌++◌}
use Rattle.nb_core.specs.History.{Run, ends, goes}
use Rattle.nb_core.specs.State.{State, Constants}
use Rattle.nb_core.specs.Step.{Event, Step, Halt, halt}

pub run_more : {c : Constants} {s mid s' : State} {es : List Event} {e : Event} → Run c s es mid → Step c mid e s' → Run c s (es ++ e ∷ []) s'
run_more ends step = goes step ends
run_more (goes first rest) step = goes first (run_more rest step)

-- a run over two lists
pub run_split : {c : Constants} {s s' : State} (xs ys : List Event) → Run c s (xs ++ ys) s' → (mid : State) × Run c s xs mid × Run c mid ys s'
run_split {s = s} [] ys r = (s, ends, r)
run_split (x ∷ xs) ys (goes first rest) = let p = run_split xs ys rest in (p.0, goes first p.1, p.2)

after_halt : {c : Constants} {s s' : State} {store : Which} → Run c s (Halt store ∷ []) s' → s ≡ s'
after_halt (goes halt ends) = refl

-- a step from the last state in the place of a Halt
pub in_place_of_halt : {c : Constants} {o : State} (es : List Event) (store : Which) {s : State} {e : Event} {t : State} → Run c o (es ++ Halt store ∷ []) s → Step c s e t → Run c o (es ++ e ∷ []) t
in_place_of_halt {c = c} es store {e = e} {t = t} r step =
    let p = run_split es _ r in
    run_more p.1 (subst (λ x. Step c x e t) (sym (after_halt p.2)) step)
