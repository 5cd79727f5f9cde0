-- The step and the state that is computed: what a step leads to is what `after` says, and a run leads to what `run` says.
use Rattle.std.proofs.Common.{◌≡◌, refl, sym, ap, ◌∙◌, subst, List}
use Rattle.nb_core.proofs.Frees.{least_free_is}
use Rattle.nb_core.proofs.Stales.{least_stale_is, fresh_is}
use Rattle.nb_core.specs.After.{after, run, Can, given}
use Rattle.nb_core.specs.History.{Run, ends, goes}
use Rattle.nb_core.specs.State.{State, Constants, Held, at_phase, base}
use Rattle.nb_core.specs.Step.{Event, Step, load, take, look_known, look_new, settle_twin, settle_fault, settle_conflict, settle_commit, send, mark, aside, remove, tick, release, purge, put_back, drop_back, stop, halt}

pub step_after : {c : Constants} {s t : State} {e : Event} → Step c s e t → t ≡ after c s e
step_after (load named room) = refl
step_after {c = c} {s = s} (take {w = w} {n = n} idle least) = ap (λ o. given s o (λ n. at_phase s w (Held n))) (sym (least_free_is c s n least))
step_after (look_known held there known) = rw (held, there, known) refl
step_after (look_new held there new) = rw (held, there, new) refl
step_after (settle_twin looked there known) = rw (looked, there, known) refl
step_after (settle_fault looked there new verdict) = rw (looked, there, new, verdict) refl
step_after {s = s} (settle_conflict {reads = reads} {r = r} looked there new verdict stale) = rw (looked, there, new, verdict, least_stale_is (base s) reads r stale) refl
step_after {s = s} (settle_commit {reads = reads} looked there new verdict fresh room) = rw (looked, there, new, verdict, fresh_is (base s) reads fresh) refl
step_after (send sending at room) = rw (sending, at) refl
step_after (mark sending all known) = rw (sending, known) refl
step_after (aside leaving room) = rw leaving refl
step_after (remove is) = rw is refl
step_after (tick idle later) = refl
step_after (release idle there due past) = rw there refl
step_after (purge idle known sent old) = refl
step_after (put_back idle there error free failed room) = rw there refl
step_after (drop_back idle back) = refl
step_after stop = refl
step_after halt = refl

-- so a step is one to the computed state
pub step_can : {c : Constants} {s t : State} {e : Event} → Step c s e t → Can c s e
step_can {c = c} {s = s} {e = e} step = subst (Step c s e) (step_after step) step

pub can_step : {c : Constants} {s t : State} {e : Event} → Can c s e → t ≡ after c s e → Step c s e t
can_step {c = c} {s = s} {e = e} can is = subst (Step c s e) (sym is) can

-- an event leads to one state
pub unique : {c : Constants} {s x y : State} {e : Event} → Step c s e x → Step c s e y → x ≡ y
unique a b = step_after a ∙ sym (step_after b)

pub run_is : {c : Constants} {s t : State} {es : List Event} → Run c s es t → t ≡ run c s es
run_is ends = refl
run_is {c = c} (goes {es = es} step rest) = run_is rest ∙ ap (λ m. run c m es) (step_after step)

pub run_unique : {c : Constants} {s x y : State} {es : List Event} → Run c s es x → Run c s es y → x ≡ y
run_unique a b = run_is a ∙ sym (run_is b)

-- the run to the computed state
pub run_can : {c : Constants} {s t : State} {es : List Event} → Run c s es t → Run c s es (run c s es)
run_can {c = c} {s = s} {es = es} r = subst (Run c s es) (run_is r) r
