-- A worker that sends has put the first k ops itself, since it began.
use Rattle.std.proofs.Common.{◌≡◌, ◌≢◌, ◌+◌, ℕ, Bool, true, false, cond, refl, sym, ap, ◌∙◌, subst, List, [], ◌∷◌, ◌++◌}
use Rattle.std.specs.Prelude.{take}
use Rattle.std.specs.FinMap as map
use Rattle.std.proofs.lemmas.Bool.{eq-eqb, ne_eqb}
use Rattle.nb_base.proofs.ListLaws.{take_next}
use Rattle.nb_base.specs.Messages.{Message}
use Rattle.nb_base.specs.declared.entry.Op.{Op}
use Rattle.nb_base.specs.declared.settings.Settings.{Settings}
use Rattle.nb_recover.specs.declared.fail.Fail.{Fail}
use Rattle.nb_recover.specs.declared.moves.Move.{Move}
use Rattle.nb_recover.specs.declared.moves.Move.TheVariants as move
use Rattle.nb_core.proofs.Held.{each_phase, phase_empty}
use Rattle.nb_core.specs.Earned.{at_number}
use Rattle.nb_core.specs.History.{Run, ends, goes}
use Rattle.nb_core.specs.RunFacts.{puts_after, puts_at_end}
use Rattle.nb_core.specs.State.{State, Constants, Phase, Idle, Held, Looked, Sending, Leaving, Done, phase, phase_in, put_phase, phase_by, phase_after}
use Rattle.nb_core.specs.Step.{Event, Step, load, take as takes, look_known, look_new, settle_twin, settle_fault, settle_conflict, settle_commit, send, mark, aside, remove, tick, release, purge, put_back, drop_back, stop, halt}

number_same : {A : Type 0} (f : ℕ → A) (n : ℕ) (v : A) → at_number f n v n ≡ v
number_same f n v = ap (λ b. cond b v (f n)) (eq-eqb n n refl)

number_other : {A : Type 0} (f : ℕ → A) (n : ℕ) (v : A) (q : ℕ) → q ≢ n → at_number f n v q ≡ f q
number_other f n v q ne = ap (λ b. cond b v (f q)) (ne_eqb q n ne)

-- what a worker put is the beginning of the ops that it sends
abbrev pub Put : List Op → Phase → Type 0
Put xs Idle = Unit {0}
Put xs (Held n) = Unit {0}
Put xs (Looked n reads) = Unit {0}
Put xs (Sending n id ops k) = xs ≡ take k ops
Put xs (Leaving n queue due copy) = Unit {0}
Put xs (Done n) = Unit {0}

abbrev pub PuttingAt : (ℕ → List Op) → State → Type 0
PuttingAt t s = (w : ℕ) → Put (t w) (phase s w)

put_by : (b : Bool) (n : ℕ) (id : List ℕ) (ops : List Op) → Put [] (phase_by b n id ops)
put_by true n id ops = tt
put_by false n id ops = refl

put_after : (xs : List Op) (settings : Settings) (moment n : ℕ) (m : Message) (fail : Fail) (v : Move) → Put xs (phase_after settings moment n m fail v)
put_after xs settings moment n m fail move.Again = tt
put_after xs settings moment n m fail (move.Later round delay) = tt
put_after xs settings moment n m fail move.Error = tt
put_after xs settings moment n m fail move.Discard = tt

idle_put : (xs : List Op) (p : Phase) → p ≡ Idle → Put xs p
idle_put xs p e = subst (Put xs) (sym e) tt

pub putting_kept : {c : Constants} {s s' : State} {e : Event} (t : ℕ → List Op) (step : Step c s e s') → PuttingAt t s → PuttingAt (puts_after t step) s'
putting_kept {c = c} {s = s} t step h = go step
  where
    -- the worker's phase changes
    one : (w : ℕ) (p : Phase) → Put (t w) p → (u : ℕ) → Put (t u) (phase_in (put_phase s.phases w p) u)
    one w p mine = each_phase (λ u q. Put (t u) q) s.phases w p (λ u _. h u) mine

    -- and what it put
    both : (w : ℕ) (xs : List Op) (p : Phase) → Put xs p → (u : ℕ) → Put (at_number t w xs u) (phase_in (put_phase s.phases w p) u)
    both w xs p mine = each_phase (λ u q. Put (at_number t w xs u) q) s.phases w p
        (λ u ne. subst (λ ys. Put ys (phase s u)) (sym (number_other t w xs u ne)) (h u))
        (subst (λ ys. Put ys p) (sym (number_same t w xs)) mine)

    go : {s' : State} {e : Event} (step : Step c s e s') → PuttingAt (puts_after t step) s'
    go (load named room) = h
    go (takes {w = w} {n = n} i x) = one w (Held n) tt
    go (look_known {w = w} {n = n} {r = r} held there known) = both w [] (phase_by r.sent n _ r.ops) (put_by r.sent n _ r.ops)
    go (look_new {w = w} held there new) = one w _ tt
    go (settle_twin {w = w} {n = n} {r = r} looked there known) = both w [] (phase_by r.sent n _ r.ops) (put_by r.sent n _ r.ops)
    go (settle_fault {w = w} {n = n} looked there new judged) = one w _ (put_after (t w) c.settings s.moment n _ _ _)
    go (settle_conflict {w = w} {n = n} looked there new judged stale) = one w _ (put_after (t w) c.settings s.moment n _ _ _)
    go (settle_commit {w = w} looked there new judged fresh room) = both w [] _ refl
    go (send {w = w} {n = n} {k = k} {id = id} {ops = ops} {op = op} is at room) =
        let mine = subst (Put (t w)) is (h w) in
        both w (t w ++ op ∷ []) (Sending n id ops (k + 1)) (ap (λ xs. xs ++ op ∷ []) mine ∙ sym (take_next ops k op at))
    go (mark {w = w} {n = n} is all there) = one w (Done n) tt
    go (aside {w = w} {n = n} is room) = one w (Done n) tt
    go (remove {w = w} is) = one w Idle tt
    go (tick i x) = h
    go (release i x y z) = h
    go (purge i x y z) = h
    go (put_back i x y z f r) = h
    go (drop_back i x) = h
    go stop = λ w. idle_put (t w) (phase_in map.empty w) (phase_empty w)
    go halt = h

pub putting_at_end : {c : Constants} {s s' : State} {es : List Event} (t : ℕ → List Op) (run : Run c s es s') → PuttingAt t s → PuttingAt (puts_at_end t run) s'
putting_at_end t ends h = h
putting_at_end t (goes step rest) h = putting_at_end (puts_after t step) rest (putting_kept t step h)

pub putting_at_first : (s : State) → ((w : ℕ) → phase_in s.phases w ≡ Idle) → PuttingAt (λ w. []) s
putting_at_first s idle = λ w. idle_put [] (phase s w) (idle w)
