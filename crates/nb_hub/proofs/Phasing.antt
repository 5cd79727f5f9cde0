-- What workers are at, as it is found and changed.
use Rattle.std.proofs.Common.{◌≡◌, ◌↔◌, ℕ, ◌+◌, List, Bool, true, false, true≢false, Option, Some, None, refl, sym, ap, ◌∙◌, inl, inr}
use Rattle.std.specs.FinMap as map
use Rattle.std.specs.FinMap.{get-entries, entries_sorted}
use Rattle.std.specs.Option.{unwrap_or}
use Rattle.std.specs.Prelude.{IsTrue, IsSome, is_some, not}
use Rattle.nb_base.proofs.Maps.{numbers, same_or_other, at_same, at_other}
use Rattle.nb_base.specs.Orders.{ByNumber}
use Rattle.nb_base.specs.declared.entry.Op.{Op}
use Rattle.nb_core.proofs.Firsts.{any_found, any_at}
use Rattle.nb_core.specs.After.{are_busy}
use Rattle.nb_core.specs.Changes.{put_phase}
use Rattle.nb_core.specs.Standing.{number_of, phase_in}
use Rattle.nb_core.specs.declared.phase.Phase.{Phase}
use Rattle.nb_core.specs.declared.phase.Phase.TheVariants.{Idle, Held, Looked, Sending, Leaving, Done}

idle_is : (p : Phase) → is_some (number_of p) ≡ false → p ≡ Idle
idle_is Idle e = refl
idle_is (Held n) e = absurd (true≢false e)
idle_is (Looked n reads) e = absurd (true≢false e)
idle_is (Sending n id ops k) e = absurd (true≢false e)
idle_is (Leaving n queue due copy) e = absurd (true≢false e)
idle_is (Done n) e = absurd (true≢false e)

all_idle : (ps : ByNumber Phase) → are_busy ps ≡ false → (w : ℕ) → phase_in ps w ≡ Idle
all_idle ps e w = go (map.get ps w) refl
  where
    go : (o : Option Phase) → map.get ps w ≡ o → unwrap_or (map.get ps w) Idle ≡ Idle
    go None is = ap (λ o. unwrap_or o Idle) is
    go (Some p) is = ap (λ o. unwrap_or o Idle) is ∙ idle_is p (busy (is_some (number_of p)) refl)
      where
        busy : (b : Bool) → is_some (number_of p) ≡ b → is_some (number_of p) ≡ false
        busy true t = absurd (true≢false (sym (any_found (λ q. is_some (number_of q)) (map.entries ps) w p (sym (get-entries ps w) ∙ is) t) ∙ e))
        busy false t = t

not_idle : (ps : ByNumber Phase) → are_busy ps ≡ true → ((w : ℕ) → phase_in ps w ≡ Idle) → ⊥
not_idle ps e idle =
    let r = any_at (λ q. is_some (number_of q)) (map.entries ps) (entries_sorted ps) e in
    let at : phase_in ps r.0 ≡ r.1 = ap (λ o. unwrap_or o Idle) (get-entries ps r.0 ∙ r.2) in
    true≢false (sym r.3 ∙ ap (λ p. is_some (number_of p)) (sym at ∙ idle r.0))

pub idle_tells : (ps : ByNumber Phase) (b : Bool) → are_busy ps ≡ b → IsTrue (not b) ↔ ((w : ℕ) → phase_in ps w ≡ Idle)
idle_tells ps true is = (λ h. absurd (true≢false (sym h)), λ idle. absurd (not_idle ps is idle))
idle_tells ps false is = (λ h. all_idle ps is, λ idle. refl)

-- a value that is put twice
put_again : (ps : ByNumber Phase) (w : ℕ) (p q : Phase) → map.insert (map.insert ps w p) w q ≡ map.insert ps w q
put_again ps w p q = map.same_map numbers.total numbers.same _ _ (λ k.
    elim (same_or_other numbers k w) [
      | inl here ↦
          ap (map.get (map.insert (map.insert ps w p) w q)) here ∙ at_same numbers (map.insert ps w p) w q
          ∙ sym (ap (map.get (map.insert ps w q)) here ∙ at_same numbers ps w q)
      | inr other ↦ at_other numbers (map.insert ps w p) w q k other ∙ at_other numbers ps w p k other ∙ sym (at_other numbers ps w q k other)
    ])

pub there_now : (ps new : ByNumber Phase) (w v : ℕ) (p : Phase) → new ≡ map.insert ps v p → v ≡ w → IsSome (map.get new w)
there_now ps new w v p is same = ap is_some (ap (λ (m : ByNumber Phase). map.get m w) (is ∙ ap (λ x. map.insert ps x p) same) ∙ at_same numbers ps w p)

-- the phase of a batch with one op more that was put
next_of : Phase → Phase
next_of Idle = Idle
next_of (Held n) = Idle
next_of (Looked n reads) = Idle
next_of (Sending n id ops k) = Sending n id ops (k + 1)
next_of (Leaving n queue due copy) = Idle
next_of (Done n) = Idle

pub advanced : (ps mid new : ByNumber Phase) (w v : ℕ) (n k : ℕ) (id : List ℕ) (ops : List Op) → v ≡ w → map.get ps v ≡ Some (Sending n id ops k) → mid ≡ map.insert ps v Idle → new ≡ map.insert mid w (Sending n id ops (k + 1))
    → (n' k' : ℕ) (id' : List ℕ) (ops' : List Op) → phase_in ps w ≡ Sending n' id' ops' k' → new ≡ put_phase ps w (Sending n' id' ops' (k' + 1))
unfolding put_phase next_of
advanced ps mid new w v n k id ops same was idle made n' k' id' ops' is =
    let was_here : Sending n id ops k ≡ Sending n' id' ops' k' = sym (ap (λ (o : Option Phase). unwrap_or o Idle) (ap (map.get ps) (sym same) ∙ was)) ∙ is in
    made
    ∙ ap (λ (m : ByNumber Phase). map.insert m w (Sending n id ops (k + 1))) (idle ∙ ap (λ x. map.insert ps x Idle) same)
    ∙ put_again ps w Idle (Sending n id ops (k + 1))
    ∙ ap (map.insert ps w) (ap next_of was_here)
