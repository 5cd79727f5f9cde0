-- Which entries of the index are held, and which is free.
use Rattle.std.proofs.Common.{◌≡◌, ◌≢◌, ℕ, List, Bool, true, false, true≢false, Option, Some, None, refl, sym, ap, ◌∙◌, subst, inl, inr}
use Rattle.std.specs.Prelude.{bytes_eq, is_some, if◌then◌else◌}
use Rattle.std.specs.FinMap as map
use Rattle.nb_base.proofs.Maps.{numbers, same_or_other, at_same, at_other, gone, kept}
use Rattle.nb_base.specs.Orders.{ByNumber}
use Rattle.nb_core.proofs.Held.{phase_same, phase_other}
use Rattle.nb_core.specs.Changes.{put_phase}
use Rattle.nb_core.specs.Standing.{number_of, phase_in}
use Rattle.nb_core.specs.declared.phase.Phase.{Phase}
use Rattle.nb_core.specs.declared.phase.Phase.TheVariants.{Idle, Held}
use Rattle.nb_hub.specs.Indexed.{noted, dropped, undelayed}
use Rattle.nb_hub.specs.Kept.{IsNamed, AreHeld}
use Rattle.nb_ready.proofs.ChangeLaws.{changed-insert}
use Rattle.nb_ready.specs.Seats.{Seats, HasA, fresh, changed_at, is_free}
use Rattle.nb_ready.specs.declared.seat.Seat.{Seat}

some_is : {A : Type 0} {x y : A} → Some x ≡ Some y → x ≡ y
some_is {A = A} {x = x} e = ap (λ (o : Option A). value o) e
  where
    value : Option A → A
    value None = x
    value (Some y) = y

-- no two workers' phases name one entry
abbrev pub AreApart : ByNumber Phase → Type 0
AreApart ps = (v w n : ℕ) → number_of (phase_in ps v) ≡ Some n → number_of (phase_in ps w) ≡ Some n → v ≡ w

-- a phase that names the same entry
named_on : (ps : ByNumber Phase) (w : ℕ) (p : Phase) (n : ℕ) → number_of (phase_in ps w) ≡ number_of p → IsNamed ps n → IsNamed (put_phase ps w p) n
named_on ps w p n same x =
    elim (same_or_other numbers x.0 w) [
      | inl here ↦ (w, ap number_of (phase_same ps w p) ∙ sym same ∙ ap (λ v. number_of (phase_in ps v)) (sym here) ∙ x.1)
      | inr other ↦ (x.0, ap number_of (phase_other ps w p x.0 other) ∙ x.1)
    ]

named_back : (ps : ByNumber Phase) (w : ℕ) (p : Phase) (n : ℕ) → number_of (phase_in ps w) ≡ number_of p → IsNamed (put_phase ps w p) n → IsNamed ps n
named_back ps w p n same x =
    elim (same_or_other numbers x.0 w) [
      | inl here ↦ (w, same ∙ ap number_of (sym (phase_same ps w p)) ∙ ap (λ v. number_of (phase_in (put_phase ps w p) v)) (sym here) ∙ x.1)
      | inr other ↦ (x.0, ap number_of (sym (phase_other ps w p x.0 other)) ∙ x.1)
    ]

pub held_phase : (ps : ByNumber Phase) (seats : Seats) (w : ℕ) (p : Phase) → number_of (phase_in ps w) ≡ number_of p → AreHeld ps seats → AreHeld (put_phase ps w p) seats
held_phase ps seats w p same h n s there =
    let one = h n s there in
    (λ held. named_on ps w p n same (one.0 held), λ named. one.1 (named_back ps w p n same named))

-- a new entry, which no phase names
pub held_noted : (ps : ByNumber Phase) (own : List ℕ) (seats : Seats) (n : ℕ) (queue : List ℕ) (due : Option ℕ) → (IsNamed ps n → ⊥) → AreHeld ps seats → AreHeld ps (noted own seats n queue due)
held_noted ps own seats n queue due new h = by_case (bytes_eq queue own)
  where
    by_case : (b : Bool) → AreHeld ps (if b then map.insert seats n (fresh due) else seats)
    by_case true = λ q s there.
        elim (same_or_other numbers q n) [
          | inl here ↦
              let is : fresh due ≡ s = some_is (sym (at_same numbers seats n (fresh due)) ∙ ap (map.get (map.insert seats n (fresh due))) (sym here) ∙ there) in
              (λ held. absurd (true≢false (sym held ∙ ap (λ (x : Seat). x.held) (sym is))), λ named. absurd (new (subst (IsNamed ps) here named)))
          | inr other ↦ h q s (sym (at_other numbers seats n (fresh due) q other) ∙ there)
        ]
    by_case false = h

-- an entry less
pub held_dropped : (ps : ByNumber Phase) (own : List ℕ) (seats : Seats) (n : ℕ) (queue : List ℕ) → AreHeld ps seats → AreHeld ps (dropped own seats n queue)
held_dropped ps own seats n queue h = by_case (bytes_eq queue own)
  where
    by_case : (b : Bool) → AreHeld ps (if b then map.remove seats n else seats)
    by_case true = λ q s there.
        elim (same_or_other numbers q n) [
          | inl here ↦ let none = sym (ap (map.get (map.remove seats n)) here ∙ gone numbers seats n) ∙ there in absurd cc
          | inr other ↦ h q s (sym (kept numbers seats n q other) ∙ there)
        ]
    by_case false = h

-- a worker lets an entry of the own queue go, which is taken out
pub held_removed : (ps : ByNumber Phase) (own : List ℕ) (seats : Seats) (w n : ℕ) (queue : List ℕ) → number_of (phase_in ps w) ≡ Some n → bytes_eq queue own ≡ true → AreHeld ps seats → AreHeld (put_phase ps w Idle) (dropped own seats n queue)
held_removed ps own seats w n queue names is_own h =
    subst (λ (b : Bool). AreHeld (put_phase ps w Idle) (if b then map.remove seats n else seats)) (sym is_own) (λ q s there.
    elim (same_or_other numbers q n) [
      | inl here ↦ let none = sym (ap (map.get (map.remove seats n)) here ∙ gone numbers seats n) ∙ there in absurd cc
      | inr other ↦
          let one = h q s (sym (kept numbers seats n q other) ∙ there) in (
            λ held. let x = one.0 held in (x.0, ap number_of (phase_other ps w Idle x.0 (λ same. other (some_is (sym x.1 ∙ ap (λ v. number_of (phase_in ps v)) same ∙ names)))) ∙ x.1),
            λ named. one.1 (earlier q named),
          )
    ])
  where
    earlier : (q : ℕ) → IsNamed (put_phase ps w Idle) q → IsNamed ps q
    earlier q x =
        elim (same_or_other numbers x.0 w) [
          | inl here ↦ let none : None ≡ Some q = sym (ap (λ v. number_of (phase_in (put_phase ps w Idle) v)) here ∙ ap number_of (phase_same ps w Idle)) ∙ x.1 in absurd cc
          | inr other ↦ (x.0, ap number_of (sym (phase_other ps w Idle x.0 other)) ∙ x.1)
        ]

-- a worker takes an entry
pub held_taken : (ps : ByNumber Phase) (seats : Seats) (w n : ℕ) → phase_in ps w ≡ Idle → HasA is_free seats n → AreHeld ps seats → AreHeld (put_phase ps w (Held n)) (changed_at seats n (λ s. record s { held = true }))
held_taken ps seats w n idle free h =
    subst (AreHeld (put_phase ps w (Held n))) (sym (changed-insert seats n free.0 (λ s. record s { held = true }) free.1)) (λ q s there.
    elim (same_or_other numbers q n) [
      | inl here ↦
          let new : Seat = record free.0 { held = true } in
          let is : new ≡ s = some_is (sym (at_same numbers seats n new) ∙ ap (map.get (map.insert seats n new)) (sym here) ∙ there) in
          (λ held. (w, ap number_of (phase_same ps w (Held n)) ∙ ap Some (sym here)), λ named. ap (λ (x : Seat). x.held) (sym is))
      | inr other ↦
          let one = h q s (sym (at_other numbers seats n (record free.0 { held = true }) q other) ∙ there) in
          (λ held. later q (one.0 held), λ named. one.1 (earlier q other named))
    ])
  where
    later : (q : ℕ) → IsNamed ps q → IsNamed (put_phase ps w (Held n)) q
    later q x =
        (x.0, ap number_of (phase_other ps w (Held n) x.0 (λ same. let none : None ≡ Some q = sym (ap (λ v. number_of (phase_in ps v)) same ∙ ap number_of idle) ∙ x.1 in absurd cc)) ∙ x.1)

    earlier : (q : ℕ) → q ≢ n → IsNamed (put_phase ps w (Held n)) q → IsNamed ps q
    earlier q other x =
        elim (same_or_other numbers x.0 w) [
          | inl here ↦ absurd (other (some_is (sym x.1 ∙ ap (λ v. number_of (phase_in (put_phase ps w (Held n)) v)) here ∙ ap number_of (phase_same ps w (Held n)))))
          | inr apart ↦ (x.0, ap number_of (sym (phase_other ps w (Held n) x.0 apart)) ∙ x.1)
        ]

-- a worker lets an entry go, which is free again
pub held_freed : (ps : ByNumber Phase) (seats : Seats) (w n : ℕ) → number_of (phase_in ps w) ≡ Some n → AreApart ps → HasA (λ s. s.held) seats n → AreHeld ps seats
    → AreHeld (put_phase ps w Idle) (changed_at seats n (λ s. record s { held = false }))
held_freed ps seats w n names apart has h =
    subst (AreHeld (put_phase ps w Idle)) (sym (changed-insert seats n has.0 (λ s. record s { held = false }) has.1)) (λ q s there.
    elim (same_or_other numbers q n) [
      | inl here ↦
          let new : Seat = record has.0 { held = false } in
          let is : new ≡ s = some_is (sym (at_same numbers seats n new) ∙ ap (map.get (map.insert seats n new)) (sym here) ∙ there) in
          (λ held. absurd (true≢false (sym held ∙ ap (λ (x : Seat). x.held) (sym is))), λ named. absurd (nobody (subst (IsNamed (put_phase ps w Idle)) here named)))
      | inr other ↦
          let one = h q s (sym (at_other numbers seats n (record has.0 { held = false }) q other) ∙ there) in (
            λ held. let x = one.0 held in (x.0, ap number_of (phase_other ps w Idle x.0 (λ same. other (some_is (sym x.1 ∙ ap (λ v. number_of (phase_in ps v)) same ∙ names)))) ∙ x.1),
            λ named. one.1 (earlier q named),
          )
    ])
  where
    earlier : (q : ℕ) → IsNamed (put_phase ps w Idle) q → IsNamed ps q
    earlier q x =
        elim (same_or_other numbers x.0 w) [
          | inl here ↦ let none : None ≡ Some q = sym (ap (λ v. number_of (phase_in (put_phase ps w Idle) v)) here ∙ ap number_of (phase_same ps w Idle)) ∙ x.1 in absurd cc
          | inr other ↦ (x.0, ap number_of (sym (phase_other ps w Idle x.0 other)) ∙ x.1)
        ]

    nobody : IsNamed (put_phase ps w Idle) n → ⊥
    nobody x =
        elim (same_or_other numbers x.0 w) [
          | inl here ↦ let none : None ≡ Some n = sym (ap (λ v. number_of (phase_in (put_phase ps w Idle) v)) here ∙ ap number_of (phase_same ps w Idle)) ∙ x.1 in absurd cc
          | inr other ↦ other (apart x.0 w n (ap number_of (sym (phase_other ps w Idle x.0 other)) ∙ x.1) names)
        ]

-- the due of an entry is taken away
pub held_undelayed : (ps : ByNumber Phase) (own : List ℕ) (seats : Seats) (n : ℕ) (queue : List ℕ) → (bytes_eq queue own ≡ true → HasA (λ s. is_some s.due) seats n) → AreHeld ps seats → AreHeld ps (undelayed own seats n queue)
held_undelayed ps own seats n queue has h = by_case (bytes_eq queue own) has
  where
    by_case : (b : Bool) → (b ≡ true → HasA (λ s. is_some s.due) seats n) → AreHeld ps (if b then changed_at seats n (λ s. record s { due = None }) else seats)
    by_case true has' =
        let x = has' refl in
        subst (AreHeld ps) (sym (changed-insert seats n x.0 (λ s. record s { due = None }) x.1)) (λ q s there.
        elim (same_or_other numbers q n) [
          | inl here ↦
              let new : Seat = record x.0 { due = None } in
              let is : new ≡ s = some_is (sym (at_same numbers seats n new) ∙ ap (map.get (map.insert seats n new)) (sym here) ∙ there) in
              let one = h n x.0 x.1 in
              (λ held. subst (IsNamed ps) (sym here) (one.0 (ap (λ (y : Seat). y.held) is ∙ held)), λ named. ap (λ (y : Seat). y.held) (sym is) ∙ one.1 (subst (IsNamed ps) here named))
          | inr other ↦ h q s (sym (at_other numbers seats n (record x.0 { due = None }) q other) ∙ there)
        ])
    by_case false has' = h
