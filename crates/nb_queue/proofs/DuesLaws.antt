-- The index of the entries with a due, and what changes make of it.
use Rattle.std.specs.Prelude.{◌≡◌, ◌≢◌, ℕ, true, is_some, IsSome, Option, Some, None, option_map, refl}
use Rattle.std.proofs.Common.{◌∙◌, inl, inr, sym, ap, subst, arith}
use Rattle.std.specs.FinMap as map
use Rattle.std.specs.Ordering.{nat_cmp}
use Rattle.nb_base.proofs.Maps.{numbers, same_or_other, at_same, at_other, gone, kept}
use Rattle.nb_base.specs.Orders.{ByNumber}
use Rattle.nb_base.specs.declared.entry.Waiting.{Waiting}
use Rattle.nb_base.specs.declared.tables.Queued.{Queued}
use Rattle.nb_queue.specs.Dues.{IsFirstWaiting, seat_of, HasDues, noted, dropped}
use Rattle.nb_queue.specs.Stands.{stands_now}
use Rattle.nb_ready.specs.Seats.{Seats, fresh, Has, IsFirstDue}
use Rattle.nb_ready.specs.declared.seat.Seat.{Seat}

-- the seat of a due
abbrev at_due : Option ℕ → Option Seat
at_due due = option_map (λ d. fresh (Some d)) due

-- ---- numbers noted and dropped

noted_here : (dues : Seats) (n : ℕ) (due : Option ℕ) → map.get dues n ≡ None → map.get (noted dues n due) n ≡ at_due due
noted_here dues n None none = none
noted_here dues n (Some due) none = at_same numbers dues n (fresh (Some due))

noted_other : (dues : Seats) (n q : ℕ) (due : Option ℕ) → q ≢ n → map.get (noted dues n due) q ≡ map.get dues q
noted_other dues n q None other = refl
noted_other dues n q (Some due) other = at_other numbers dues n (fresh (Some due)) q other

dropped_here : (dues : Seats) (n : ℕ) (due : Option ℕ) → map.get dues n ≡ at_due due → map.get (dropped dues n due) n ≡ None
dropped_here dues n None is = is
dropped_here dues n (Some due) is = gone numbers dues n

dropped_other : (dues : Seats) (n q : ℕ) (due : Option ℕ) → q ≢ n → map.get (dropped dues n due) q ≡ map.get dues q
dropped_other dues n q None other = refl
dropped_other dues n q (Some due) other = kept numbers dues n q other

some_due : (o : Option Seat) (due : Option ℕ) → o ≡ at_due due → is_some due ≡ true → IsSome o
some_due o None is some = absurd cc
some_due o (Some due) is some = ap is_some is

-- the index has no number that no entry has
pub none_noted : (entries : ByNumber Queued) (dues : Seats) (n : ℕ) → HasDues entries dues → map.get entries n ≡ None → map.get dues n ≡ None
none_noted entries dues n has none = has n ∙ ap seat_of none

pub can_forget : (entries : ByNumber Queued) (dues : Seats) (n : ℕ) (e : Queued) → HasDues entries dues → map.get entries n ≡ Some e → is_some e.due ≡ true → IsSome (map.get dues n)
can_forget entries dues n e has there some = some_due _ e.due (has n ∙ ap seat_of there) some

pub can_forget_noted : (dues : Seats) (n : ℕ) (due : Option ℕ) → map.get dues n ≡ None → is_some due ≡ true → IsSome (map.get (noted dues n due) n)
can_forget_noted dues n due none some = some_due _ due (noted_here dues n due none) some

-- ---- changes

pub dues_none : HasDues map.empty map.empty
dues_none q = map.get-empty nat_cmp q ∙ sym (ap seat_of (map.get-empty nat_cmp q))

pub dues_added : (entries : ByNumber Queued) (dues : Seats) (n : ℕ) (e : Queued) → HasDues entries dues → map.get entries n ≡ None → HasDues (map.insert entries n e) (noted dues n e.due)
dues_added entries dues n e has none q =
    elim (same_or_other numbers q n) [
      | inl same ↦
          subst (λ k. map.get (noted dues n e.due) k ≡ seat_of (map.get (map.insert entries n e) k)) (sym same)
          (noted_here dues n e.due (none_noted entries dues n has none) ∙ sym (ap seat_of (at_same numbers entries n e)))
      | inr other ↦ noted_other dues n q e.due other ∙ has q ∙ sym (ap seat_of (at_other numbers entries n e q other))
    ]

pub dues_removed : (entries : ByNumber Queued) (dues : Seats) (n : ℕ) (e : Queued) → HasDues entries dues → map.get entries n ≡ Some e → HasDues (map.remove entries n) (dropped dues n e.due)
dues_removed entries dues n e has there q =
    elim (same_or_other numbers q n) [
      | inl same ↦
          subst (λ k. map.get (dropped dues n e.due) k ≡ seat_of (map.get (map.remove entries n) k)) (sym same)
          (dropped_here dues n e.due (has n ∙ ap seat_of there) ∙ sym (ap seat_of (gone numbers entries n)))
      | inr other ↦ dropped_other dues n q e.due other ∙ has q ∙ sym (ap seat_of (kept numbers entries n q other))
    ]

pub dues_released : (entries : ByNumber Queued) (dues : Seats) (n : ℕ) (e : Queued) → HasDues entries dues → map.get entries n ≡ Some e → HasDues (map.insert entries n (stands_now e)) (dropped dues n e.due)
dues_released entries dues n e has there q =
    elim (same_or_other numbers q n) [
      | inl same ↦
          subst (λ k. map.get (dropped dues n e.due) k ≡ seat_of (map.get (map.insert entries n (stands_now e)) k)) (sym same)
          (dropped_here dues n e.due (has n ∙ ap seat_of there) ∙ sym (ap seat_of (at_same numbers entries n (stands_now e))))
      | inr other ↦ dropped_other dues n q e.due other ∙ has q ∙ sym (ap seat_of (at_other numbers entries n (stands_now e) q other))
    ]

-- no entry is under the number
pub dues_absent : (entries : ByNumber Queued) (dues : Seats) (n : ℕ) → HasDues entries dues → map.get entries n ≡ None → HasDues (map.remove entries n) dues
dues_absent entries dues n has none q =
    elim (same_or_other numbers q n) [
      | inl same ↦ subst (λ k. map.get dues k ≡ seat_of (map.get (map.remove entries n) k)) (sym same) (has n ∙ ap seat_of (none ∙ sym (gone numbers entries n)))
      | inr other ↦ has q ∙ sym (ap seat_of (kept numbers entries n q other))
    ]

-- a number that was noted and dropped again
pub dues_undone : (entries : ByNumber Queued) (dues : Seats) (n : ℕ) (due : Option ℕ) → HasDues entries dues → map.get entries n ≡ None → HasDues entries (dropped (noted dues n due) n due)
dues_undone entries dues n due has none q =
    elim (same_or_other numbers q n) [
      | inl same ↦
          subst (λ k. map.get (dropped (noted dues n due) n due) k ≡ seat_of (map.get entries k)) (sym same)
          (dropped_here (noted dues n due) n due (noted_here dues n due (none_noted entries dues n has none)) ∙ sym (ap seat_of none))
      | inr other ↦ dropped_other (noted dues n due) n q due other ∙ noted_other dues n q due other ∙ has q
    ]

-- ---- the first one

no_due : (o : Option ℕ) → ((d : ℕ) → o ≡ Some d → ⊥) → o ≡ None
no_due None h = refl
no_due (Some d) h = absurd (h d refl)

not_some : (d : ℕ) → Some d ≡ None → ⊥
not_some d e = cc

seat_there : (entries : ByNumber Queued) (dues : Seats) (n : ℕ) (e : Queued) (due : ℕ) → HasDues entries dues → map.get entries n ≡ Some e → e.due ≡ Some due → Has dues n (fresh (Some due))
seat_there entries dues n e due has there is = has n ∙ ap seat_of there ∙ ap at_due is

due_there : (e : Queued) (s : Seat) (due : ℕ) (o : Option ℕ) → e.due ≡ o → at_due o ≡ Some s → s.due ≡ Some due → e.due ≡ Some due
due_there e s due None is at has = absurd cc
due_there e s due (Some d) is at has = let same : fresh (Some d) ≡ s = cc in is ∙ ap (λ (x : Seat). x.due) same ∙ has

entry_there : (o : Option Queued) (s : Seat) (due : ℕ) → seat_of o ≡ Some s → s.due ≡ Some due → (e : Queued) × (o ≡ Some e) × (e.due ≡ Some due)
entry_there None s due at has = absurd cc
entry_there (Some e) s due at has = (e, refl, due_there e s due e.due refl at has)

pub first_waiting : (entries : ByNumber Queued) (dues : Seats) (r : Option Waiting) → HasDues entries dues → IsFirstDue dues r → IsFirstWaiting entries r
first_waiting entries dues None has first = λ n e there. no_due e.due (λ d is. not_some d (first n (fresh (Some d)) (seat_there entries dues n e d has there is)))
first_waiting entries dues (Some w) has first =
    let found = entry_there (map.get entries w.number) first.0.0 w.due (sym (has w.number) ∙ first.0.1) first.0.2 in
    record {
      it = found.0;
      there = found.1;
      due_is = found.2;
      least = λ other e d there is.
          let before = first.1 other (fresh (Some d)) d (seat_there entries dues other e d has there is) refl in
          let le = before.0 in
          elim (same_or_other numbers w.due d) [
            | inl same ↦ inr (same, before.1 same)
            | inr apart ↦ inl (omega arith)
          ];
    }
