-- The index of the own queue's entries, and what changes make of it.
use Rattle.std.proofs.Common.{◌≡◌, ◌≢◌, ℕ, List, Bool, true, false, Option, Some, None, refl, sym, ap, ◌∙◌, subst, inl, inr, arith}
use Rattle.std.specs.Prelude.{bytes_eq, option_map, is_some, IsSome, if◌then◌else◌}
use Rattle.std.specs.FinMap as map
use Rattle.nb_base.proofs.Maps.{numbers, same_or_other, at_same, at_other, gone, kept}
use Rattle.nb_base.specs.Orders.{ByNumber}
use Rattle.nb_base.specs.Sound.{IsSoundPost}
use Rattle.nb_base.specs.declared.tables.PostState.{PostState}
use Rattle.nb_base.specs.declared.tables.Queued.{Queued}
use Rattle.nb_hub.specs.Indexed.{IsIndexed, due_in, noted, dropped, undelayed}
use Rattle.nb_queue.specs.Stands.{stands_now}
use Rattle.nb_ready.proofs.ChangeLaws.{changed-insert}
use Rattle.nb_ready.specs.Seats.{Seats, Has, HasA, fresh, changed_at}
use Rattle.nb_ready.specs.declared.seat.Seat.{Seat}

abbrev pub due_of : Option Seat → Option (Option ℕ)
due_of o = option_map (λ (s : Seat). s.due) o

some_same : {A : Type 0} {x y : A} → Some x ≡ Some y → x ≡ y
some_same e = cc

-- a number of which a due is known is there
seated : (o : Option Seat) (due : Option ℕ) → due_of o ≡ Some due → (s : Seat) × (o ≡ Some s) × (s.due ≡ due)
seated None due is = absurd cc
seated (Some s) due is = (s, refl, some_same is)

-- an entry of the own queue is in the index, with its due
pub is_seated : (own : List ℕ) (entries : ByNumber Queued) (seats : Seats) (n : ℕ) (e : Queued) → IsIndexed own entries seats → map.get entries n ≡ Some e → bytes_eq e.queue own ≡ true → (s : Seat) × Has seats n s × (s.due ≡ e.due)
is_seated own entries seats n e has there is_own =
    seated (map.get seats n) e.due (has n ∙ ap (due_in own) there ∙ ap (λ b. if b then Some e.due else None) is_own)

pub can_drop : (own : List ℕ) (entries : ByNumber Queued) (seats : Seats) (n : ℕ) (e : Queued) → IsIndexed own entries seats → map.get entries n ≡ Some e → bytes_eq e.queue own ≡ true → IsSome (map.get seats n)
can_drop own entries seats n e has there is_own = ap is_some (is_seated own entries seats n e has there is_own).1

pub can_release : (own : List ℕ) (entries : ByNumber Queued) (seats : Seats) (n : ℕ) (e : Queued) → IsIndexed own entries seats → map.get entries n ≡ Some e → is_some e.due ≡ true → bytes_eq e.queue own ≡ true → HasA (λ s. is_some s.due) seats n
can_release own entries seats n e has there delayed is_own =
    let x = is_seated own entries seats n e has there is_own in
    (x.0, x.1, ap is_some x.2 ∙ delayed)

-- no number is in the index that no entry has
pub none_seated : (own : List ℕ) (entries : ByNumber Queued) (seats : Seats) (n : ℕ) → IsIndexed own entries seats → map.get entries n ≡ None → map.get seats n ≡ None
none_seated own entries seats n has none = by_seat (map.get seats n) (has n ∙ ap (due_in own) none)
  where
    by_seat : (o : Option Seat) → due_of o ≡ None → o ≡ None
    by_seat None is = refl
    by_seat (Some s) is = absurd cc

pub indexed_noted : (own : List ℕ) (entries : ByNumber Queued) (seats : Seats) (n : ℕ) (e : Queued) → IsIndexed own entries seats → map.get entries n ≡ None → IsIndexed own (map.insert entries n e) (noted own seats n e.queue e.due)
indexed_noted own entries seats n e has none q =
    elim (same_or_other numbers q n) [
      | inl same ↦
          subst (λ k. due_of (map.get (noted own seats n e.queue e.due) k) ≡ due_in own (map.get (map.insert entries n e) k)) (sym same)
          (here (bytes_eq e.queue own) ∙ sym (ap (due_in own) (at_same numbers entries n e)))
      | inr other ↦ beside (bytes_eq e.queue own) other ∙ has q ∙ sym (ap (due_in own) (at_other numbers entries n e q other))
    ]
  where
    here : (b : Bool) → due_of (map.get (if b then map.insert seats n (fresh e.due) else seats) n) ≡ (if b then Some e.due else None)
    here true = ap due_of (at_same numbers seats n (fresh e.due))
    here false = ap due_of (none_seated own entries seats n has none)

    beside : (b : Bool) → q ≢ n → due_of (map.get (if b then map.insert seats n (fresh e.due) else seats) q) ≡ due_of (map.get seats q)
    beside true other = ap due_of (at_other numbers seats n (fresh e.due) q other)
    beside false other = refl

pub indexed_dropped : (own : List ℕ) (entries : ByNumber Queued) (seats : Seats) (n : ℕ) (e : Queued) → IsIndexed own entries seats → map.get entries n ≡ Some e → IsIndexed own (map.remove entries n) (dropped own seats n e.queue)
indexed_dropped own entries seats n e has there q =
    elim (same_or_other numbers q n) [
      | inl same ↦
          subst (λ k. due_of (map.get (dropped own seats n e.queue) k) ≡ due_in own (map.get (map.remove entries n) k)) (sym same)
          (here (bytes_eq e.queue own) refl ∙ sym (ap (due_in own) (gone numbers entries n)))
      | inr other ↦ beside (bytes_eq e.queue own) other ∙ has q ∙ sym (ap (due_in own) (kept numbers entries n q other))
    ]
  where
    here : (b : Bool) → bytes_eq e.queue own ≡ b → due_of (map.get (if b then map.remove seats n else seats) n) ≡ None
    here true is = ap due_of (gone numbers seats n)
    here false is = has n ∙ ap (due_in own) there ∙ ap (λ b. if b then Some e.due else None) is

    beside : (b : Bool) → q ≢ n → due_of (map.get (if b then map.remove seats n else seats) q) ≡ due_of (map.get seats q)
    beside true other = ap due_of (kept numbers seats n q other)
    beside false other = refl

pub indexed_released : (own : List ℕ) (entries : ByNumber Queued) (seats : Seats) (n : ℕ) (e : Queued) → IsIndexed own entries seats → map.get entries n ≡ Some e → IsIndexed own (map.insert entries n (stands_now e)) (undelayed own seats n e.queue)
indexed_released own entries seats n e has there q =
    elim (same_or_other numbers q n) [
      | inl same ↦
          subst (λ k. due_of (map.get (undelayed own seats n e.queue) k) ≡ due_in own (map.get (map.insert entries n (stands_now e)) k)) (sym same)
          (here (bytes_eq e.queue own) refl ∙ sym (ap (due_in own) (at_same numbers entries n (stands_now e))))
      | inr other ↦ beside (bytes_eq e.queue own) refl other ∙ has q ∙ sym (ap (due_in own) (at_other numbers entries n (stands_now e) q other))
    ]
  where
    free : Seat → Seat
    free s = record s { due = None }

    here : (b : Bool) → bytes_eq e.queue own ≡ b → due_of (map.get (if b then changed_at seats n (λ s. record s { due = None }) else seats) n) ≡ (if b then Some None else None)
    here true is =
        let x = is_seated own entries seats n e has there is in
        ap (λ m. due_of (map.get m n)) (changed-insert seats n x.0 (λ s. record s { due = None }) x.1) ∙ ap due_of (at_same numbers seats n (record x.0 { due = None }))
    here false is = has n ∙ ap (due_in own) there ∙ ap (λ b. if b then Some e.due else None) is

    beside : (b : Bool) → bytes_eq e.queue own ≡ b → q ≢ n → due_of (map.get (if b then changed_at seats n (λ s. record s { due = None }) else seats) q) ≡ due_of (map.get seats q)
    beside true is other =
        let x = is_seated own entries seats n e has there is in
        ap (λ m. due_of (map.get m q)) (changed-insert seats n x.0 (λ s. record s { due = None }) x.1) ∙ ap due_of (at_other numbers seats n (record x.0 { due = None }) q other)
    beside false is other = refl

-- whether a number is held says nothing of its due
pub indexed_held : (own : List ℕ) (entries : ByNumber Queued) (seats : Seats) (n : ℕ) (b : Bool) (s : Seat) → Has seats n s → IsIndexed own entries seats → IsIndexed own entries (changed_at seats n (λ x. record x { held = b }))
indexed_held own entries seats n b s there has q =
    ap (λ m. due_of (map.get m q)) (changed-insert seats n s (λ x. record x { held = b }) there)
    ∙ elim (same_or_other numbers q n) [
      | inl same ↦
          subst (λ k. due_of (map.get (map.insert seats n (record s { held = b })) k) ≡ due_in own (map.get entries k)) (sym same)
          (ap due_of (at_same numbers seats n (record s { held = b })) ∙ sym (ap due_of there) ∙ has n)
      | inr other ↦ ap due_of (at_other numbers seats n (record s { held = b }) q other) ∙ has q
    ]

-- no entry has the next number
pub next_new : (p : PostState) → IsSoundPost p → map.get p.entries p.next ≡ None
next_new p sound = by_entry (map.get p.entries p.next) refl
  where
    by_entry : (o : Option Queued) → map.get p.entries p.next ≡ o → o ≡ None
    by_entry None is = refl
    by_entry (Some e) is = let below = (sound.entries p.next e is).below in absurd (omega arith)

-- what was noted is there, where it is of the own queue
pub noted_there : (own : List ℕ) (seats : Seats) (n : ℕ) (queue : List ℕ) (due : Option ℕ) → bytes_eq queue own ≡ true → IsSome (map.get (noted own seats n queue due) n)
noted_there own seats n queue due is_own =
    ap (λ (b : Bool). is_some (map.get (if b then map.insert seats n (fresh due) else seats) n)) is_own ∙ ap is_some (at_same numbers seats n (fresh due))

-- what was noted and is dropped again
pub dropped_again : (own : List ℕ) (seats : Seats) (n : ℕ) (queue : List ℕ) (due : Option ℕ) → map.get seats n ≡ None → dropped own (noted own seats n queue due) n queue ≡ seats
dropped_again own seats n queue due none = by_case (bytes_eq queue own)
  where
    by_case : (b : Bool) → (if b then map.remove (if b then map.insert seats n (fresh due) else seats) n else (if b then map.insert seats n (fresh due) else seats)) ≡ seats
    by_case true = map.same_map numbers.total numbers.same _ _ (λ q.
        elim (same_or_other numbers q n) [
          | inl same ↦ ap (map.get (map.remove (map.insert seats n (fresh due)) n)) same ∙ gone numbers (map.insert seats n (fresh due)) n ∙ sym none ∙ ap (map.get seats) (sym same)
          | inr other ↦ kept numbers (map.insert seats n (fresh due)) n q other ∙ at_other numbers seats n (fresh due) q other
        ])
    by_case false = refl
