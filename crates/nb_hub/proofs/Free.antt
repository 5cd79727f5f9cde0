-- The least free number of the index is the least free entry of the own queue.
use Rattle.std.proofs.Common.{◌≡◌, ℕ, List, Bool, true, false, true≢false, Option, Some, None, refl, sym, ap, ◌∙◌}
use Rattle.std.proofs.lemmas.Slice.Eq.{bytes_eq-Decides}
use Rattle.std.specs.Prelude.{bytes_eq, is_none, not, ◌&&◌, if◌then◌else◌}
use Rattle.nb_base.specs.declared.tables.Queued.{Queued}
use Rattle.nb_core.specs.Standing.{Constants, entry, IsFree, IsLeastFree}
use Rattle.nb_core.specs.declared.state.State.{State}
use Rattle.nb_hub.proofs.Indexing.{due_of, is_seated}
use Rattle.nb_hub.specs.Indexed.{IsIndexed, due_in}
use Rattle.nb_hub.specs.Kept.{AreHeld}
use Rattle.nb_ready.specs.Seats.{Seats, Has, HasA, is_free}
use Rattle.nb_ready.specs.Seats as seat
use Rattle.nb_ready.specs.declared.seat.Seat.{Seat}

-- both parts of a test
both : (a b : Bool) → a && b ≡ true → (a ≡ true) × (b ≡ true)
both true true h = (refl, refl)
both true false h = absurd (true≢false (sym h))
both false b h = absurd (true≢false (sym h))

off : (b : Bool) → not b ≡ true → b ≡ false
off true h = absurd (true≢false (sym h))
off false h = refl

none_due : (due : Option ℕ) → is_none due ≡ true → due ≡ None
none_due None h = refl
none_due (Some d) h = absurd (true≢false (sym h))

-- an entry of which the index has a number stands in the own queue
found : (own : List ℕ) (o : Option Queued) (due : Option ℕ) → Some due ≡ due_in own o → (e : Queued) × (o ≡ Some e) × (e.queue ≡ own) × (e.due ≡ due)
found own None due is = absurd cc
found own (Some e) due is = by_case (bytes_eq e.queue own) refl is
  where
    by_case : (b : Bool) → bytes_eq e.queue own ≡ b → Some due ≡ (if b then Some e.due else None) → (x : Queued) × (Some e ≡ Some x) × (x.queue ≡ own) × (x.due ≡ due)
    by_case true at eq = (e, refl, (bytes_eq-Decides e.queue own).0 at, cc)
    by_case false at eq = absurd cc

module _ (c : Constants) (s : State) (own : List ℕ) (seats : Seats) (own_is : own ≡ c.settings.endpoint) (has : IsIndexed own s.post.entries seats) (held : AreHeld s.phases seats) where
  free_of : (n : ℕ) (x : Seat) → Has seats n x → is_free x ≡ true → IsFree c s n
  free_of n x there free =
      let two = both (is_none x.due) (not x.held) free in
      let e = found own (entry s n) x.due (sym (ap due_of there) ∙ has n) in
      record {
        it = e.0;
        there = e.1;
        ready = (e.2 ∙ own_is, e.3 ∙ none_due x.due two.0);
        unnamed = λ w names. true≢false (sym ((held n x there).1 (w, names)) ∙ off x.held two.1);
      }

  seat_of : (n : ℕ) → IsFree c s n → HasA is_free seats n
  seat_of n f =
      let x = is_seated own s.post.entries seats n f.it has f.there ((bytes_eq-Decides f.it.queue own).1 (f.ready.0 ∙ sym own_is)) in
      (x.0, x.1, pass x.0 (x.2 ∙ f.ready.1) (x.0.held) refl x.1)
    where
      pass : (x : Seat) → x.due ≡ None → (b : Bool) → x.held ≡ b → Has seats n x → is_free x ≡ true
      pass x none true is there = let w = (held n x there).0 is in absurd (f.unnamed w.0 w.1)
      pass x none false is there = ap (λ (d : Option ℕ). is_none d && not x.held) none ∙ ap not is

  pub least_found : (n : ℕ) → seat.IsLeastFree seats (Some n) → IsLeastFree c s n
  least_found n l = record {
    free = free_of n l.0.0 l.0.1 l.0.2;
    least = λ q f. let x = seat_of q f in l.1 q x.0 x.1 x.2;
  }

  pub none_free : seat.IsLeastFree seats None → (n : ℕ) → IsFree c s n → ⊥
  none_free l n f = let x = seat_of n f in true≢false (sym x.2 ∙ l n x.0 x.1)
