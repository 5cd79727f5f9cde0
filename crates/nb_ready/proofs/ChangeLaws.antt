-- What is known of numbers after a change of one of them.
use Rattle.std.specs.Prelude.{◌≡◌, ◌≢◌, ℕ, Option, None}
use Rattle.std.proofs.Common.{◌∙◌, ap}
use Rattle.std.specs.FinMap as finite
use Rattle.std.specs.Option.{option_map_or}
use Rattle.std.specs.Ordering.{nat_cmp}
use Rattle.nb_base.proofs.Maps.{numbers, at_same, at_other}
use Rattle.nb_ready.specs.Seats.{Seats, Has, changed_at}
use Rattle.nb_ready.specs.declared.seat.Seat.{Seat}

pub changed-insert : (m : Seats) (n : ℕ) (s : Seat) (f : Seat → Seat) → Has m n s → changed_at m n f ≡ finite.insert m n (f s)
changed-insert m n s f has = ap (λ o. option_map_or (λ x. finite.insert m n (f x)) o m) has

pub has_changed : (m new : Seats) (n : ℕ) (s : Seat) (f : Seat → Seat) → new ≡ changed_at m n f → Has m n s → Has new n (f s)
has_changed m new n s f is has = ap (λ x. finite.get x n) (is ∙ changed-insert m n s f has) ∙ at_same numbers m n (f s)

pub has_kept : (m new : Seats) (n : ℕ) (s : Seat) (f : Seat → Seat) (q : ℕ) (t : Seat) → new ≡ changed_at m n f → Has m n s → q ≢ n → Has m q t → Has new q t
has_kept m new n s f q t is has other kept = ap (λ x. finite.get x q) (is ∙ changed-insert m n s f has) ∙ at_other numbers m n (f s) q other ∙ kept

pub has_added : (m new : Seats) (n : ℕ) (s : Seat) → new ≡ finite.insert m n s → Has new n s
has_added m new n s is = ap (λ x. finite.get x n) is ∙ at_same numbers m n s

pub has_beside : (m new : Seats) (n : ℕ) (s : Seat) (q : ℕ) (o : Option Seat) → new ≡ finite.insert m n s → q ≢ n → finite.get m q ≡ o → finite.get new q ≡ o
has_beside m new n s q o is other was = ap (λ x. finite.get x q) is ∙ at_other numbers m n s q other ∙ was

pub nothing : (m : Seats) (q : ℕ) → m ≡ finite.empty → finite.get m q ≡ None
nothing m q is = ap (λ x. finite.get x q) is ∙ finite.get-empty nat_cmp q
