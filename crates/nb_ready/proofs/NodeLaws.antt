-- What a node shows, by its kind.
use Rattle.std.specs.Prelude.{◌≡◌, ◌≢◌, ℕ, ◌<◌, ◌≤◌, Option, Some, None}
use Rattle.std.proofs.Common.{◌∙◌, Box, sym, ap, subst, inl, inr, IsSome, true≢false}
use Rattle.std.specs.declared.alloc.Global.{Global}
use Rattle.std.specs.FinMap as finite
use Rattle.std.specs.Ordering.{nat_cmp}
use Rattle.nb_base.proofs.Maps.{numbers, same_or_other, at_same, at_other}
use Rattle.nb_ready.specs.First.{IsFirst, first_of}
use Rattle.nb_ready.specs.Nodes.{shown, joined, AreApart, IsForked, IsTree}
use Rattle.nb_ready.specs.Seats.{Seats, Shown}
use Rattle.nb_ready.specs.declared.first.First.{First}
use Rattle.nb_ready.specs.declared.seat.Seat.{Seat}
use Rattle.nb_ready.specs.declared.tree.Tree.{Tree}
use Rattle.nb_ready.specs.declared.tree.Node.{Node}
use Rattle.nb_ready.specs.declared.tree.Node.TheVariants.{Empty, One, Fork}
use Rattle.nb_ready.proofs.FirstLaws.{first_none, first_one}
use Rattle.nb_ready.proofs.SeatLaws.{get-low, get-high, insert-insert, remove-absent, remove-one, insert_low, insert_high, remove_low, remove_high, apart-insert_low, apart-insert_high, apart-remove_low, apart-remove_high}

pub is_empty : (node : Node) (v : Shown) → shown node ≡ v → node ≡ Empty → v.0 ≡ finite.empty
is_empty node v is kind = ap (λ (x : Shown). x.0) (sym is ∙ ap shown kind)

pub is_one : (node : Node) (v : Shown) (n : ℕ) (s : Seat) → shown node ≡ v → node ≡ One n s → v.0 ≡ finite.insert finite.empty n s
is_one node v n s is kind = ap (λ (x : Shown). x.0) (sym is ∙ ap shown kind)

pub first_empty : (node : Node) (v : Shown) → shown node ≡ v → node ≡ Empty → IsFirst v.0 (record { free = None; due = None })
first_empty node v is kind = subst (λ m. IsFirst m (record { free = None; due = None })) (sym (is_empty node v is kind)) first_none

pub first_at_one : (node : Node) (v : Shown) (n : ℕ) (s : Seat) → shown node ≡ v → node ≡ One n s → IsFirst v.0 (first_of n s)
first_at_one node v n s is kind = subst (λ m. IsFirst m (first_of n s)) (sym (is_one node v n s is kind)) (first_one n s)

pub get_empty : (node : Node) (v : Shown) (q : ℕ) → shown node ≡ v → node ≡ Empty → None ≡ finite.get v.0 q
get_empty node v q is kind = sym (ap (λ m. finite.get m q) (is_empty node v is kind) ∙ finite.get-empty nat_cmp q)

pub get_same : (node : Node) (v : Shown) (n : ℕ) (s : Seat) (q : ℕ) → shown node ≡ v → node ≡ One n s → n ≡ q → Some s ≡ finite.get v.0 q
get_same node v n s q is kind same = subst (λ k. Some s ≡ finite.get v.0 k) same (sym (ap (λ m. finite.get m n) (is_one node v n s is kind) ∙ at_same numbers finite.empty n s))

pub get_other : (node : Node) (v : Shown) (n : ℕ) (s : Seat) (q : ℕ) → shown node ≡ v → node ≡ One n s → n ≢ q → None ≡ finite.get v.0 q
get_other node v n s q is kind other = sym (ap (λ m. finite.get m q) (is_one node v n s is kind) ∙ at_other numbers finite.empty n s q (λ e. other (sym e)) ∙ finite.get-empty nat_cmp q)

-- what is known of a fork
pub record AtFork (m l : Seats) (p : ℕ) (r : Seats) : Type 0 where
  pub is : m ≡ joined l r
  pub apart : AreApart l p r

pub at_fork : {node : Node} {v : Shown} {low high : Box Tree Global} {p : ℕ} {f : First} → shown node ≡ v → IsTree node → node ≡ Fork low p f high → AtFork v.0 low.value.0 p high.value.0
at_fork {node} {v} {low} {high} {p} {f} is tree kind =
    let good = subst IsTree kind tree in
    record { is = ap (λ (x : Shown). x.0) (sym is ∙ ap shown kind); apart = good.0 }

pub get_at_low : {m l : Seats} {p : ℕ} {r : Seats} (q : ℕ) → AtFork m l p r → q < p → finite.get l q ≡ finite.get m q
get_at_low {m} {l} {p} {r} q at lt = sym (ap (λ x. finite.get x q) at.is ∙ get-low l r p q at.apart lt)

pub get_at_high : {m l : Seats} {p : ℕ} {r : Seats} (q : ℕ) → AtFork m l p r → p ≤ q → finite.get r q ≡ finite.get m q
get_at_high {m} {l} {p} {r} q at le = sym (ap (λ x. finite.get x q) at.is ∙ get-high l r p q at.apart le)

-- one side with one number more, or with a number changed
pub insert_at_low : {m l : Seats} {p : ℕ} {r : Seats} (n : ℕ) (s : Seat) (new : Seats) → AtFork m l p r → n < p → new ≡ finite.insert l n s → AtFork (finite.insert m n s) new p r
insert_at_low {m} {l} {p} {r} n s new at lt is =
    subst (λ x. AtFork (finite.insert m n s) x p r) (sym is)
    (record { is = ap (λ x. finite.insert x n s) at.is ∙ sym (insert_low l r n s); apart = apart-insert_low l r p n s at.apart lt })

pub insert_at_high : {m l : Seats} {p : ℕ} {r : Seats} (n : ℕ) (s : Seat) (new : Seats) → AtFork m l p r → p ≤ n → new ≡ finite.insert r n s → AtFork (finite.insert m n s) l p new
insert_at_high {m} {l} {p} {r} n s new at le is =
    subst (λ x. AtFork (finite.insert m n s) l p x) (sym is)
    (record { is = ap (λ x. finite.insert x n s) at.is ∙ sym (insert_high l r p n s at.apart le); apart = apart-insert_high l r p n s at.apart le })

-- one side with a number taken out
pub remove_at_low : {m l : Seats} {p : ℕ} {r : Seats} (n : ℕ) (new : Seats) → AtFork m l p r → n < p → new ≡ finite.remove l n → AtFork (finite.remove m n) new p r
remove_at_low {m} {l} {p} {r} n new at lt is =
    subst (λ x. AtFork (finite.remove m n) x p r) (sym is)
    (record { is = ap (λ x. finite.remove x n) at.is ∙ sym (remove_low l r p n at.apart lt); apart = apart-remove_low l r p n at.apart })

pub remove_at_high : {m l : Seats} {p : ℕ} {r : Seats} (n : ℕ) (new : Seats) → AtFork m l p r → p ≤ n → new ≡ finite.remove r n → AtFork (finite.remove m n) l p new
remove_at_high {m} {l} {p} {r} n new at le is =
    subst (λ x. AtFork (finite.remove m n) l p x) (sym is)
    (record { is = ap (λ x. finite.remove x n) at.is ∙ sym (remove_high l r p n at.apart le); apart = apart-remove_high l r p n at.apart })

some_none : (o : Option Seat) → o ≡ None → IsSome o → ⊥
some_none None e has = absurd (true≢false (sym has))
some_none (Some s) e has = absurd (cc)

pub set_empty : (node : Node) (v : Shown) (q : ℕ) (to : Seat) → shown node ≡ v → node ≡ Empty → IsSome (finite.get v.0 q) → (shown node).0 ≡ finite.insert v.0 q to
set_empty node v q to is kind has = absurd (some_none _ (sym (get_empty node v q is kind)) has)

pub set_one : (node : Node) (v : Shown) (n : ℕ) (s : Seat) (q : ℕ) (to : Seat) → shown node ≡ v → node ≡ One n s → IsSome (finite.get v.0 q) → finite.insert finite.empty n to ≡ finite.insert v.0 q to
set_one node v n s q to is kind has =
    elim (same_or_other numbers n q) [
      | inl same ↦
          ap (λ k. finite.insert finite.empty k to) same
          ∙ sym (ap (λ m. finite.insert m q to) (is_one node v n s is kind ∙ ap (λ k. finite.insert finite.empty k s) same) ∙ insert-insert finite.empty q s to)
      | inr other ↦ absurd (some_none _ (sym (get_other node v n s q is kind other)) has)
    ]

-- a node that is a fork of these sides
pub forked : (node : Node) (m : Seats) {low high : Box Tree Global} {p : ℕ} {f : First} → node ≡ Fork low p f high → AtFork m low.value.0 p high.value.0 → IsForked node × ((shown node).0 ≡ m)
forked node m kind at = (subst IsForked (sym kind) at.apart, ap (λ n. (shown n).0) kind ∙ sym at.is)

pub remove_empty : (node : Node) (v : Shown) (q : ℕ) → shown node ≡ v → node ≡ Empty → (shown node).0 ≡ finite.remove v.0 q
remove_empty node v q is kind = ap (λ (x : Shown). x.0) is ∙ remove-absent v.0 q (sym (get_empty node v q is kind))

pub remove_other : (node : Node) (v : Shown) (n : ℕ) (s : Seat) (q : ℕ) → shown node ≡ v → node ≡ One n s → n ≢ q → finite.insert finite.empty n s ≡ finite.remove v.0 q
remove_other node v n s q is kind other = sym (is_one node v n s is kind) ∙ remove-absent v.0 q (sym (get_other node v n s q is kind other))

pub remove_same : (node : Node) (v : Shown) (n : ℕ) (s : Seat) (q : ℕ) → shown node ≡ v → node ≡ One n s → n ≡ q → finite.empty ≡ finite.remove v.0 q
remove_same node v n s q is kind same = subst (λ k. finite.empty ≡ finite.remove v.0 k) same (remove-one n s ∙ sym (ap (λ m. finite.remove m n) (is_one node v n s is kind)))

pub differ : (node : Node) (v : Shown) (n : ℕ) (s : Seat) (q : ℕ) → shown node ≡ v → node ≡ One n s → finite.get v.0 q ≡ None → n ≢ q
differ node v n s q is kind none same = let e : Some s ≡ None = get_same node v n s q is kind same ∙ none in cc

-- a number more where none or one is
pub add_empty : (node : Node) (v : Shown) (n : ℕ) (s : Seat) → shown node ≡ v → node ≡ Empty → finite.insert finite.empty n s ≡ finite.insert v.0 n s
add_empty node v n s is kind = ap (λ m. finite.insert m n s) (sym (is_empty node v is kind))

pub add_one : (node : Node) (v : Shown) (n : ℕ) (s : Seat) (q : ℕ) (t : Seat) → shown node ≡ v → node ≡ One n s → finite.insert (finite.insert finite.empty n s) q t ≡ finite.insert v.0 q t
add_one node v n s q t is kind = ap (λ m. finite.insert m q t) (sym (is_one node v n s is kind))

-- a side with the same numbers
pub same_low : {m l : Seats} {p : ℕ} {r : Seats} (new : Seats) → AtFork m l p r → new ≡ l → AtFork m new p r
same_low {m} {l} {p} {r} new at is = subst (λ x. AtFork m x p r) (sym is) at

pub same_high : {m l : Seats} {p : ℕ} {r : Seats} (new : Seats) → AtFork m l p r → new ≡ r → AtFork m l p new
same_high {m} {l} {p} {r} new at is = subst (λ x. AtFork m l p x) (sym is) at
