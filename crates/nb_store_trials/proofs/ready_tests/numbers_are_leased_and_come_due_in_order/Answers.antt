use Rattle.std.proofs.Common.{◌≡◌, Some, None, true, false, ℕ, refl, arith}
use Rattle.std.specs.FinMap as finite
use Rattle.nb_ready.specs.Seats.{Seats, Has, fresh, changed_at}
use Rattle.nb_ready.proofs.ChangeLaws.{has_added, has_beside, has_changed, has_kept}
use Rattle.nb_store_trials.proofs.ready_tests.numbers_are_leased_and_come_due_in_order.Goals as goal

-- 3 stands free at first
free_first : (m : Seats) (due : ℕ) → m ≡ finite.insert (finite.insert (finite.insert finite.empty 5 (fresh None)) 3 (fresh None)) 4 (fresh (Some due)) → Has m 3 (fresh None)
free_first m due is = has_beside _ m 4 (fresh (Some due)) 3 _ is (omega arith) (has_added _ _ 3 (fresh None) refl)

-- and is held while 4 is released
held_then : (m n k : Seats) (due : ℕ) → m ≡ finite.insert (finite.insert (finite.insert finite.empty 5 (fresh None)) 3 (fresh None)) 4 (fresh (Some due)) → n ≡ changed_at m 3 (λ s. record s { held = true })
    → k ≡ changed_at n 4 (λ s. record s { due = None }) → Has k 3 (record { due = None; held = true; count = 0 })
held_then m n k due is held released =
    let first = free_first m due is in
    let waits = has_kept m n 3 (fresh None) _ 4 (fresh (Some due)) held first (omega arith) (has_added _ m 4 (fresh (Some due)) is) in
    has_kept n k 4 (fresh (Some due)) _ 3 _ released waits (omega arith) (has_changed m n 3 (fresh None) _ held first)

pub hold-requires : goal.hold-requires
hold-requires g c = (fresh None, free_first _ _ c.in_ok-ready.ensures, refl)

pub free-requires : goal.free-requires
free-requires g c = (record { due = None; held = true; count = 0 }, held_then _ _ _ _ c.in_ok-ready.ensures c.hold.ensures c.release.ensures, refl)

pub count_fail-requires : goal.count_fail-requires
count_fail-requires g c = (record { due = None; held = false; count = 0 }, has_changed _ _ 3 _ _ c.free.ensures (held_then _ _ _ _ c.in_ok-ready.ensures c.hold.ensures c.release.ensures), refl)

pub count_fail-requires-2 : goal.count_fail-requires-2
count_fail-requires-2 g c = (record { due = None; held = false; count = 1 }, has_changed _ _ 3 _ _ c.count_fail.ensures.state (has_changed _ _ 3 _ _ c.free.ensures (held_then _ _ _ _ c.in_ok-ready.ensures c.hold.ensures c.release.ensures)), refl)
