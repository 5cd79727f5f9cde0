-- The count of an entry is at most the immediate retries, but while its worker leaves with it, and then one more.
use Rattle.std.proofs.Common.{◌≡◌, ◌≢◌, ◌⊎◌, ◌+◌, ◌≤◌, ℕ, Some, None, refl, sym, ap, inl, inr, ⊎_elim, subst, arith}
use Rattle.std.specs.FinMap as map
use Rattle.std.specs.Option.{unwrap_or}
use Rattle.nb_base.proofs.Maps.{numbers, same_or_other, at_same, at_other, gone, kept}
use Rattle.nb_base.specs.Messages.{Message}
use Rattle.nb_base.specs.Orders.{ByNumber}
use Rattle.nb_base.specs.declared.settings.Settings.{Settings}
use Rattle.nb_base.specs.declared.tables.Queued.{Queued}
use Rattle.nb_headers.specs.Reads.{round_of}
use Rattle.nb_recover.specs.Fails.{name_of, is_unrecoverable}
use Rattle.nb_recover.specs.declared.fail.Fail.{Fail}
use Rattle.nb_recover.specs.declared.fail.Fail.TheVariants.{Fault}
use Rattle.nb_recover.specs.declared.moves.Move.{Move}
use Rattle.nb_recover.specs.declared.moves.Move.TheVariants as move
use Rattle.nb_core.proofs.Deciding.{again_is}
use Rattle.nb_core.proofs.Held.{phase_same, phase_other, named, Holding, HoldingAt}
use Rattle.nb_core.specs.Stale.{conflict_on}
use Rattle.nb_core.specs.State.{State, Constants, Phase, Idle, Held, Looked, Sending, Leaving, Done, phase, phase_in, put_phase, phase_after, number_of, fails_in, move_after, base}
use Rattle.nb_core.specs.Step.{Event, Step, load, take, look_known, look_new, settle_twin, settle_fault, settle_conflict, settle_commit, send, mark, aside, remove, tick, release, purge, put_back, drop_back, stop, halt}

-- the phase leaves with the entry
abbrev pub Leaves : ℕ → Phase → Type 0
Leaves n Idle = ⊥
Leaves n (Held m) = ⊥
Leaves n (Looked m reads) = ⊥
Leaves n (Sending m id ops k) = ⊥
Leaves n (Leaving m queue due copy) = m ≡ n
Leaves n (Done m) = m ≡ n

leaves_named : (n : ℕ) (p : Phase) → Leaves n p → number_of p ≡ Some n
leaves_named n Idle h = absurd h
leaves_named n (Held m) h = absurd h
leaves_named n (Looked m reads) h = absurd h
leaves_named n (Sending m id ops k) h = absurd h
leaves_named n (Leaving m queue due copy) h = ap Some h
leaves_named n (Done m) h = ap Some h

abbrev pub Low : Settings → ByNumber ℕ → ℕ → Type 0
Low settings fs n = fails_in fs n ≤ settings.immediate

pub record Counting (settings : Settings) (ps : ByNumber Phase) (fs : ByNumber ℕ) : Type 0 where
  pub low : (n : ℕ) → Low settings fs n ⊎ ((w : ℕ) × Leaves n (phase_in ps w))
  pub bound : (n : ℕ) → fails_in fs n ≤ settings.immediate + 1

abbrev pub CountingAt : Constants → State → Type 0
CountingAt c s = Counting c.settings s.phases s.fails

-- a worker whose phase leaves with nothing changes it
stays : (settings : Settings) (ps : ByNumber Phase) (fs : ByNumber ℕ) (w : ℕ) (p : Phase) → ((n : ℕ) → Leaves n (phase_in ps w) → Leaves n p) → Counting settings ps fs → Counting settings (put_phase ps w p) fs
stays settings ps fs w p same h = record {
  low = λ n. ⊎_elim
      (λ (low : Low settings fs n). inl low)
      (λ (l : (w : ℕ) × Leaves n (phase_in ps w)). inr (⊎_elim
      (λ (at : l.0 ≡ w). (w, subst (Leaves n) (sym (phase_same ps w p)) (same n (subst (λ v. Leaves n (phase_in ps v)) at l.1))))
      (λ (ne : l.0 ≢ w). (l.0, subst (Leaves n) (sym (phase_other ps w p l.0 ne)) l.1))
      (same_or_other numbers l.0 w)))
      (h.low n);
  bound = h.bound;
}

after_leaves : (settings : Settings) (moment n count : ℕ) (m : Message) (fail : Fail) → (count ≤ settings.immediate) ⊎ Leaves n (phase_after settings moment n m fail (move_after settings count m fail))
after_leaves settings moment n count m fail = go (move_after settings count m fail) refl
  where
    go : (v : Move) → move_after settings count m fail ≡ v → (count ≤ settings.immediate) ⊎ Leaves n (phase_after settings moment n m fail v)
    go move.Again is = inl (again_is settings count (round_of m) (name_of fail) (is_unrecoverable fail) is)
    go (move.Later round delay) is = inr refl
    go move.Error is = inr refl
    go move.Discard is = inr refl

-- nobody leaves with an entry that a worker holds otherwise
module _ (settings : Settings) (ps : ByNumber Phase) (es : ByNumber Queued) (fs : ByNumber ℕ) (moment w n : ℕ) (m : Message) (fail : Fail) where
  failing : named ps w ≡ Some n → ((k : ℕ) → Leaves k (phase_in ps w) → ⊥) → Holding settings ps es → Counting settings ps fs
      → Counting settings (put_phase ps w (phase_after settings moment n m fail (move_after settings (fails_in fs n + 1) m fail))) (map.insert fs n (fails_in fs n + 1))
  failing is not i h =
      let count = fails_in fs n + 1 in
      let p = phase_after settings moment n m fail (move_after settings count m fail) in
      let mine : fails_in fs n ≤ settings.immediate = ⊎_elim
      (λ (low : Low settings fs n). low)
      (λ (l : (v : ℕ) × Leaves n (phase_in ps v)).
      let same : l.0 ≡ w = i.apart l.0 w n (leaves_named n (phase_in ps l.0) l.1) is in
      absurd (not n (subst (λ v. Leaves n (phase_in ps v)) same l.1)))
      (h.low n) in
      record {
        low = λ k. ⊎_elim
            (λ (same : k ≡ n). ⊎_elim
            (λ (low : count ≤ settings.immediate). inl (subst (λ z. Low settings (map.insert fs n count) z) (sym same) (subst (λ o. unwrap_or o 0 ≤ settings.immediate) (sym (at_same numbers fs n count)) low)))
            (λ (l : Leaves n p). inr (w, subst (Leaves k) (sym (phase_same ps w p)) (subst (λ z. Leaves z p) (sym same) l)))
            (after_leaves settings moment n count m fail))
            (λ (ne : k ≢ n). ⊎_elim
            (λ (low : Low settings fs k). inl (subst (λ o. unwrap_or o 0 ≤ settings.immediate) (sym (at_other numbers fs n count k ne)) low))
            (λ (l : (v : ℕ) × Leaves k (phase_in ps v)).
            let other : l.0 ≢ w = λ same. not k (subst (λ v. Leaves k (phase_in ps v)) same l.1) in
            inr (l.0, subst (Leaves k) (sym (phase_other ps w p l.0 other)) l.1))
            (h.low k))
            (same_or_other numbers k n);
        bound = λ k. ⊎_elim
            (λ (same : k ≡ n). subst (λ z. fails_in (map.insert fs n count) z ≤ settings.immediate + 1) (sym same) (subst (λ o. unwrap_or o 0 ≤ settings.immediate + 1) (sym (at_same numbers fs n count)) (omega arith)))
            (λ (ne : k ≢ n). subst (λ o. unwrap_or o 0 ≤ settings.immediate + 1) (sym (at_other numbers fs n count k ne)) (h.bound k))
            (same_or_other numbers k n);
      }

-- the counts without one of them
module _ (settings : Settings) (fs : ByNumber ℕ) (n : ℕ) where
  none_low : (k : ℕ) → k ≡ n → Low settings (map.remove fs n) k
  none_low k same = subst (λ z. Low settings (map.remove fs n) z) (sym same) (subst (λ o. unwrap_or o 0 ≤ settings.immediate) (sym (gone numbers fs n)) (omega arith))

  removed_bound : ((k : ℕ) → fails_in fs k ≤ settings.immediate + 1) → (k : ℕ) → fails_in (map.remove fs n) k ≤ settings.immediate + 1
  removed_bound h k = ⊎_elim
      (λ (same : k ≡ n). let l = none_low k same in omega arith)
      (λ (ne : k ≢ n). subst (λ o. unwrap_or o 0 ≤ settings.immediate + 1) (sym (kept numbers fs n k ne)) (h k))
      (same_or_other numbers k n)

pub counting_kept : {c : Constants} {s s' : State} {e : Event} → Step c s e s' → HoldingAt c s → CountingAt c s → CountingAt c s'
counting_kept {c = c} {s = s} (take {w = w} {n = n} idle l) i h = stays c.settings s.phases s.fails w (Held n) (λ k l. absurd (subst (Leaves k) idle l)) h
counting_kept {c = c} {s = s} (look_known {w = w} held there known) i h = stays c.settings s.phases s.fails w _ (λ k l. absurd (subst (Leaves k) held l)) h
counting_kept {c = c} {s = s} (look_new {w = w} held there new) i h = stays c.settings s.phases s.fails w _ (λ k l. absurd (subst (Leaves k) held l)) h
counting_kept {c = c} {s = s} (settle_twin {w = w} looked there known) i h = stays c.settings s.phases s.fails w _ (λ k l. absurd (subst (Leaves k) looked l)) h
counting_kept {c = c} {s = s} (settle_fault {w = w} {n = n} {e = e} {f = f} looked there new judged) i h =
    failing c.settings s.phases s.post.entries s.fails s.moment w n e.envelope (Fault f) (ap number_of looked) (λ k l. subst (Leaves k) looked l) i h
counting_kept {c = c} {s = s} (settle_conflict {w = w} {n = n} {e = e} {r = r} looked there new judged stale) i h =
    failing c.settings s.phases s.post.entries s.fails s.moment w n e.envelope (conflict_on (base s) r) (ap number_of looked) (λ k l. subst (Leaves k) looked l) i h
counting_kept {c = c} {s = s} (settle_commit {w = w} looked there new judged fresh room) i h = stays c.settings s.phases s.fails w _ (λ k l. absurd (subst (Leaves k) looked l)) h
counting_kept {c = c} {s = s} (send {w = w} {n = n} {k = j} {id = id} {ops = ops} is at room) i h = stays c.settings s.phases s.fails w (Sending n id ops (j + 1)) (λ k l. absurd (subst (Leaves k) is l)) h
counting_kept {c = c} {s = s} (mark {w = w} {n = n} is all there) i h = stays c.settings s.phases s.fails w (Done n) (λ k l. absurd (subst (Leaves k) is l)) h
counting_kept {c = c} {s = s} (aside {w = w} {n = n} is room) i h = stays c.settings s.phases s.fails w (Done n) (λ k l. subst (Leaves k) is l) h
counting_kept {c = c} {s = s} (remove {w = w} {n = n} is) i h = record {
  low = λ k. ⊎_elim
      (λ (same : k ≡ n). inl (none_low c.settings s.fails n k same))
      (λ (ne : k ≢ n). ⊎_elim
      (λ (low : Low c.settings s.fails k). inl (subst (λ o. unwrap_or o 0 ≤ c.settings.immediate) (sym (kept numbers s.fails n k ne)) low))
      (λ (l : (v : ℕ) × Leaves k (phase s v)).
      let other : l.0 ≢ w = λ same. ne (sym (subst (Leaves k) is (subst (λ v. Leaves k (phase s v)) same l.1))) in
      inr (l.0, subst (Leaves k) (sym (phase_other s.phases w Idle l.0 other)) l.1))
      (h.low k))
      (same_or_other numbers k n);
  bound = removed_bound c.settings s.fails n h.bound;
}
counting_kept {c = c} {s = s} (drop_back {n = n} idle in_back) i h = record {
  low = λ k. ⊎_elim
      (λ (same : k ≡ n). inl (none_low c.settings s.fails n k same))
      (λ (ne : k ≢ n). ⊎_elim
      (λ (low : Low c.settings s.fails k). inl (subst (λ o. unwrap_or o 0 ≤ c.settings.immediate) (sym (kept numbers s.fails n k ne)) low))
      (λ (l : (v : ℕ) × Leaves k (phase s v)). inr l)
      (h.low k))
      (same_or_other numbers k n);
  bound = removed_bound c.settings s.fails n h.bound;
}
counting_kept {c = c} stop i h = record {
  low = λ k. inl (subst (λ o. unwrap_or o 0 ≤ c.settings.immediate) (sym (map.get-empty _ k)) (omega arith));
  bound = λ k. subst (λ o. unwrap_or o 0 ≤ c.settings.immediate + 1) (sym (map.get-empty _ k)) (omega arith);
}
counting_kept (load named room) i h = h
counting_kept (tick idle l) i h = h
counting_kept (release idle x y z) i h = h
counting_kept (purge idle x y z) i h = h
counting_kept (put_back idle x y z f r) i h = h
counting_kept halt i h = h

pub counting_at_first : (c : Constants) (s : State) → ((n : ℕ) → map.get s.fails n ≡ None) → CountingAt c s
counting_at_first c s none = record {
  low = λ k. inl (subst (λ o. unwrap_or o 0 ≤ c.settings.immediate) (sym (none k)) (omega arith));
  bound = λ k. subst (λ o. unwrap_or o 0 ≤ c.settings.immediate + 1) (sym (none k)) (omega arith);
}

-- an entry that no worker's phase names has failed at most as often as there are immediate retries
pub unnamed_low : (c : Constants) (s : State) → CountingAt c s → (n : ℕ) → ((w : ℕ) → number_of (phase s w) ≢ Some n) → fails_in s.fails n ≤ c.settings.immediate
unnamed_low c s h n unnamed = ⊎_elim
    (λ (low : Low c.settings s.fails n). low)
    (λ (l : (w : ℕ) × Leaves n (phase s w)). absurd (unnamed l.0 (leaves_named n (phase s l.0) l.1)))
    (h.low n)

-- and one that a worker is still at
pub held_low : (c : Constants) (s : State) → CountingAt c s → HoldingAt c s → (w n : ℕ) → number_of (phase s w) ≡ Some n → (Leaves n (phase s w) → ⊥) → fails_in s.fails n ≤ c.settings.immediate
held_low c s h i w n is not = ⊎_elim
    (λ (low : Low c.settings s.fails n). low)
    (λ (l : (v : ℕ) × Leaves n (phase s v)).
    let same : l.0 ≡ w = i.apart l.0 w n (leaves_named n (phase s l.0) l.1) is in
    absurd (not (subst (λ v. Leaves n (phase s v)) same l.1)))
    (h.low n)
