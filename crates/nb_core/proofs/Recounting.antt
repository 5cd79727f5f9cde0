-- The count of an entry is the number of its failed attempts since the last Stop.
use Rattle.std.proofs.Common.{◌≡◌, ◌≢◌, ◌+◌, ◌≤◌, ℕ, Some, None, refl, sym, ap, ◌∙◌, ⊎_elim, arith, List, [], ◌∷◌, cond}
use Rattle.std.specs.FinMap as map
use Rattle.std.specs.Option.{unwrap_or}
use Rattle.std.proofs.lemmas.Bool.{eq-eqb, ne_eqb}
use Rattle.nb_base.proofs.Maps.{numbers, same_or_other, at_same, at_other, gone, kept}
use Rattle.nb_base.specs.Orders.{ByNumber}
use Rattle.nb_base.specs.declared.tables.Queued.{Queued}
use Rattle.nb_headers.specs.Faults.{stripped}
use Rattle.nb_headers.specs.Reads.{failed_queue}
use Rattle.nb_recover.specs.declared.fail.Fail.TheVariants.{Fault}
use Rattle.nb_core.proofs.Held.{BelowAt, IsBelow, below_kept}
use Rattle.nb_core.specs.Earned.{Attempt, attempt, attempts_on}
use Rattle.nb_core.specs.History.{Run, ends, goes}
use Rattle.nb_core.specs.RunFacts.{recent_after, recent_at_end}
use Rattle.nb_core.specs.Stale.{conflict_on}
use Rattle.nb_core.specs.State.{State, Constants, fails_in, base}
use Rattle.nb_core.specs.Step.{Event, Step, load, take, look_known, look_new, settle_twin, settle_fault, settle_conflict, settle_commit, send, mark, aside, remove, tick, release, purge, put_back, drop_back, stop, halt}

pub record Recounting (xs : List Attempt) (es : ByNumber Queued) (fs : ByNumber ℕ) (end : ℕ) : Type 0 where
  pub counts : (n : ℕ) (e : Queued) → map.get es n ≡ Some e → fails_in fs n ≡ attempts_on xs n
  pub fresh : (n : ℕ) → end ≤ n → (fails_in fs n ≡ 0) × (attempts_on xs n ≡ 0)

abbrev pub RecountingAt : List Attempt → State → Type 0
RecountingAt xs s = Recounting xs s.post.entries s.fails s.post.next

one_more : (a : Attempt) (xs : List Attempt) (n : ℕ) → a.number ≡ n → attempts_on (a ∷ xs) n ≡ attempts_on xs n + 1
one_more a xs n e = ap (λ b. cond b (attempts_on xs n + 1) (attempts_on xs n)) (eq-eqb a.number n e)

no_more : (a : Attempt) (xs : List Attempt) (n : ℕ) → a.number ≢ n → attempts_on (a ∷ xs) n ≡ attempts_on xs n
no_more a xs n ne = ap (λ b. cond b (attempts_on xs n + 1) (attempts_on xs n)) (ne_eqb a.number n ne)

-- a new entry has not failed
new_entry : (xs : List Attempt) (es : ByNumber Queued) (fs : ByNumber ℕ) (end : ℕ) (e : Queued) → Recounting xs es fs end → Recounting xs (map.insert es end e) fs (end + 1)
new_entry xs es fs end e h = record {
  counts = λ n x at. ⊎_elim
      (λ (same : n ≡ end). let f = h.fresh n (omega arith) in f.0 ∙ sym f.1)
      (λ (ne : n ≢ end). h.counts n x (sym (at_other numbers es end e n ne) ∙ at))
      (same_or_other numbers n end);
  fresh = λ n l. h.fresh n (omega arith);
}

failing : (a : Attempt) (xs : List Attempt) (es : ByNumber Queued) (fs : ByNumber ℕ) (end : ℕ) (e : Queued) → map.get es a.number ≡ Some e → IsBelow es end → Recounting xs es fs end
    → Recounting (a ∷ xs) es (map.insert fs a.number (fails_in fs a.number + 1)) end
failing a xs es fs end e there b h =
    let n = a.number in
    let count = fails_in fs n + 1 in
    record {
      counts = λ m x at. ⊎_elim
          (λ (same : m ≡ n).
          ap (λ z. fails_in (map.insert fs n count) z) same ∙ ap (λ o. unwrap_or o 0) (at_same numbers fs n count) ∙ ap (λ z. z + 1) (h.counts n e there)
          ∙ sym (one_more a xs n refl) ∙ ap (attempts_on (a ∷ xs)) (sym same))
          (λ (ne : m ≢ n). ap (λ o. unwrap_or o 0) (at_other numbers fs n count m ne) ∙ h.counts m x at ∙ sym (no_more a xs m (λ same. ne (sym same))))
          (same_or_other numbers m n);
      fresh = λ m l.
          let lt = b.below n e there in
          let ne : m ≢ n = omega arith in
          let f = h.fresh m l in
          (ap (λ o. unwrap_or o 0) (at_other numbers fs n count m ne) ∙ f.0, no_more a xs m (λ same. ne (sym same)) ∙ f.1);
    }

-- an entry goes, and its count
going : (xs : List Attempt) (es : ByNumber Queued) (fs : ByNumber ℕ) (end k : ℕ) → Recounting xs es fs end → Recounting xs (map.remove es k) (map.remove fs k) end
going xs es fs end k h = record {
  counts = λ m x at. ⊎_elim
      (λ (same : m ≡ k). absurd (let z : None ≡ Some x = sym (gone numbers es k) ∙ ap (map.get (map.remove es k)) (sym same) ∙ at in cc))
      (λ (ne : m ≢ k). ap (λ o. unwrap_or o 0) (kept numbers fs k m ne) ∙ h.counts m x (sym (kept numbers es k m ne) ∙ at))
      (same_or_other numbers m k);
  fresh = λ m l.
      let f = h.fresh m l in (
        ⊎_elim
            (λ (same : m ≡ k). ap (λ z. fails_in (map.remove fs k) z) same ∙ ap (λ o. unwrap_or o 0) (gone numbers fs k))
            (λ (ne : m ≢ k). ap (λ o. unwrap_or o 0) (kept numbers fs k m ne) ∙ f.0)
            (same_or_other numbers m k),
        f.1,
      );
}

releasing : (xs : List Attempt) (es : ByNumber Queued) (fs : ByNumber ℕ) (end k : ℕ) (e e' : Queued) → map.get es k ≡ Some e → Recounting xs es fs end → Recounting xs (map.insert es k e') fs end
releasing xs es fs end k e e' there h = record {
  counts = λ m x at. ⊎_elim
      (λ (same : m ≡ k). h.counts m e (ap (map.get es) same ∙ there))
      (λ (ne : m ≢ k). h.counts m x (sym (at_other numbers es k e' m ne) ∙ at))
      (same_or_other numbers m k);
  fresh = h.fresh;
}

pub recounting_kept : {c : Constants} {s s' : State} {e : Event} (xs : List Attempt) (step : Step c s e s') → BelowAt s → RecountingAt xs s → RecountingAt (recent_after xs step) s'
recounting_kept {c = c} {s = s} xs (load {m = m} named room) b h = new_entry xs s.post.entries s.fails s.post.next (record { queue = c.settings.endpoint; due = None; envelope = m }) h
recounting_kept {c = c} {s = s} xs (settle_fault {n = n} {e = e} {f = f} looked there new judged) b h = failing (attempt c s n e.envelope (Fault f)) xs s.post.entries s.fails s.post.next e there b h
recounting_kept {c = c} {s = s} xs (settle_conflict {n = n} {e = e} {r = r} looked there new judged stale) b h = failing (attempt c s n e.envelope (conflict_on (base s) r)) xs s.post.entries s.fails s.post.next e there b h
recounting_kept {s = s} xs (send {op = op} is at room) b h = new_entry xs s.post.entries s.fails s.post.next (record { queue = op.queue; due = op.due; envelope = op.envelope }) h
recounting_kept {s = s} xs (aside {queue = queue} {due = due} {copy = copy} is room) b h = new_entry xs s.post.entries s.fails s.post.next (record { queue = queue; due = due; envelope = copy }) h
recounting_kept {s = s} xs (remove {n = n} is) b h = going xs s.post.entries s.fails s.post.next n h
recounting_kept {s = s} xs (release {n = n} {e = e} idle there due past) b h = releasing xs s.post.entries s.fails s.post.next n e (record e { due = None }) there h
recounting_kept {s = s} xs (put_back {e = e} idle there queue due from room) b h = new_entry xs s.post.entries s.fails s.post.next (record { queue = failed_queue e.envelope; due = None; envelope = stripped e.envelope }) h
recounting_kept {s = s} xs (drop_back {n = n} idle in_back) b h = going xs s.post.entries s.fails s.post.next n h
recounting_kept xs stop b h = record {
  counts = λ n e there. ap (λ o. unwrap_or o 0) (map.get-empty _ n);
  fresh = λ n l. (ap (λ o. unwrap_or o 0) (map.get-empty _ n), refl);
}
recounting_kept xs (take i x) b h = h
recounting_kept xs (look_known x y z) b h = h
recounting_kept xs (look_new x y z) b h = h
recounting_kept xs (settle_twin x y z) b h = h
recounting_kept xs (settle_commit x y z v f r) b h = h
recounting_kept xs (mark x y z) b h = h
recounting_kept xs (tick i x) b h = h
recounting_kept xs (purge i x y z) b h = h
recounting_kept xs halt b h = h

pub recounting_at_end : {c : Constants} {s s' : State} {es : List Event} (xs : List Attempt) (run : Run c s es s') → BelowAt s → RecountingAt xs s → RecountingAt (recent_at_end xs run) s'
recounting_at_end xs ends b h = h
recounting_at_end xs (goes step rest) b h = recounting_at_end (recent_after xs step) rest (below_kept step b) (recounting_kept xs step b h)

pub recounting_at_first : (s : State) → ((n : ℕ) → map.get s.fails n ≡ None) → RecountingAt [] s
recounting_at_first s none = record {
  counts = λ n e there. ap (λ o. unwrap_or o 0) (none n);
  fresh = λ n l. (ap (λ o. unwrap_or o 0) (none n), refl);
}
