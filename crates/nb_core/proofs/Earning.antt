-- Whoever leaves for the error queue has earned it.
use Rattle.std.proofs.Common.{◌≡◌, ◌≢◌, ◌+◌, ◌<◌, ◌≤◌, ℕ, Bool, true, false, cond, Some, None, Option, refl, sym, ap, ◌∙◌, ⊎_elim, subst, arith, List, [], ◌∷◌}
use Rattle.std.specs.FinMap as map
use Rattle.std.proofs.lemmas.Bool.{eq-eqb, ne_eqb, cases_eq}
use Rattle.std.specs.Option.{unwrap_or}
use Rattle.nb_base.proofs.Maps.{numbers, same_or_other, at_same, at_other, gone, kept}
use Rattle.nb_base.specs.Messages.{Message}
use Rattle.nb_base.specs.Orders.{ByNumber}
use Rattle.nb_base.specs.declared.entry.Op.{Op}
use Rattle.nb_base.specs.declared.settings.Settings.{Settings}
use Rattle.nb_base.specs.declared.tables.Queued.{Queued}
use Rattle.nb_headers.specs.Faults.{stripped}
use Rattle.nb_headers.specs.Reads.{id_of, round_of, failed_queue}
use Rattle.nb_recover.specs.Copies.{later_copy}
use Rattle.nb_recover.specs.Fails.{name_of, is_unrecoverable}
use Rattle.nb_recover.specs.declared.fail.Fail.{Fail}
use Rattle.nb_recover.specs.declared.fail.Fail.TheVariants.{Fault}
use Rattle.nb_recover.specs.declared.moves.Move.{Move}
use Rattle.nb_recover.specs.declared.moves.Move.TheVariants as move
use Rattle.nb_core.proofs.Copies.{later_round, delayed_few}
use Rattle.nb_core.proofs.Deciding.{IsError, unrecoverable, at_once, immediate_over, all_over, later_is, error_is}
use Rattle.nb_core.proofs.Held.{each_phase, phase_empty, named, BelowAt, HoldingAt, IsBelow, Holding, below_kept, holding_kept}
use Rattle.nb_core.proofs.Placing.{put_same}
use Rattle.nb_core.specs.Earned.{Attempt, Traced, at_number, attempts_on, last_on, round_at, traced_at_first, traced_after, FailedLine, oldest, child, Reason, by_fault, by_policy, after_immediate, after_all, IsEarned, EarnedFrom, Earned}
use Rattle.nb_core.specs.History.{Run, ends, goes}
use Rattle.nb_core.specs.Stale.{conflict_on}
use Rattle.nb_core.specs.State.{put_phase, State, Constants, Phase, Idle, Held, Looked, Sending, Leaving, Done, phase, phase_in, number_of, phase_by, phase_after, fails_in, move_after, base}
use Rattle.nb_core.specs.Step.{Event, Step, load, take, look_known, look_new, settle_twin, settle_fault, settle_conflict, settle_commit, send, mark, aside, remove, tick, release, purge, put_back, drop_back, stop, halt}
use Rattle.nb_core.specs.RunFacts.{traced_at_end}

some_same : {A : Type 0} {x y : A} → Some x ≡ Some y → x ≡ y
some_same e = cc

at_it : {A : Type 0} (f : ℕ → A) (k : ℕ) (v : A) → at_number f k v k ≡ v
at_it f k v = ap (λ b. cond b v (f k)) (eq-eqb k k refl)

at_below : {A : Type 0} (f : ℕ → A) (k : ℕ) (v : A) (q : ℕ) → q < k → at_number f k v q ≡ f q
at_below f k v q lt = ap (λ b. cond b v (f q)) (ne_eqb q k (λ e. omega arith))

-- entries below a number whose ancestors failed, one round before each
pub data Ancestry (c : Constants) (t : Traced) (end : ℕ) : ℕ → Type 0 where
  first : {n : ℕ} → n < end → t.parent n ≡ None → Ancestry c t end n
  later : {n p : ℕ} → n < end → t.parent n ≡ Some p → t.round n ≡ t.round p + 1 → c.settings.immediate + 1 ≤ attempts_on t.attempts p → Ancestry c t end p → Ancestry c t end n

-- what a trace does not lose: at the numbers so far the parents and the rounds, and attempts
record Grows (t t' : Traced) (end : ℕ) : Type 0 where
  parents : (n : ℕ) → n < end → t'.parent n ≡ t.parent n
  rounds : (n : ℕ) → n < end → t'.round n ≡ t.round n
  more : (n : ℕ) → attempts_on t.attempts n ≤ attempts_on t'.attempts n

below_end : {c : Constants} {t : Traced} {end n : ℕ} → Ancestry c t end n → n < end
below_end (first lt none) = lt
below_end (later lt is round failed rest) = lt

ancestry_grows : {c : Constants} {t t' : Traced} {end end' : ℕ} → Grows t t' end → end ≤ end' → {n : ℕ} → Ancestry c t end n → Ancestry c t' end' n
ancestry_grows {end = end} {end' = end'} g l (first {n = n} lt none) = first (omega arith) (g.parents n lt ∙ none)
ancestry_grows {t = t} {t' = t'} {end = end} {end' = end'} g l (later {n = n} {p = p} lt is round failed rest) =
    later (omega arith) (g.parents n lt ∙ is) (g.rounds n lt ∙ round ∙ ap (λ x. x + 1) (sym (g.rounds p (below_end rest)))) (let m = g.more p in omega arith) (ancestry_grows g l rest)

line : {c : Constants} {t : Traced} {end n : ℕ} → Ancestry c t end n → c.settings.immediate + 1 ≤ attempts_on t.attempts n → FailedLine c t n
line (first lt none) failed = oldest none failed
line (later lt is round failed_p rest) failed = child is round failed (line rest failed_p)

-- a leaving phase is what the move of the last failed attempt on its entry gave
pub record LeftBy (settings : Settings) (xs : List Attempt) (es : ByNumber Queued) (n : ℕ) (p : Phase) : Type 0 where
  pub x : Attempt
  pub last : last_on xs n ≡ Some x
  pub gave : p ≡ phase_after settings x.at n x.envelope x.fail x.move
  pub count : ℕ
  pub enough : count ≤ attempts_on xs n
  pub decided : x.move ≡ move_after settings count x.envelope x.fail
  pub it : Queued
  pub there : map.get es n ≡ Some it
  pub same : it.envelope ≡ x.envelope

abbrev pub Left : Settings → List Attempt → ByNumber Queued → Phase → Type 0
Left settings xs es Idle = Unit {0}
Left settings xs es (Held n) = Unit {0}
Left settings xs es (Looked n reads) = Unit {0}
Left settings xs es (Sending n id ops k) = Unit {0}
Left settings xs es (Leaving n queue due copy) = LeftBy settings xs es n (Leaving n queue due copy)
Left settings xs es (Done n) = Unit {0}

-- where a leaving copy goes: into the own queue for the next round, or into the error queue
pub data Goes (settings : Settings) (xs : List Attempt) (n : ℕ) (x : Attempt) (queue : List ℕ) (copy : Message) : Type 0 where
  for_later : queue ≡ settings.endpoint → round_of copy ≡ round_of x.envelope + 1 → settings.immediate + 1 ≤ attempts_on xs n → Goes settings xs n x queue copy
  for_error : queue ≡ settings.error → (count : ℕ) → count ≤ attempts_on xs n → IsError settings (name_of x.fail) count (round_of x.envelope) (is_unrecoverable x.fail) → Goes settings xs n x queue copy

left_goes : (settings : Settings) (xs : List Attempt) (es : ByNumber Queued) (n : ℕ) (queue : List ℕ) (due : Option ℕ) (copy : Message) (l : LeftBy settings xs es n (Leaving n queue due copy))
    → Goes settings xs n l.x queue copy
left_goes settings xs es n queue due copy l = go l.x.move l.gave (sym l.decided)
  where
    go : (v : Move) → Leaving n queue due copy ≡ phase_after settings l.x.at n l.x.envelope l.x.fail v → move_after settings l.count l.x.envelope l.x.fail ≡ v → Goes settings xs n l.x queue copy
    go move.Again gave decided = absurd (cc)
    go move.Discard gave decided = absurd (cc)
    go (move.Later round delay) gave decided =
        let q : queue ≡ settings.endpoint = cc in
        let m : copy ≡ later_copy l.x.envelope round l.x.at = cc in
        let is = later_is settings l.count (round_of l.x.envelope) (name_of l.x.fail) (is_unrecoverable l.x.fail) round delay decided in
        let few = delayed_few settings in
        let more = is.more in
        let next = is.next_is in
        let small : round ≤ 1000 = omega arith in
        let over = is.over in
        let enough = l.enough in
        for_later q (ap round_of m ∙ later_round l.x.envelope round l.x.at small ∙ next) (omega arith)
    go move.Error gave decided =
        let q : queue ≡ settings.error = cc in
        for_error q l.count l.enough (error_is settings l.count (round_of l.x.envelope) (name_of l.x.fail) (is_unrecoverable l.x.fail) decided)

pub record Earning (c : Constants) (t : Traced) (ps : ByNumber Phase) (es : ByNumber Queued) (fs : ByNumber ℕ) (end : ℕ) : Type 0 where
  pub left : (w : ℕ) → Left c.settings t.attempts es (phase_in ps w)
  pub ancestors : (n : ℕ) (e : Queued) → map.get es n ≡ Some e → e.queue ≡ c.settings.endpoint → Ancestry c t end n
  pub rounds : (n : ℕ) (e : Queued) → map.get es n ≡ Some e → t.round n ≡ (round_of e.envelope)
  pub counts : (n : ℕ) → fails_in fs n ≤ attempts_on t.attempts n
  pub parents : (n : ℕ) → end ≤ n → t.parent n ≡ None

abbrev pub EarningAt : Constants → Traced → State → Type 0
EarningAt c t s = Earning c t s.phases s.post.entries s.fails s.post.next

counted : (a : Attempt) (xs : List Attempt) → attempts_on (a ∷ xs) a.number ≡ attempts_on xs a.number + 1
counted a xs = ap (λ b. cond b (attempts_on xs a.number + 1) (attempts_on xs a.number)) (eq-eqb a.number a.number refl)

counted_other : (a : Attempt) (xs : List Attempt) (n : ℕ) → a.number ≢ n → attempts_on (a ∷ xs) n ≡ attempts_on xs n
counted_other a xs n ne = ap (λ b. cond b (attempts_on xs n + 1) (attempts_on xs n)) (ne_eqb a.number n ne)

counted_more : (a : Attempt) (xs : List Attempt) (n : ℕ) → attempts_on xs n ≤ attempts_on (a ∷ xs) n
counted_more a xs n = ⊎_elim
    (λ (same : a.number ≡ n). let x = counted a xs in let y = ap (attempts_on (a ∷ xs)) same in let z = ap (attempts_on xs) same in omega arith)
    (λ (ne : a.number ≡ n → ⊥). let x = counted_other a xs n ne in omega arith)
    (cases_eq a.number n)

last_is : (a : Attempt) (xs : List Attempt) → last_on (a ∷ xs) a.number ≡ Some a
last_is a xs = ap (λ b. cond b (Some a) (last_on xs a.number)) (eq-eqb a.number a.number refl)

last_other : (a : Attempt) (xs : List Attempt) (n : ℕ) → a.number ≢ n → last_on (a ∷ xs) n ≡ last_on xs n
last_other a xs n ne = ap (λ b. cond b (Some a) (last_on xs n)) (ne_eqb a.number n ne)

-- the phase after a failure
left_after : (settings : Settings) (xs : List Attempt) (es : ByNumber Queued) (moment n count : ℕ) (e : Queued) (fail : Fail) → map.get es n ≡ Some e → count ≤ attempts_on xs n
    → last_on xs n ≡ Some (record { number = n; envelope = e.envelope; fail = fail; at = moment; move = move_after settings count e.envelope fail })
    → Left settings xs es (phase_after settings moment n e.envelope fail (move_after settings count e.envelope fail))
left_after settings xs es moment n count e fail there enough last = go (move_after settings count e.envelope fail) refl
  where
    by : (v : Move) → move_after settings count e.envelope fail ≡ v → LeftBy settings xs es n (phase_after settings moment n e.envelope fail v)
    by v is = record {
      x = record { number = n; envelope = e.envelope; fail = fail; at = moment; move = v };
      last = last ∙ ap (λ w. Some (record { number = n; envelope = e.envelope; fail = fail; at = moment; move = w })) is;
      gave = refl;
      count = count;
      enough = enough;
      decided = sym is;
      it = e;
      there = there;
      same = refl;
    }

    go : (v : Move) → move_after settings count e.envelope fail ≡ v → Left settings xs es (phase_after settings moment n e.envelope fail v)
    go move.Again is = tt
    go (move.Later round delay) is = by (move.Later round delay) is
    go move.Error is = by move.Error is
    go move.Discard is = tt

left_by : (settings : Settings) (xs : List Attempt) (es : ByNumber Queued) (b : Bool) (n : ℕ) (id : List ℕ) (ops : List Op) → Left settings xs es (phase_by b n id ops)
left_by settings xs es true n id ops = tt
left_by settings xs es false n id ops = tt

left_entries : (settings : Settings) (xs : List Attempt) (es es' : ByNumber Queued) (p : Phase) → ((n : ℕ) → number_of p ≡ Some n → map.get es' n ≡ map.get es n)
    → Left settings xs es p → Left settings xs es' p
left_entries settings xs es es' (Leaving n queue due copy) same h =
    record { x = h.x; last = h.last; gave = h.gave; count = h.count; enough = h.enough; decided = h.decided; it = h.it; there = same n refl ∙ h.there; same = h.same }
left_entries settings xs es es' Idle same h = tt
left_entries settings xs es es' (Held n) same h = tt
left_entries settings xs es es' (Looked n reads) same h = tt
left_entries settings xs es es' (Sending n id ops k) same h = tt
left_entries settings xs es es' (Done n) same h = tt

left_more : (settings : Settings) (a : Attempt) (xs : List Attempt) (es : ByNumber Queued) (p : Phase) → (number_of p ≢ Some a.number) → Left settings xs es p → Left settings (a ∷ xs) es p
left_more settings a xs es (Leaving n queue due copy) apart h =
    let ne : a.number ≢ n = λ e. apart (ap Some (sym e)) in
    record {
      x = h.x;
      last = last_other a xs n ne ∙ h.last;
      gave = h.gave;
      count = h.count;
      enough = subst (λ z. h.count ≤ z) (sym (counted_other a xs n ne)) h.enough;
      decided = h.decided;
      it = h.it;
      there = h.there;
      same = h.same;
    }
left_more settings a xs es Idle apart h = tt
left_more settings a xs es (Held n) apart h = tt
left_more settings a xs es (Looked n reads) apart h = tt
left_more settings a xs es (Sending n id ops k) apart h = tt
left_more settings a xs es (Done n) apart h = tt

left_idle : (settings : Settings) (xs : List Attempt) (es : ByNumber Queued) (p : Phase) → p ≡ Idle → Left settings xs es p
left_idle settings xs es p e = subst (Left settings xs es) (sym e) tt

was_there : (es : ByNumber Queued) (k m : ℕ) (e : Queued) → map.get (map.remove es k) m ≡ Some e → map.get es m ≡ Some e
was_there es k m e h = ⊎_elim
    (λ (same : m ≡ k). absurd (let z : None ≡ Some e = sym (gone numbers es k) ∙ ap (map.get (map.remove es k)) (sym same) ∙ h in cc))
    (λ (ne : m ≢ k). sym (kept numbers es k m ne) ∙ h)
    (same_or_other numbers m k)

module _ (c : Constants) where
  phase_change : (t : Traced) (ps : ByNumber Phase) (es : ByNumber Queued) (fs : ByNumber ℕ) (end w : ℕ) (p : Phase) → Left c.settings t.attempts es p → Earning c t ps es fs end
      → Earning c t (put_phase ps w p) es fs end
  phase_change t ps es fs end w p l h = record {
    left = each_phase (λ _ q. Left c.settings t.attempts es q) ps w p (λ v _. h.left v) l;
    ancestors = h.ancestors;
    rounds = h.rounds;
    counts = h.counts;
    parents = h.parents;
  }

  -- a new entry; its parent, if it has one, is below it
  new_entry : (t : Traced) (ps : ByNumber Phase) (es : ByNumber Queued) (fs : ByNumber ℕ) (end : ℕ) (e : Queued) (parent : ℕ → Option ℕ) → IsBelow es end → Holding c.settings ps es
      → ((n : ℕ) → n < end → parent n ≡ t.parent n)
      → ((n : ℕ) → end + 1 ≤ n → parent n ≡ None)
      → (e.queue ≡ c.settings.endpoint → Ancestry c (record t { parent = parent; round = at_number t.round end (round_of e.envelope) }) (end + 1) end)
      → Earning c t ps es fs end
      → Earning c (record t { parent = parent; round = at_number t.round end (round_of e.envelope) }) ps (map.insert es end e) fs (end + 1)
  new_entry t ps es fs end e parent b i same_parents no_parents mine h =
      let t' : Traced = record t { parent = parent; round = at_number t.round end (round_of e.envelope) } in
      let g : Grows t t' end = record { parents = same_parents; rounds = λ n lt. at_below t.round end (round_of e.envelope) n lt; more = λ n. omega arith } in
      record {
        left = λ w. left_entries c.settings t.attempts es (map.insert es end e) (phase_in ps w) (λ n is. let s = i.stands w n is in put_same es end e b n s.it s.there) (h.left w);
        ancestors = λ n x at own. ⊎_elim
            (λ (same : n ≡ end).
            let x_is : e ≡ x = some_same (sym (at_same numbers es end e) ∙ ap (map.get (map.insert es end e)) (sym same) ∙ at) in
            subst (Ancestry c t' (end + 1)) (sym same) (mine (ap (λ (y : Queued). y.queue) x_is ∙ own)))
            (λ (ne : n ≢ end). ancestry_grows g (omega arith) (h.ancestors n x (sym (at_other numbers es end e n ne) ∙ at) own))
            (same_or_other numbers n end);
        rounds = λ n x at. ⊎_elim
            (λ (same : n ≡ end).
            let x_is : e ≡ x = some_same (sym (at_same numbers es end e) ∙ ap (map.get (map.insert es end e)) (sym same) ∙ at) in
            ap t'.round same ∙ at_it t.round end (round_of e.envelope) ∙ ap (λ (y : Queued). (round_of y.envelope)) x_is)
            (λ (ne : n ≢ end).
            let there = sym (at_other numbers es end e n ne) ∙ at in
            at_below t.round end (round_of e.envelope) n (b.below n x there) ∙ h.rounds n x there)
            (same_or_other numbers n end);
        counts = h.counts;
        parents = no_parents;
      }

  -- one that an Aside, a Load, a Send or a PutBack put without a parent
  new_orphan : (t : Traced) (ps : ByNumber Phase) (es : ByNumber Queued) (fs : ByNumber ℕ) (end : ℕ) (e : Queued) → IsBelow es end → Holding c.settings ps es → Earning c t ps es fs end
      → Earning c (record t { round = at_number t.round end (round_of e.envelope) }) ps (map.insert es end e) fs (end + 1)
  new_orphan t ps es fs end e b i h = new_entry t ps es fs end e t.parent b i (λ n lt. refl) (λ n l. h.parents n (omega arith)) (λ _. first (omega arith) (h.parents end (omega arith))) h

  -- a failed attempt
  failing : (t : Traced) (ps : ByNumber Phase) (es : ByNumber Queued) (fs : ByNumber ℕ) (end moment w n : ℕ) (e : Queued) (fail : Fail) → named ps w ≡ Some n → map.get es n ≡ Some e → Holding c.settings ps es
      → Earning c t ps es fs end
      → Earning c (record t { attempts = record { number = n; envelope = e.envelope; fail = fail; at = moment; move = move_after c.settings (fails_in fs n + 1) e.envelope fail } ∷ t.attempts })
      (put_phase ps w (phase_after c.settings moment n e.envelope fail (move_after c.settings (fails_in fs n + 1) e.envelope fail))) es (map.insert fs n (fails_in fs n + 1)) end
  failing t ps es fs end moment w n e fail is there i h =
      let count = fails_in fs n + 1 in
      let a : Attempt = record { number = n; envelope = e.envelope; fail = fail; at = moment; move = move_after c.settings count e.envelope fail } in
      let xs = a ∷ t.attempts in
      let t' : Traced = record t { attempts = xs } in
      let enough : count ≤ attempts_on xs n = (let x = counted a t.attempts in let y = h.counts n in omega arith) in
      record {
        left = each_phase (λ _ q. Left c.settings xs es q) ps w _
            (λ v ne. left_more c.settings a t.attempts es (phase_in ps v) (λ f. ne (i.apart v w n f is)) (h.left v))
            (left_after c.settings xs es moment n count e fail there enough (last_is a t.attempts));
        ancestors = λ m x at own. ancestry_grows (record { parents = λ k lt. refl; rounds = λ k lt. refl; more = counted_more a t.attempts }) (omega arith) (h.ancestors m x at own);
        rounds = h.rounds;
        counts = λ m. ⊎_elim
            (λ (same : m ≡ n). subst (λ z. fails_in (map.insert fs n count) z ≤ attempts_on xs z) (sym same)
            (subst (λ o. unwrap_or o 0 ≤ attempts_on xs n) (sym (at_same numbers fs n count)) enough))
            (λ (ne : m ≢ n). subst (λ o. unwrap_or o 0 ≤ attempts_on xs m) (sym (at_other numbers fs n count m ne)) (let x = h.counts m in let y = counted_more a t.attempts m in omega arith))
            (same_or_other numbers m n);
        parents = h.parents;
      }

  -- entries and counts go
  going : (t : Traced) (ps ps' : ByNumber Phase) (es : ByNumber Queued) (fs : ByNumber ℕ) (end n : ℕ) → ((w : ℕ) → Left c.settings t.attempts (map.remove es n) (phase_in ps' w)) → Earning c t ps es fs end
      → Earning c t ps' (map.remove es n) (map.remove fs n) end
  going t ps ps' es fs end n l h = record {
    left = l;
    ancestors = λ m x at own. h.ancestors m x (was_there es n m x at) own;
    rounds = λ m x at. h.rounds m x (was_there es n m x at);
    counts = λ m. ⊎_elim
        (λ (same : m ≡ n). subst (λ z. fails_in (map.remove fs n) z ≤ attempts_on t.attempts z) (sym same)
        (subst (λ o. unwrap_or o 0 ≤ attempts_on t.attempts n) (sym (gone numbers fs n)) (omega arith)))
        (λ (ne : m ≢ n). subst (λ o. unwrap_or o 0 ≤ attempts_on t.attempts m) (sym (kept numbers fs n m ne)) (h.counts m))
        (same_or_other numbers m n);
    parents = h.parents;
  }

pub earning_kept : {c : Constants} {s s' : State} {e : Event} (t : Traced) (step : Step c s e s') → c.settings.error ≢ c.settings.endpoint → BelowAt s → HoldingAt c s → EarningAt c t s → EarningAt c (traced_after t step) s'
earning_kept {c = c} {s = s} t (load {m = m} named room) a b i h = new_orphan c t s.phases s.post.entries s.fails s.post.next (record { queue = c.settings.endpoint; due = None; envelope = m }) b i h
earning_kept {c = c} {s = s} t (take {w = w} {n = n} idle l) a b i h = phase_change c t s.phases s.post.entries s.fails s.post.next w (Held n) tt h
earning_kept {c = c} {s = s} t (look_known {w = w} {n = n} {e = e} {r = r} held there known) a b i h =
    phase_change c t s.phases s.post.entries s.fails s.post.next w _ (left_by c.settings t.attempts s.post.entries r.sent n (id_of e.envelope) r.ops) h
earning_kept {c = c} {s = s} t (look_new {w = w} held there new) a b i h = phase_change c t s.phases s.post.entries s.fails s.post.next w _ tt h
earning_kept {c = c} {s = s} t (settle_twin {w = w} {n = n} {e = e} {r = r} looked there known) a b i h =
    phase_change c t s.phases s.post.entries s.fails s.post.next w _ (left_by c.settings t.attempts s.post.entries r.sent n (id_of e.envelope) r.ops) h
earning_kept {c = c} {s = s} t (settle_fault {w = w} {n = n} {e = e} {f = f} looked there new verdict) a b i h =
    failing c t s.phases s.post.entries s.fails s.post.next s.moment w n e (Fault f) (ap number_of looked) there i h
earning_kept {c = c} {s = s} t (settle_conflict {w = w} {n = n} {e = e} {r = r} looked there new verdict stale) a b i h =
    failing c t s.phases s.post.entries s.fails s.post.next s.moment w n e (conflict_on (base s) r) (ap number_of looked) there i h
earning_kept {c = c} {s = s} t (settle_commit {w = w} looked there new verdict fresh room) a b i h = phase_change c t s.phases s.post.entries s.fails s.post.next w _ tt h
earning_kept {c = c} {s = s} t (send {w = w} {n = n} {k = k} {id = id} {ops = ops} {op = op} is at room) a b i h =
    phase_change c _ s.phases _ s.fails _ w (Sending n id ops (k + 1)) tt
    (new_orphan c t s.phases s.post.entries s.fails s.post.next (record { queue = op.queue; due = op.due; envelope = op.envelope }) b i h)
earning_kept {c = c} {s = s} t (mark {w = w} {n = n} is all there) a b i h = phase_change c t s.phases s.post.entries s.fails s.post.next w (Done n) tt h
earning_kept {c = c} {s = s} t (aside {w = w} {n = n} {queue = queue} {due = due} {copy = copy} is room) a b i h =
    phase_change c _ s.phases _ s.fails _ w (Done n) tt
    (new_entry c t s.phases s.post.entries s.fails s.post.next new (at_number t.parent s.post.next (Some n)) b i
    (λ k lt. at_below t.parent s.post.next (Some n) k lt)
    (λ k l. ap (λ x. cond x (Some n) (t.parent k)) (ne_eqb k s.post.next (λ e. omega arith)) ∙ h.parents k (omega arith))
    mine h)
  where
    new : Queued
    new = record { queue = queue; due = due; envelope = copy }

    mine : queue ≡ c.settings.endpoint → Ancestry c (record t { parent = at_number t.parent s.post.next (Some n); round = at_number t.round s.post.next (round_of copy) }) (s.post.next + 1) s.post.next
    mine own =
        let f = subst (Left c.settings t.attempts s.post.entries) is (h.left w) in
        let stands = i.stands w n (ap number_of is) in
        let lt : n < s.post.next = b.below n f.it f.there in
        let it_is : stands.it ≡ f.it = some_same (sym stands.there ∙ f.there) in
        let f_own : f.it.queue ≡ c.settings.endpoint = ap (λ (y : Queued). y.queue) (sym it_is) ∙ stands.ready.0 in
        let old_round : t.round n ≡ round_of f.x.envelope = h.rounds n f.it f.there ∙ ap round_of f.same in
        by_goes f.x lt old_round (h.ancestors n f.it f.there f_own) (left_goes c.settings t.attempts s.post.entries n queue due copy f)
      where
        by_goes : (x : Attempt) → n < s.post.next → t.round n ≡ round_of x.envelope → Ancestry c t s.post.next n → Goes c.settings t.attempts n x queue copy
            → Ancestry c (record t { parent = at_number t.parent s.post.next (Some n); round = at_number t.round s.post.next (round_of copy) }) (s.post.next + 1) s.post.next
        by_goes x lt old_round line_so_far (for_later own next enough) =
            later (omega arith)
            (at_it t.parent s.post.next (Some n))
            (at_it t.round s.post.next (round_of copy) ∙ next ∙ ap (λ y. y + 1) (sym (at_below t.round s.post.next (round_of copy) n lt ∙ old_round)))
            enough
            (ancestry_grows (record {
              parents = λ k l. at_below t.parent s.post.next (Some n) k l;
              rounds = λ k l. at_below t.round s.post.next (round_of copy) k l;
              more = λ k. omega arith;
            }) (omega arith) line_so_far)
        by_goes x lt old_round line_so_far (for_error to_error count few why) = absurd (a (sym to_error ∙ own))
earning_kept {c = c} {s = s} t (remove {w = w} {n = n} is) a b i h =
    going c t s.phases _ s.post.entries s.fails s.post.next n
    (each_phase (λ _ q. Left c.settings t.attempts (map.remove s.post.entries n) q) s.phases w Idle
    (λ v ne. left_entries c.settings t.attempts s.post.entries (map.remove s.post.entries n) (phase s v)
    (λ m so. kept numbers s.post.entries n m (λ same. ne (i.apart v w n (so ∙ ap Some same) (ap number_of is)))) (h.left v))
    tt)
    h
earning_kept t (tick idle l) a b i h = h
earning_kept {c = c} {s = s} t (release {n = n} {e = e} idle there is_due l) a b i h = record {
  left = λ w. left_idle c.settings t.attempts _ (phase s w) (idle w);
  ancestors = λ m x at own. ⊎_elim
      (λ (same : m ≡ n).
      let x_is : record e { due = None } ≡ x = some_same (sym (at_same numbers s.post.entries n (record e { due = None })) ∙ ap (map.get (map.insert s.post.entries n (record e { due = None }))) (sym same) ∙ at) in
      h.ancestors m e (ap (map.get s.post.entries) same ∙ there) (ap (λ (y : Queued). y.queue) x_is ∙ own))
      (λ (ne : m ≢ n). h.ancestors m x (sym (at_other numbers s.post.entries n _ m ne) ∙ at) own)
      (same_or_other numbers m n);
  rounds = λ m x at. ⊎_elim
      (λ (same : m ≡ n).
      let x_is : record e { due = None } ≡ x = some_same (sym (at_same numbers s.post.entries n (record e { due = None })) ∙ ap (map.get (map.insert s.post.entries n (record e { due = None }))) (sym same) ∙ at) in
      h.rounds m e (ap (map.get s.post.entries) same ∙ there) ∙ ap (λ (y : Queued). (round_of y.envelope)) x_is)
      (λ (ne : m ≢ n). h.rounds m x (sym (at_other numbers s.post.entries n _ m ne) ∙ at))
      (same_or_other numbers m n);
  counts = h.counts;
  parents = h.parents;
}
earning_kept t (purge idle there sent old) a b i h = h
earning_kept {c = c} {s = s} t (put_back {e = e} idle there queue due from room) a b i h =
    new_orphan c t s.phases s.post.entries s.fails s.post.next (record { queue = (failed_queue e.envelope); due = None; envelope = stripped e.envelope }) b i h
earning_kept {c = c} {s = s} t (drop_back {n = n} idle in_back) a b i h = going c t s.phases s.phases s.post.entries s.fails s.post.next n (λ w. left_idle c.settings t.attempts _ (phase s w) (idle w)) h
earning_kept {c = c} {s = s} t stop a b i h = record {
  left = λ w. left_idle c.settings t.attempts s.post.entries (phase_in map.empty w) (phase_empty w);
  ancestors = h.ancestors;
  rounds = h.rounds;
  counts = λ n. subst (λ o. unwrap_or o 0 ≤ attempts_on t.attempts n) (sym (map.get-empty _ n)) (omega arith);
  parents = h.parents;
}
earning_kept t halt a b i h = h

earned_now : {c : Constants} {s s' : State} {e : Event} (t : Traced) (step : Step c s e s') → c.settings.error ≢ c.settings.endpoint → HoldingAt c s → EarningAt c t s → IsEarned t step
earned_now {c = c} {s = s} t (aside {w = w} {n = n} {queue = queue} {due = due} {copy = copy} is room) a i h = λ to_error.
    let f = subst (Left c.settings t.attempts s.post.entries) is (h.left w) in
    let stands = i.stands w n (ap number_of is) in
    let it_is : stands.it ≡ f.it = some_same (sym stands.there ∙ f.there) in
    let f_own : f.it.queue ≡ c.settings.endpoint = ap (λ (z : Queued). z.queue) (sym it_is) ∙ stands.ready.0 in
    let round_is : t.round n ≡ round_of f.x.envelope = h.rounds n f.it f.there ∙ ap round_of f.same in
    (f.x, f.last, by_goes to_error f.x round_is (h.ancestors n f.it f.there f_own) (left_goes c.settings t.attempts s.post.entries n queue due copy f))
  where
    by_error : (x : Attempt) (count : ℕ) → count ≤ attempts_on t.attempts n → t.round n ≡ round_of x.envelope → Ancestry c t s.post.next n → IsError c.settings (name_of x.fail) count (round_of x.envelope) (is_unrecoverable x.fail) → Reason c t n x
    by_error x count few round_is line_so_far (unrecoverable is) = by_fault is
    by_error x count few round_is line_so_far (at_once is) = by_policy is
    by_error x count few round_is line_so_far (immediate_over is over) = after_immediate is (omega arith)
    by_error x count few round_is line_so_far (all_over rounds over) =
        let enough : c.settings.immediate + 1 ≤ attempts_on t.attempts n = omega arith in
        after_all (subst (λ z. c.settings.delayed ≤ z) (sym round_is) rounds) (line line_so_far enough)

    by_goes : queue ≡ c.settings.error → (x : Attempt) → t.round n ≡ round_of x.envelope → Ancestry c t s.post.next n → Goes c.settings t.attempts n x queue copy → Reason c t n x
    by_goes to_error x round_is line_so_far (for_later own next enough) = absurd (a (sym to_error ∙ own))
    by_goes to_error x round_is line_so_far (for_error queue_is count few why) = by_error x count few round_is line_so_far why
earned_now t _ a i h = tt

earned_from : {c : Constants} {s s' : State} {es : List Event} (t : Traced) (run : Run c s es s') → c.settings.error ≢ c.settings.endpoint → BelowAt s → HoldingAt c s → EarningAt c t s → EarnedFrom t run
earned_from t ends a b i h = tt
earned_from t (goes step rest) a b i h =
    (earned_now t step a i h, earned_from (traced_after t step) rest a (below_kept step b) (holding_kept step b i) (earning_kept t step a b i h))

pub earning_at_first : (c : Constants) (s : State) → BelowAt s → ((w : ℕ) → phase_in s.phases w ≡ Idle) → ((n : ℕ) → map.get s.fails n ≡ None) → EarningAt c (traced_at_first s) s
earning_at_first c s b idle none = record {
  left = λ w. left_idle c.settings [] s.post.entries (phase s w) (idle w);
  ancestors = λ n e there own. first (b.below n e there) refl;
  rounds = λ n e there. ap round_at there;
  counts = λ n. subst (λ o. unwrap_or o 0 ≤ 0) (sym (none n)) (omega arith);
  parents = λ n l. refl;
}

pub earned : {c : Constants} {s s' : State} {es : List Event} (run : Run c s es s') → c.settings.error ≢ c.settings.endpoint → BelowAt s → HoldingAt c s
    → ((w : ℕ) → phase_in s.phases w ≡ Idle) → ((n : ℕ) → map.get s.fails n ≡ None) → Earned run
earned {c = c} {s = s} run a b i idle none = earned_from (traced_at_first s) run a b i (earning_at_first c s b idle none)

pub earning_at_end : {c : Constants} {s s' : State} {es : List Event} (t : Traced) (run : Run c s es s') → c.settings.error ≢ c.settings.endpoint → BelowAt s → HoldingAt c s → EarningAt c t s → EarningAt c (traced_at_end t run) s'
earning_at_end t ends a b i h = h
earning_at_end t (goes step rest) a b i h = earning_at_end (traced_after t step) rest a (below_kept step b) (holding_kept step b i) (earning_kept t step a b i h)

-- the parent of an entry of the own queue failed in each attempt, one round before it
pub parent_failed : {c : Constants} {t : Traced} {end n p : ℕ} → Ancestry c t end n → t.parent n ≡ Some p → (c.settings.immediate + 1 ≤ attempts_on t.attempts p) × (t.round n ≡ t.round p + 1)
parent_failed (first lt none) is = absurd (let z = sym none ∙ is in cc)
parent_failed {c = c} {t = t} {n = n} {p = p} (later {p = q} lt so round failed rest) is =
    let same : q ≡ p = some_same (sym so ∙ is) in
    (subst (λ z. c.settings.immediate + 1 ≤ attempts_on t.attempts z) same failed, round ∙ ap (λ z. t.round z + 1) same)
