-- Each message that stood in the own queue is placed.
use Rattle.std.proofs.Common.{◌≡◌, ◌≢◌, ◌⊎◌, ◌+◌, ◌<◌, ℕ, Bool, true, false, Some, None, Option, refl, sym, ap, ◌∙◌, inl, inr, ⊎_elim, subst, arith, List, [], ◌∷◌, ◌++◌}
use Rattle.std.specs.FinMap as map
use Rattle.nb_base.proofs.Maps.{numbers, names, same_or_other, at_same, at_other, gone, kept}
use Rattle.nb_base.specs.Messages.{Message}
use Rattle.nb_base.specs.Orders.{ByNumber, ByName}
use Rattle.nb_base.specs.declared.entry.Op.{Op}
use Rattle.nb_base.specs.declared.entry.OutboxRow.{OutboxRow}
use Rattle.nb_base.specs.declared.settings.Settings.{Settings}
use Rattle.nb_base.specs.declared.tables.Discard.{Discard}
use Rattle.nb_base.specs.declared.tables.Queued.{Queued}
use Rattle.nb_headers.specs.Faults.{stripped}
use Rattle.nb_headers.specs.Reads.{id_of, failed_queue}
use Rattle.nb_recover.specs.declared.fail.Fail.{Fail}
use Rattle.nb_recover.specs.declared.moves.Move.{Move}
use Rattle.nb_recover.specs.declared.moves.Move.TheVariants as move
use Rattle.nb_core.proofs.Copies.{later_id, error_id, error_from, stripped_id, error_apart}
use Rattle.nb_core.proofs.Held.{each_phase, phase_empty, named, BelowAt, HoldingAt, IsBelow, Holding, Stands, below_kept, holding_kept}
use Rattle.nb_core.specs.History.{Run, ends, goes, commits, commit_by, discards, discard_by}
use Rattle.nb_core.specs.Placed.{InOwn, InError, IsInOwn, WasInOwn, IsRecorded, IsHandled, IsDiscarded, in_own, handled, recorded_before, discarded, in_error, Placed}
use Rattle.nb_core.specs.Serve.{HandledAt}
use Rattle.nb_core.specs.State.{put_phase, State, Constants, Phase, Idle, Held, Looked, Sending, Leaving, Done, phase, phase_in, number_of, phase_by, phase_after, commit_record, IsReady, given_up, after_delay}
use Rattle.nb_core.specs.Step.{Event, Step, load, take, look_known, look_new, settle_twin, settle_fault, settle_conflict, settle_commit, send, mark, aside, remove, tick, release, purge, put_back, drop_back, stop, halt}
use Rattle.nb_core.specs.RunFacts.{IsAsideOf, IsPutAside}

-- what is marked in a history: an id that was committed, recorded at the opening or given up, and an entry that an Aside put
pub data Mark : Type 0 where
  settled : List ℕ → Mark
  put_aside : ℕ → Mark

some_same : {A : Type 0} {x y : A} → Some x ≡ Some y → x ≡ y
some_same e = cc

-- the copy is due here later, or is for the error queue and names this endpoint
unfoldable pub IsCopy : Settings → List ℕ → Option ℕ → Message → Type 0
IsCopy settings queue due copy =
    ((queue ≡ settings.endpoint) × ((d : ℕ) × (due ≡ Some d))) ⊎ ((queue ≡ settings.error) × (due ≡ None) × ((failed_queue copy) ≡ settings.endpoint))

-- a copy with this id is delayed here, or stands in the error queue and was not put back
pub record Elsewhere (settings : Settings) (K : Mark → Type 0) (es : ByNumber Queued) (back : ByNumber (Unit {0})) (id : List ℕ) : Type 0 where
  pub number : ℕ
  pub it : Queued
  pub there : map.get es number ≡ Some it
  pub copy : IsCopy settings it.queue it.due it.envelope
  pub aside : K (put_aside number)
  pub kept : map.get back number ≡ None
  pub id_is : id_of it.envelope ≡ id

-- what a worker's phase says of the entry that it names. K: the ids that were committed or recorded
abbrev pub Fits : Settings → (Mark → Type 0) → ByNumber Queued → ByNumber (Unit {0}) → Phase → Type 0
Fits settings K es back (Sending n id ops k) = (e : Queued) × (map.get es n ≡ Some e) × ((id_of e.envelope) ≡ id) × K (settled id)
Fits settings K es back (Leaving n queue due copy) = (e : Queued) × (map.get es n ≡ Some e) × ((id_of e.envelope) ≡ (id_of copy)) × IsCopy settings queue due copy
Fits settings K es back (Done n) = (e : Queued) × (map.get es n ≡ Some e) × (K (settled (id_of e.envelope)) ⊎ Elsewhere settings K es back (id_of e.envelope))
Fits settings K es back Idle = Unit {0}
Fits settings K es back (Held n) = Unit {0}
Fits settings K es back (Looked n reads) = Unit {0}

-- other tables, entries and numbers put back, under which the phase says as much
fits_more : (settings : Settings) (K K' : Mark → Type 0) (es es' : ByNumber Queued) (back back' : ByNumber (Unit {0}))
    → ((k : Mark) → K k → K' k) → ((id : List ℕ) → Elsewhere settings K es back id → Elsewhere settings K' es' back' id)
    → (p : Phase) → ((n : ℕ) → number_of p ≡ Some n → map.get es' n ≡ map.get es n) → Fits settings K es back p → Fits settings K' es' back' p
fits_more settings K K' es es' back back' f g Idle same h = tt
fits_more settings K K' es es' back back' f g (Held n) same h = tt
fits_more settings K K' es es' back back' f g (Looked n reads) same h = tt
fits_more settings K K' es es' back back' f g (Sending n id ops k) same h = (h.0, same n refl ∙ h.1, h.2, f (settled id) h.3)
fits_more settings K K' es es' back back' f g (Leaving n queue due copy) same h = (h.0, same n refl ∙ h.1, h.2, h.3)
fits_more settings K K' es es' back back' f g (Done n) same h =
    (h.0, same n refl ∙ h.1, ⊎_elim (λ (k : K (settled (id_of h.0.envelope))). inl (f (settled (id_of h.0.envelope)) k)) (λ (e : Elsewhere settings K es back (id_of h.0.envelope)). inr (g (id_of h.0.envelope) e)) h.2)

-- what every state keeps
pub record Placing (settings : Settings) (K : Mark → Type 0) (outbox : ByName OutboxRow) (ps : ByNumber Phase) (es : ByNumber Queued) (back : ByNumber (Unit {0})) : Type 0 where
  pub known : (id : List ℕ) (r : OutboxRow) → map.get outbox id ≡ Some r → K (settled id)
  pub fits : (w : ℕ) → Fits settings K es back (phase_in ps w)
  pub back_is : (n : ℕ) (b : Unit {0}) → map.get back n ≡ Some b → (e : Queued) × (map.get es n ≡ Some e) × (e.queue ≡ settings.error)

abbrev pub PlacingAt : Constants → (Mark → Type 0) → State → Type 0
PlacingAt c K s = Placing c.settings K s.tables.outbox s.phases s.post.entries s.back

-- the marks after a step
abbrev pub Later_marks : {c : Constants} {s s' : State} {e : Event} → (Mark → Type 0) → Step c s e s' → Mark → Type 0
Later_marks K step (settled id) = K (settled id) ⊎ (IsHandled id (commit_by step) ⊎ IsDiscarded id (discard_by step))
Later_marks K step (put_aside n) = K (put_aside n) ⊎ IsAsideOf n step

-- no mark is lost
grown : {c : Constants} {s s' : State} {e : Event} (K : Mark → Type 0) (step : Step c s e s') (k : Mark) → K k → Later_marks K step k
grown K first (settled id) h = inl h
grown K first (put_aside n) h = inl h

fits_by : (settings : Settings) (K : Mark → Type 0) (es : ByNumber Queued) (back : ByNumber (Unit {0})) (b : Bool) (n : ℕ) (e : Queued) (ops : List Op) → map.get es n ≡ Some e → K (settled (id_of e.envelope))
    → Fits settings K es back (phase_by b n (id_of e.envelope) ops)
fits_by settings K es back true n e ops there k = (e, there, inl k)
fits_by settings K es back false n e ops there k = (e, there, refl, k)

fits_after : (settings : Settings) (K : Mark → Type 0) (es : ByNumber Queued) (back : ByNumber (Unit {0})) (moment n : ℕ) (e : Queued) (fail : Fail) (v : Move) → map.get es n ≡ Some e
    → (IsDiscarded (id_of e.envelope) (given_up e.envelope fail v) → K (settled (id_of e.envelope))) → Fits settings K es back (phase_after settings moment n e.envelope fail v)
unfolding IsCopy
fits_after settings K es back moment n e fail move.Again there up = tt
fits_after settings K es back moment n e fail (move.Later round delay) there up = (e, there, sym (later_id e.envelope round moment), inl (refl, (after_delay moment delay, refl)))
fits_after settings K es back moment n e fail move.Error there up = (e, there, sym (error_id settings e.envelope fail moment), inr (refl, refl, error_from settings e.envelope fail moment))
fits_after settings K es back moment n e fail move.Discard there up = (e, there, inl (up (inl refl)))

-- what holds of a number at which something stands stays so after a put, a removal or a change of due
pub put_same : (es : ByNumber Queued) (next : ℕ) (e : Queued) → IsBelow es next → (n : ℕ) (x : Queued) → map.get es n ≡ Some x → map.get (map.insert es next e) n ≡ map.get es n
put_same es next e b n x there = let lt : n < next = b.below n x there in let ne : n ≢ next = omega arith in at_other numbers es next e n ne

module _ (settings : Settings) where
  elsewhere_put : (K : Mark → Type 0) (es : ByNumber Queued) (next : ℕ) (e : Queued) (back : ByNumber (Unit {0})) → IsBelow es next → (id : List ℕ) → Elsewhere settings K es back id → Elsewhere settings K (map.insert es next e) back id
  elsewhere_put K es next e back b id h =
      record { number = h.number; it = h.it; there = put_same es next e b h.number h.it h.there ∙ h.there; copy = h.copy; aside = h.aside; kept = h.kept; id_is = h.id_is }

  -- a ready entry is no copy
  pub ready_no_copy : settings.error ≢ settings.endpoint → (e : Queued) → IsReady settings e → IsCopy settings e.queue e.due e.envelope → ⊥
  unfolding IsCopy
  ready_no_copy apart e r h =
      ⊎_elim
      (λ (x : (e.queue ≡ settings.endpoint) × ((d : ℕ) × (e.due ≡ Some d))). let z : None ≡ Some x.1.0 = sym r.1 ∙ x.1.1 in cc)
      (λ (x : (e.queue ≡ settings.error) × (e.due ≡ None) × ((failed_queue e.envelope) ≡ settings.endpoint)). apart (sym x.0 ∙ r.0))
      h

  elsewhere_removed : (K : Mark → Type 0) → settings.error ≢ settings.endpoint → (es : ByNumber Queued) (back : ByNumber (Unit {0})) (n : ℕ) → Stands settings es n → (id : List ℕ) → Elsewhere settings K es back id
      → Elsewhere settings K (map.remove es n) back id
  elsewhere_removed K apart es back n s id h =
      let ne : h.number ≢ n = λ same. (let same_it : h.it ≡ s.it = some_same (sym h.there ∙ ap (map.get es) same ∙ s.there) in
      ready_no_copy apart s.it s.ready (subst (λ (x : Queued). IsCopy settings x.queue x.due x.envelope) same_it h.copy)) in
      record { number = h.number; it = h.it; there = kept numbers es n h.number ne ∙ h.there; copy = h.copy; aside = h.aside; kept = h.kept; id_is = h.id_is }

  module _ (K : Mark → Type 0) where
    idle_fits : (es : ByNumber Queued) (back : ByNumber (Unit {0})) (p : Phase) → p ≡ Idle → Fits settings K es back p
    idle_fits es back p e = subst (Fits settings K es back) (sym e) tt

    -- a change of one worker's phase
    phase_change : (outbox : ByName OutboxRow) (ps : ByNumber Phase) (es : ByNumber Queued) (back : ByNumber (Unit {0})) (w : ℕ) (p : Phase) → Fits settings K es back p
        → Placing settings K outbox ps es back → Placing settings K outbox (put_phase ps w p) es back
    phase_change outbox ps es back w p f h = record {
      known = h.known;
      fits = each_phase (λ _ q. Fits settings K es back q) ps w p (λ v _. h.fits v) f;
      back_is = h.back_is;
    }

    -- the number that a phase names is that of an entry
    new_entry : (outbox : ByName OutboxRow) (ps : ByNumber Phase) (es : ByNumber Queued) (next : ℕ) (e : Queued) (back : ByNumber (Unit {0})) → IsBelow es next → Holding settings ps es
        → Placing settings K outbox ps es back → Placing settings K outbox ps (map.insert es next e) back
    new_entry outbox ps es next e back b i h = record {
      known = h.known;
      fits = λ w. fits_more settings K K es (map.insert es next e) back back (λ k x. x) (elsewhere_put K es next e back b) (phase_in ps w)
          (λ n is. let s = i.stands w n is in put_same es next e b n s.it s.there) (h.fits w);
      back_is = λ n x is. let q = h.back_is n x is in (q.0, put_same es next e b n q.0 q.1 ∙ q.1, q.2);
    }

    remove_entry : settings.error ≢ settings.endpoint → (outbox : ByName OutboxRow) (ps : ByNumber Phase) (es : ByNumber Queued) (back : ByNumber (Unit {0})) (w n : ℕ) → named ps w ≡ Some n → Holding settings ps es
        → Placing settings K outbox ps es back → Placing settings K outbox (put_phase ps w Idle) (map.remove es n) back
    remove_entry apart outbox ps es back w n is i h =
        let mine = i.stands w n is in
        record {
          known = h.known;
          fits = each_phase (λ _ q. Fits settings K (map.remove es n) back q) ps w Idle
              (λ v ne. fits_more settings K K es (map.remove es n) back back (λ k x. x) (elsewhere_removed K apart es back n mine) (phase_in ps v)
              (λ m so. kept numbers es n m (λ same. ne (i.apart v w n (so ∙ ap Some same) is))) (h.fits v))
              tt;
          back_is = λ m x at.
              let q = h.back_is m x at in
              let ne : m ≢ n = λ same. (let it_is : q.0 ≡ mine.it = some_same (sym q.1 ∙ ap (map.get es) same ∙ mine.there) in
              apart (sym q.2 ∙ ap (λ (y : Queued). y.queue) it_is ∙ mine.ready.0)) in
              (q.0, kept numbers es n m ne ∙ q.1, q.2);
        }

-- more is marked, and other ids are recorded
pub more_marks : (settings : Settings) (K K' : Mark → Type 0) (outbox outbox' : ByName OutboxRow) (ps : ByNumber Phase) (es : ByNumber Queued) (back : ByNumber (Unit {0}))
    → ((k : Mark) → K k → K' k) → ((id : List ℕ) (r : OutboxRow) → map.get outbox' id ≡ Some r → K' (settled id))
    → Placing settings K outbox ps es back → Placing settings K' outbox' ps es back
more_marks settings K K' outbox outbox' ps es back f known h = record {
  known = known;
  fits = λ w. fits_more settings K K' es es back back f
      (λ id e. record { number = e.number; it = e.it; there = e.there; copy = e.copy; aside = f (put_aside e.number) e.aside; kept = e.kept; id_is = e.id_is }) (phase_in ps w) (λ n is. refl) (h.fits w);
  back_is = h.back_is;
}

-- the facts of the marks after a step, in the state before it
on : {c : Constants} {s s' : State} {e : Event} (K : Mark → Type 0) (step : Step c s e s') → PlacingAt c K s → PlacingAt c (Later_marks K step) s
on {c = c} {s = s} K step h =
    more_marks c.settings K (Later_marks K step) s.tables.outbox s.tables.outbox s.phases s.post.entries s.back (grown K step) (λ id r e. grown K step (settled id) (h.known id r e)) h

-- the marks that a step sets
record Adds {c : Constants} {s s' : State} {e : Event} (K : Mark → Type 0) (step : Step c s e s') : Type 0 where
  handled : (id : List ℕ) → IsHandled id (commit_by step) → K (settled id)
  given : (id : List ℕ) → IsDiscarded id (discard_by step) → K (settled id)
  aside : (n : ℕ) → IsAsideOf n step → K (put_aside n)

placing_go : {c : Constants} {s s' : State} {e : Event} (K : Mark → Type 0) (step : Step c s e s') → Adds K step → c.settings.error ≢ c.settings.endpoint → BelowAt s → HoldingAt c s → PlacingAt c K s → PlacingAt c K s'
placing_go {c = c} {s = s} K (load {m = m} named room) adds a b i h =
    (new_entry c.settings K s.tables.outbox s.phases s.post.entries s.post.next _ s.back b i h)
placing_go {c = c} {s = s} K (take {w = w} {n = n} idle l) adds a b i h =
    (phase_change c.settings K s.tables.outbox s.phases s.post.entries s.back w (Held n) tt h)
placing_go {c = c} {s = s} K (look_known {w = w} {n = n} {e = e} {r = r} held there known) adds a b i h =
    (phase_change c.settings K s.tables.outbox s.phases s.post.entries s.back w _ (fits_by c.settings K s.post.entries s.back r.sent n e r.ops there (h.known _ r known)) h)
placing_go {c = c} {s = s} K (look_new {w = w} {n = n} {e = e} held there new) adds a b i h =
    (phase_change c.settings K s.tables.outbox s.phases s.post.entries s.back w _ tt h)
placing_go {c = c} {s = s} K (settle_twin {w = w} {n = n} {reads = reads} {e = e} {r = r} looked there known) adds a b i h =
    (phase_change c.settings K s.tables.outbox s.phases s.post.entries s.back w _ (fits_by c.settings K s.post.entries s.back r.sent n e r.ops there (h.known _ r known)) h)
placing_go {c = c} {s = s} K (settle_fault {w = w} {n = n} {e = e} looked there new verdict) adds a b i h =
    (phase_change c.settings K s.tables.outbox s.phases s.post.entries s.back w _ (fits_after c.settings K s.post.entries s.back s.moment n e _ _ there (adds.given (id_of e.envelope))) h)
placing_go {c = c} {s = s} K (settle_conflict {w = w} {n = n} {e = e} looked there new verdict stale) adds a b i h =
    (phase_change c.settings K s.tables.outbox s.phases s.post.entries s.back w _ (fits_after c.settings K s.post.entries s.back s.moment n e _ _ there (adds.given (id_of e.envelope))) h)
placing_go {c = c} {s = s} K (settle_commit {w = w} {n = n} {e = e} {plan = plan} looked there new verdict fresh room) adds a b i h =
    let id = id_of e.envelope in
    let r = commit_record c s e.envelope plan in
    let mine : K (settled id) = adds.handled id (inl refl) in
    let known : (q : List ℕ) (x : OutboxRow) → map.get (map.insert s.tables.outbox id r) q ≡ Some x → K (settled q) = λ q x at.
    ⊎_elim
    (λ (same : q ≡ id). subst (λ z. K (settled z)) (sym same) mine)
    (λ (ne : q ≢ id). h.known q x (sym (at_other names s.tables.outbox id r q ne) ∙ at))
    (same_or_other names q id) in
    phase_change c.settings K (map.insert s.tables.outbox id r) s.phases s.post.entries s.back w (Sending n id r.ops 0) (e, there, refl, mine)
    (more_marks c.settings K K s.tables.outbox (map.insert s.tables.outbox id r) s.phases s.post.entries s.back (λ k x. x) known h)
placing_go {c = c} {s = s} K (send {w = w} {n = n} {k = k} {id = id} {ops = ops} {op = op} is at room) adds a b i h =
    (phase_change c.settings K s.tables.outbox s.phases _ s.back w (Sending n id ops (k + 1))
    (let f = subst (Fits c.settings K s.post.entries s.back) is (h.fits w) in (f.0, put_same s.post.entries s.post.next _ b n f.0 f.1 ∙ f.1, f.2, f.3))
    (new_entry c.settings K s.tables.outbox s.phases s.post.entries s.post.next _ s.back b i h))
placing_go {c = c} {s = s} K (mark {w = w} {n = n} {id = id} {r = r} is all there) adds a b i h =
    let f = subst (Fits c.settings K s.post.entries s.back) is (h.fits w) in
    let r' = record r { sent = true; ops = [] } in
    let known : (q : List ℕ) (x : OutboxRow) → map.get (map.insert s.tables.outbox id r') q ≡ Some x → K (settled q) = λ q x at.
    ⊎_elim
    (λ (same : q ≡ id). subst (λ z. K (settled z)) (sym same) f.3)
    (λ (ne : q ≢ id). h.known q x (sym (at_other names s.tables.outbox id r' q ne) ∙ at))
    (same_or_other names q id) in
    (phase_change c.settings K (map.insert s.tables.outbox id r') s.phases s.post.entries s.back w (Done n) (f.0, f.1, inl (subst (λ z. K (settled z)) (sym f.2) f.3))
    (more_marks c.settings K K s.tables.outbox (map.insert s.tables.outbox id r') s.phases s.post.entries s.back (λ k x. x) known h))
placing_go {c = c} {s = s} K (aside {w = w} {n = n} {queue = queue} {due = due} {copy = copy} is room) adds a b i h =
    let f = subst (Fits c.settings K s.post.entries s.back) is (h.fits w) in
    let new : Queued = record { queue = queue; due = due; envelope = copy } in
    let es' = map.insert s.post.entries s.post.next new in
    (phase_change c.settings K s.tables.outbox s.phases es' s.back w (Done n) (
      f.0,
      put_same s.post.entries s.post.next new b n f.0 f.1 ∙ f.1,
      inr (record { number = s.post.next; it = new; there = at_same numbers s.post.entries s.post.next new; copy = f.3; aside = adds.aside s.post.next refl; kept = no_back h.back_is; id_is = sym f.2 }),
    )
    (new_entry c.settings K s.tables.outbox s.phases s.post.entries s.post.next new s.back b i h))
  where
    -- the next number was not put back
    no_back : ((n : ℕ) (x : Unit {0}) → map.get s.back n ≡ Some x → (e : Queued) × (map.get s.post.entries n ≡ Some e) × (e.queue ≡ c.settings.error)) → map.get s.back s.post.next ≡ None
    no_back back_is = go (map.get s.back s.post.next) refl
      where
        go : (o : Option (Unit {0})) → map.get s.back s.post.next ≡ o → map.get s.back s.post.next ≡ None
        go None e = e
        go (Some x) e = let q = back_is s.post.next x e in absurd (let lt : s.post.next < s.post.next = b.below s.post.next q.0 q.1 in omega arith)
placing_go {c = c} {s = s} K (remove {w = w} {n = n} is) adds a b i h =
    (remove_entry c.settings K a s.tables.outbox s.phases s.post.entries s.back w n (ap number_of is) i h)
placing_go {c = c} {s = s} K (tick {to = to} idle l) adds a b i h = h
placing_go {c = c} {s = s} K (release {n = n} {due = due} {e = e} idle there is_due l) adds a b i h =
    (record {
      known = h.known;
      fits = λ w. idle_fits c.settings K _ s.back (phase s w) (idle w);
      back_is = λ m x at.
          let q = h.back_is m x at in
          ⊎_elim
          (λ (same : m ≡ n). (
            record e { due = None },
            ap (map.get (map.insert s.post.entries n (record e { due = None }))) same ∙ at_same numbers s.post.entries n (record e { due = None }),
            (let it_is : q.0 ≡ e = some_same (sym q.1 ∙ ap (map.get s.post.entries) same ∙ there) in sym (ap (λ (y : Queued). y.queue) it_is) ∙ q.2),
          ))
          (λ (ne : m ≢ n). (q.0, at_other numbers s.post.entries n _ m ne ∙ q.1, q.2))
          (same_or_other numbers m n);
    })
placing_go {c = c} {s = s} K (purge {id = id} {r = r} idle there sent old) adds a b i h =
    (record {
      known = λ q x at. ⊎_elim
          (λ (same : q ≡ id). absurd (let z : None ≡ Some x = sym (gone names s.tables.outbox id) ∙ ap (map.get (map.remove s.tables.outbox id)) (sym same) ∙ at in cc))
          (λ (ne : q ≢ id). h.known q x (sym (kept names s.tables.outbox id q ne) ∙ at))
          (same_or_other names q id);
      fits = h.fits;
      back_is = h.back_is;
    })
placing_go {c = c} {s = s} K (put_back {n = n} {e = e} idle there queue due from room) adds a b i h =
    (record {
      known = h.known;
      fits = λ w. idle_fits c.settings K _ _ (phase s w) (idle w);
      back_is = λ m x at.
          ⊎_elim
          (λ (same : m ≡ n). (e, put_same s.post.entries s.post.next _ b m e (ap (map.get s.post.entries) same ∙ there) ∙ ap (map.get s.post.entries) same ∙ there, queue))
          (λ (ne : m ≢ n). let q = h.back_is m x (sym (at_other numbers s.back n tt m ne) ∙ at) in (q.0, put_same s.post.entries s.post.next _ b m q.0 q.1 ∙ q.1, q.2))
          (same_or_other numbers m n);
    })
placing_go {c = c} {s = s} K (drop_back {n = n} idle in_back) adds a b i h =
    (record {
      known = h.known;
      fits = λ w. idle_fits c.settings K _ _ (phase s w) (idle w);
      back_is = λ m x at.
          ⊎_elim
          (λ (same : m ≡ n). absurd (let z : None ≡ Some x = sym (gone numbers s.back n) ∙ ap (map.get (map.remove s.back n)) (sym same) ∙ at in cc))
          (λ (ne : m ≢ n). let q = h.back_is m x (sym (kept numbers s.back n m ne) ∙ at) in (q.0, kept numbers s.post.entries n m ne ∙ q.1, q.2))
          (same_or_other numbers m n);
    })
placing_go {c = c} {s = s} K (stop {moment = moment}) adds a b i h =
    (record {
      known = h.known;
      fits = λ w. idle_fits c.settings K _ _ (phase_in map.empty w) (phase_empty w);
      back_is = λ m x at. absurd (let z : None ≡ Some x = sym (map.get-empty _ m) ∙ at in cc);
    })
placing_go {c = c} {s = s} K (halt {store = store}) adds a b i h = h

pub placing_kept : {c : Constants} {s s' : State} {e : Event} (K : Mark → Type 0) (step : Step c s e s') → BelowAt s → HoldingAt c s → PlacingAt c K s → PlacingAt c (Later_marks K step) s'
placing_kept {c = c} K step b i h =
    placing_go (Later_marks K step) step (record { handled = λ id x. inr (inl x); given = λ id x. inr (inr x); aside = λ n x. inr x }) (error_apart c.settings) b i (on K step h)

-- an id is placed: an entry of it is in the own queue, or it was committed or recorded, or it is in error
abbrev Where : Settings → (Mark → Type 0) → ByNumber Queued → ByNumber (Unit {0}) → List ℕ → Type 0
Where settings K es back id = InOwn settings es id ⊎ (K (settled id) ⊎ InError settings es back id)

-- other entries and numbers put back: each entry that the id was placed by is there, or the id is placed otherwise
place_by : (settings : Settings) (K K' : Mark → Type 0) (es es' : ByNumber Queued) (back back' : ByNumber (Unit {0})) (id : List ℕ)
    → (K (settled id) → K' (settled id)) → (InOwn settings es id → Where settings K' es' back' id) → (InError settings es back id → Where settings K' es' back' id)
    → Where settings K es back id → Where settings K' es' back' id
place_by settings K K' es es' back back' id f g h p =
    ⊎_elim
    g
    (λ (q : K (settled id) ⊎ InError settings es back id). ⊎_elim (λ (k : K (settled id)). inr (inl (f k))) h q)
    p

module _ (settings : Settings) (K : Mark → Type 0) where
  -- nothing but the ids changes
  more_known : (es : ByNumber Queued) (back : ByNumber (Unit {0})) (id : List ℕ) (K' : Mark → Type 0) → (K (settled id) → K' (settled id)) → Where settings K es back id → Where settings K' es back id
  more_known es back id K' f p = place_by settings K K' es es back back id f (λ x. inl x) (λ x. inr (inr x)) p

  own_stays : (es es' : ByNumber Queued) (id : List ℕ) → (o : InOwn settings es id) → map.get es' o.number ≡ map.get es o.number → InOwn settings es' id
  own_stays es es' id o same = record { number = o.number; it = o.it; there = same ∙ o.there; own = o.own; id_is = o.id_is }

  error_stays : (es es' : ByNumber Queued) (back back' : ByNumber (Unit {0})) (id : List ℕ) → (x : InError settings es back id) → map.get es' x.number ≡ map.get es x.number → map.get back' x.number ≡ None
      → InError settings es' back' id
  error_stays es es' back back' id x same none =
      record { number = x.number; it = x.it; there = same ∙ x.there; queue = x.queue; stands = x.stands; from = x.from; kept = none; id_is = x.id_is }

  place_put : (es : ByNumber Queued) (next : ℕ) (e : Queued) (back : ByNumber (Unit {0})) (id : List ℕ) → IsBelow es next → Where settings K es back id
      → Where settings K (map.insert es next e) back id
  place_put es next e back id b p = place_by settings K K es (map.insert es next e) back back id (λ k. k)
      (λ o. inl (own_stays es (map.insert es next e) id o (put_same es next e b o.number o.it o.there)))
      (λ x. inr (inr (error_stays es (map.insert es next e) back back id x (put_same es next e b x.number x.it x.there) x.kept)))
      p

elsewhere_place : (settings : Settings) (K : Mark → Type 0) (es : ByNumber Queued) (back : ByNumber (Unit {0})) (id id' : List ℕ) → id' ≡ id → Elsewhere settings K es back id' → Where settings K es back id
unfolding IsCopy
elsewhere_place settings K es back id id' id_is x = ⊎_elim
    (λ (o : (x.it.queue ≡ settings.endpoint) × ((d : ℕ) × (x.it.due ≡ Some d))). inl (record { number = x.number; it = x.it; there = x.there; own = o.0; id_is = x.id_is ∙ id_is }))
    (λ (o : (x.it.queue ≡ settings.error) × (x.it.due ≡ None) × ((failed_queue x.it.envelope) ≡ settings.endpoint)).
    inr (inr (record { number = x.number; it = x.it; there = x.there; queue = o.0; stands = o.1; from = o.2; kept = x.kept; id_is = x.id_is ∙ id_is })))
    x.copy

placed_go : {c : Constants} {s s' : State} {e : Event} (K : Mark → Type 0) (step : Step c s e s') → c.settings.error ≢ c.settings.endpoint → BelowAt s → HoldingAt c s → PlacingAt c K s
    → (id : List ℕ) → Where c.settings K s.post.entries s.back id → Where c.settings K s'.post.entries s'.back id
placed_go {c = c} {s = s} K (load named room) a b i h id p = place_put c.settings K s.post.entries s.post.next _ s.back id b p
placed_go {c = c} {s = s} K (send is at room) a b i h id p = place_put c.settings K s.post.entries s.post.next _ s.back id b p
placed_go {c = c} {s = s} K (aside is room) a b i h id p = place_put c.settings K s.post.entries s.post.next _ s.back id b p
placed_go {c = c} {s = s} K (remove {w = w} {n = n} is) a b i h id p =
    let mine = i.stands w n (ap number_of is) in
    let f = subst (Fits c.settings K s.post.entries s.back) is (h.fits w) in
    let es' = map.remove s.post.entries n in
    place_by c.settings K K s.post.entries es' s.back s.back id (λ k. k)
    (λ (o : InOwn c.settings s.post.entries id). ⊎_elim
    (λ (same : o.number ≡ n).
    -- the entry that is removed: its id is known, or a copy is elsewhere
    let it_is : f.0 ≡ o.it = some_same (sym f.1 ∙ ap (map.get s.post.entries) (sym same) ∙ o.there) in
    let id_is : (id_of f.0.envelope) ≡ id = ap (λ (y : Queued). (id_of y.envelope)) it_is ∙ o.id_is in
    ⊎_elim
    (λ (k : K (settled (id_of f.0.envelope))). inr (inl (subst (λ z. K (settled z)) id_is k)))
    (λ (x : Elsewhere c.settings K s.post.entries s.back (id_of f.0.envelope)). elsewhere_place c.settings K es' s.back id (id_of f.0.envelope) id_is (elsewhere_removed c.settings K a s.post.entries s.back n mine (id_of f.0.envelope) x))
    f.2)
    (λ (ne : o.number ≢ n). inl (own_stays c.settings K s.post.entries es' id o (kept numbers s.post.entries n o.number ne)))
    (same_or_other numbers o.number n))
    (λ (x : InError c.settings s.post.entries s.back id).
    let ne : x.number ≢ n = λ same. (let it_is : x.it ≡ mine.it = some_same (sym x.there ∙ ap (map.get s.post.entries) same ∙ mine.there) in
    a (sym x.queue ∙ ap (λ (y : Queued). y.queue) it_is ∙ mine.ready.0)) in
    inr (inr (error_stays c.settings K s.post.entries es' s.back s.back id x (kept numbers s.post.entries n x.number ne) x.kept)))
    p
placed_go {c = c} {s = s} K (release {n = n} {due = due} {e = e} idle there is_due l) a b i h id p =
    let e' = record e { due = None } in
    let es' = map.insert s.post.entries n e' in
    place_by c.settings K K s.post.entries es' s.back s.back id (λ k. k)
    (λ (o : InOwn c.settings s.post.entries id). inl (⊎_elim
    (λ (same : o.number ≡ n).
    let it_is : o.it ≡ e = some_same (sym o.there ∙ ap (map.get s.post.entries) same ∙ there) in
    record { number = n; it = e'; there = at_same numbers s.post.entries n e'; own = sym (ap (λ (y : Queued). y.queue) it_is) ∙ o.own; id_is = sym (ap (λ (y : Queued). (id_of y.envelope)) it_is) ∙ o.id_is })
    (λ (ne : o.number ≢ n). own_stays c.settings K s.post.entries es' id o (at_other numbers s.post.entries n e' o.number ne))
    (same_or_other numbers o.number n)))
    (λ (x : InError c.settings s.post.entries s.back id).
    let ne : x.number ≢ n = λ same. (let it_is : x.it ≡ e = some_same (sym x.there ∙ ap (map.get s.post.entries) same ∙ there) in
    let z : None ≡ Some due = sym x.stands ∙ ap (λ (y : Queued). y.due) it_is ∙ is_due in cc) in
    inr (inr (error_stays c.settings K s.post.entries es' s.back s.back id x (at_other numbers s.post.entries n e' x.number ne) x.kept)))
    p
placed_go {c = c} {s = s} K (put_back {n = n} {e = e} idle there queue due from room) a b i h id p =
    let new : Queued = record { queue = (failed_queue e.envelope); due = None; envelope = stripped e.envelope } in
    let es' = map.insert s.post.entries s.post.next new in
    let back' = map.insert s.back n tt in
    place_by c.settings K K s.post.entries es' s.back back' id (λ k. k)
    (λ (o : InOwn c.settings s.post.entries id). inl (own_stays c.settings K s.post.entries es' id o (put_same s.post.entries s.post.next new b o.number o.it o.there)))
    (λ (x : InError c.settings s.post.entries s.back id). ⊎_elim
    (λ (same : x.number ≡ n).
    let it_is : x.it ≡ e = some_same (sym x.there ∙ ap (map.get s.post.entries) same ∙ there) in
    inl (record { number = s.post.next; it = new; there = at_same numbers s.post.entries s.post.next new; own = sym (ap (λ (y : Queued). failed_queue y.envelope) it_is) ∙ x.from; id_is = stripped_id e.envelope ∙ sym (ap (λ (y : Queued). id_of y.envelope) it_is) ∙ x.id_is }))
    (λ (ne : x.number ≢ n). inr (inr (error_stays c.settings K s.post.entries es' s.back back' id x (put_same s.post.entries s.post.next new b x.number x.it x.there) (at_other numbers s.back n tt x.number ne ∙ x.kept))))
    (same_or_other numbers x.number n))
    p
placed_go {c = c} {s = s} K (drop_back {n = n} idle in_back) a b i h id p =
    let es' = map.remove s.post.entries n in
    let back' = map.remove s.back n in
    let q = h.back_is n tt in_back in
    place_by c.settings K K s.post.entries es' s.back back' id (λ k. k)
    (λ (o : InOwn c.settings s.post.entries id).
    let ne : o.number ≢ n = λ same. (let it_is : q.0 ≡ o.it = some_same (sym q.1 ∙ ap (map.get s.post.entries) (sym same) ∙ o.there) in
    a (sym q.2 ∙ ap (λ (y : Queued). y.queue) it_is ∙ o.own)) in
    inl (own_stays c.settings K s.post.entries es' id o (kept numbers s.post.entries n o.number ne)))
    (λ (x : InError c.settings s.post.entries s.back id).
    let ne : x.number ≢ n = λ same. (let z : None ≡ Some tt = sym x.kept ∙ ap (map.get s.back) same ∙ in_back in cc) in
    inr (inr (error_stays c.settings K s.post.entries es' s.back back' id x (kept numbers s.post.entries n x.number ne) (kept numbers s.back n x.number ne ∙ x.kept))))
    p
placed_go {c = c} {s = s} K stop a b i h id p =
    place_by c.settings K K s.post.entries s.post.entries s.back map.empty id (λ k. k) (λ o. inl o)
    (λ (x : InError c.settings s.post.entries s.back id). inr (inr (error_stays c.settings K s.post.entries s.post.entries s.back map.empty id x refl (map.get-empty _ x.number))))
    p
placed_go K (take idle l) a b i h id p = p
placed_go K (look_known held there known) a b i h id p = p
placed_go K (look_new held there new) a b i h id p = p
placed_go K (settle_twin looked there known) a b i h id p = p
placed_go K (settle_fault looked there new verdict) a b i h id p = p
placed_go K (settle_conflict looked there new verdict stale) a b i h id p = p
placed_go K (settle_commit looked there new verdict fresh room) a b i h id p = p
placed_go K (mark is all there) a b i h id p = p
placed_go K (tick idle l) a b i h id p = p
placed_go K (purge idle there sent old) a b i h id p = p
placed_go K halt a b i h id p = p

placed_kept : {c : Constants} {s s' : State} {e : Event} (K : Mark → Type 0) (step : Step c s e s') → BelowAt s → HoldingAt c s → PlacingAt c K s
    → (id : List ℕ) → Where c.settings K s.post.entries s.back id → Where c.settings (Later_marks K step) s'.post.entries s'.back id
placed_kept {c = c} {s' = s'} K step b i h id p =
    more_known c.settings K s'.post.entries s'.back id (Later_marks K step) (λ k. inl k) (placed_go K step (error_apart c.settings) b i h id p)

-- the marks at the end of a run
abbrev pub Marks_at_end : {c : Constants} {s s' : State} {es : List Event} → (Mark → Type 0) → Run c s es s' → Mark → Type 0
Marks_at_end K ends k = K k
Marks_at_end K (goes first rest) k = Marks_at_end (Later_marks K first) rest k

placed_at_end : {c : Constants} {s s' : State} {es : List Event} (K : Mark → Type 0) (run : Run c s es s') → BelowAt s → HoldingAt c s → PlacingAt c K s
    → (id : List ℕ) → Where c.settings K s.post.entries s.back id → Where c.settings (Marks_at_end K run) s'.post.entries s'.back id
placed_at_end K ends b i h id p = p
placed_at_end K (goes first rest) b i h id p =
    placed_at_end (Later_marks K first) rest (below_kept first b) (holding_kept first b i) (placing_kept K first b i h) id (placed_kept K first b i h id p)

placed_from : {c : Constants} {s s' : State} {es : List Event} (K : Mark → Type 0) (run : Run c s es s') → BelowAt s → HoldingAt c s → PlacingAt c K s
    → (id : List ℕ) → WasInOwn run id → Where c.settings (Marks_at_end K run) s'.post.entries s'.back id
placed_from K ends b i h id p = inl p
placed_from {c = c} {s = s} K (goes first rest) b i h id p = ⊎_elim
    (λ (o : IsInOwn c s id). placed_at_end K (goes first rest) b i h id (inl o))
    (λ (later : WasInOwn rest id). placed_from (Later_marks K first) rest (below_kept first b) (holding_kept first b i) (placing_kept K first b i h) id later)
    p

-- the facts at the end of a run
pub placing_at_end : {c : Constants} {s s' : State} {es : List Event} (K : Mark → Type 0) (run : Run c s es s') → BelowAt s → HoldingAt c s → PlacingAt c K s → PlacingAt c (Marks_at_end K run) s'
placing_at_end K ends b i h = h
placing_at_end K (goes first rest) b i h = placing_at_end (Later_marks K first) rest (below_kept first b) (holding_kept first b i) (placing_kept K first b i h)

handled_left : (id : List ℕ) (xs ys : List HandledAt) → IsHandled id xs → IsHandled id (xs ++ ys)
handled_left id [] ys h = absurd h
handled_left id (x ∷ xs) ys h = ⊎_elim (λ (e : id_of x.envelope ≡ id). inl e) (λ (r : IsHandled id xs). inr (handled_left id xs ys r)) h

handled_right : (id : List ℕ) (xs ys : List HandledAt) → IsHandled id ys → IsHandled id (xs ++ ys)
handled_right id [] ys h = h
handled_right id (x ∷ xs) ys h = inr (handled_right id xs ys h)

given_left : (id : List ℕ) (xs ys : List Discard) → IsDiscarded id xs → IsDiscarded id (xs ++ ys)
given_left id [] ys h = absurd h
given_left id (x ∷ xs) ys h = ⊎_elim (λ (e : x.id ≡ id). inl e) (λ (r : IsDiscarded id xs). inr (given_left id xs ys r)) h

given_right : (id : List ℕ) (xs ys : List Discard) → IsDiscarded id ys → IsDiscarded id (xs ++ ys)
given_right id [] ys h = h
given_right id (x ∷ xs) ys h = inr (given_right id xs ys h)

-- what is marked at the end was so before, or the run committed it or gave it up
pub settled_is : {c : Constants} {s s' : State} {es : List Event} (K : Mark → Type 0) (run : Run c s es s') (id : List ℕ) → Marks_at_end K run (settled id)
    → K (settled id) ⊎ (IsHandled id (commits run) ⊎ IsDiscarded id (discards run))
settled_is K ends id k = inl k
settled_is K (goes first rest) id k = ⊎_elim
    (λ (x : K (settled id) ⊎ (IsHandled id (commit_by first) ⊎ IsDiscarded id (discard_by first))). ⊎_elim
    (λ (y : K (settled id)). inl y)
    (λ (y : IsHandled id (commit_by first) ⊎ IsDiscarded id (discard_by first)). inr (⊎_elim
    (λ (z : IsHandled id (commit_by first)). inl (handled_left id (commit_by first) (commits rest) z))
    (λ (z : IsDiscarded id (discard_by first)). inr (given_left id (discard_by first) (discards rest) z))
    y))
    x)
    (λ (x : IsHandled id (commits rest) ⊎ IsDiscarded id (discards rest)). inr (⊎_elim
    (λ (z : IsHandled id (commits rest)). inl (handled_right id (commit_by first) (commits rest) z))
    (λ (z : IsDiscarded id (discards rest)). inr (given_right id (discard_by first) (discards rest) z))
    x))
    (settled_is (Later_marks K first) rest id k)

-- and an entry that is marked as put aside was so by the run
pub aside_is : {c : Constants} {s s' : State} {es : List Event} (K : Mark → Type 0) (run : Run c s es s') (n : ℕ) → Marks_at_end K run (put_aside n) → K (put_aside n) ⊎ IsPutAside n run
aside_is K ends n k = inl k
aside_is K (goes first rest) n k = ⊎_elim
    (λ (x : K (put_aside n) ⊎ IsAsideOf n first). ⊎_elim (λ (y : K (put_aside n)). inl y) (λ (y : IsAsideOf n first). inr (inl y)) x)
    (λ (x : IsPutAside n rest). inr (inr x))
    (aside_is (Later_marks K first) rest n k)

-- at first the recorded ids are marked
abbrev pub First_marks : State → Mark → Type 0
First_marks s (settled id) = IsRecorded s id
First_marks s (put_aside n) = ⊥

pub placing_at_first : (c : Constants) (s : State) → ((w : ℕ) → phase_in s.phases w ≡ Idle) → ((n : ℕ) → map.get s.back n ≡ None) → PlacingAt c (First_marks s) s
placing_at_first c s idle no_back = record {
  known = λ q r e. (r, e);
  fits = λ w. idle_fits c.settings (First_marks s) s.post.entries s.back (phase s w) (idle w);
  back_is = λ n x e. absurd (let z : None ≡ Some x = sym (no_back n) ∙ e in cc);
}

pub placed : {c : Constants} {s s' : State} {es : List Event} (run : Run c s es s') → BelowAt s → HoldingAt c s
    → ((w : ℕ) → phase_in s.phases w ≡ Idle) → ((n : ℕ) → map.get s.back n ≡ None) → Placed run
placed {c = c} {s = s} {s' = s'} run b i idle no_back id was =
    ⊎_elim
    (λ (o : IsInOwn c s' id). in_own o)
    (λ (q : Marks_at_end (First_marks s) run (settled id) ⊎ InError c.settings s'.post.entries s'.back id). ⊎_elim
    (λ (k : Marks_at_end (First_marks s) run (settled id)). ⊎_elim
    (λ (r : IsRecorded s id). recorded_before r)
    (λ (x : IsHandled id (commits run) ⊎ IsDiscarded id (discards run)). ⊎_elim
    (λ (y : IsHandled id (commits run)). handled y)
    (λ (y : IsDiscarded id (discards run)). discarded y)
    x)
    (settled_is (First_marks s) run id k))
    (λ (x : InError c.settings s'.post.entries s'.back id). in_error x)
    q)
    (placed_from (First_marks s) run b i (placing_at_first c s idle no_back) id was)
