-- Each read of a `Looked` phase is what the tables show now, or differs from it in version.
use Rattle.std.proofs.Common.{◌≡◌, ◌+◌, ◌≤◌, ℕ, Bool, true, false, Some, None, Option, refl, sym, ap, ◌∙◌, ⊎_elim, subst, arith, List, [], ◌∷◌}
use Rattle.std.specs.Prelude.{map}
use Rattle.std.specs.List.{AllByRecursion}
use Rattle.std.specs.FinMap as maps
use Rattle.nb_base.proofs.Maps.{numbers, kept}
use Rattle.nb_base.specs.Meanings.{AllFit, IsMeaning, IsRightPlan}
use Rattle.nb_base.specs.Messages.{Message}
use Rattle.nb_base.specs.Orders.{ByNumber}
use Rattle.nb_base.specs.Shown.{Stored, saga_seen, row_seen, with_id, shown, seen, version_of, AreFresh}
use Rattle.nb_base.specs.Sound.{IsSoundStored}
use Rattle.nb_base.specs.declared.entry.Op.{Op}
use Rattle.nb_base.specs.declared.plan.Plan.{Plan}
use Rattle.nb_base.specs.declared.plan.Verdict.TheVariants as verdict
use Rattle.nb_base.specs.declared.saga_key.SagaKey.{SagaKey}
use Rattle.nb_base.specs.declared.saga_row.Read.{Read}
use Rattle.nb_base.specs.declared.saga_row.SagaRow.{SagaRow}
use Rattle.nb_base.specs.declared.saga_row.Seen.{Seen}
use Rattle.nb_base.specs.declared.saga_row.Seen.TheVariants.{Saga, Row as RowSeen}
use Rattle.nb_base.specs.declared.tables.Queued.{Queued}
use Rattle.nb_base.specs.declared.tables.Row.{Row}
use Rattle.nb_base.specs.declared.value.Key.{Key}
use Rattle.nb_base.specs.declared.value.Key.TheVariants as key
use Rattle.nb_headers.specs.Reads.{id_of, failed_queue}
use Rattle.nb_headers.specs.Faults.{stripped}
use Rattle.nb_core.specs.Stale.{conflict_on}
use Rattle.nb_recover.specs.declared.fail.Fail.{Fail}
use Rattle.nb_recover.specs.declared.fail.Fail.TheVariants.{Fault}
use Rattle.nb_recover.specs.declared.moves.Move.{Move}
use Rattle.nb_recover.specs.declared.moves.Move.TheVariants as move
use Rattle.nb_core.proofs.ByIds.{found_by_id, is_found_by_id}
use Rattle.nb_core.proofs.Held.{held_put, each_phase, phase_empty, HoldingAt, BelowAt}
use Rattle.nb_core.proofs.Writing.{Wrote, saga_after, row_after, wrote_version, sound_after_plan, fit_after_plan}
use Rattle.nb_core.specs.Serve.{after_plan}
use Rattle.nb_core.specs.State.{State, Constants, Phase, Idle, Held, Looked, Sending, Leaving, Done, phase, phase_in, put_phase, number_of, phase_by, phase_after, base, fails, failed, move_after, commit_ops, entry}
use Rattle.nb_core.specs.Step.{Event, Step, load, take, look_known, look_new, settle_twin, settle_fault, settle_conflict, settle_commit, send, mark, aside, remove, tick, release, purge, put_back, drop_back, stop, halt}
pub use Rattle.nb_core.specs.Facts.{Fits, ReadWell}

-- a saga or a row of the tables has a version from 1 on
saga_version : (t : Stored) → IsSoundStored t → (p : SagaKey) (r : SagaRow) → maps.get t.sagas p ≡ Some r → (1 ≤ r.version) × (r.version ≤ t.commits)
saga_version t sound p r there = (sound.sagas p r there).version

-- ---- after a commit

module _ (endpoint : List ℕ) (t : Stored) (plan : Plan) (sound : IsSoundStored t) where
  later : Stored
  later = after_plan endpoint t plan

  module _ (r : Read) (f : Fits t r) where
    newer : (x : Seen) → version_of x ≡ t.commits + 1 → version_of r.seen ≡ version_of x → r.seen ≡ x
    newer x new e =
        let h = f.past in
        let v : version_of r.seen ≡ t.commits + 1 = e ∙ new in
        absurd (omega arith)

    -- a saga that is shown now stood there before, or is newer than the read
    saga_still : (p : SagaKey) (now : SagaRow) → maps.get (later.sagas) p ≡ Some now → (maps.get t.sagas p ≡ Some now → shown t r.key ≡ Saga now)
        → version_of r.seen ≡ now.version → r.seen ≡ Saga now
    unfolding later
    saga_still p now at was e = ⊎_elim
        (λ (old : maps.get t.sagas p ≡ Some now). f.same (e ∙ ap version_of (sym (was old))) ∙ was old)
        (λ (new : Wrote endpoint (t.commits + 1) p now plan.writes). newer (Saga now) (wrote_version endpoint (t.commits + 1) plan.writes p now new) e)
        (saga_after endpoint (t.commits + 1) plan.writes t p now at)

    by_corr : (saga : List ℕ) (corr : Rattle.nb_base.specs.declared.value.Value.Value) → r.key ≡ key.ByCorr saga corr → (o : Option SagaRow) → maps.get (later.sagas) (record { saga = saga; corr = corr }) ≡ o → version_of r.seen ≡ version_of (saga_seen o) → r.seen ≡ saga_seen o
    by_corr saga corr k None at e = f.absent e
    by_corr saga corr k (Some now) at e =
        saga_still (record { saga = saga; corr = corr }) now at (λ old. ap (shown t) k ∙ ap saga_seen old) e

    by_id : (saga id : List ℕ) → r.key ≡ key.ById saga id → (o : Option SagaRow) → with_id saga id (maps.entries later.sagas) ≡ o → version_of r.seen ≡ version_of (saga_seen o) → r.seen ≡ saga_seen o
    by_id saga id k None at e = f.absent e
    by_id saga id k (Some now) at e =
        let q = found_by_id later.sagas saga id now at in
        saga_still q.0 now q.1
        (λ old.
        let found = is_found_by_id t.sagas sound.ids q.0 now old in
        ap (shown t) k ∙ ap saga_seen ((λ i. with_id (sym q.2 i) (sym q.3 i) (maps.entries t.sagas)) ∙ found))
        e

    by_row : (name : List ℕ) → r.key ≡ key.Row name → (o : Option Row) → maps.get (later.rows) name ≡ o → version_of r.seen ≡ version_of (row_seen o) → r.seen ≡ row_seen o
    unfolding later
    by_row name k None at e = f.absent e
    by_row name k (Some now) at e = ⊎_elim
        (λ (old : maps.get t.rows name ≡ Some now).
        let was : shown t r.key ≡ RowSeen now.version now.value = ap (shown t) k ∙ ap row_seen old in
        f.same (e ∙ ap version_of (sym was)) ∙ was)
        (λ (new : now.version ≡ t.commits + 1). newer (RowSeen now.version now.value) new e)
        (row_after endpoint (t.commits + 1) plan.writes t name now at)

    same_after : (k : Key) → r.key ≡ k → version_of r.seen ≡ version_of (shown later k) → r.seen ≡ shown later k
    same_after (key.ByCorr saga corr) is e = by_corr saga corr is (maps.get (later.sagas) (record { saga = saga; corr = corr })) refl e
    same_after (key.ById saga id) is e = by_id saga id is (with_id saga id (maps.entries later.sagas)) refl e
    same_after (key.Row name) is e = by_row name is (maps.get (later.rows) name) refl e

    fits_after : Fits (after_plan endpoint t plan) r
    unfolding later
    fits_after = record { past = (let h = f.past in omega arith); absent = f.absent; same = same_after r.key refl }

  pub all_fit_after : (reads : List Read) → AllByRecursion (Fits t) reads → AllByRecursion (Fits (after_plan endpoint t plan)) reads
  all_fit_after [] f = tt
  all_fit_after (r ∷ rs) f = (fits_after r f.0, all_fit_after rs f.1)

-- ---- what was seen just now

module _ (t : Stored) (sound : IsSoundStored t) where
  seen_saga : (k : Key) (o : Option SagaRow) → shown t k ≡ saga_seen o → ((r : SagaRow) → o ≡ Some r → (1 ≤ r.version) × (r.version ≤ t.commits)) → Fits t (record { key = k; seen = saga_seen o })
  seen_saga k None is v = record { past = omega arith; absent = λ _. refl; same = λ _. sym is }
  seen_saga k (Some r) is v = let w = v r refl in record { past = w.1; absent = λ z. absurd (let l = w.0 in omega arith); same = λ _. sym is }

  seen_row : (k : Key) (o : Option Row) → shown t k ≡ row_seen o → ((r : Row) → o ≡ Some r → (1 ≤ r.version) × (r.version ≤ t.commits)) → Fits t (record { key = k; seen = row_seen o })
  seen_row k None is v = record { past = omega arith; absent = λ _. refl; same = λ _. sym is }
  seen_row k (Some r) is v = let w = v r refl in record { past = w.1; absent = λ z. absurd (let l = w.0 in omega arith); same = λ _. sym is }

  seen_now : (k : Key) → Fits t (record { key = k; seen = shown t k })
  seen_now (key.ByCorr saga corr) = seen_saga (key.ByCorr saga corr) (maps.get t.sagas (record { saga = saga; corr = corr })) refl (λ r e. saga_version t sound _ r e)
  seen_now (key.ById saga id) = seen_saga (key.ById saga id) (with_id saga id (maps.entries t.sagas)) refl (λ r e. let q = found_by_id t.sagas saga id r e in saga_version t sound q.0 r q.1)
  seen_now (key.Row name) = seen_row (key.Row name) (maps.get t.rows name) refl (λ r e. sound.rows name r e)

  seen_fit : (ks : List Key) → AllByRecursion (Fits t) (seen t ks)
  seen_fit [] = tt
  seen_fit (k ∷ ks) = (seen_now k, seen_fit ks)

keys_seen : (t : Stored) (ks : List Key) → map (λ (r : Read). r.key) (seen t ks) ≡ ks
keys_seen t [] = refl
keys_seen t (k ∷ ks) = ap (λ xs. k ∷ xs) (keys_seen t ks)

-- reads that fit and are fresh are what the tables show now
pub fresh_is_now : (t : Stored) (reads : List Read) → AllByRecursion (Fits t) reads → AreFresh t reads → reads ≡ seen t (map (λ (r : Read). r.key) reads)
fresh_is_now t [] f g = refl
fresh_is_now t (r ∷ rs) f g =
    let one : r.seen ≡ shown t r.key = f.0.same g.0 in
    let rest = fresh_is_now t rs f.1 g.1 in
    λ i. record { key = r.key; seen = one i } ∷ rest i

abbrev pub LookingAt : Constants → State → Type 0
LookingAt c s = (w : ℕ) → ReadWell c (base s) s.post.entries (phase s w)

-- the tables are sound, and the sagas fit the script
pub record Sound (c : Constants) (t : Stored) : Type 0 where
  pub sound : IsSoundStored t
  pub fit : AllFit c.meaning t

-- what a commit rests on: its reads are what the tables show now, so the plan is that of the present tables
pub record IsPresent (c : Constants) (t : Stored) (m : Message) (at : ℕ) (plan : Plan) : Type 0 where
  pub verdict_is : c.meaning.verdict t m at ≡ verdict.Done plan
  pub right : IsRightPlan c.meaning t plan

some_same : {A : Type 0} {x y : A} → Some x ≡ Some y → x ≡ y
some_same e = cc

pub present : (c : Constants) → IsMeaning c.meaning → (s : State) (w n : ℕ) (reads : List Read) (e : Queued) (plan : Plan) → Sound c (base s) → LookingAt c s
    → phase s w ≡ Looked n reads → entry s n ≡ Some e → c.meaning.on_reads reads e.envelope s.moment ≡ verdict.Done plan → AreFresh (base s) reads
    → IsPresent c (base s) e.envelope s.moment plan
present c means s w n reads e plan ok l looked there judged fresh =
    let r = subst (ReadWell c (base s) s.post.entries) looked (l w) in
    let same = some_same (sym r.1 ∙ there) in
    let keys : map (λ (x : Read). x.key) reads ≡ c.meaning.keys e.envelope = r.2 ∙ ap (λ (x : Queued). c.meaning.keys x.envelope) same in
    let now : reads ≡ seen (base s) (c.meaning.keys e.envelope) = fresh_is_now (base s) reads r.3 fresh ∙ ap (seen (base s)) keys in
    let is : c.meaning.verdict (base s) e.envelope s.moment ≡ verdict.Done plan =
    sym (means.local (base s) ok.sound ok.fit e.envelope s.moment) ∙ ap (λ x. c.meaning.on_reads x e.envelope s.moment) (sym now) ∙ judged in
    record { verdict_is = is; right = means.plans (base s) ok.sound ok.fit e.envelope s.moment plan is }

pub sound_kept : {c : Constants} {s s' : State} {e : Event} → IsMeaning c.meaning → Step c s e s' → LookingAt c s → Sound c (base s) → Sound c (base s')
sound_kept {c = c} {s = s} means (settle_commit {w = w} {n = n} {reads = reads} {e = e} {plan = plan} looked there new judged fresh room) l ok =
    let p = present c means s w n reads e plan ok l looked there judged fresh in
    record {
      sound = sound_after_plan c.settings.endpoint c.meaning (base s) plan ok.sound ok.fit room p.right;
      fit = fit_after_plan c.settings.endpoint c.meaning (base s) plan ok.sound ok.fit room p.right;
    }
sound_kept means _ l ok = ok

well_idle : (c : Constants) (t : Stored) (es : ByNumber Queued) (p : Phase) → p ≡ Idle → ReadWell c t es p
well_idle c t es p e = subst (ReadWell c t es) (sym e) tt

well_by : (c : Constants) (t : Stored) (es : ByNumber Queued) (b : Bool) (n : ℕ) (id : List ℕ) (ops : List Op) → ReadWell c t es (phase_by b n id ops)
well_by c t es true n id ops = tt
well_by c t es false n id ops = tt

well_after : (c : Constants) (t : Stored) (es : ByNumber Queued) (moment n : ℕ) (m : Message) (fail : Fail) (v : Move) → ReadWell c t es (phase_after c.settings moment n m fail v)
well_after c t es moment n m fail move.Again = tt
well_after c t es moment n m fail (move.Later round delay) = tt
well_after c t es moment n m fail move.Error = tt
well_after c t es moment n m fail move.Discard = tt

-- other tables and entries, where the reads fit and the entry that the phase names is the same
well_more : (c : Constants) (t t' : Stored) (es es' : ByNumber Queued) → ((reads : List Read) → AllByRecursion (Fits t) reads → AllByRecursion (Fits t') reads)
    → (p : Phase) → ((n : ℕ) → number_of p ≡ Some n → maps.get es' n ≡ maps.get es n) → ReadWell c t es p → ReadWell c t' es' p
well_more c t t' es es' fit (Looked n reads) same h = (h.0, same n refl ∙ h.1, h.2, fit reads h.3)
well_more c t t' es es' fit Idle same h = tt
well_more c t t' es es' fit (Held n) same h = tt
well_more c t t' es es' fit (Sending n id ops k) same h = tt
well_more c t t' es es' fit (Leaving n queue due copy) same h = tt
well_more c t t' es es' fit (Done n) same h = tt

pub looking_kept : {c : Constants} {s s' : State} {e : Event} → Step c s e s' → BelowAt s → HoldingAt c s → IsSoundStored (base s) → LookingAt c s → LookingAt c s'
looking_kept {c = c} {s = s} step b h sound l = go step
  where
    W : ByNumber Queued → Phase → Type 0
    W = ReadWell c (base s)

    -- one phase changes
    one : (es : ByNumber Queued) (w : ℕ) (p : Phase) → ((u : ℕ) → W es (phase s u)) → W es p → (u : ℕ) → W es (phase_in (put_phase s.phases w p) u)
    one es w p l mine = each_phase (λ _ q. W es q) s.phases w p (λ u _. l u) mine

    -- an entry is put
    put_one : (e : Queued) → (u : ℕ) → W (maps.insert s.post.entries s.post.next e) (phase s u)
    put_one e u = well_more c (base s) (base s) s.post.entries (maps.insert s.post.entries s.post.next e) (λ reads f. f) (phase s u) (held_put s.post.entries s.post.next e s.phases b h u) (l u)

    -- a failure
    failed_one : (w n : ℕ) (m : Message) (fail : Fail) → LookingAt c (failed c s w n m fail)
    failed_one w n m fail =
        let v = move_after c.settings (fails s n + 1) m fail in
        one s.post.entries w (phase_after c.settings s.moment n m fail v) l (well_after c (base s) s.post.entries s.moment n m fail v)

    go : {s' : State} {e : Event} → Step c s e s' → LookingAt c s'
    go (load {m = m} named room) = put_one (record { queue = c.settings.endpoint; due = None; envelope = m })
    go (take {w = w} {n = n} i f) = one s.post.entries w (Held n) l tt
    go (look_known {w = w} {n = n} {e = e} {r = r} p there known) = one s.post.entries w (phase_by r.sent n (id_of e.envelope) r.ops) l (well_by c (base s) s.post.entries r.sent n (id_of e.envelope) r.ops)
    go (look_new {w = w} {n = n} {e = m} p there new) = one s.post.entries w (Looked n (seen (base s) (c.meaning.keys m.envelope))) l (m, there, keys_seen (base s) (c.meaning.keys m.envelope), seen_fit (base s) sound (c.meaning.keys m.envelope))
    go (settle_twin {w = w} {n = n} {e = e} {r = r} p there known) = one s.post.entries w (phase_by r.sent n (id_of e.envelope) r.ops) l (well_by c (base s) s.post.entries r.sent n (id_of e.envelope) r.ops)
    go (settle_fault {w = w} {n = n} {e = e} {f = f} p there new verdict) = failed_one w n e.envelope (Fault f)
    go (settle_conflict {w = w} {n = n} {e = e} {r = r} p there new verdict d) = failed_one w n e.envelope (conflict_on (base s) r)
    go (settle_commit {w = w} {n = n} {e = e} {plan = plan} p there new verdict fresh room) =
        each_phase (λ _ q. ReadWell c (after_plan c.settings.endpoint (base s) plan) s.post.entries q) s.phases w (Sending n (id_of e.envelope) (commit_ops c s e.envelope plan) 0)
        (λ u _. well_more c (base s) (after_plan c.settings.endpoint (base s) plan) s.post.entries s.post.entries
        (all_fit_after c.settings.endpoint (base s) plan sound) (phase s u) (λ n is. refl) (l u))
        tt
    go (send {w = w} {n = n} {k = k} {id = id} {ops = ops} {op = op} p at room) =
        let new : Queued = record { queue = op.queue; due = op.due; envelope = op.envelope } in
        one (maps.insert s.post.entries s.post.next new) w (Sending n id ops (k + 1)) (put_one new) tt
    go (mark {w = w} {n = n} p k r) = one s.post.entries w (Done n) l tt
    go (aside {w = w} {n = n} {queue = queue} {due = due} {copy = copy} p room) =
        let new : Queued = record { queue = queue; due = due; envelope = copy } in
        one (maps.insert s.post.entries s.post.next new) w (Done n) (put_one new) tt
    go (remove {w = w} {n = n} p) = each_phase (λ _ q. W (maps.remove s.post.entries n) q) s.phases w Idle
        (λ u ne. well_more c (base s) (base s) s.post.entries (maps.remove s.post.entries n) (λ reads f. f) (phase s u)
        (λ m is. kept numbers s.post.entries n m (λ same. ne (h.apart u w n (is ∙ ap Some same) (ap number_of p)))) (l u))
        tt
    go (tick i t) = l
    go (release {n = n} {e = m} i e d t) = λ w. well_idle c (base s) (maps.insert s.post.entries n (record m { due = None })) (phase s w) (i w)
    go (purge i r t m) = l
    go (put_back {e = m} i e q d f room) = λ w. well_idle c (base s) (maps.insert s.post.entries s.post.next (record { queue = failed_queue m.envelope; due = None; envelope = stripped m.envelope })) (phase s w) (i w)
    go (drop_back {n = n} i b) = λ w. well_idle c (base s) (maps.remove s.post.entries n) (phase s w) (i w)
    go stop = λ w. well_idle c (base s) s.post.entries (phase_in maps.empty w) (phase_empty w)
    go halt = l
