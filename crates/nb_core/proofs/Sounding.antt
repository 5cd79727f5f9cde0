-- Every state of a legal history has sound tables and a sound post.
use Rattle.std.proofs.Common.{◌≡◌, ◌≢◌, ◌⊎◌, ◌+◌, ◌<◌, ◌≤◌, ℕ, Bool, true, false, true≢false, Some, None, Option, refl, sym, ap, ◌∙◌, inl, inr, ⊎_elim, subst, arith, List, [], ◌∷◌, length}
use Rattle.std.specs.Prelude.{nat_lt, slice_get}
use Rattle.std.specs.FinMap as map
use Rattle.std.specs.List.{AllByRecursion}
use Rattle.std.specs.Option.{unwrap_or, option_map_or}
use Rattle.std.proofs.lemmas.Bool.{ltb-true}
use Rattle.std.proofs.lemmas.Option.{slice_get_within}
use Rattle.nb_base.proofs.Maps.{numbers, names, same_or_other, at_same, at_other, gone, kept}
use Rattle.nb_base.specs.Meanings.{IsMeaning}
use Rattle.nb_base.specs.Messages.{Message, has_id, header, id_name}
use Rattle.nb_base.specs.Orders.{ByName}
use Rattle.nb_base.specs.Sound.{IsSoundRecord, IsSoundEntry, IsSoundPost, limit}
use Rattle.nb_base.specs.declared.entry.Op.{Op}
use Rattle.nb_base.specs.declared.entry.OutboxRow.{OutboxRow}
use Rattle.nb_base.specs.declared.settings.Settings.{Settings}
use Rattle.nb_base.specs.declared.tables.PostState.{PostState}
use Rattle.nb_base.specs.declared.tables.Queued.{Queued}
use Rattle.nb_headers.specs.Faults.{stripped}
use Rattle.nb_headers.specs.Reads.{id_of, failed_queue}
use Rattle.nb_recover.specs.declared.fail.Fail.{Fail}
use Rattle.nb_recover.specs.declared.fail.Fail.TheVariants.{Fault}
use Rattle.nb_recover.specs.declared.moves.Move.{Move}
use Rattle.nb_recover.specs.declared.moves.Move.TheVariants as move
use Rattle.nb_core.proofs.Batches.{CanPut, endpoint_some, error_some, batch_can}
use Rattle.nb_core.proofs.Copies.{later_named, error_named, stripped_named}
use Rattle.nb_core.proofs.Held.{each_phase, phase_empty}
use Rattle.nb_core.proofs.Looking.{LookingAt, Sound, present}
use Rattle.nb_core.specs.Stale.{conflict_on}
use Rattle.nb_core.specs.State.{put_phase, State, Constants, Phase, Idle, Held, Looked, Sending, Leaving, Done, phase, phase_in, phase_by, phase_after, base, fails, move_after, commit_record, commit_ops, entry}
use Rattle.nb_core.specs.Step.{Event, Step, load, take, look_known, look_new, settle_twin, settle_fault, settle_conflict, settle_commit, send, mark, aside, remove, tick, release, purge, put_back, drop_back, stop, halt}

-- a message with an id has one that isn't empty
pub named_some : (m : Message) → has_id m.headers ≡ true → id_of m ≢ []
unfolding id_of
named_some m h = go (header m.headers id_name) h
  where
    go : (o : Option (List ℕ)) → option_map_or (λ t. nat_lt 0 (length t)) o false ≡ true → unwrap_or o [] ≢ []
    go None e = absurd (true≢false (sym e))
    go (Some t) e = λ same. let l = ltb-true 0 (length t) e in let z : length t ≡ 0 = ap length same in omega arith

-- ---- what is recorded

pub record Recording (commits : ℕ) (outbox : ByName OutboxRow) : Type 0 where
  pub records : (id : List ℕ) (r : OutboxRow) → map.get outbox id ≡ Some r → IsSoundRecord commits id r
  pub numbers : (i j : List ℕ) (a b : OutboxRow) → map.get outbox i ≡ Some a → map.get outbox j ≡ Some b → a.n ≡ b.n → i ≡ j

abbrev pub RecordingAt : State → Type 0
RecordingAt s = Recording s.tables.commits s.tables.outbox

some_same : {A : Type 0} {x y : A} → Some x ≡ Some y → x ≡ y
some_same e = cc

none_some : {A : Type 0} {x : A} → None ≡ Some x → ⊥
none_some e = cc

later_record : (commits : ℕ) (id : List ℕ) (r : OutboxRow) → IsSoundRecord commits id r → IsSoundRecord (commits + 1) id r
later_record commits id r h = let v = h.number.1 in record { named = h.named; number = (h.number.0, omega arith); few = h.few; queues = h.queues; ids = h.ids; sent = h.sent }

-- one more record, of a new number
new_record : (commits : ℕ) (outbox : ByName OutboxRow) (id : List ℕ) (r : OutboxRow) → IsSoundRecord (commits + 1) id r → r.n ≡ commits + 1 → Recording commits outbox → Recording (commits + 1) (map.insert outbox id r)
new_record commits outbox id r mine n_is h = record {
  records = λ q x at. ⊎_elim
      (λ (same : q ≡ id). subst (λ (y : List ℕ × OutboxRow). IsSoundRecord (commits + 1) y.0 y.1) (λ i. (sym same i, some_same (sym (at_same names outbox id r) ∙ ap (map.get (map.insert outbox id r)) (sym same) ∙ at) i)) mine)
      (λ (ne : q ≢ id). later_record commits q x (h.records q x (sym (at_other names outbox id r q ne) ∙ at)))
      (same_or_other names q id);
  numbers = λ p q a b at at' same_n. ⊎_elim
      (λ (one : p ≡ id). ⊎_elim
      (λ (two : q ≡ id). one ∙ sym two)
      (λ (ne : q ≢ id).
      let a_is : r ≡ a = some_same (sym (at_same names outbox id r) ∙ ap (map.get (map.insert outbox id r)) (sym one) ∙ at) in
      let old = (h.records q b (sym (at_other names outbox id r q ne) ∙ at')).number.1 in
      let n_b : commits + 1 ≡ b.n = sym n_is ∙ ap (λ (x : OutboxRow). x.n) a_is ∙ same_n in
      absurd (omega arith))
      (same_or_other names q id))
      (λ (ne : p ≢ id). ⊎_elim
      (λ (two : q ≡ id).
      let b_is : r ≡ b = some_same (sym (at_same names outbox id r) ∙ ap (map.get (map.insert outbox id r)) (sym two) ∙ at') in
      let old = (h.records p a (sym (at_other names outbox id r p ne) ∙ at)).number.1 in
      let n_a : commits + 1 ≡ a.n = sym n_is ∙ ap (λ (x : OutboxRow). x.n) b_is ∙ sym same_n in
      absurd (omega arith))
      (λ (ne' : q ≢ id). h.numbers p q a b (sym (at_other names outbox id r p ne) ∙ at) (sym (at_other names outbox id r q ne') ∙ at') same_n)
      (same_or_other names q id))
      (same_or_other names p id);
}

-- a record that changes, but not in its number
changed_record : (commits : ℕ) (outbox : ByName OutboxRow) (id : List ℕ) (r r' : OutboxRow) → map.get outbox id ≡ Some r → IsSoundRecord commits id r' → r'.n ≡ r.n → Recording commits outbox → Recording commits (map.insert outbox id r')
changed_record commits outbox id r r' there mine n_is h = record {
  records = λ q x at. ⊎_elim
      (λ (same : q ≡ id). subst (λ (y : List ℕ × OutboxRow). IsSoundRecord commits y.0 y.1) (λ i. (sym same i, some_same (sym (at_same names outbox id r') ∙ ap (map.get (map.insert outbox id r')) (sym same) ∙ at) i)) mine)
      (λ (ne : q ≢ id). h.records q x (sym (at_other names outbox id r' q ne) ∙ at))
      (same_or_other names q id);
  numbers = λ p q a b at at' same_n.
      let x = before p a at in
      let y = before q b at' in
      h.numbers p q x.0 y.0 x.1 y.1 (x.2 ∙ same_n ∙ sym y.2);
}
  where
    before : (q : List ℕ) (x : OutboxRow) → map.get (map.insert outbox id r') q ≡ Some x → (old : OutboxRow) × (map.get outbox q ≡ Some old) × (old.n ≡ x.n)
    before q x at = ⊎_elim
        (λ (same : q ≡ id).
        let x_is : r' ≡ x = some_same (sym (at_same names outbox id r') ∙ ap (map.get (map.insert outbox id r')) (sym same) ∙ at) in
        (r, ap (map.get outbox) same ∙ there, sym n_is ∙ ap (λ (y : OutboxRow). y.n) x_is))
        (λ (ne : q ≢ id). (x, sym (at_other names outbox id r' q ne) ∙ at, refl))
        (same_or_other names q id)

fewer_records : (commits : ℕ) (outbox : ByName OutboxRow) (id : List ℕ) → Recording commits outbox → Recording commits (map.remove outbox id)
fewer_records commits outbox id h = record {
  records = λ q x at. h.records q x (was q x at);
  numbers = λ p q a b at at'. h.numbers p q a b (was p a at) (was q b at');
}
  where
    was : (q : List ℕ) (x : OutboxRow) → map.get (map.remove outbox id) q ≡ Some x → map.get outbox q ≡ Some x
    was q x at = ⊎_elim
        (λ (same : q ≡ id). absurd (none_some (sym (gone names outbox id) ∙ ap (map.get (map.remove outbox id)) (sym same) ∙ at)))
        (λ (ne : q ≢ id). sym (kept names outbox id q ne) ∙ at)
        (same_or_other names q id)

op_queues : (ops : List Op) → AllByRecursion CanPut ops → AllByRecursion (λ (op : Op). op.queue ≢ []) ops
op_queues [] h = tt
op_queues (op ∷ ops) h = (h.0.queue, op_queues ops h.1)

op_ids : (ops : List Op) → AllByRecursion CanPut ops → AllByRecursion (λ (op : Op). has_id op.envelope.headers ≡ true) ops
op_ids [] h = tt
op_ids (op ∷ ops) h = (h.0.named, op_ids ops h.1)

can_put : (ops : List Op) → AllByRecursion (λ (op : Op). op.queue ≢ []) ops → AllByRecursion (λ (op : Op). has_id op.envelope.headers ≡ true) ops → AllByRecursion CanPut ops
can_put [] f g = tt
can_put (op ∷ ops) f g = (record { queue = f.0; named = g.0 }, can_put ops f.1 g.1)

-- an op of the list
op_at : (ops : List Op) (k : ℕ) (op : Op) → slice_get ops k ≡ Some op → AllByRecursion CanPut ops → CanPut op
op_at [] k op e h = absurd (cc)
op_at (x ∷ xs) Rattle.std.proofs.Common.zero op e h = subst CanPut (some_same e) h.0
op_at (x ∷ xs) (Rattle.std.proofs.Common.suc k) op e h = op_at xs k op e h.1

-- ---- what phases are to put

abbrev pub CanGoOn : Phase → Type 0
CanGoOn Idle = Unit {0}
CanGoOn (Held n) = Unit {0}
CanGoOn (Looked n reads) = Unit {0}
CanGoOn (Sending n id ops k) = AllByRecursion CanPut ops × (k ≤ length ops)
CanGoOn (Leaving n queue due copy) = (queue ≢ []) × (has_id copy.headers ≡ true)
CanGoOn (Done n) = Unit {0}

abbrev pub GoingAt : State → Type 0
GoingAt s = (w : ℕ) → CanGoOn (phase s w)

on_by : (b : Bool) (n : ℕ) (id : List ℕ) (ops : List Op) → AllByRecursion CanPut ops → CanGoOn (phase_by b n id ops)
on_by true n id ops h = tt
on_by false n id ops h = (h, omega arith)

on_after : (settings : Settings) (moment n : ℕ) (m : Message) (fail : Fail) (v : Move) → has_id m.headers ≡ true → CanGoOn (phase_after settings moment n m fail v)
on_after settings moment n m fail move.Again h = tt
on_after settings moment n m fail (move.Later round delay) h = (endpoint_some settings, later_named m round moment h)
on_after settings moment n m fail move.Error h = (error_some settings, error_named settings m fail moment h)
on_after settings moment n m fail move.Discard h = tt

-- ---- the entries

put_sound : (p : PostState) (e : Queued) → p.next < limit → e.queue ≢ [] → has_id e.envelope.headers ≡ true → IsSoundPost p
    → IsSoundPost (record { entries = map.insert p.entries p.next e; next = p.next + 1 })
put_sound p e room queue named h = record {
  from = omega arith;
  to = omega arith;
  entries = λ n x at. ⊎_elim
      (λ (same : n ≡ p.next).
      let from = h.from in
      subst (λ y. IsSoundEntry (p.next + 1) n y) (some_same (sym (at_same numbers p.entries p.next e) ∙ ap (map.get (map.insert p.entries p.next e)) (sym same) ∙ at))
      (record { from = omega arith; below = omega arith; queue = queue; id = named }))
      (λ (ne : n ≢ p.next).
      let old = h.entries n x (sym (at_other numbers p.entries p.next e n ne) ∙ at) in
      let below = old.below in
      record { from = old.from; below = omega arith; queue = old.queue; id = old.id })
      (same_or_other numbers n p.next);
}

remove_sound : (p : PostState) (k : ℕ) → IsSoundPost p → IsSoundPost (record { entries = map.remove p.entries k; next = p.next })
remove_sound p k h = record {
  from = h.from;
  to = h.to;
  entries = λ n x at. ⊎_elim
      (λ (same : n ≡ k). absurd (none_some (sym (gone numbers p.entries k) ∙ ap (map.get (map.remove p.entries k)) (sym same) ∙ at)))
      (λ (ne : n ≢ k). h.entries n x (sym (kept numbers p.entries k n ne) ∙ at))
      (same_or_other numbers n k);
}

release_sound : (p : PostState) (k : ℕ) (e : Queued) → map.get p.entries k ≡ Some e → IsSoundPost p → IsSoundPost (record p { entries = map.insert p.entries k (record e { due = None }) })
release_sound p k e there h = record {
  from = h.from;
  to = h.to;
  entries = λ n x at. ⊎_elim
      (λ (same : n ≡ k).
      let old = h.entries n e (ap (map.get p.entries) same ∙ there) in
      subst (λ y. IsSoundEntry p.next n y) (some_same (sym (at_same numbers p.entries k (record e { due = None })) ∙ ap (map.get (map.insert p.entries k (record e { due = None }))) (sym same) ∙ at))
      (record { from = old.from; below = old.below; queue = old.queue; id = old.id }))
      (λ (ne : n ≢ k). h.entries n x (sym (at_other numbers p.entries k (record e { due = None }) n ne) ∙ at))
      (same_or_other numbers n k);
}

pub post_kept : {c : Constants} {s s' : State} {e : Event} → Step c s e s' → GoingAt s → IsSoundPost s.post → IsSoundPost s'.post
post_kept {c = c} {s = s} (load {m = m} named room) g h = put_sound s.post (record { queue = c.settings.endpoint; due = None; envelope = m }) room (endpoint_some c.settings) named.id h
post_kept {s = s} (send {w = w} {k = k} {ops = ops} {op = op} is at room) g h =
    let can = op_at ops k op at (subst CanGoOn is (g w)).0 in
    put_sound s.post (record { queue = op.queue; due = op.due; envelope = op.envelope }) room can.queue can.named h
post_kept {s = s} (aside {w = w} {queue = queue} {due = due} {copy = copy} is room) g h =
    let can = subst CanGoOn is (g w) in
    put_sound s.post (record { queue = queue; due = due; envelope = copy }) room can.0 can.1 h
post_kept {s = s} (remove {n = n} is) g h = remove_sound s.post n h
post_kept {s = s} (release {n = n} {e = e} idle there due past) g h = release_sound s.post n e there h
post_kept {s = s} (put_back {n = n} {e = e} idle there queue due from room) g h =
    put_sound s.post (record { queue = failed_queue e.envelope; due = None; envelope = stripped e.envelope }) room from (stripped_named e.envelope (h.entries n e there).id) h
post_kept {s = s} (drop_back {n = n} idle in_back) g h = remove_sound s.post n h
post_kept (take i l) g h = h
post_kept (look_known x y z) g h = h
post_kept (look_new x y z) g h = h
post_kept (settle_twin x y z) g h = h
post_kept (settle_fault x y z v) g h = h
post_kept (settle_conflict x y z v r) g h = h
post_kept (settle_commit x y z v f r) g h = h
post_kept (mark x y z) g h = h
post_kept (tick i l) g h = h
post_kept (purge i x y z) g h = h
post_kept stop g h = h
post_kept halt g h = h

-- ---- the records

committed_record : (c : Constants) (means : IsMeaning c.meaning) (s : State) (w n : ℕ) (reads : List Rattle.nb_base.specs.declared.saga_row.Read.Read) (e : Queued) (plan : Rattle.nb_base.specs.declared.plan.Plan.Plan)
    → Rattle.nb_base.specs.Meanings.IsRightPlan c.meaning (base s) plan → entry s n ≡ Some e → IsSoundPost s.post → IsSoundRecord (s.tables.commits + 1) (id_of e.envelope) (commit_record c s e.envelope plan)
committed_record c means s w n reads e plan right there h =
    let b = batch_can c.settings c.meaning e.envelope (s.tables.commits + 1) s.moment (base s) plan right in
    record {
      named = named_some e.envelope (h.entries n e there).id;
      number = (omega arith, omega arith);
      few = b.1;
      queues = op_queues _ b.0;
      ids = op_ids _ b.0;
      sent = λ z. absurd (true≢false (sym z));
    }

pub recording_kept : {c : Constants} {s s' : State} {e : Event} → IsMeaning c.meaning → Step c s e s' → LookingAt c s → Sound c (base s) → IsSoundPost s.post → RecordingAt s → RecordingAt s'
recording_kept {c = c} {s = s} means (settle_commit {w = w} {n = n} {reads = reads} {e = e} {plan = plan} looked there new judged fresh room) l ok p h =
    let right = (present c means s w n reads e plan ok l looked there judged fresh).right in
    new_record s.tables.commits s.tables.outbox (id_of e.envelope) (commit_record c s e.envelope plan) (committed_record c means s w n reads e plan right there p) refl h
recording_kept {s = s} means (mark {id = id} {r = r} sending all there) l ok p h =
    let old = h.records id r there in
    changed_record s.tables.commits s.tables.outbox id r (record r { sent = true; ops = [] }) there (record {
      named = old.named;
      number = old.number;
      few = omega arith;
      queues = tt;
      ids = tt;
      sent = λ _. refl;
    }) refl h
recording_kept {s = s} means (purge {id = id} idle there sent old) l ok p h = fewer_records s.tables.commits s.tables.outbox id h
recording_kept means (load named room) l ok p h = h
recording_kept means (take i x) l ok p h = h
recording_kept means (look_known x y z) l ok p h = h
recording_kept means (look_new x y z) l ok p h = h
recording_kept means (settle_twin x y z) l ok p h = h
recording_kept means (settle_fault x y z v) l ok p h = h
recording_kept means (settle_conflict x y z v r) l ok p h = h
recording_kept means (send x y z) l ok p h = h
recording_kept means (aside x y) l ok p h = h
recording_kept means (remove x) l ok p h = h
recording_kept means (tick i x) l ok p h = h
recording_kept means (release i x y z) l ok p h = h
recording_kept means (put_back i x y z f r) l ok p h = h
recording_kept means (drop_back i x) l ok p h = h
recording_kept means stop l ok p h = h
recording_kept means halt l ok p h = h

idle_on : (p : Phase) → p ≡ Idle → CanGoOn p
idle_on p e = subst CanGoOn (sym e) tt

pub going_kept : {c : Constants} {s s' : State} {e : Event} → IsMeaning c.meaning → Step c s e s' → LookingAt c s → Sound c (base s) → IsSoundPost s.post → RecordingAt s → GoingAt s → GoingAt s'
going_kept {c = c} {s = s} means step l ok p h g = go step
  where
    one : (w : ℕ) (q : Phase) → CanGoOn q → (u : ℕ) → CanGoOn (phase_in (put_phase s.phases w q) u)
    one w q mine = each_phase (λ _ x. CanGoOn x) s.phases w q (λ u _. g u) mine

    by_record : (w n : ℕ) (id : List ℕ) (r : OutboxRow) → map.get s.tables.outbox id ≡ Some r → (u : ℕ) → CanGoOn (phase_in (put_phase s.phases w (phase_by r.sent n id r.ops)) u)
    by_record w n id r known = let x = h.records id r known in one w (phase_by r.sent n id r.ops) (on_by r.sent n id r.ops (can_put r.ops x.queues x.ids))

    failed_one : (w n : ℕ) (e : Queued) (fail : Fail) → entry s n ≡ Some e → (u : ℕ) → CanGoOn (phase_in (put_phase s.phases w (phase_after c.settings s.moment n e.envelope fail (move_after c.settings (fails s n + 1) e.envelope fail))) u)
    failed_one w n e fail there = one w _ (on_after c.settings s.moment n e.envelope fail (move_after c.settings (fails s n + 1) e.envelope fail) (p.entries n e there).id)

    go : {s' : State} {e : Event} → Step c s e s' → GoingAt s'
    go (load named room) = g
    go (take {w = w} {n = n} i x) = one w (Held n) tt
    go (look_known {w = w} {n = n} {e = e} {r = r} held there known) = by_record w n (id_of e.envelope) r known
    go (look_new {w = w} {n = n} {e = e} held there new) = one w (Looked n (Rattle.nb_base.specs.Shown.seen (base s) (c.meaning.keys e.envelope))) tt
    go (settle_twin {w = w} {n = n} {e = e} {r = r} looked there known) = by_record w n (id_of e.envelope) r known
    go (settle_fault {w = w} {n = n} {e = e} {f = f} looked there new judged) = failed_one w n e (Fault f) there
    go (settle_conflict {w = w} {n = n} {e = e} {r = r} looked there new judged stale) = failed_one w n e (conflict_on (base s) r) there
    go (settle_commit {w = w} {n = n} {reads = reads} {e = e} {plan = plan} looked there new judged fresh room) =
        let right = (present c means s w n reads e plan ok l looked there judged fresh).right in
        let b = batch_can c.settings c.meaning e.envelope (s.tables.commits + 1) s.moment (base s) plan right in
        one w (Sending n (id_of e.envelope) (commit_ops c s e.envelope plan) 0) (b.0, omega arith)
    go (send {w = w} {n = n} {k = k} {id = id} {ops = ops} {op = op} is at room) =
        let mine = subst CanGoOn is (g w) in
        let within = slice_get_within ops k op at in
        one w (Sending n id ops (k + 1)) (mine.0, omega arith)
    go (mark {w = w} {n = n} is all there) = one w (Done n) tt
    go (aside {w = w} {n = n} is room) = one w (Done n) tt
    go (remove {w = w} is) = one w Idle tt
    go (tick i x) = g
    go (release i x y z) = g
    go (purge i x y z) = g
    go (put_back i x y z f r) = g
    go (drop_back i x) = g
    go stop = λ w. idle_on (phase_in map.empty w) (phase_empty w)
    go halt = g
