-- A `Sending` phase has the batch of its id, and has put its first k ops.
use Rattle.std.proofs.Common.{◌≡◌, ◌≢◌, ◌⊎◌, ◌+◌, ◌<◌, ℕ, zero, suc, Bool, true, false, cond, Some, None, refl, sym, ap, ◌∙◌, inl, inr, ⊎_elim, subst, arith, List, [], ◌∷◌, length}
use Rattle.std.proofs.lemmas.Slice.Eq.{bytes_eq-Decides}
use Rattle.nb_base.specs.declared.saga_row.Read.{Read}
use Rattle.nb_recover.specs.declared.fail.Fail.{Fail}
use Rattle.std.specs.Prelude.{bytes_eq, slice_get}
use Rattle.nb_base.proofs.Maps.{names, same_or_other, at_same, at_other, gone, kept}
use Rattle.nb_base.specs.Messages.{Message}
use Rattle.nb_base.specs.Orders.{ByNumber, ByName}
use Rattle.nb_base.specs.declared.entry.Op.{Op}
use Rattle.nb_base.specs.declared.entry.OutboxRow.{OutboxRow}
use Rattle.nb_base.specs.declared.settings.Settings.{Settings}
use Rattle.nb_core.proofs.Held.{each_phase, phase_same, phase_empty}
use Rattle.nb_core.specs.History.{Run, ends, goes}
use Rattle.nb_core.specs.Sent.{Told, IsIn, changed, told_at_first, told_after, ops_in, IsSentRight, SentFrom, Sent}
use Rattle.nb_core.specs.State.{put_phase, State, Constants, Phase, Idle, Held, Looked, Sending, Done, phase_in, phase_by, phase_after, commit_record}
use Rattle.nb_core.specs.Step.{Event, Step, load, take, look_known, look_new, settle_twin, settle_fault, settle_conflict, settle_commit, send, mark, aside, remove, tick, release, purge, put_back, drop_back, stop, halt}
use Rattle.nb_headers.specs.Reads.{id_of}
use Rattle.nb_recover.specs.declared.moves.Move.{Move}
use Rattle.nb_recover.specs.declared.moves.Move.TheVariants as move
use Rattle.std.specs.FinMap as map

pub changed_same : {A : Type 0} (f : List ℕ → A) (k : List ℕ) (v : A) (q : List ℕ) → q ≡ k → changed f k v q ≡ v
changed_same f k v q e = ap (λ b. cond b v (f q)) ((bytes_eq-Decides q k).1 e)

pub changed_other : {A : Type 0} (f : List ℕ → A) (k : List ℕ) (v : A) (q : List ℕ) → q ≢ k → changed f k v q ≡ f q
changed_other f k v q ne = ap (λ b. cond b v (f q)) (differ (bytes_eq q k) refl)
  where
    differ : (b : Bool) → bytes_eq q k ≡ b → bytes_eq q k ≡ false
    differ true e = absurd (ne ((bytes_eq-Decides q k).0 e))
    differ false e = e

-- what was put for an id does not become less, where it is not committed
put_more : (f : List ℕ → List Op) (k : List ℕ) (op x : Op) (q : List ℕ) → IsIn x (f q) → IsIn x (changed f k (op ∷ f k) q)
put_more f k op x q h =
    ⊎_elim
    (λ (same : q ≡ k). subst (IsIn x) (sym (changed_same f k (op ∷ f k) q same)) (inr (subst (λ z. IsIn x (f z)) same h)))
    (λ (ne : q ≢ k). subst (IsIn x) (sym (changed_other f k (op ∷ f k) q ne)) h)
    (same_or_other names q k)

-- the place of an op in a list
in_place : (xs : List Op) (x : Op) → IsIn x xs → (i : ℕ) × (i < length xs) × (slice_get xs i ≡ Some x)
in_place [] x h = absurd h
in_place (y ∷ ys) x h =
    ⊎_elim
    (λ (e : x ≡ y). (zero, omega arith, ap Some (sym e)))
    (λ (r : IsIn x ys). let p = in_place ys x r in (suc p.0, (let q = p.1 in omega arith), p.2))
    h

pub record Sends (t : Told) (outbox : ByName OutboxRow) (id : List ℕ) (ops : List Op) (k : ℕ) : Type 0 where
  pub it : OutboxRow
  pub there : map.get outbox id ≡ Some it
  pub batch : ops ≡ t.batch id
  pub so_far : (i : ℕ) (op : Op) → i < k → slice_get ops i ≡ Some op → IsIn op (t.put id)

pub record Telling (t : Told) (outbox : ByName OutboxRow) (ps : ByNumber Phase) : Type 0 where
  pub pending : (id : List ℕ) (r : OutboxRow) → map.get outbox id ≡ Some r → r.sent ≡ false → r.ops ≡ t.batch id
  pub sending : (w n : ℕ) (id : List ℕ) (ops : List Op) (k : ℕ) → phase_in ps w ≡ Sending n id ops k → Sends t outbox id ops k
  pub marked : (id : List ℕ) → t.marked id ≡ true → (r : OutboxRow) × (map.get outbox id ≡ Some r) × (r.sent ≡ true)

abbrev pub TellingAt : Told → State → Type 0
TellingAt t s = Telling t s.tables.outbox s.phases

-- phases that send nothing
IsQuiet : Phase → Type 0
IsQuiet p = (n : ℕ) (id : List ℕ) (ops : List Op) (k : ℕ) → p ≡ Sending n id ops k → ⊥

held_quiet : (n : ℕ) → IsQuiet (Held n)
unfolding IsQuiet
held_quiet n m id ops k e = cc

looked_quiet : (n : ℕ) (reads : List Read) → IsQuiet (Looked n reads)
unfolding IsQuiet
looked_quiet n reads m id ops k e = cc

done_quiet : (n : ℕ) → IsQuiet (Done n)
unfolding IsQuiet
done_quiet n m id ops k e = cc

idle_quiet : IsQuiet Idle
unfolding IsQuiet
idle_quiet m id ops k e = cc

after_quiet : (settings : Settings) (moment n : ℕ) (m : Message) (fail : Fail) (v : Move) → IsQuiet (phase_after settings moment n m fail v)
unfolding IsQuiet
after_quiet settings moment n m fail move.Again a id ops k e = cc
after_quiet settings moment n m fail (move.Later round delay) a id ops k e = cc
after_quiet settings moment n m fail move.Error a id ops k e = cc
after_quiet settings moment n m fail move.Discard a id ops k e = cc

-- a worker's phase changes to one that sends nothing
quiet : (t : Told) (outbox : ByName OutboxRow) (ps : ByNumber Phase) (w : ℕ) (p : Phase) → IsQuiet p → Telling t outbox ps → Telling t outbox (put_phase ps w p)
unfolding IsQuiet
quiet t outbox ps w p q h = record {
  pending = h.pending;
  sending = each_phase (λ v x. (n : ℕ) (id : List ℕ) (ops : List Op) (k : ℕ) → x ≡ Sending n id ops k → Sends t outbox id ops k) ps w p
      (λ v _. h.sending v) (λ n id ops k e. absurd (q n id ops k e));
  marked = h.marked;
}

-- to one that begins to send what is recorded
starts : (t : Told) (outbox : ByName OutboxRow) (ps : ByNumber Phase) (w n : ℕ) (id : List ℕ) (ops : List Op) (k : ℕ) → Sends t outbox id ops k → Telling t outbox ps
    → Telling t outbox (put_phase ps w (Sending n id ops k))
starts t outbox ps w n id ops k s h = record {
  pending = h.pending;
  sending = each_phase (λ v x. (n : ℕ) (id : List ℕ) (ops : List Op) (k : ℕ) → x ≡ Sending n id ops k → Sends t outbox id ops k) ps w (Sending n id ops k)
      (λ v _. h.sending v)
      (λ m id' ops' k' e.
      let i : id ≡ id' = cc in
      let o : ops ≡ ops' = cc in
      let j : k ≡ k' = cc in
      subst (λ (x : List ℕ × List Op × ℕ). Sends t outbox x.0 x.1 x.2) (λ y. (i y, o y, j y)) s);
  marked = h.marked;
}

by_record : (t : Told) (outbox : ByName OutboxRow) (ps : ByNumber Phase) (w n : ℕ) (id : List ℕ) (r : OutboxRow) (b : Bool) → r.sent ≡ b → map.get outbox id ≡ Some r → Telling t outbox ps
    → Telling t outbox (put_phase ps w (phase_by b n id r.ops))
by_record t outbox ps w n id r true sent there h = quiet t outbox ps w (Done n) (done_quiet n) h
by_record t outbox ps w n id r false sent there h =
    starts t outbox ps w n id r.ops 0 (record { it = r; there = there; batch = h.pending id r there sent; so_far = λ i op lt e. absurd (omega arith) }) h

nobody : (t : Told) (outbox : ByName OutboxRow) (ps ps' : ByNumber Phase) → ((w : ℕ) → phase_in ps' w ≡ Idle) → Telling t outbox ps → Telling t outbox ps'
nobody t outbox ps ps' idle h = record {
  pending = h.pending;
  sending = λ w n id ops k e. absurd (let x : Idle ≡ Sending n id ops k = sym (idle w) ∙ e in cc);
  marked = h.marked;
}

committing : (t : Told) (outbox : ByName OutboxRow) (ps : ByNumber Phase) (w n : ℕ) (id : List ℕ) (r : OutboxRow) → map.get outbox id ≡ None → Telling t outbox ps
    → Telling (record t { batch = changed t.batch id r.ops; put = changed t.put id [] }) (map.insert outbox id r) (put_phase ps w (Sending n id r.ops 0))
committing t outbox ps w n id r new h =
    let t' = record t { batch = changed t.batch id r.ops; put = changed t.put id [] } in
    let outbox' = map.insert outbox id r in
    starts t' outbox' ps w n id r.ops 0
    (record { it = r; there = at_same names outbox id r; batch = sym (changed_same t.batch id r.ops id refl); so_far = λ i op lt e. absurd (omega arith) })
    (record {
      pending = λ q x there sent. ⊎_elim
          (λ (same : q ≡ id).
          let x_is : Some r ≡ Some x = sym (at_same names outbox id r) ∙ ap (map.get outbox') (sym same) ∙ there in
          let y : r ≡ x = cc in
          ap (λ (z : OutboxRow). z.ops) (sym y) ∙ sym (changed_same t.batch id r.ops q same))
          (λ (ne : q ≢ id). h.pending q x (sym (at_other names outbox id r q ne) ∙ there) sent ∙ sym (changed_other t.batch id r.ops q ne))
          (same_or_other names q id);
      sending = λ v m q ops k e.
          let s = h.sending v m q ops k e in
          let ne : q ≢ id = λ same. absurd (let z : Some s.it ≡ None = sym s.there ∙ ap (map.get outbox) same ∙ new in cc) in
          record {
            it = s.it;
            there = at_other names outbox id r q ne ∙ s.there;
            batch = s.batch ∙ sym (changed_other t.batch id r.ops q ne);
            so_far = λ i op lt at. subst (IsIn op) (sym (changed_other t.put id [] q ne)) (s.so_far i op lt at);
          };
      marked = λ q yes.
          let m = h.marked q yes in
          let ne : q ≢ id = λ same. absurd (let z : Some m.0 ≡ None = sym m.1 ∙ ap (map.get outbox) same ∙ new in cc) in
          (m.0, at_other names outbox id r q ne ∙ m.1, m.2);
    })

sending_one : (t : Told) (outbox : ByName OutboxRow) (ps : ByNumber Phase) (w n : ℕ) (id : List ℕ) (ops : List Op) (k : ℕ) (op : Op)
    → phase_in ps w ≡ Sending n id ops k → slice_get ops k ≡ Some op → Telling t outbox ps
    → Telling (record t { put = changed t.put id (op ∷ t.put id) }) outbox (put_phase ps w (Sending n id ops (k + 1)))
sending_one t outbox ps w n id ops k op is at h =
    let t' = record t { put = changed t.put id (op ∷ t.put id) } in
    let mine = h.sending w n id ops k is in
    starts t' outbox ps w n id ops (k + 1)
    (record { it = mine.it; there = mine.there; batch = mine.batch; so_far = λ i x lt e. one i x lt e })
    (record {
      pending = h.pending;
      sending = λ v m q xs j e. let s = h.sending v m q xs j e in record { it = s.it; there = s.there; batch = s.batch; so_far = λ i x lt f. put_more t.put id op x q (s.so_far i x lt f) };
      marked = h.marked;
    })
  where
    one : (i : ℕ) (x : Op) → i < k + 1 → slice_get ops i ≡ Some x → IsIn x (changed t.put id (op ∷ t.put id) id)
    one i x lt e =
        let mine = h.sending w n id ops k is in
        ⊎_elim
        (λ (below : i < k). put_more t.put id op x id (mine.so_far i x below e))
        (λ (eq : i ≡ k). subst (IsIn x) (sym (changed_same t.put id (op ∷ t.put id) id refl))
        (inl (let z : Some x ≡ Some op = sym e ∙ ap (slice_get ops) eq ∙ at in cc)))
        (below_or i k lt)
      where
        below_or : (i k : ℕ) → i < k + 1 → (i < k) ⊎ (i ≡ k)
        below_or i k lt = grind arith

marking : (t : Told) (outbox : ByName OutboxRow) (ps : ByNumber Phase) (w n : ℕ) (id : List ℕ) (r : OutboxRow) → map.get outbox id ≡ Some r → Telling t outbox ps
    → Telling (record t { marked = changed t.marked id true }) (map.insert outbox id (record r { sent = true; ops = [] })) (put_phase ps w (Done n))
marking t outbox ps w n id r there h =
    let r' = record r { sent = true; ops = [] } in
    let outbox' = map.insert outbox id r' in
    quiet (record t { marked = changed t.marked id true }) outbox' ps w (Done n) (done_quiet n)
    (record {
      pending = λ q x at no. ⊎_elim
          (λ (same : q ≡ id).
          let x_is : Some r' ≡ Some x = sym (at_same names outbox id r') ∙ ap (map.get outbox') (sym same) ∙ at in
          let y : r' ≡ x = cc in
          absurd (let z : true ≡ false = ap (λ (z : OutboxRow). z.sent) y ∙ no in cc))
          (λ (ne : q ≢ id). h.pending q x (sym (at_other names outbox id r' q ne) ∙ at) no)
          (same_or_other names q id);
      sending = λ v m q ops k e.
          let s = h.sending v m q ops k e in
          ⊎_elim
          (λ (same : q ≡ id). record { it = r'; there = ap (map.get outbox') same ∙ at_same names outbox id r'; batch = s.batch; so_far = s.so_far })
          (λ (ne : q ≢ id). record { it = s.it; there = at_other names outbox id r' q ne ∙ s.there; batch = s.batch; so_far = s.so_far })
          (same_or_other names q id);
      marked = λ q yes. ⊎_elim
          (λ (same : q ≡ id). (r', ap (map.get outbox') same ∙ at_same names outbox id r', refl))
          (λ (ne : q ≢ id). let m = h.marked q (sym (changed_other t.marked id true q ne) ∙ yes) in (m.0, at_other names outbox id r' q ne ∙ m.1, m.2))
          (same_or_other names q id);
    })

purging : (t : Told) (outbox : ByName OutboxRow) (ps : ByNumber Phase) (id : List ℕ) → ((w : ℕ) → phase_in ps w ≡ Idle) → Telling t outbox ps
    → Telling (record t { marked = changed t.marked id false }) (map.remove outbox id) ps
purging t outbox ps id idle h = record {
  pending = λ q x at no. ⊎_elim
      (λ (same : q ≡ id). absurd (let z : None ≡ Some x = sym (gone names outbox id) ∙ ap (map.get (map.remove outbox id)) (sym same) ∙ at in cc))
      (λ (ne : q ≢ id). h.pending q x (sym (kept names outbox id q ne) ∙ at) no)
      (same_or_other names q id);
  sending = λ w n q ops k e. absurd (let x : Idle ≡ Sending n q ops k = sym (idle w) ∙ e in cc);
  marked = λ q yes. ⊎_elim
      (λ (same : q ≡ id). absurd (let z : false ≡ true = sym (changed_same t.marked id false q same) ∙ yes in cc))
      (λ (ne : q ≢ id). let m = h.marked q (sym (changed_other t.marked id false q ne) ∙ yes) in (m.0, kept names outbox id q ne ∙ m.1, m.2))
      (same_or_other names q id);
}

pub telling_kept : {c : Constants} {s s' : State} {e : Event} (t : Told) (step : Step c s e s') → TellingAt t s → TellingAt (told_after t step) s'
telling_kept t (load named room) h = h
telling_kept t (take i l) h = quiet t _ _ _ _ (held_quiet _) h
telling_kept {s = s} t (look_known {w = w} {n = n} {e = e} {r = r} held there known) h = by_record t s.tables.outbox s.phases w n (id_of e.envelope) r r.sent refl known h
telling_kept t (look_new held there new) h = quiet t _ _ _ _ (looked_quiet _ _) h
telling_kept {s = s} t (settle_twin {w = w} {n = n} {e = e} {r = r} looked there known) h = by_record t s.tables.outbox s.phases w n (id_of e.envelope) r r.sent refl known h
telling_kept {c = c} {s = s} t (settle_fault {n = n} looked there new verdict) h = quiet t _ _ _ _ (after_quiet c.settings s.moment n _ _ _) h
telling_kept {c = c} {s = s} t (settle_conflict {n = n} looked there new verdict stale) h = quiet t _ _ _ _ (after_quiet c.settings s.moment n _ _ _) h
telling_kept {c = c} {s = s} t (settle_commit {w = w} {n = n} {e = e} {plan = plan} looked there new verdict fresh room) h =
    committing t s.tables.outbox s.phases w n (id_of e.envelope) (commit_record c s e.envelope plan) new h
telling_kept {s = s} t (send {w = w} {n = n} {k = k} {id = id} {ops = ops} {op = op} is at room) h = sending_one t s.tables.outbox s.phases w n id ops k op is at h
telling_kept {s = s} t (mark {w = w} {n = n} {id = id} {r = r} is all there) h = marking t s.tables.outbox s.phases w n id r there h
telling_kept t (aside leaving room) h = quiet t _ _ _ _ (done_quiet _) h
telling_kept t (remove is) h = quiet t _ _ _ _ idle_quiet h
telling_kept t (tick i l) h = h
telling_kept t (release i e d l) h = h
telling_kept {s = s} t (purge {id = id} idle there sent old) h = purging t s.tables.outbox s.phases id idle h
telling_kept t (put_back i e q d f room) h = h
telling_kept t (drop_back i n) h = h
telling_kept {s = s} t stop h = nobody t s.tables.outbox s.phases map.empty phase_empty h
telling_kept t halt h = h

sent_right : {c : Constants} {s s' : State} {e : Event} (t : Told) (step : Step c s e s') → TellingAt t s → IsSentRight t step
sent_right {s = s} t (send {w = w} {n = n} {k = k} {id = id} {ops = ops} {op = op} is at room) h =
    subst (λ x. slice_get x k ≡ Some op) (h.sending w n id ops k is).batch at
sent_right {s = s} t (mark {w = w} {n = n} {k = k} {id = id} {ops = ops} {r = r} is all there) h = λ op in_batch.
    let mine = h.sending w n id ops k is in
    let p = in_place ops op (subst (IsIn op) (sym mine.batch) in_batch) in
    mine.so_far p.0 op (subst (λ x. p.0 < x) (sym all) p.1) p.2
sent_right {s = s} t (look_known {w = w} {n = n} {e = e} {r = r} held there known) h = λ yes.
    let m = h.marked (id_of e.envelope) yes in
    let is : r.sent ≡ true = (let z : Some r ≡ Some m.0 = sym known ∙ m.1 in let y : r ≡ m.0 = cc in ap (λ (x : OutboxRow). x.sent) y ∙ m.2) in
    phase_same s.phases w _ ∙ ap (λ b. phase_by b n (id_of e.envelope) r.ops) is
sent_right {s = s} t (look_new {e = e} held there new) h = λ yes.
    let m = h.marked (id_of e.envelope) yes in
    absurd (let z : Some m.0 ≡ None = sym m.1 ∙ new in cc)
sent_right t _ h = tt

pub sent_from : {c : Constants} {s s' : State} {es : List Event} (t : Told) (run : Run c s es s') → TellingAt t s → SentFrom t run
sent_from t ends h = tt
sent_from t (goes step rest) h = (sent_right t step h, sent_from (told_after t step) rest (telling_kept t step h))

pub at_first : (s : State) → ((w : ℕ) → phase_in s.phases w ≡ Idle) → TellingAt (told_at_first s) s
at_first s idle = record {
  pending = λ id r there no. sym (ap ops_in there);
  sending = λ w n id ops k e. absurd (let x : Idle ≡ Sending n id ops k = sym (idle w) ∙ e in cc);
  marked = λ id yes. absurd (let z : false ≡ true = yes in cc);
}

pub sent : {c : Constants} {s s' : State} {es : List Event} (run : Run c s es s') → ((w : ℕ) → phase_in s.phases w ≡ Idle) → Sent run
sent {s = s} run idle = sent_from (told_at_first s) run (at_first s idle)
