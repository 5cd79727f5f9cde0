-- The entries of records that are not sent stay.
use Rattle.std.proofs.Common.{◌≡◌, ◌≢◌, ◌+◌, ℕ, Bool, true, false, Some, None, Option, refl, sym, ap, ◌∙◌, inl, inr, ⊎_elim, subst, List, []}
use Rattle.nb_base.proofs.Maps.{names, numbers, same_or_other, at_same, at_other, gone, kept}
use Rattle.nb_base.specs.Messages.{Message}
use Rattle.nb_base.specs.Orders.{ByNumber, ByName}
use Rattle.nb_base.specs.declared.entry.Op.{Op}
use Rattle.nb_base.specs.declared.entry.OutboxRow.{OutboxRow}
use Rattle.nb_base.specs.declared.settings.Settings.{Settings}
use Rattle.nb_base.specs.declared.tables.Queued.{Queued}
use Rattle.nb_core.proofs.Held.{each_phase, phase_empty, named, BelowAt, HoldingAt, IsBelow, Holding, below_kept, holding_kept}
use Rattle.nb_core.proofs.Placing.{Mark, First_marks, Fits, PlacingAt, placing_kept, more_marks, placing_at_first, put_same}
use Rattle.nb_core.proofs.Sending.{changed_same, changed_other}
use Rattle.nb_core.specs.History.{Run, ends, goes}
use Rattle.nb_core.specs.Pending.{Since, since_first, since_after, Leads, PendingStay, PendingFrom, Pending, NamesBy, IsNamed, Calm}
use Rattle.nb_core.specs.Sent.{changed}
use Rattle.nb_core.specs.State.{State, Constants, Phase, Idle, Held, Looked, Sending, Leaving, Done, phase, phase_in, put_phase, entry, recorded, number_of, phase_by, phase_after, commit_record, IsReady}
use Rattle.nb_core.specs.Step.{Event, Step, load, take, look_known, look_new, settle_twin, settle_fault, settle_conflict, settle_commit, send, mark, aside, remove, tick, release, purge, put_back, drop_back, stop, halt}
use Rattle.nb_headers.specs.Reads.{id_of}
use Rattle.nb_recover.specs.declared.fail.Fail.{Fail}
use Rattle.nb_recover.specs.declared.moves.Move.{Move}
use Rattle.nb_recover.specs.declared.moves.Move.TheVariants as move
use Rattle.std.specs.FinMap as map
use Rattle.nb_core.specs.RunFacts.{since_at_end}

some_same : {A : Type 0} {x y : A} → Some x ≡ Some y → x ≡ y
some_same e = cc

pub record Waiting (settings : Settings) (t : Since) (outbox : ByName OutboxRow) (ps : ByNumber Phase) (es : ByNumber Queued) : Type 0 where
  pub stay : PendingStay settings t outbox es
  pub calm : (w : ℕ) → Calm settings t outbox (phase_in ps w)

abbrev pub WaitingAt : Constants → Since → State → Type 0
WaitingAt c t s = Waiting c.settings t s.tables.outbox s.phases s.post.entries

-- the entry that is named has the id
id_of_named : (settings : Settings) (t : Since) (outbox : ByName OutboxRow) (es : ByNumber Queued) (n : ℕ) (e : Queued) → PendingStay settings t outbox es → map.get es n ≡ Some e
    → (x : IsNamed settings t outbox n) → (id_of e.envelope) ≡ x.id
id_of_named settings t outbox es n e stay there x = by_case (t.committed_by x.id) (stay x.id x.it x.there x.unsent) x.names
  where
    by_case : (o : Option ℕ) → Leads settings t.entries es x.id o → NamesBy settings t.entries x.id o n → (id_of e.envelope) ≡ x.id
    by_case (Some k) l is = ap (λ (y : Queued). (id_of y.envelope)) (some_same (sym there ∙ ap (map.get es) (sym is) ∙ l.there)) ∙ l.id_is
    by_case None l is = let s = l n is.0 is.1 is.2 is.3 in ap (λ (y : Queued). (id_of y.envelope)) (some_same (sym there ∙ s.there)) ∙ ap id_of s.envelope ∙ is.3

-- fewer records are not sent
calm_less : (settings : Settings) (t t' : Since) (outbox outbox' : ByName OutboxRow) (p : Phase)
    → ((n : ℕ) → number_of p ≡ Some n → IsNamed settings t' outbox' n → IsNamed settings t outbox n) → Calm settings t outbox p → Calm settings t' outbox' p
calm_less settings t t' outbox outbox' (Looked n reads) less h = λ x. h (less n refl x)
calm_less settings t t' outbox outbox' (Leaving n queue due copy) less h = λ x. h (less n refl x)
calm_less settings t t' outbox outbox' (Done n) less h = λ x. h (less n refl x)
calm_less settings t t' outbox outbox' Idle less h = tt
calm_less settings t t' outbox outbox' (Held n) less h = tt
calm_less settings t t' outbox outbox' (Sending n id ops k) less h = tt

calm_by : (settings : Settings) (t : Since) (outbox : ByName OutboxRow) (b : Bool) (n : ℕ) (id : List ℕ) (ops : List Op) → (b ≡ true → IsNamed settings t outbox n → ⊥) → Calm settings t outbox (phase_by b n id ops)
calm_by settings t outbox true n id ops h = h refl
calm_by settings t outbox false n id ops h = tt

calm_after : (settings : Settings) (t : Since) (outbox : ByName OutboxRow) (moment n : ℕ) (m : Message) (fail : Fail) (v : Move) → (IsNamed settings t outbox n → ⊥) → Calm settings t outbox (phase_after settings moment n m fail v)
calm_after settings t outbox moment n m fail move.Again h = tt
calm_after settings t outbox moment n m fail (move.Later round delay) h = h
calm_after settings t outbox moment n m fail move.Error h = h
calm_after settings t outbox moment n m fail move.Discard h = h

calm_idle : (settings : Settings) (t : Since) (outbox : ByName OutboxRow) (p : Phase) → p ≡ Idle → Calm settings t outbox p
calm_idle settings t outbox p e = subst (Calm settings t outbox) (sym e) tt

module _ (settings : Settings) where
  phase_change : (t : Since) (outbox : ByName OutboxRow) (ps : ByNumber Phase) (es : ByNumber Queued) (w : ℕ) (p : Phase) → Calm settings t outbox p → Waiting settings t outbox ps es
      → Waiting settings t outbox (put_phase ps w p) es
  phase_change t outbox ps es w p new h = record { stay = h.stay; calm = each_phase (λ _ q. Calm settings t outbox q) ps w p (λ v _. h.calm v) new }

  -- the named entries stay as they are
  leads_same : (was es es' : ByNumber Queued) (id : List ℕ) (o : Option ℕ) → ((n : ℕ) → NamesBy settings was id o n → map.get es' n ≡ map.get es n) → Leads settings was es id o → Leads settings was es' id o
  leads_same was es es' id (Some k) same l = record { it = l.it; there = same k refl ∙ l.there; ready = l.ready; id_is = l.id_is }
  leads_same was es es' id None same l = λ n e at own is.
      let s = l n e at own is in
      record { it = s.it; there = same n (e, at, own, is) ∙ s.there; envelope = s.envelope; queue = s.queue; due = s.due }

  entries_change : (t : Since) (outbox : ByName OutboxRow) (ps : ByNumber Phase) (es es' : ByNumber Queued) → ((n : ℕ) → IsNamed settings t outbox n → map.get es' n ≡ map.get es n)
      → Waiting settings t outbox ps es → Waiting settings t outbox ps es'
  entries_change t outbox ps es es' same h = record {
    stay = λ id r there no. leads_same t.entries es es' id (t.committed_by id) (λ n is. same n (record { id = id; it = r; there = there; unsent = no; names = is })) (h.stay id r there no);
    calm = h.calm;
  }

  -- something stands where a named entry is
  stands_named : (t : Since) (outbox : ByName OutboxRow) (ps : ByNumber Phase) (es : ByNumber Queued) → Waiting settings t outbox ps es → (n : ℕ) → IsNamed settings t outbox n
      → (e : Queued) × (map.get es n ≡ Some e) × (e.queue ≡ settings.endpoint)
  stands_named t outbox ps es h n x = by_case (t.committed_by x.id) (h.stay x.id x.it x.there x.unsent) x.names
    where
      by_case : (o : Option ℕ) → Leads settings t.entries es x.id o → NamesBy settings t.entries x.id o n → (e : Queued) × (map.get es n ≡ Some e) × (e.queue ≡ settings.endpoint)
      by_case (Some k) l is = (l.it, ap (map.get es) (sym is) ∙ l.there, l.ready.0)
      by_case None l is = let s = l n is.0 is.1 is.2 is.3 in (s.it, s.there, s.queue ∙ is.2)

  new_entry : (t : Since) (outbox : ByName OutboxRow) (ps : ByNumber Phase) (es : ByNumber Queued) (end : ℕ) (e : Queued) → IsBelow es end → Waiting settings t outbox ps es
      → Waiting settings t outbox ps (map.insert es end e)
  new_entry t outbox ps es end e b h = entries_change t outbox ps es (map.insert es end e) (λ n x. let s = stands_named t outbox ps es h n x in put_same es end e b n s.0 s.1) h

  -- a record comes to be sent, or goes
  fewer : (t : Since) (outbox outbox' : ByName OutboxRow) (ps : ByNumber Phase) (es : ByNumber Queued)
      → ((id : List ℕ) (r : OutboxRow) → map.get outbox' id ≡ Some r → r.sent ≡ false → map.get outbox id ≡ Some r) → Waiting settings t outbox ps es → Waiting settings t outbox' ps es
  fewer t outbox outbox' ps es less h = record {
    stay = λ id r there no. h.stay id r (less id r there no) no;
    calm = λ w. calm_less settings t t outbox outbox' (phase_in ps w) (λ n _ x. record { id = x.id; it = x.it; there = less x.id x.it x.there x.unsent; unsent = x.unsent; names = x.names }) (h.calm w);
  }

  -- a commit
  committing : (t : Since) (outbox : ByName OutboxRow) (ps : ByNumber Phase) (es : ByNumber Queued) (w n : ℕ) (e : Queued) (r : OutboxRow) → map.get outbox (id_of e.envelope) ≡ None → named ps w ≡ Some n → map.get es n ≡ Some e
      → Holding settings ps es → Waiting settings t outbox ps es
      → Waiting settings (record t { committed_by = changed t.committed_by (id_of e.envelope) (Some n) }) (map.insert outbox (id_of e.envelope) r) (put_phase ps w (Sending n (id_of e.envelope) r.ops 0)) es
  committing t outbox ps es w n e r new is there i h =
      let id = (id_of e.envelope) in
      let t' : Since = record t { committed_by = changed t.committed_by id (Some n) } in
      let outbox' = map.insert outbox id r in
      record {
        stay = λ q x at no. ⊎_elim
            (λ (same : q ≡ id).
            let s = i.stands w n is in
            let e_is : s.it ≡ e = some_same (sym s.there ∙ there) in
            subst (Leads settings t.entries es q) (sym (changed_same t.committed_by id (Some n) q same))
            (record { it = e; there = there; ready = subst (IsReady settings) e_is s.ready; id_is = sym same }))
            (λ (ne : q ≢ id). subst (Leads settings t.entries es q) (sym (changed_other t.committed_by id (Some n) q ne)) (h.stay q x (sym (at_other names outbox id r q ne) ∙ at) no))
            (same_or_other names q id);
        calm = each_phase (λ _ p. Calm settings t' outbox' p) ps w (Sending n id r.ops 0)
            (λ v ne. calm_less settings t t' outbox outbox' (phase_in ps v) (λ m so x. was_named v ne m so x) (h.calm v))
            tt;
      }
    where
      was_named : (v : ℕ) → v ≢ w → (m : ℕ) → named ps v ≡ Some m → IsNamed settings (record t { committed_by = changed t.committed_by (id_of e.envelope) (Some n) }) (map.insert outbox (id_of e.envelope) r) m → IsNamed settings t outbox m
      was_named v ne m so x = ⊎_elim
          (λ (same : x.id ≡ (id_of e.envelope)).
          let names : NamesBy settings t.entries x.id (Some n) m = subst (λ o. NamesBy settings t.entries x.id o m) (changed_same t.committed_by (id_of e.envelope) (Some n) x.id same) x.names in
          absurd (ne (i.apart v w n (so ∙ ap Some (sym names)) is)))
          (λ (other : x.id ≢ (id_of e.envelope)). record {
            id = x.id;
            it = x.it;
            there = sym (at_other names outbox (id_of e.envelope) r x.id other) ∙ x.there;
            unsent = x.unsent;
            names = subst (λ o. NamesBy settings t.entries x.id o m) (changed_other t.committed_by (id_of e.envelope) (Some n) x.id other) x.names;
          })
          (same_or_other names x.id (id_of e.envelope))

-- an entry whose id is not recorded, or whose record is sent, is not named
not_named_new : (c : Constants) (t : Since) (s : State) (n : ℕ) (e : Queued) → entry s n ≡ Some e → recorded s (id_of e.envelope) ≡ None → WaitingAt c t s → IsNamed c.settings t s.tables.outbox n → ⊥
not_named_new c t s n e there new h x =
    let is = id_of_named c.settings t s.tables.outbox s.post.entries n e h.stay there x in
    let z : None ≡ Some x.it = sym new ∙ ap (recorded s) is ∙ x.there in
    cc

not_named_sent : (c : Constants) (t : Since) (s : State) (n : ℕ) (e : Queued) (r : OutboxRow) → entry s n ≡ Some e → recorded s (id_of e.envelope) ≡ Some r → r.sent ≡ true → WaitingAt c t s → IsNamed c.settings t s.tables.outbox n → ⊥
not_named_sent c t s n e r there known sent h x =
    let is = id_of_named c.settings t s.tables.outbox s.post.entries n e h.stay there x in
    let r_is : r ≡ x.it = some_same (sym known ∙ ap (recorded s) is ∙ x.there) in
    let z : true ≡ false = sym sent ∙ ap (λ (y : OutboxRow). y.sent) r_is ∙ x.unsent in
    cc

pub waiting_kept : {c : Constants} {s s' : State} {e : Event} (t : Since) (step : Step c s e s') → c.settings.error ≢ c.settings.endpoint → BelowAt s → HoldingAt c s → PlacingAt c (λ (k : Mark). Unit {0}) s → WaitingAt c t s → WaitingAt c (since_after t step) s'
waiting_kept {c = c} {s = s} t (load named room) a b i p h = new_entry c.settings t s.tables.outbox s.phases s.post.entries s.post.next _ b h
waiting_kept {c = c} {s = s} t (take {w = w} {n = n} idle l) a b i p h = phase_change c.settings t s.tables.outbox s.phases s.post.entries w (Held n) tt h
waiting_kept {c = c} {s = s} t (look_known {w = w} {n = n} {e = e} {r = r} held there known) a b i p h =
    phase_change c.settings t s.tables.outbox s.phases s.post.entries w _ (calm_by c.settings t s.tables.outbox r.sent n (id_of e.envelope) r.ops (λ sent. not_named_sent c t s n e r there known sent h)) h
waiting_kept {c = c} {s = s} t (look_new {w = w} {n = n} {e = e} held there new) a b i p h =
    phase_change c.settings t s.tables.outbox s.phases s.post.entries w (Looked n _) (not_named_new c t s n e there new h) h
waiting_kept {c = c} {s = s} t (settle_twin {w = w} {n = n} {e = e} {r = r} looked there known) a b i p h =
    phase_change c.settings t s.tables.outbox s.phases s.post.entries w _ (calm_by c.settings t s.tables.outbox r.sent n (id_of e.envelope) r.ops (λ sent. not_named_sent c t s n e r there known sent h)) h
waiting_kept {c = c} {s = s} t (settle_fault {w = w} {n = n} {e = e} looked there new verdict) a b i p h =
    phase_change c.settings t s.tables.outbox s.phases s.post.entries w _ (calm_after c.settings t s.tables.outbox s.moment n e.envelope _ _ (not_named_new c t s n e there new h)) h
waiting_kept {c = c} {s = s} t (settle_conflict {w = w} {n = n} {e = e} looked there new verdict stale) a b i p h =
    phase_change c.settings t s.tables.outbox s.phases s.post.entries w _ (calm_after c.settings t s.tables.outbox s.moment n e.envelope _ _ (not_named_new c t s n e there new h)) h
waiting_kept {c = c} {s = s} t (settle_commit {w = w} {n = n} {e = e} {plan = plan} looked there new verdict fresh room) a b i p h =
    committing c.settings t s.tables.outbox s.phases s.post.entries w n e (commit_record c s e.envelope plan) new (ap number_of looked) there i h
waiting_kept {c = c} {s = s} t (send {w = w} {n = n} {k = k} {id = id} {ops = ops} is at room) a b i p h =
    phase_change c.settings t s.tables.outbox s.phases _ w (Sending n id ops (k + 1)) tt (new_entry c.settings t s.tables.outbox s.phases s.post.entries s.post.next _ b h)
waiting_kept {c = c} {s = s} t (mark {w = w} {n = n} {id = id} {r = r} is all there) a b i p h =
    phase_change c.settings t outbox' s.phases s.post.entries w (Done n) done_not_named (fewer c.settings t s.tables.outbox outbox' s.phases s.post.entries less h)
  where
    r' : OutboxRow
    r' = record r { sent = true; ops = [] }

    outbox' : ByName OutboxRow
    outbox' = map.insert s.tables.outbox id r'

    less : (q : List ℕ) (x : OutboxRow) → map.get outbox' q ≡ Some x → x.sent ≡ false → map.get s.tables.outbox q ≡ Some x
    less q x at unsent = ⊎_elim
        (λ (same : q ≡ id). absurd (
        let x_is : r' ≡ x = some_same (sym (at_same names s.tables.outbox id r') ∙ ap (map.get outbox') (sym same) ∙ at) in
        let z : true ≡ false = ap (λ (y : OutboxRow). y.sent) x_is ∙ unsent in
        cc))
        (λ (ne : q ≢ id). sym (at_other names s.tables.outbox id r' q ne) ∙ at)
        (same_or_other names q id)

    done_not_named : IsNamed c.settings t outbox' n → ⊥
    done_not_named x =
        let f = subst (Fits c.settings (λ (k : Mark). Unit {0}) s.post.entries s.back) is (p.fits w) in
        let old : IsNamed c.settings t s.tables.outbox n = record { id = x.id; it = x.it; there = less x.id x.it x.there x.unsent; unsent = x.unsent; names = x.names } in
        let id_is : id ≡ x.id = sym f.2 ∙ id_of_named c.settings t s.tables.outbox s.post.entries n f.0 h.stay f.1 old in
        let x_is : r' ≡ x.it = some_same (sym (at_same names s.tables.outbox id r') ∙ ap (map.get outbox') id_is ∙ x.there) in
        let z : true ≡ false = ap (λ (y : OutboxRow). y.sent) x_is ∙ x.unsent in
        cc
waiting_kept {c = c} {s = s} t (aside {w = w} {n = n} is room) a b i p h =
    phase_change c.settings t s.tables.outbox s.phases _ w (Done n) (subst (Calm c.settings t s.tables.outbox) is (h.calm w)) (new_entry c.settings t s.tables.outbox s.phases s.post.entries s.post.next _ b h)
waiting_kept {c = c} {s = s} t (remove {w = w} {n = n} is) a b i p h =
    entries_change c.settings t s.tables.outbox (put_phase s.phases w Idle) s.post.entries (map.remove s.post.entries n)
    (λ m x. kept numbers s.post.entries n m (λ same. subst (Calm c.settings t s.tables.outbox) is (h.calm w) (subst (IsNamed c.settings t s.tables.outbox) same x)))
    (phase_change c.settings t s.tables.outbox s.phases s.post.entries w Idle tt h)
waiting_kept t (tick idle l) a b i p h = h
waiting_kept {c = c} {s = s} t (release {n = n} {due = due} {e = e} idle there is_due l) a b i p h = record {
  stay = λ id r at no. released id (t.committed_by id) (h.stay id r at no);
  calm = λ w. calm_idle c.settings t s.tables.outbox (phase s w) (idle w);
}
  where
    e' : Queued
    e' = record e { due = None }

    es' : ByNumber Queued
    es' = map.insert s.post.entries n e'

    released : (id : List ℕ) (o : Option ℕ) → Leads c.settings t.entries s.post.entries id o → Leads c.settings t.entries es' id o
    released id (Some k) l =
        let ne : k ≢ n = λ same. (
        let it_is : l.it ≡ e = some_same (sym l.there ∙ ap (map.get s.post.entries) same ∙ there) in
        let z : None ≡ Some due = sym l.ready.1 ∙ ap (λ (y : Queued). y.due) it_is ∙ is_due in
        cc) in
        record { it = l.it; there = at_other numbers s.post.entries n e' k ne ∙ l.there; ready = l.ready; id_is = l.id_is }
    released id None l = λ m x at own is.
        let q = l m x at own is in
        ⊎_elim
        (λ (same : m ≡ n).
        let it_is : q.it ≡ e = some_same (sym q.there ∙ ap (map.get s.post.entries) same ∙ there) in
        record {
          it = e';
          there = ap (map.get es') same ∙ at_same numbers s.post.entries n e';
          envelope = ap (λ (y : Queued). y.envelope) (sym it_is) ∙ q.envelope;
          queue = ap (λ (y : Queued). y.queue) (sym it_is) ∙ q.queue;
          due = inr refl;
        })
        (λ (ne : m ≢ n). record { it = q.it; there = at_other numbers s.post.entries n e' m ne ∙ q.there; envelope = q.envelope; queue = q.queue; due = q.due })
        (same_or_other numbers m n)
waiting_kept {c = c} {s = s} t (purge {id = id} {r = r} idle there sent old) a b i p h =
    fewer c.settings t s.tables.outbox (map.remove s.tables.outbox id) s.phases s.post.entries
    (λ q x at no. ⊎_elim
    (λ (same : q ≡ id). absurd (let z : None ≡ Some x = sym (gone names s.tables.outbox id) ∙ ap (map.get (map.remove s.tables.outbox id)) (sym same) ∙ at in cc))
    (λ (ne : q ≢ id). sym (kept names s.tables.outbox id q ne) ∙ at)
    (same_or_other names q id))
    h
waiting_kept {c = c} {s = s} t (put_back idle there queue due from room) a b i p h = new_entry c.settings t s.tables.outbox s.phases s.post.entries s.post.next _ b h
waiting_kept {c = c} {s = s} t (drop_back {n = n} idle in_back) a b i p h =
    entries_change c.settings t s.tables.outbox s.phases s.post.entries (map.remove s.post.entries n)
    (λ m x. kept numbers s.post.entries n m (λ same.
    let q = p.back_is n tt in_back in
    let st = stands_named c.settings t s.tables.outbox s.phases s.post.entries h m x in
    let it_is : q.0 ≡ st.0 = some_same (sym q.1 ∙ ap (map.get s.post.entries) (sym same) ∙ st.1) in
    a (sym q.2 ∙ ap (λ (y : Queued). y.queue) it_is ∙ st.2)))
    h
waiting_kept {c = c} {s = s} t stop a b i p h = record {
  stay = λ id r at no n e there own is. record { it = e; there = there; envelope = refl; queue = refl; due = inl refl };
  calm = λ w. calm_idle c.settings _ s.tables.outbox (phase_in map.empty w) (phase_empty w);
}
waiting_kept t halt a b i p h = h

pub forget : (c : Constants) (K : Mark → Type 0) (s : State) → PlacingAt c K s → PlacingAt c (λ (k : Mark). Unit {0}) s
forget c K s p = more_marks c.settings K (λ (k : Mark). Unit {0}) s.tables.outbox s.tables.outbox s.phases s.post.entries s.back (λ k x. tt) (λ id r e. tt) p

pending_from : {c : Constants} {s s' : State} {es : List Event} (t : Since) (run : Run c s es s') → c.settings.error ≢ c.settings.endpoint → BelowAt s → HoldingAt c s → PlacingAt c (λ (k : Mark). Unit {0}) s → WaitingAt c t s
    → PendingFrom t run
pending_from t ends a b i p h = h.stay
pending_from {c = c} t (goes {mid = mid} step rest) a b i p h =
    (h.stay, pending_from (since_after t step) rest a (below_kept step b) (holding_kept step b i) (forget c _ mid (placing_kept (λ (k : Mark). Unit {0}) step b i p)) (waiting_kept t step a b i p h))

pub waiting_at_end : {c : Constants} {s s' : State} {es : List Event} (t : Since) (run : Run c s es s') → c.settings.error ≢ c.settings.endpoint → BelowAt s → HoldingAt c s → PlacingAt c (λ (k : Mark). Unit {0}) s → WaitingAt c t s
    → WaitingAt c (since_at_end t run) s'
waiting_at_end t ends a b i p h = h
waiting_at_end {c = c} t (goes {mid = mid} step rest) a b i p h =
    waiting_at_end (since_after t step) rest a (below_kept step b) (holding_kept step b i) (forget c _ mid (placing_kept (λ (k : Mark). Unit {0}) step b i p)) (waiting_kept t step a b i p h)

pub waiting_at_first : (c : Constants) (s : State) → ((w : ℕ) → phase_in s.phases w ≡ Idle) → WaitingAt c (since_first s) s
waiting_at_first c s idle = record {
  stay = λ id r at unsent n e there own is. record { it = e; there = there; envelope = refl; queue = refl; due = inl refl };
  calm = λ w. calm_idle c.settings _ s.tables.outbox (phase s w) (idle w);
}

pub pending : {c : Constants} {s s' : State} {es : List Event} (run : Run c s es s') → c.settings.error ≢ c.settings.endpoint → BelowAt s → HoldingAt c s
    → ((w : ℕ) → phase_in s.phases w ≡ Idle) → ((n : ℕ) → map.get s.back n ≡ None) → Pending run
pending {c = c} {s = s} run a b i idle no_back =
    pending_from (since_first s) run a b i (forget c (First_marks s) s (placing_at_first c s idle no_back)) (waiting_at_first c s idle)
