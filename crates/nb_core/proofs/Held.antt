-- Two workers hold different entries, and a held entry stands in the own queue without a due.
use Rattle.std.proofs.Common.{◌≡◌, ◌≢◌, ◌⊎◌, ◌+◌, ◌<◌, ℕ, Bool, true, false, Some, None, Option, refl, sym, ap, ◌∙◌, inl, inr, ⊎_elim, subst, arith, List}
use Rattle.std.specs.Option.{unwrap_or}
use Rattle.nb_base.proofs.Maps.{numbers, same_or_other, at_same, at_other, gone, kept}
use Rattle.nb_base.specs.Messages.{Message}
use Rattle.nb_base.specs.Orders.{ByNumber}
use Rattle.nb_base.specs.declared.entry.Op.{Op}
use Rattle.nb_base.specs.declared.settings.Settings.{Settings}
use Rattle.nb_base.specs.declared.tables.Queued.{Queued}
use Rattle.nb_core.specs.State.{put_phase, State, Constants, Phase, Idle, Held, Looked, Sending, Leaving, Done, phase_in, number_of, phase_by, phase_after}
use Rattle.nb_core.specs.Step.{Event, Step, load, take, look_known, look_new, settle_twin, settle_fault, settle_conflict, settle_commit, send, mark, aside, remove, tick, release, purge, put_back, drop_back, stop, halt}
use Rattle.nb_recover.specs.declared.fail.Fail.{Fail}
use Rattle.nb_recover.specs.declared.moves.Move.{Move}
use Rattle.nb_recover.specs.declared.moves.Move.TheVariants as move
use Rattle.std.specs.FinMap as map
pub use Rattle.nb_core.specs.Facts.{Stands, Holding}

-- the phase of a worker after a change
inserted_same : (ps : ByNumber Phase) (w : ℕ) (p : Phase) → phase_in (map.insert ps w p) w ≡ p
inserted_same ps w p = ap (λ o. unwrap_or o Idle) (at_same numbers ps w p)

inserted_other : (ps : ByNumber Phase) (w : ℕ) (p : Phase) (v : ℕ) → v ≢ w → phase_in (map.insert ps w p) v ≡ phase_in ps v
inserted_other ps w p v ne = ap (λ o. unwrap_or o Idle) (at_other numbers ps w p v ne)

pub phase_same : (ps : ByNumber Phase) (w : ℕ) (p : Phase) → phase_in (put_phase ps w p) w ≡ p
unfolding put_phase
phase_same ps w Idle = ap (λ o. unwrap_or o Idle) (gone numbers ps w)
phase_same ps w (Held n) = inserted_same ps w (Held n)
phase_same ps w (Looked n reads) = inserted_same ps w (Looked n reads)
phase_same ps w (Sending n id ops k) = inserted_same ps w (Sending n id ops k)
phase_same ps w (Leaving n queue due copy) = inserted_same ps w (Leaving n queue due copy)
phase_same ps w (Done n) = inserted_same ps w (Done n)

pub phase_other : (ps : ByNumber Phase) (w : ℕ) (p : Phase) (v : ℕ) → v ≢ w → phase_in (put_phase ps w p) v ≡ phase_in ps v
unfolding put_phase
phase_other ps w Idle v ne = ap (λ o. unwrap_or o Idle) (kept numbers ps w v ne)
phase_other ps w (Held n) v ne = inserted_other ps w (Held n) v ne
phase_other ps w (Looked n reads) v ne = inserted_other ps w (Looked n reads) v ne
phase_other ps w (Sending n id ops k) v ne = inserted_other ps w (Sending n id ops k) v ne
phase_other ps w (Leaving n queue due copy) v ne = inserted_other ps w (Leaving n queue due copy) v ne
phase_other ps w (Done n) v ne = inserted_other ps w (Done n) v ne

pub phase_empty : (w : ℕ) → phase_in map.empty w ≡ Idle
phase_empty w = ap (λ o. unwrap_or o Idle) (map.get-empty _ w)

-- what holds of each worker's phase, after a change of one
pub each_phase : (P : ℕ → Phase → Type 0) (ps : ByNumber Phase) (w : ℕ) (p : Phase)
    → ((v : ℕ) → v ≢ w → P v (phase_in ps v)) → P w p → (v : ℕ) → P v (phase_in (put_phase ps w p) v)
each_phase P ps w p others mine v =
    ⊎_elim
    (λ (same : v ≡ w). subst (λ z. P z (phase_in (put_phase ps w p) z)) (sym same) (subst (P w) (sym (phase_same ps w p)) mine))
    (λ (ne : v ≢ w). subst (P v) (sym (phase_other ps w p v ne)) (others v ne))
    (same_or_other numbers v w)

abbrev pub named : ByNumber Phase → ℕ → Option ℕ
named ps w = number_of (phase_in ps w)

pub record IsBelow (es : ByNumber Queued) (next : ℕ) : Type 0 where
  pub below : (n : ℕ) (e : Queued) → map.get es n ≡ Some e → n < next

some_same : {A : Type 0} {x y : A} → Some x ≡ Some y → x ≡ y
some_same e = cc

none_some : {A : Type 0} {x : A} → None ≡ Some x → ⊥
none_some e = cc

module _ (settings : Settings) where
  -- one worker's phase changes: to one that names no entry, or a ready one that no other worker names
  pub change : (ps : ByNumber Phase) (es : ByNumber Queued) (w : ℕ) (p : Phase) → Holding settings ps es
      → ((n : ℕ) → number_of p ≡ Some n → Stands settings es n × ((v : ℕ) → v ≢ w → named ps v ≢ Some n))
      → Holding settings (put_phase ps w p) es
  change ps es w p h new = record {
    stands = each_phase (λ v q. (n : ℕ) → number_of q ≡ Some n → Stands settings es n) ps w p (λ v _ n e. h.stands v n e) (λ n e. (new n e).0);
    apart = each_phase (λ v q. (u n : ℕ) → number_of q ≡ Some n → named (put_phase ps w p) u ≡ Some n → v ≡ u) ps w p
        (λ v ne u n e f. each_phase (λ y q. number_of q ≡ Some n → v ≡ y) ps w p (λ y _ g. h.apart v y n e g) (λ g. absurd ((new n g).1 v ne e)) u f)
        (λ u n e f. each_phase (λ y q. number_of q ≡ Some n → w ≡ y) ps w p (λ y ne g. absurd ((new n e).1 y ne g)) (λ g. refl) u f);
  }

  -- to one that names the same entry, or none
  pub same_entry : (ps : ByNumber Phase) (es : ByNumber Queued) (w n : ℕ) (p : Phase) → Holding settings ps es → named ps w ≡ Some n
      → (number_of p ≡ Some n) ⊎ (number_of p ≡ None) → Holding settings (put_phase ps w p) es
  same_entry ps es w n p h is how = change ps es w p h (λ m e.
      let at_n : m ≡ n = ⊎_elim (λ (a : number_of p ≡ Some n). some_same (sym e ∙ a)) (λ (b : number_of p ≡ None). absurd (none_some (sym b ∙ e))) how in
      (subst (Stands settings es) (sym at_n) (h.stands w n is), λ v ne named_so. ne (h.apart v w n (named_so ∙ ap Some at_n) is)))

  -- the entries change, and each that is held stays
  pub entries : (ps : ByNumber Phase) (es es' : ByNumber Queued) → Holding settings ps es
      → ((w n : ℕ) → named ps w ≡ Some n → map.get es' n ≡ map.get es n) → Holding settings ps es'
  entries ps es es' h stay = record {
    stands = λ w n e. let s = h.stands w n e in record { it = s.it; there = stay w n e ∙ s.there; ready = s.ready };
    apart = h.apart;
  }

  pub new_entry : (ps : ByNumber Phase) (es : ByNumber Queued) (next : ℕ) (e : Queued) → IsBelow es next → Holding settings ps es
      → Holding settings ps (map.insert es next e)
  new_entry ps es next e b h = entries ps es (map.insert es next e) h (λ w n is.
      let s = h.stands w n is in
      let lt : n < next = b.below n s.it s.there in
      let ne : n ≢ next = omega arith in
      at_other numbers es next e n ne)

  pub nobody : (ps : ByNumber Phase) (es : ByNumber Queued) → ((w : ℕ) → phase_in ps w ≡ Idle) → Holding settings ps es
  nobody ps es idle = record {
    stands = λ w n e. absurd (none_some (sym (ap number_of (idle w)) ∙ e));
    apart = λ v w n e f. absurd (none_some (sym (ap number_of (idle v)) ∙ e));
  }

-- an entry is put: each that is held stays
pub held_put : {settings : Settings} (es : ByNumber Queued) (end : ℕ) (e : Queued) (ps : ByNumber Phase) → IsBelow es end → Holding settings ps es
    → (w n : ℕ) → named ps w ≡ Some n → map.get (map.insert es end e) n ≡ map.get es n
held_put es end e ps b h w n is =
    let s = h.stands w n is in
    let lt : n < end = b.below n s.it s.there in
    let ne : n ≢ end = omega arith in
    at_other numbers es end e n ne

-- the phases after a failure, and by a record
pub number_by : (b : Bool) (n : ℕ) (id : List ℕ) (ops : List Op) → number_of (phase_by b n id ops) ≡ Some n
number_by true n id ops = refl
number_by false n id ops = refl

pub number_after : (settings : Settings) (moment n : ℕ) (m : Message) (fail : Fail) (v : Move)
    → (number_of (phase_after settings moment n m fail v) ≡ Some n) ⊎ (number_of (phase_after settings moment n m fail v) ≡ None)
number_after settings moment n m fail move.Again = inr refl
number_after settings moment n m fail (move.Later round delay) = inl refl
number_after settings moment n m fail move.Error = inl refl
number_after settings moment n m fail move.Discard = inl refl

abbrev pub HoldingAt : Constants → State → Type 0
HoldingAt c s = Holding c.settings s.phases s.post.entries

abbrev pub BelowAt : State → Type 0
BelowAt s = IsBelow s.post.entries s.post.next

-- the record of the entries: each is below the next number
put_below : (es : ByNumber Queued) (next : ℕ) (e : Queued) → IsBelow es next → IsBelow (map.insert es next e) (next + 1)
put_below es next e b = record {
  below = λ n f is.
      ⊎_elim
      (λ (same : n ≡ next). omega arith)
      (λ (ne : n ≢ next). let lt : n < next = b.below n f (sym (at_other numbers es next e n ne) ∙ is) in omega arith)
      (same_or_other numbers n next);
}

remove_below : (es : ByNumber Queued) (next k : ℕ) → IsBelow es next → IsBelow (map.remove es k) next
remove_below es next k b = record {
  below = λ n f is.
      ⊎_elim
      (λ (same : n ≡ k). absurd (none_some (sym (gone numbers es k) ∙ ap (map.get (map.remove es k)) (sym same) ∙ is)))
      (λ (ne : n ≢ k). b.below n f (sym (kept numbers es k n ne) ∙ is))
      (same_or_other numbers n k);
}

change_below : (es : ByNumber Queued) (next k : ℕ) (e e' : Queued) → map.get es k ≡ Some e → IsBelow es next → IsBelow (map.insert es k e') next
change_below es next k e e' there b = record {
  below = λ n f is.
      ⊎_elim
      (λ (same : n ≡ k). b.below n e (ap (map.get es) same ∙ there))
      (λ (ne : n ≢ k). b.below n f (sym (at_other numbers es k e' n ne) ∙ is))
      (same_or_other numbers n k);
}

pub below_kept : {c : Constants} {s s' : State} {e : Event} → Step c s e s' → BelowAt s → BelowAt s'
below_kept (load named room) b = put_below _ _ _ b
below_kept (take i l) b = b
below_kept (look_known h e r) b = b
below_kept (look_new h e r) b = b
below_kept (settle_twin h e r) b = b
below_kept (settle_fault h e r v) b = b
below_kept (settle_conflict h e r v d) b = b
below_kept (settle_commit h e r v f l) b = b
below_kept (send h o room) b = put_below _ _ _ b
below_kept (mark h k r) b = b
below_kept (aside h room) b = put_below _ _ _ b
below_kept (remove h) b = remove_below _ _ _ b
below_kept (tick i l) b = b
below_kept (release i e d l) b = change_below _ _ _ _ _ e b
below_kept (purge i r t l) b = b
below_kept (put_back i e q d f room) b = put_below _ _ _ b
below_kept (drop_back i n) b = remove_below _ _ _ b
below_kept stop b = b
below_kept halt b = b

holds_none : {p : Phase} → p ≡ Idle → number_of p ≡ None
holds_none e = ap number_of e

pub holding_kept : {c : Constants} {s s' : State} {e : Event} → Step c s e s' → BelowAt s → HoldingAt c s → HoldingAt c s'
holding_kept {c = c} {s = s} (load named room) b h = new_entry c.settings s.phases s.post.entries s.post.next _ b h
holding_kept {c = c} {s = s} (take {w = w} {n = n} i l) b h =
    change c.settings s.phases s.post.entries w (Held n) h (λ m e.
    let at_m : n ≡ m = some_same e in (
      subst (Stands c.settings s.post.entries) at_m (record { it = l.free.it; there = l.free.there; ready = l.free.ready }),
      λ v ne f. l.free.unnamed v (f ∙ ap Some (sym at_m)),
    ))
holding_kept {c = c} {s = s} (look_known {w = w} {n = n} {r = r} h e k) b i = same_entry c.settings s.phases s.post.entries w n _ i (ap number_of h) (inl (number_by r.sent n _ r.ops))
holding_kept {c = c} {s = s} (look_new {w = w} {n = n} h e k) b i = same_entry c.settings s.phases s.post.entries w n _ i (ap number_of h) (inl refl)
holding_kept {c = c} {s = s} (settle_twin {w = w} {n = n} {r = r} h e k) b i = same_entry c.settings s.phases s.post.entries w n _ i (ap number_of h) (inl (number_by r.sent n _ r.ops))
holding_kept {c = c} {s = s} (settle_fault {w = w} {n = n} h e k v) b i = same_entry c.settings s.phases s.post.entries w n _ i (ap number_of h) (number_after c.settings s.moment n _ _ _)
holding_kept {c = c} {s = s} (settle_conflict {w = w} {n = n} h e k v d) b i = same_entry c.settings s.phases s.post.entries w n _ i (ap number_of h) (number_after c.settings s.moment n _ _ _)
holding_kept {c = c} {s = s} (settle_commit {w = w} {n = n} h e k v f l) b i = same_entry c.settings s.phases s.post.entries w n _ i (ap number_of h) (inl refl)
holding_kept {c = c} {s = s} (send {w = w} {n = n} h o room) b i =
    same_entry c.settings s.phases _ w n _ (new_entry c.settings s.phases s.post.entries s.post.next _ b i) (ap number_of h) (inl refl)
holding_kept {c = c} {s = s} (mark {w = w} {n = n} h k r) b i = same_entry c.settings s.phases s.post.entries w n _ i (ap number_of h) (inl refl)
holding_kept {c = c} {s = s} (aside {w = w} {n = n} h room) b i =
    same_entry c.settings s.phases _ w n _ (new_entry c.settings s.phases s.post.entries s.post.next _ b i) (ap number_of h) (inl refl)
holding_kept {c = c} {s = s} (remove {w = w} {n = n} h) b i =
    entries c.settings _ s.post.entries _ (same_entry c.settings s.phases s.post.entries w n Idle i (ap number_of h) (inr refl))
    (λ v m is. kept numbers s.post.entries n m (λ same. other v (is ∙ ap Some same)))
  where
    -- nobody names n any more
    other : (v : ℕ) → named (put_phase s.phases w Idle) v ≡ Some n → ⊥
    other v = each_phase (λ u q. number_of q ≡ Some n → ⊥) s.phases w Idle (λ u ne f. ne (i.apart u w n f (ap number_of h))) (λ f. none_some f) v
holding_kept (tick i l) b h = h
holding_kept {c = c} {s = s} (release i e d l) b h = nobody c.settings s.phases _ i
holding_kept (purge i r t l) b h = h
holding_kept {c = c} {s = s} (put_back i e q d f room) b h = nobody c.settings s.phases _ i
holding_kept {c = c} {s = s} (drop_back i n) b h = nobody c.settings s.phases _ i
holding_kept {c = c} stop b h = nobody c.settings map.empty _ phase_empty
holding_kept halt b h = h
