-- Where a worker's events are possible, and where not.
use Rattle.std.proofs.Common.{◌≡◌, ◌≢◌, ◌+◌, ◌≤◌, ℕ, Bool, true, false, cond, Some, None, Option, refl, sym, ap, ◌∙◌, subst, arith, List, [], length, Ordering}
use Rattle.std.specs.Prelude.{slice_get}
use Rattle.std.specs.Option.{unwrap_or}
use Rattle.std.specs.Ordering.{eq_by_cmp}
use Rattle.std.specs.FinMap as map
use Rattle.std.specs.FinMap.{FinMap, get-insert, get-remove, same_map}
use Rattle.nb_base.proofs.Maps.{IsExact, numbers, names}
use Rattle.nb_base.specs.Messages.{Message}
use Rattle.nb_base.specs.Orders.{ByNumber}
use Rattle.nb_base.specs.Sound.{limit}
use Rattle.nb_base.specs.declared.entry.Op.{Op}
use Rattle.nb_base.specs.declared.entry.OutboxRow.{OutboxRow}
use Rattle.nb_core.proofs.Frees.{is_least_free, nothing_free}
use Rattle.nb_core.specs.After.{least_free}
use Rattle.nb_core.specs.Tried.{IsImpossible, without}
use Rattle.nb_core.specs.State.{State, Constants, Phase, Idle, Held, Looked, Sending, Leaving, Done, phase, recorded, HasRoom, IsLeastFree, put_phase, at_phase, put, removed, recording}
use Rattle.nb_core.specs.Step.{Step, Take, Send, Mark, Aside, Remove, take, send, mark, aside, remove}

-- ---- a value is taken out and another is put in its place

module _ {K V : Type 0} {R : K → K → Ordering} (x : IsExact R) where
  pub insert_again : (m : FinMap R V) (k : K) (v : V) → map.insert (map.remove m k) k v ≡ map.insert m k v
  insert_again m k v = same_map x.total x.same _ _ (λ q.
      get-insert x.total (map.remove m k) k v q ∙ ap (cond (eq_by_cmp R q k) (Some v)) (get-remove x.total m k q) ∙ chosen (eq_by_cmp R q k) (map.get m q) ∙ sym (get-insert x.total m k v q))
    where
      chosen : (b : Bool) (o : Option V) → cond b (Some v) (cond b None o) ≡ cond b (Some v) o
      chosen true o = refl
      chosen false o = refl

  pub remove_again : (m : FinMap R V) (k : K) → map.remove (map.remove m k) k ≡ map.remove m k
  remove_again m k = same_map x.total x.same _ _ (λ q.
      get-remove x.total (map.remove m k) k q ∙ ap (cond (eq_by_cmp R q k) None) (get-remove x.total m k q) ∙ chosen (eq_by_cmp R q k) (map.get m q) ∙ sym (get-remove x.total m k q))
    where
      chosen : (b : Bool) (o : Option V) → cond b None (cond b None o) ≡ cond b None o
      chosen true o = refl
      chosen false o = refl

pub put_again : (ps : ByNumber Phase) (w : ℕ) (p : Phase) → put_phase (map.remove ps w) w p ≡ put_phase ps w p
unfolding put_phase
put_again ps w Idle = remove_again numbers ps w
put_again ps w (Held n) = insert_again numbers ps w (Held n)
put_again ps w (Looked n reads) = insert_again numbers ps w (Looked n reads)
put_again ps w (Sending n id ops k) = insert_again numbers ps w (Sending n id ops k)
put_again ps w (Leaving n queue due copy) = insert_again numbers ps w (Leaving n queue due copy)
put_again ps w (Done n) = insert_again numbers ps w (Done n)

-- ---- what each event needs

take_needs : {c : Constants} {s : State} {w : ℕ} {t : State} → Step c s (Take w) t → (phase s w ≡ Idle) × ((n : ℕ) × IsLeastFree c s n)
take_needs (take {n = n} idle least) = (idle, (n, least))

-- the phase of a worker that sends, and of one that leaves
pub record SendsAt (s : State) (w : ℕ) : Type 0 where
  pub number : ℕ
  pub id : List ℕ
  pub ops : List Op
  pub k : ℕ
  pub is : phase s w ≡ Sending number id ops k

send_needs : {c : Constants} {s : State} {w : ℕ} {t : State} → Step c s (Send w) t → (p : SendsAt s w) × (op : Op) × (slice_get p.ops p.k ≡ Some op) × HasRoom s
send_needs (send {n = n} {k = k} {id = id} {ops = ops} {op = op} is at room) = (record { number = n; id = id; ops = ops; k = k; is = is }, op, at, room)

mark_needs : {c : Constants} {s : State} {w : ℕ} {t : State} → Step c s (Mark w) t → (p : SendsAt s w) × (p.k ≡ length p.ops) × ((r : OutboxRow) × (recorded s p.id ≡ Some r))
mark_needs (mark {n = n} {k = k} {id = id} {ops = ops} {r = r} is all there) = (record { number = n; id = id; ops = ops; k = k; is = is }, all, (r, there))

aside_needs : {c : Constants} {s : State} {w : ℕ} {t : State} → Step c s (Aside w) t → ((n : ℕ) × (queue : List ℕ) × (due : Option ℕ) × (copy : Message) × (phase s w ≡ Leaving n queue due copy)) × HasRoom s
aside_needs (aside {n = n} {queue = queue} {due = due} {copy = copy} is room) = ((n, queue, due, copy, is), room)

remove_needs : {c : Constants} {s : State} {w : ℕ} {t : State} → Step c s (Remove w) t → (n : ℕ) × (phase s w ≡ Done n)
remove_needs (remove {n = n} is) = (n, is)

-- ---- Take

pub take_made : (c : Constants) (s : State) (w n : ℕ) (t : State) → phase s w ≡ Idle → least_free c s ≡ Some n → t ≡ at_phase s w (Held n) → Step c s (Take w) t
take_made c s w n t idle least is = subst (Step c s (Take w)) (sym is) (take idle (is_least_free c s n least))

pub take_busy : (c : Constants) (s : State) (w : ℕ) → (phase s w ≡ Idle → ⊥) → IsImpossible c s (Take w)
take_busy c s w busy t step = busy (take_needs step).0

pub take_not : (c : Constants) (s : State) (w : ℕ) → least_free c s ≡ None → IsImpossible c s (Take w)
take_not c s w none t step = let l = (take_needs step).1 in nothing_free c s none l.0 l.1.free

-- ---- what a worker is at, and what was taken out

pub at : (s : State) (w : ℕ) (p : Phase) (o : Option Phase) → o ≡ map.get s.phases w → o ≡ Some p → phase s w ≡ p
at s w p o got is = ap (λ (x : Option Phase). unwrap_or x Idle) (sym got ∙ is)

-- another phase than these was taken out
pub not_at : (s : State) (w : ℕ) (p : Phase) (o : Option Phase) → o ≡ map.get s.phases w → p ≢ Idle → (o ≡ Some p → ⊥) → phase s w ≡ p → ⊥
not_at s w p None got some never is = some (sym is ∙ ap (λ (x : Option Phase). unwrap_or x Idle) (sym got))
not_at s w p (Some q) got some never is = never (ap Some (ap (λ (x : Option Phase). unwrap_or x Idle) got ∙ is))

-- ---- Send

pub send_made : (c : Constants) (s : State) (w n k : ℕ) (id : List ℕ) (ops : List Op) (op x : Op) (mid t : State) → phase s w ≡ Sending n id ops k → slice_get ops k ≡ Some op → HasRoom s
    → x ≡ op → mid ≡ put (without s w) x.queue x.due x.envelope → t ≡ at_phase mid w (Sending n id ops (k + 1)) → Step c s (Send w) t
send_made c s w n k id ops op x mid t is at room same mid_is t_is =
    let p = Sending n id ops (k + 1) in
    subst (Step c s (Send w))
    (sym (t_is ∙ ap (λ m. at_phase m w p) (mid_is ∙ ap (λ (y : Op). put (without s w) y.queue y.due y.envelope) same)
    ∙ ap (λ ps. record (put s op.queue op.due op.envelope) { phases = ps }) (put_again s.phases w p)))
    (send is at room)

pub send_full : (c : Constants) (s : State) (w : ℕ) → limit ≤ s.post.next → IsImpossible c s (Send w)
send_full c s w full t step = let room = (send_needs step).3 in absurd (omega arith)

pub send_not : (c : Constants) (s : State) (w : ℕ) → ((n : ℕ) (id : List ℕ) (ops : List Op) (k : ℕ) → phase s w ≡ Sending n id ops k → ⊥) → IsImpossible c s (Send w)
send_not c s w never t step = let p = (send_needs step).0 in never p.number p.id p.ops p.k p.is

-- ---- Mark

pub mark_made : (c : Constants) (s : State) (w n k : ℕ) (id : List ℕ) (ops : List Op) (r : OutboxRow) (mid t : State) → phase s w ≡ Sending n id ops k → k ≡ length ops → recorded s id ≡ Some r
    → mid ≡ recording (record (without s w) { tables = record s.tables { outbox = map.remove s.tables.outbox id } }) id (record r { sent = true; ops = [] })
    → t ≡ at_phase mid w (Done n) → Step c s (Mark w) t
mark_made c s w n k id ops r mid t is all there mid_is t_is =
    let new : OutboxRow = record r { sent = true; ops = [] } in
    subst (Step c s (Mark w))
    (sym (t_is ∙ ap (λ m. at_phase m w (Done n)) mid_is
    ∙ (λ i. record (recording s id new) { tables = record s.tables { outbox = insert_again names s.tables.outbox id new i }; phases = put_again s.phases w (Done n) i })))
    (mark is all there)

pub mark_not : (c : Constants) (s : State) (w : ℕ) → ((n : ℕ) (id : List ℕ) (ops : List Op) (k : ℕ) → phase s w ≡ Sending n id ops k → ⊥) → IsImpossible c s (Mark w)
mark_not c s w never t step = let p = (mark_needs step).0 in never p.number p.id p.ops p.k p.is

-- ---- Aside

pub aside_made : (c : Constants) (s : State) (w n : ℕ) (queue : List ℕ) (due : Option ℕ) (copy : Message) (mid t : State) → phase s w ≡ Leaving n queue due copy → HasRoom s
    → mid ≡ put (without s w) queue due copy → t ≡ at_phase mid w (Done n) → Step c s (Aside w) t
aside_made c s w n queue due copy mid t is room mid_is t_is =
    subst (Step c s (Aside w))
    (sym (t_is ∙ ap (λ m. at_phase m w (Done n)) mid_is ∙ ap (λ ps. record (put s queue due copy) { phases = ps }) (put_again s.phases w (Done n))))
    (aside is room)

pub aside_full : (c : Constants) (s : State) (w : ℕ) → limit ≤ s.post.next → IsImpossible c s (Aside w)
aside_full c s w full t step = let room = (aside_needs step).1 in absurd (omega arith)

pub aside_not : (c : Constants) (s : State) (w : ℕ) → ((n : ℕ) (queue : List ℕ) (due : Option ℕ) (copy : Message) → phase s w ≡ Leaving n queue due copy → ⊥) → IsImpossible c s (Aside w)
aside_not c s w never t step = let p = (aside_needs step).0 in never p.0 p.1 p.2 p.3 p.4

-- ---- Remove

pub remove_made : (c : Constants) (s : State) (w n : ℕ) (mid t : State) → phase s w ≡ Done n → mid ≡ removed (without s w) n → t ≡ at_phase mid w Idle → Step c s (Remove w) t
remove_made c s w n mid t is mid_is t_is =
    subst (Step c s (Remove w))
    (sym (t_is ∙ ap (λ m. at_phase m w Idle) mid_is ∙ ap (λ ps. record (removed s n) { phases = ps }) (put_again s.phases w Idle)))
    (remove is)

pub remove_not : (c : Constants) (s : State) (w : ℕ) → ((n : ℕ) → phase s w ≡ Done n → ⊥) → IsImpossible c s (Remove w)
remove_not c s w never t step = let x = remove_needs step in never x.0 x.1
