-- The events of a worker with its entry, but for Look and Settle, where their calls may be made.
use Rattle.std.proofs.Common.{◌≡◌, ◌≢◌, ℕ, ◌+◌, ◌-◌, ◌^◌, ◌<◌, ◌≤◌, List, [], length, Bool, true, false, true≢false, ◌↔◌, Option, Some, None, refl, sym, ap, ◌∙◌, subst, arith}
use Rattle.std.specs.Prelude.{slice_get, IsSome, IsTrue}
use Rattle.std.specs.FinMap as map
use Rattle.std.specs.Borrow.{Bor}
use Rattle.std.specs.Option.{unwrap_or, option_copied}
use Rattle.std.proofs.Math.Nat.{lt_of_not-le}
use Rattle.std.proofs.lemmas.Slice.Eq.{bytes_eq-Decides}
use Rattle.nb_base.specs.Messages.{Message}
use Rattle.nb_base.specs.Orders.{ByNumber}
use Rattle.nb_base.specs.declared.entry.Op.{Op}
use Rattle.nb_base.specs.declared.entry.OutboxRow.{OutboxRow}
use Rattle.nb_base.specs.declared.tables.Discard.{Discard}
use Rattle.nb_base.specs.declared.tables.PostState.{PostState}
use Rattle.nb_base.specs.declared.tables.Queued.{Queued}
use Rattle.nb_base.specs.declared.tables.Tables.{Tables}
use Rattle.nb_core.specs.Calls.{Ready, IsTaken, IsSending, IsLeaving, IsDone}
use Rattle.nb_core.specs.Changes.{put_phase, at_phase, put, removed, recording}
use Rattle.nb_core.specs.Facts.{CanPut, Stands}
use Rattle.nb_core.specs.Legal.{halted}
use Rattle.nb_core.specs.Past.{takes}
use Rattle.nb_core.specs.Standing.{number_of, phase_in, phase, entry, recorded, HasRoom, IsFree, IsLeastFree}
use Rattle.nb_core.specs.Step.{take, send, mark, aside, remove}
use Rattle.nb_core.specs.declared.call.Call.TheVariants as call
use Rattle.nb_core.specs.declared.event.Event.TheVariants.{Take, Send, Mark, Aside, Remove}
use Rattle.nb_core.specs.declared.phase.Phase.{Phase}
use Rattle.nb_core.specs.declared.phase.Phase.TheVariants.{Idle, Held, Looked, Sending, Leaving, Done}
use Rattle.nb_core.specs.declared.state.State.{State}
use Rattle.nb_hub.proofs.Free.{least_found, none_free}
use Rattle.nb_hub.proofs.Holding.{held_phase, held_noted, held_removed, held_taken}
use Rattle.nb_hub.proofs.Tending.{queue_there}
use Rattle.nb_hub.specs.Indexed.{IsIndexed, noted, dropped, queue_at}
use Rattle.nb_hub.specs.Kept.{Kept, IsNamed, AreHeld, held_state, seen}
use Rattle.nb_hub.specs.Ledgers.{Past, past, constants_at, state_at, Standing, Comes}
use Rattle.nb_hub.specs.declared.ledger.Course.{Course}
use Rattle.nb_outbox.proofs.ItemsLaws.{all_at}
use Rattle.nb_ready.specs.Seats.{Seats, HasA, is_free, changed_at}
use Rattle.nb_ready.specs.Seats as seat
use Rattle.nb_store.proofs.KeptLaws.{marked_again}
use Rattle.nb_store.specs.Calls.{marked}

some_is : {A : Type 0} {x y : A} → Some x ≡ Some y → x ≡ y
some_is e = cc

-- the phases as they are put
pub is_held : (ps : ByNumber Phase) (w n : ℕ) → map.insert ps w (Held n) ≡ put_phase ps w (Held n)
unfolding put_phase
is_held ps w n = refl

pub is_idle : (ps : ByNumber Phase) (w : ℕ) → map.remove ps w ≡ put_phase ps w Idle
unfolding put_phase
is_idle ps w = refl

-- a worker that isn't idle is there
pub there_is : (ps : ByNumber Phase) (w : ℕ) (p : Phase) (n : ℕ) → phase_in ps w ≡ p → number_of p ≡ Some n → IsSome (map.get ps w)
there_is ps w p n at names = go (map.get ps w) (ap number_of at ∙ names)
  where
    go : (o : Option Phase) → number_of (unwrap_or o Idle) ≡ Some n → IsSome o
    go None e = absurd cc
    go (Some q) e = refl

-- an entry that was looked up is there
pub copied_some : {A : Type 0} (o : Option (Bor A)) (x : A) → option_copied o ≡ Some x → IsSome o
copied_some None x e = absurd cc
copied_some (Some y) x e = refl

pub is_false : (b : Bool) → (b ≡ true → ⊥) → b ≡ false
is_false true h = absurd (h refl)
is_false false h = refl

-- ---- what is held after a change

pub held_with : (tables : Tables) (post post' : PostState) (moment : ℕ) (phases phases' : ByNumber Phase) (fails fails' : ByNumber ℕ) (back : ByNumber (Unit {0})) (discarded : List Discard) → post' ≡ post → phases' ≡ phases → fails' ≡ fails
    → held_state tables post' moment phases' fails' back discarded ≡ held_state tables post moment phases fails back discarded
held_with tables post post' moment phases phases' fails fails' back discarded e f g = λ i. held_state tables (e i) moment (f i) (g i) back discarded

pub held_marked : (tables tables' : Tables) (post : PostState) (moment : ℕ) (phases phases' : ByNumber Phase) (fails : ByNumber ℕ) (back : ByNumber (Unit {0})) (discarded : List Discard) → tables' ≡ tables → phases' ≡ phases
    → held_state tables' post moment phases' fails back discarded ≡ held_state tables post moment phases fails back discarded
held_marked tables tables' post moment phases phases' fails back discarded e f = λ i. held_state (e i) post moment (f i) fails back discarded

-- a worker goes on with its entry
pub held_on : (ps ps' : ByNumber Phase) (seats : Seats) (w : ℕ) (x : Phase) → number_of (phase_in ps w) ≡ number_of x → ps' ≡ put_phase ps w x → AreHeld ps seats → AreHeld ps' seats
held_on ps ps' seats w x same phases h = subst (λ (y : ByNumber Phase). AreHeld y seats) (sym phases) (held_phase ps seats w x same h)

-- and one is put
pub held_put : (ps ps' : ByNumber Phase) (own : List ℕ) (seats seats' : Seats) (w next : ℕ) (queue : List ℕ) (due : Option ℕ) (x : Phase) → number_of (phase_in ps w) ≡ number_of x → (IsNamed ps next → ⊥)
    → ps' ≡ put_phase ps w x → seats' ≡ noted own seats next queue due → AreHeld ps seats → AreHeld ps' seats'
held_put ps ps' own seats seats' w next queue due x same new phases index h =
    subst (λ (y : ByNumber Phase × Seats). AreHeld y.0 y.1) (λ i. (sym phases i, sym index i))
    (held_phase ps (noted own seats next queue due) w x same (held_noted ps own seats next queue due new h))

-- a worker lets its entry go, which is taken out
pub held_out : (ps ps' : ByNumber Phase) (own : List ℕ) (seats seats' : Seats) (w n : ℕ) (queue : List ℕ) (x : Phase) → phase_in ps w ≡ x → number_of x ≡ Some n → queue ≡ own
    → ps' ≡ put_phase ps w Idle → seats' ≡ dropped own seats n queue → AreHeld ps seats → AreHeld ps' seats'
held_out ps ps' own seats seats' w n queue x at names is_own phases index h =
    subst (λ (y : ByNumber Phase × Seats). AreHeld y.0 y.1) (λ i. (sym phases i, sym index i))
    (held_removed ps own seats w n queue (ap number_of at ∙ names) ((bytes_eq-Decides queue own).1 is_own) h)

-- an idle worker takes an entry
pub held_now : (ps ps' : ByNumber Phase) (seats seats' : Seats) (w n : ℕ) → phase_in ps w ≡ Idle → HasA is_free seats n
    → ps' ≡ put_phase ps w (Held n) → seats' ≡ changed_at seats n (λ s. record s { held = true }) → AreHeld ps seats → AreHeld ps' seats'
held_now ps ps' seats seats' w n idle free phases index h =
    subst (λ (y : ByNumber Phase × Seats). AreHeld y.0 y.1) (λ i. (sym phases i, sym index i)) (held_taken ps seats w n idle free h)

-- ---- the least free entry, by the index

module _ (p : Past) (s : State) (own : List ℕ) (seats : Seats) (base post : ℕ) (k : Kept p s own seats base post) (has : IsIndexed own s.post.entries seats) where
  pub least_is : (n : ℕ) → seat.IsLeastFree seats (Some n) → IsLeastFree (constants_at p) s n
  least_is n l = least_found (constants_at p) s own seats k.own_is has k.held n l

  pub none_is : seat.IsLeastFree seats None → (n : ℕ) → IsFree (constants_at p) (state_at p) n → ⊥
  none_is l n f = none_free (constants_at p) s own seats k.own_is has k.held l n (subst (λ (y : State). IsFree (constants_at p) y n) (sym k.state) f)

-- a Take is left, where the history isn't spent
pub has_turn : (d : Course) (b : Bool) → IsTrue b ↔ d.turns ≤ takes d.events → b ≡ false → takes d.events < d.turns
has_turn d b tells off = lt_of_not-le (λ spent. true≢false (sym (tells.1 spent) ∙ off))

-- the parts of a phase
parts_of : Phase → List ℕ × (List Op × ℕ)
parts_of Idle = ([], ([], 0))
parts_of (Held n) = ([], ([], 0))
parts_of (Looked n reads) = ([], ([], 0))
parts_of (Sending n id ops k) = (id, (ops, k))
parts_of (Leaving n queue due copy) = ([], ([], 0))
parts_of (Done n) = ([], ([], 0))

module _ (p : Past) (s : State) (is : s ≡ state_at p) (st : Standing p) where
  now_at : (w : ℕ) (x : Phase) → phase s w ≡ x → phase (state_at p) w ≡ x
  now_at w x at = subst (λ (y : State). phase y w ≡ x) is at

  -- ---- what a worker is at

  pub then_at : (w : ℕ) (x : Phase) → phase (state_at p) w ≡ x → phase s w ≡ x
  then_at w x at = subst (λ (y : State). phase y w ≡ x) (sym is) at

  pub left_of : (w n k left : ℕ) (id : List ℕ) (ops : List Op) → phase s w ≡ Sending n id ops k → IsSending (state_at p) w left → left + k ≡ length ops
  unfolding parts_of
  left_of w n k left id ops at i =
      let same : parts_of (Sending i.number i.id i.ops i.k) ≡ parts_of (Sending n id ops k) = ap parts_of (sym i.sending ∙ now_at w (Sending n id ops k) at) in
      let k_is : i.k ≡ k = ap (λ (x : List ℕ × (List Op × ℕ)). x.1.1) same in
      let ops_is : length i.ops ≡ length ops = ap (λ (x : List ℕ × (List Op × ℕ)). length x.1.0) same in
      let sum = i.left_is in
      omega (arith, k_is, ops_is, sum)

  -- a worker that sends has a batch, and so many ops are left of it
  pub sends_at : (w left : ℕ) → IsSending (state_at p) w left → (n : ℕ) × (id : List ℕ) × (ops : List Op) × (k : ℕ) × (phase s w ≡ Sending n id ops k)
  sends_at w left i = (i.number, i.id, i.ops, i.k, then_at w (Sending i.number i.id i.ops i.k) i.sending)

  pub leaves_at : (w : ℕ) → IsLeaving (state_at p) w → (n : ℕ) × (queue : List ℕ) × (due : Option ℕ) × (copy : Message) × (phase s w ≡ Leaving n queue due copy)
  leaves_at w i = (i.0, i.1, i.2, i.3, then_at w (Leaving i.0 i.1 i.2 i.3) i.4)

  pub done_at : (w : ℕ) → IsDone (state_at p) w → (n : ℕ) × (phase s w ≡ Done n)
  done_at w i = (i.0, then_at w (Done i.0) i.1)

  pub left_at : (w n k left len : ℕ) (id : List ℕ) (ops : List Op) → phase s w ≡ Sending n id ops k → len ≡ length ops → IsSending (state_at p) w left → IsSending (state_at p) w (len - k)
  left_at w n k left len id ops at len_is i = record {
    number = n;
    id = id;
    ops = ops;
    k = k;
    sending = now_at w (Sending n id ops k) at;
    left_is = let all = left_of w n k left id ops at i in omega (arith, all, len_is);
  }

  -- the entry that a phase names stands in the own queue
  pub stands : (w n : ℕ) (x : Phase) → phase s w ≡ x → number_of x ≡ Some n → Stands p.fixed.settings s.post.entries n
  stands w n x at names =
      subst (λ (y : State). Stands p.fixed.settings y.post.entries n) (sym is) (st.facts.holding.stands w n (ap number_of (now_at w x at) ∙ names))

  -- in that queue, by the name that is kept
  pub own_queue : (w n : ℕ) (x : Phase) (own : List ℕ) → own ≡ p.fixed.settings.endpoint → phase s w ≡ x → number_of x ≡ Some n → queue_at s.post n ≡ own
  own_queue w n x own own_is at names =
      let e = stands w n x at names in
      queue_there s.post n e.it e.there ∙ e.ready.0 ∙ sym own_is

  -- there is room for one more entry, where the numbers aren't spent
  pub next_low : s.post.next ≤ 2 ^ 62
  next_low = subst (λ (y : State). y.post.next ≤ 2 ^ 62) (sym is) st.facts.post.to

  pub has_room : s.post.next ≢ 2 ^ 62 → HasRoom s
  has_room other = let low = next_low in omega (arith, low, other)

  -- what is put can be put
  pub op_can : (w n k : ℕ) (id : List ℕ) (ops : List Op) (op : Op) → phase s w ≡ Sending n id ops k → slice_get ops k ≡ Some op → CanPut op
  op_can w n k id ops op at there = all_at CanPut ops k op (st.facts.sending w n id ops k (now_at w (Sending n id ops k) at)).ops_can there

  pub copy_can : (w n : ℕ) (queue : List ℕ) (due : Option ℕ) (copy : Message) → phase s w ≡ Leaving n queue due copy → queue ≢ []
  copy_can w n queue due copy at = (st.facts.leaving w n queue due copy (now_at w (Leaving n queue due copy) at)).0

  -- the record of a batch
  pub row_of : (w n k : ℕ) (id : List ℕ) (ops : List Op) → phase s w ≡ Sending n id ops k → (r : OutboxRow) × (recorded s id ≡ Some r)
  row_of w n k id ops at =
      let x = st.facts.sending w n id ops k (now_at w (Sending n id ops k) at) in
      (x.row, subst (λ (y : State). recorded y id ≡ Some x.row) (sym is) x.known)

  -- a sent record is marked already
  pub marked_is : (id : List ℕ) (r : OutboxRow) → recorded s id ≡ Some r → r.sent ≡ true → marked s.tables id r ≡ s.tables
  marked_is id r there sent = marked_again s.tables id r (subst (λ (y : State). Rattle.nb_base.specs.Sound.IsSoundTables y.tables) (sym is) st.facts.tables) there sent

  -- ---- the events

  pub take_comes : (w n : ℕ) → halted p.events ≡ false → Ready (call.Take w) (seen p) → takes p.events < p.fixed.turns → IsLeastFree (constants_at p) s n
      → Comes (past p.fixed p.events true) (Take w) (at_phase s w (Held n))
  take_comes w n on r turn least =
      let now = subst (λ (y : State). IsLeastFree (constants_at p) y n) is least in
      subst (λ (y : State). Comes (past p.fixed p.events true) (Take w) (at_phase y w (Held n))) (sym is)
      (record { room = refl; on = on; worker = r.0.0; turn = turn; step = take r.1 now })

  -- and its message is handed out
  pub taken_is : (n : ℕ) (e : Queued) (m : Message) → IsLeastFree (constants_at p) s n → entry s n ≡ Some e → m ≡ e.envelope → IsTaken (constants_at p) (state_at p) m
  taken_is n e m least there same =
      subst (λ (y : State). IsTaken (constants_at p) y m) is
      (record { number = n; least = least; message_is = ap (λ (x : Queued). x.envelope) (some_is (sym least.free.there ∙ there)) ∙ sym same })

  pub send_comes : (w n k : ℕ) (id : List ℕ) (ops : List Op) (op : Op) → halted p.events ≡ false → Ready (call.Send w) (seen p) → phase s w ≡ Sending n id ops k → slice_get ops k ≡ Some op → HasRoom s
      → Comes (past p.fixed p.events true) (Send w) (at_phase (put s op.queue op.due op.envelope) w (Sending n id ops (k + 1)))
  send_comes w n k id ops op on r at there room =
      let now = subst HasRoom is room in
      subst (λ (y : State). Comes (past p.fixed p.events true) (Send w) (at_phase (put y op.queue op.due op.envelope) w (Sending n id ops (k + 1)))) (sym is)
      (record { room = refl; on = on; worker = r.0.0; turn = tt; step = send (now_at w (Sending n id ops k) at) there now })

  pub mark_comes : (w n k : ℕ) (id : List ℕ) (ops : List Op) (x : OutboxRow) → halted p.events ≡ false → Ready (call.Mark w) (seen p) → phase s w ≡ Sending n id ops k → recorded s id ≡ Some x
      → Comes (past p.fixed p.events true) (Mark w) (at_phase (recording s id (record x { sent = true; ops = [] })) w (Done n))
  mark_comes w n k id ops x on r at there =
      let all = left_of w n k 0 id ops at r.1 in
      let now = subst (λ (y : State). recorded y id ≡ Some x) is there in
      subst (λ (y : State). Comes (past p.fixed p.events true) (Mark w) (at_phase (recording y id (record x { sent = true; ops = [] })) w (Done n))) (sym is)
      (record { room = refl; on = on; worker = r.0.0; turn = tt; step = mark (now_at w (Sending n id ops k) at) (omega (arith, all)) now })

  pub aside_comes : (w n : ℕ) (queue : List ℕ) (due : Option ℕ) (copy : Message) → halted p.events ≡ false → Ready (call.Aside w) (seen p) → phase s w ≡ Leaving n queue due copy → HasRoom s
      → Comes (past p.fixed p.events true) (Aside w) (at_phase (put s queue due copy) w (Done n))
  aside_comes w n queue due copy on r at room =
      let now = subst HasRoom is room in
      subst (λ (y : State). Comes (past p.fixed p.events true) (Aside w) (at_phase (put y queue due copy) w (Done n))) (sym is)
      (record { room = refl; on = on; worker = r.0.0; turn = tt; step = aside (now_at w (Leaving n queue due copy) at) now })

  pub remove_comes : (w n : ℕ) → halted p.events ≡ false → Ready (call.Remove w) (seen p) → phase s w ≡ Done n → Comes (past p.fixed p.events true) (Remove w) (at_phase (removed s n) w Idle)
  remove_comes w n on r at =
      subst (λ (y : State). Comes (past p.fixed p.events true) (Remove w) (at_phase (removed y n) w Idle)) (sym is)
      (record { room = refl; on = on; worker = r.0.0; turn = tt; step = remove (now_at w (Done n) at) })
