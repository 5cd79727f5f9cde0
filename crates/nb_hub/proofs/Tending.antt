-- What the state of a kept history tells of its entries and records, where calls rest on them.
use Rattle.std.proofs.Common.{◌≡◌, ◌≢◌, ℕ, ◌≤◌, ◌^◌, List, [], true, Option, Some, sym, ap, ◌∙◌, subst, arith}
use Rattle.std.specs.Option.{option_map_or}
use Rattle.std.specs.Prelude.{IsSome, is_some}
use Rattle.std.specs.FinMap as map
use Rattle.nb_base.specs.Orders.{ByNumber}
use Rattle.nb_base.specs.declared.entry.OutboxRow.{OutboxRow}
use Rattle.nb_base.specs.declared.tables.PostState.{PostState}
use Rattle.nb_base.specs.declared.tables.Queued.{Queued}
use Rattle.nb_core.specs.Calls.{Ready}
use Rattle.nb_core.specs.Standing.{HasRoom, entry, recorded}
use Rattle.nb_core.specs.declared.call.Call.TheVariants as call
use Rattle.nb_core.specs.declared.phase.Phase.{Phase}
use Rattle.nb_core.specs.declared.state.State.{State}
use Rattle.nb_headers.specs.Reads.{failed_queue}
use Rattle.nb_hub.proofs.Holding.{held_undelayed}
use Rattle.nb_hub.proofs.Indexing.{can_release}
use Rattle.nb_hub.specs.Indexed.{IsIndexed, undelayed, queue_at}
use Rattle.nb_hub.specs.Kept.{IsNamed, AreHeld, seen}
use Rattle.nb_hub.specs.Ledgers.{Past, Standing, state_at}
use Rattle.nb_ready.specs.Seats.{Seats}

some_same : {A : Type 0} {x y : A} → Some x ≡ Some y → x ≡ y
some_same e = cc

-- the queue of an entry that is there
pub queue_there : (p : PostState) (n : ℕ) (e : Queued) → map.get p.entries n ≡ Some e → queue_at p n ≡ e.queue
queue_there p n e there = ap (λ (o : Option Queued). option_map_or (λ (x : Queued). x.queue) o []) there

-- who is held, once the due of an entry is taken away
pub held_released : (ps : ByNumber Phase) (own : List ℕ) (post : PostState) (seats : Seats) (n : ℕ) (e : Queued) → IsIndexed own post.entries seats → map.get post.entries n ≡ Some e → is_some e.due ≡ true → AreHeld ps seats
    → AreHeld ps (undelayed own seats n (queue_at post n))
held_released ps own post seats n e has there delayed held =
    subst (λ q. AreHeld ps (undelayed own seats n q)) (sym (queue_there post n e there)) (held_undelayed ps own seats n e.queue (can_release own post.entries seats n e has there delayed) held)

-- of a state that is kept
module _ (p : Past) (s : State) (state : s ≡ state_at p) where
  -- the entry that is released is there and has a due
  pub delayed_there : (n : ℕ) → Ready (call.Release n) (seen p) → (e : Queued) × (entry s n ≡ Some e) × (is_some e.due ≡ true)
  delayed_there n r = subst (λ (x : State). (e : Queued) × (entry x n ≡ Some e) × (is_some e.due ≡ true)) (sym state) (r.1.0, r.1.2, ap is_some r.1.3)

  -- the record that is purged is there and is sent
  pub sent_there : (id : List ℕ) → Ready (call.Purge id) (seen p) → (row : OutboxRow) × (recorded s id ≡ Some row) × (row.sent ≡ true)
  sent_there id r = subst (λ (x : State). (row : OutboxRow) × (recorded x id ≡ Some row) × (row.sent ≡ true)) (sym state) (r.1.0, r.1.1, r.1.2)

  -- the entry that is put back names a queue
  pub queue_named : (n : ℕ) (e : Queued) → entry s n ≡ Some e → Ready (call.PutBack n) (seen p) → failed_queue e.envelope ≢ []
  queue_named n e there r =
      let same : r.1.0 ≡ e = some_same (sym r.1.1 ∙ ap (λ (y : State). entry y n) (sym state) ∙ there) in
      subst (λ (y : Queued). failed_queue y.envelope ≢ []) same r.1.4

  module _ (standing : Standing p) where
    -- there is a number for one more entry, unless all are spent
    pub has_room : s.post.next ≢ 2 ^ 62 → HasRoom (state_at p)
    has_room unspent =
        let to = standing.facts.post.to in
        let same : s.post.next ≡ (state_at p).post.next = ap (λ (x : State). x.post.next) state in
        omega (arith, unspent)

    -- and none is left where they are
    pub all_spent : s.post.next ≡ 2 ^ 62 → 2 ^ 62 ≤ (state_at p).post.next
    all_spent spent = let same : s.post.next ≡ (state_at p).post.next = ap (λ (x : State). x.post.next) state in omega arith

    -- no phase names the next number
    pub next_unnamed : IsNamed s.phases s.post.next → ⊥
    next_unnamed named =
        let x : IsNamed (state_at p).phases (state_at p).post.next = subst (λ (y : State). IsNamed y.phases y.post.next) state named in
        let it = standing.facts.holding.stands x.0 (state_at p).post.next x.1 in
        let below = (standing.facts.post.entries (state_at p).post.next it.it it.there).below in
        omega arith

    -- the entry that was put back, and is dropped, is there
    pub back_there : (n : ℕ) → Ready (call.DropBack n) (seen p) → IsSome (entry s n)
    back_there n r = let x = standing.facts.back n r.1 in ap is_some (ap (λ (y : State). entry y n) state ∙ x.1)
