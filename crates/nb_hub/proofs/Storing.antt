-- A call that one of the two stores served, or refused, where the event of the call may come.
use Rattle.std.proofs.Common.{◌≡◌, ◌↔◌, ℕ, ◌≤◌, ◌^◌, [], ◌∷◌, Bool, true, false, Some, None, Result, Ok, Err, refl, sym, ap, ◌∙◌, subst, arith}
use Rattle.nb_base.specs.Causes.{Rose}
use Rattle.nb_base.specs.Sound.{limit}
use Rattle.nb_base.specs.declared.entry.Which.TheVariants.{Base, Post}
use Rattle.nb_cells.specs.Cells.{CellMap}
use Rattle.nb_core.specs.Calls.{Gives, IsSpent, store_of}
use Rattle.nb_core.specs.Legal.{halted}
use Rattle.nb_core.specs.Past.{IsLegal, constants}
use Rattle.nb_core.specs.Standing.{HasRoom}
use Rattle.nb_core.specs.declared.answers.DeskFault.{DeskFault}
use Rattle.nb_core.specs.declared.call.Answer.{Answer}
use Rattle.nb_core.specs.declared.call.Call.{Call}
use Rattle.nb_core.specs.declared.event.Event.{Event}
use Rattle.nb_core.specs.declared.state.State.{State}
use Rattle.nb_hub.proofs.Refusals.{never_spent, never_spent_base, unspent_failed}
use Rattle.nb_hub.proofs.Serving.{served_event, served_post, served_base, stopped_post, stopped_base}
use Rattle.nb_hub.proofs.Stopped.{Says, PostStop, BaseStop}
use Rattle.nb_hub.specs.Kept.{failing}
use Rattle.nb_hub.specs.Ledgers.{Past, past, pushed, state_at, Comes}
use Rattle.nb_hub.specs.Served.{Served}
use Rattle.nb_hub.specs.Stores.{MayCome}
use Rattle.nb_queue.specs.Applied as queued
use Rattle.nb_queue.specs.declared.fault.PostFault.{PostFault}
use Rattle.nb_queue.specs.declared.fault.PostFault.TheVariants as post
use Rattle.nb_store.specs.Applied as tabled
use Rattle.nb_store.specs.declared.fault.StoreFault.{StoreFault}
use Rattle.nb_store.specs.declared.fault.StoreFault.TheVariants as base

pub may_come : (p : Past) (e : Event) (t : State) → Comes (past p.fixed p.events true) e t → MayCome p.fixed (state_at p) t
may_come p e t comes = record { event = e; worker = comes.worker; step = comes.step }

-- ---- served

module _ {P D : Type 0} (bh : D → Type 0) (bn bi : D → CellMap → Type 0) (bf : D → Type 0) (bc : D → ℕ) (ph : P → Type 0) (pn pi : P → CellMap → Type 0) (pf : P → Type 0) (pc : P → ℕ)
    (x : Call) (a : Answer) (p p1 p2 : Past) (s t : State) (e : Event) (is : s ≡ state_at p) (begun : p1 ≡ past p.fixed p.events true) (noted : p2 ≡ pushed p1 e) (legal : IsLegal p.fixed p.events)
    (comes : Comes (past p.fixed p.events true) e t) (calm : failing e ≡ None) (gives : Gives p.fixed p.events x a (e ∷ [])) where
  -- by no store
  pub served_alone : (d : D) (c : P) → t.tables ≡ s.tables → t.post ≡ s.post → Served bh bn bi bf bc ph pn pi pf pc x a p p2 d d c c
  served_alone d c tables queues =
      served_event bh bn bi bf bc ph pn pi pf pc x a p p1 p2 e t begun noted legal comes calm gives d c (tables ∙ ap (λ (y : State). y.tables) is) (queues ∙ ap (λ (y : State). y.post) is)

  -- by the store of queues
  pub served_put : {T : Type 0} (r : T) (d : D) (c c' : P) → t.tables ≡ s.tables → queued.Applied ph pn pi pf c c' s.post t.post (Ok r) → Served bh bn bi bf bc ph pn pi pf pc x a p p2 d d c c'
  served_put r d c c' same applied =
      served_post bh bn bi bf bc ph pn pi pf pc x a p p1 p2 e t begun noted legal comes calm gives d c c' r (same ∙ ap (λ (y : State). y.tables) is)
      (subst (λ (y : State). queued.Applied ph pn pi pf c c' y.post t.post (Ok r)) is applied)

  -- by the store of tables; or nothing was done, where that changes nothing
  pub served_record : {T : Type 0} (r : T) (d d' : D) (c : P) (idle : Bool) → t.post ≡ s.post → (idle ≡ true → (t.tables ≡ s.tables) × (d' ≡ d)) → (idle ≡ false → tabled.Applied bh bn bi bf d d' s.tables t.tables (Ok r))
      → Served bh bn bi bf bc ph pn pi pf pc x a p p2 d d' c c
  served_record r d d' c true same nothing applied =
      let two = nothing refl in
      subst (λ (y : D). Served bh bn bi bf bc ph pn pi pf pc x a p p2 d y c c) (sym two.1) (served_alone d c two.0 same)
  served_record r d d' c false same nothing applied =
      served_base bh bn bi bf bc ph pn pi pf pc x a p p1 p2 e t begun noted legal comes calm gives d d' c r (same ∙ ap (λ (y : State). y.post) is)
      (subst (λ (y : State). tabled.Applied bh bn bi bf d d' y.tables t.tables (Ok r)) is (applied refl))

-- ---- refused

module _ {P D : Type 0} (bh : D → Type 0) (bn bi : D → CellMap → Type 0) (bf : D → Type 0) (bc : D → ℕ) (ph : P → Type 0) (pn pi : P → CellMap → Type 0) (pf : P → Type 0) (pc : P → ℕ)
    (x : Call) (wrap : DeskFault → Answer) (p p1 p2 : Past) (s t : State) (e : Event) (why : DeskFault)
    (is : s ≡ state_at p) (begun : p1 ≡ past p.fixed p.events true) (legal : IsLegal p.fixed p.events) (on : halted p.events ≡ false) (says : Says p x wrap) where
  -- no entry was put
  pub put_refused : {T : Type 0} (fault : PostFault) (d : D) (c c' : P) → PostStop fault p1 p2 why → (fault ≡ post.Failed → Rose (pc c) (pc c')) → store_of x ≡ Some Post → (limit ≤ s.post.next → IsSpent (constants p.fixed) s x) → s.post.next ≤ limit
      → (◌≡◌ {A = Result T PostFault} (Err fault) (Err post.Spent)) ↔ (s.post.next ≡ 2 ^ 62) → (HasRoom s → Comes (past p.fixed p.events true) e t) → t.tables ≡ s.tables → queued.Applied {T = T} ph pn pi pf c c' s.post t.post (Err fault)
      → Served bh bn bi bf bc ph pn pi pf pc x (wrap why) p p2 d d c c'
  put_refused {T = T} fault d c c' stop rose writes is_spent low spent comes same applied =
      stopped_post bh bn bi bf bc ph pn pi pf pc x wrap p p1 p2 begun legal on says t why {T = T} fault d c c' stop rose writes
      (λ full. subst (λ (y : State). IsSpent (constants p.fixed) y x) is (is_spent (let at = spent.0 (ap Err full) in omega (arith, at))))
      (λ failed. may_come p e t (comes (let other = unspent_failed fault s.post.next spent failed in omega (arith, low, other))))
      (same ∙ ap (λ (y : State). y.tables) is)
      (subst (λ (y : State). queued.Applied {T = T} ph pn pi pf c c' y.post t.post (Err fault)) is applied)

  -- no entry was taken out, or changed
  pub change_refused : {T : Type 0} (fault : PostFault) (d : D) (c c' : P) → PostStop fault p1 p2 why → (fault ≡ post.Failed → Rose (pc c) (pc c')) → store_of x ≡ Some Post → queued.IsOfApply fault
      → Comes (past p.fixed p.events true) e t → t.tables ≡ s.tables → queued.Applied {T = T} ph pn pi pf c c' s.post t.post (Err fault)
      → Served bh bn bi bf bc ph pn pi pf pc x (wrap why) p p2 d d c c'
  change_refused {T = T} fault d c c' stop rose writes of_apply comes same applied =
      stopped_post bh bn bi bf bc ph pn pi pf pc x wrap p p1 p2 begun legal on says t why {T = T} fault d c c' stop rose writes
      (never_spent fault of_apply)
      (λ failed. may_come p e t comes)
      (same ∙ ap (λ (y : State). y.tables) is)
      (subst (λ (y : State). queued.Applied {T = T} ph pn pi pf c c' y.post t.post (Err fault)) is applied)

  -- no record was changed
  pub record_refused : {T : Type 0} (fault : StoreFault) (d d' : D) (c : P) → BaseStop fault p1 p2 why → (fault ≡ base.Failed → Rose (bc d) (bc d')) → store_of x ≡ Some Base → tabled.IsOfApply fault
      → Comes (past p.fixed p.events true) e t → t.post ≡ s.post → tabled.Applied {T = T} bh bn bi bf d d' s.tables t.tables (Err fault)
      → Served bh bn bi bf bc ph pn pi pf pc x (wrap why) p p2 d d' c c
  record_refused {T = T} fault d d' c stop rose writes of_apply comes same applied =
      stopped_base bh bn bi bf bc ph pn pi pf pc x wrap p p1 p2 begun legal on says t why {T = T} fault d d' c stop rose writes
      (never_spent_base fault of_apply)
      (λ failed. may_come p e t comes)
      (same ∙ ap (λ (y : State). y.post) is)
      (never_spent_base fault of_apply)
      (subst (λ (y : State). tabled.Applied {T = T} bh bn bi bf d d' y.tables t.tables (Err fault)) is applied)
