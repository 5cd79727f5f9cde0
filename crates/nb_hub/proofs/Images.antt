-- What a call leaves the stores with.
use Rattle.std.proofs.Common.{◌≡◌, true, false, Some, None, Ok, Err, refl, sym, ap, ◌∙◌, subst, inl, inr, ⊎_elim}
use Rattle.nb_base.specs.declared.entry.Which.TheVariants.{Base, Post}
use Rattle.nb_base.specs.declared.tables.PostState.{PostState}
use Rattle.nb_base.specs.declared.tables.Tables.{Tables}
use Rattle.nb_cells.specs.Cells.{CellMap}
use Rattle.nb_core.specs.Legal.{halted}
use Rattle.nb_core.specs.Past.{IsLegal}
use Rattle.nb_core.specs.declared.event.Event.{Event}
use Rattle.nb_core.specs.declared.event.Event.TheVariants.{Halt}
use Rattle.nb_core.specs.declared.state.State.{State}
use Rattle.nb_hub.proofs.Histories.{halt_is, failed_push, none_failed, next_is}
use Rattle.nb_hub.specs.Kept.{failing}
use Rattle.nb_hub.specs.Ledgers.{Past, past, pushed, state_at, Comes}
use Rattle.nb_hub.specs.Stores.{Holds, MayHold, MayCome, BaseHolds, PostHolds, BaseStands, PostStands}
use Rattle.nb_queue.specs.Applied as queued
use Rattle.nb_queue.specs.Maps as queue
use Rattle.nb_queue.specs.declared.fault.PostFault.TheVariants as post
use Rattle.nb_store.specs.Applied as tabled
use Rattle.nb_store.specs.CellMaps as table
use Rattle.nb_store.specs.declared.fault.StoreFault.TheVariants as base

module _ {C : Type 0} (honest : C → Type 0) (now images : C → CellMap → Type 0) (firm : C → Type 0) where
  -- ---- the store of tables

  -- where no store failed, the store has the cells of the tables
  base_before : (p : Past) (c : C) → halted p.events ≡ false → BaseStands honest now images firm c p → honest c → Holds now images firm c (λ m. table.HasCells m (state_at p).tables)
  base_before p c on h y = subst (BaseHolds now images firm c p.fixed (state_at p)) (none_failed p.events on) (h y)

  -- an event that leaves the tables as they are, and the store
  pub base_stays : (p : Past) (e : Event) (t : State) (c : C) → IsLegal p.fixed p.events → Comes (past p.fixed p.events true) e t → failing e ≡ None → t.tables ≡ (state_at p).tables → BaseStands honest now images firm c p → BaseStands honest now images firm c (pushed p e)
  base_stays p e t c l comes calm same h y =
      let now_is : (state_at p).tables ≡ (state_at (pushed p e)).tables = sym same ∙ ap (λ (s : State). s.tables) (next_is (past p.fixed p.events true) e t l comes) in
      let before = subst (λ (x : Tables). Holds now images firm c (λ m. table.HasCells m x)) now_is (base_before p c comes.on h y) in
      subst (BaseHolds now images firm c p.fixed (state_at (pushed p e))) (sym (failed_push p.events e ∙ calm)) before

  -- a failed call of the other store
  pub base_halted : (p : Past) (c : C) → halted p.events ≡ false → BaseStands honest now images firm c p → BaseStands honest now images firm c (pushed p (Halt Post))
  base_halted p c on h y =
      let before = subst (λ (x : State). Holds now images firm c (λ m. table.HasCells m x.tables)) (sym (halt_is p Post)) (base_before p c on h y) in
      subst (BaseHolds now images firm c p.fixed (state_at (pushed p (Halt Post)))) (sym (failed_push p.events (Halt Post))) before

  -- an event that changes the tables, by a call of the store
  pub base_went : {T : Type 0} (p : Past) (e : Event) (t : State) (c d : C) (x : T) → IsLegal p.fixed p.events → Comes (past p.fixed p.events true) e t → failing e ≡ None
      → tabled.Applied honest now images firm c d (state_at p).tables t.tables (Ok x) → BaseStands honest now images firm c p → BaseStands honest now images firm d (pushed p e)
  base_went p e t c d x l comes calm applied h y =
      let old = base_before p c comes.on h (applied.honest_before y) in
      let shown : table.Shows now c (state_at p).tables = record { map = old.map; told = old.told; cells = old.has } in
      let new = applied.ok y old.firm_is shown in
      let holds : Holds now images firm d (λ m. table.HasCells m t.tables) = record {
        firm_is = applied.ok_firm y old.firm_is;
        map = new.map;
        told = new.told;
        has = new.cells;
        only = applied.ok_images y old.firm_is shown;
      } in
      let there = subst (λ (z : State). Holds now images firm d (λ m. table.HasCells m z.tables)) (next_is (past p.fixed p.events true) e t l comes) holds in
      subst (BaseHolds now images firm d p.fixed (state_at (pushed p e))) (sym (failed_push p.events e ∙ calm)) there

  -- a call of the store that was refused for want of memory
  pub base_refused : {T : Type 0} (p : Past) (c d : C) (after : Tables) → halted p.events ≡ false
      → tabled.Applied {T = T} honest now images firm c d (state_at p).tables after (Err base.NoMemory) → BaseStands honest now images firm c p → BaseStands honest now images firm d p
  base_refused p c d after on applied h y =
      let old = base_before p c on h (applied.honest_before y) in
      let shown : table.Shows now c (state_at p).tables = record { map = old.map; told = old.told; cells = old.has } in
      let new = applied.no_memory y old.firm_is shown refl in
      let holds : Holds now images firm d (λ m. table.HasCells m (state_at p).tables) = record {
        firm_is = applied.no_memory_firm y old.firm_is refl;
        map = new.map;
        told = new.told;
        has = new.cells;
        only = λ n i. old.only n (applied.no_memory_images y refl n i);
      } in
      subst (BaseHolds now images firm d p.fixed (state_at p)) (sym (none_failed p.events on)) holds

  -- a call of the store that failed
  pub base_failed : {T : Type 0} (p : Past) (t : State) (c d : C) → halted p.events ≡ false → MayCome p.fixed (state_at p) t → t.post ≡ (state_at p).post
      → tabled.Applied {T = T} honest now images firm c d (state_at p).tables t.tables (Err base.Failed) → BaseStands honest now images firm c p → BaseStands honest now images firm d (pushed p (Halt Base))
  base_failed p t c d on may same applied h y =
      let old = base_before p c on h (applied.honest_before y) in
      let shown : table.Shows now c (state_at p).tables = record { map = old.map; told = old.told; cells = old.has } in
      let held : MayHold now images firm d (λ m. table.HasCells m (state_at p).tables) (λ m. table.HasCells m t.tables) = record {
        told = λ f. let new = applied.failed y old.firm_is shown refl f in (new.map, new.told, new.cells);
        each = λ n i. ⊎_elim (λ b. inl (old.only n b)) (λ b. inr b) (applied.failed_images y old.firm_is shown refl n i);
      } in
      let there : BaseHolds now images firm d p.fixed (state_at p) (Some Base) = (t, may, same, held) in
      let moved = subst (λ (s : State). BaseHolds now images firm d p.fixed s (Some Base)) (sym (halt_is p Base)) there in
      subst (BaseHolds now images firm d p.fixed (state_at (pushed p (Halt Base)))) (sym (failed_push p.events (Halt Base))) moved

  -- ---- the store of queues

  -- where no store failed, the store has the cells of the queues
  post_before : (p : Past) (c : C) → halted p.events ≡ false → PostStands honest now images firm c p → honest c → Holds now images firm c (λ m. queue.HasCells m (state_at p).post)
  post_before p c on h y = subst (PostHolds now images firm c p.fixed (state_at p)) (none_failed p.events on) (h y)

  -- an event that leaves the queues as they are, and the store
  pub post_stays : (p : Past) (e : Event) (t : State) (c : C) → IsLegal p.fixed p.events → Comes (past p.fixed p.events true) e t → failing e ≡ None → t.post ≡ (state_at p).post → PostStands honest now images firm c p → PostStands honest now images firm c (pushed p e)
  post_stays p e t c l comes calm same h y =
      let now_is : (state_at p).post ≡ (state_at (pushed p e)).post = sym same ∙ ap (λ (s : State). s.post) (next_is (past p.fixed p.events true) e t l comes) in
      let before = subst (λ (x : PostState). Holds now images firm c (λ m. queue.HasCells m x)) now_is (post_before p c comes.on h y) in
      subst (PostHolds now images firm c p.fixed (state_at (pushed p e))) (sym (failed_push p.events e ∙ calm)) before

  -- a failed call of the other store
  pub post_halted : (p : Past) (c : C) → halted p.events ≡ false → PostStands honest now images firm c p → PostStands honest now images firm c (pushed p (Halt Base))
  post_halted p c on h y =
      let before = subst (λ (x : State). Holds now images firm c (λ m. queue.HasCells m x.post)) (sym (halt_is p Base)) (post_before p c on h y) in
      subst (PostHolds now images firm c p.fixed (state_at (pushed p (Halt Base)))) (sym (failed_push p.events (Halt Base))) before

  -- an event that changes the queues, by a call of the store
  pub post_went : {T : Type 0} (p : Past) (e : Event) (t : State) (c d : C) (x : T) → IsLegal p.fixed p.events → Comes (past p.fixed p.events true) e t → failing e ≡ None
      → queued.Applied honest now images firm c d (state_at p).post t.post (Ok x) → PostStands honest now images firm c p → PostStands honest now images firm d (pushed p e)
  post_went p e t c d x l comes calm applied h y =
      let old = post_before p c comes.on h (applied.honest_before y) in
      let shown : queue.Shows now c (state_at p).post = record { map = old.map; told = old.told; cells = old.has } in
      let new = applied.ok y old.firm_is shown in
      let holds : Holds now images firm d (λ m. queue.HasCells m t.post) = record {
        firm_is = applied.ok_firm y old.firm_is;
        map = new.map;
        told = new.told;
        has = new.cells;
        only = applied.ok_images y old.firm_is shown;
      } in
      let there = subst (λ (z : State). Holds now images firm d (λ m. queue.HasCells m z.post)) (next_is (past p.fixed p.events true) e t l comes) holds in
      subst (PostHolds now images firm d p.fixed (state_at (pushed p e))) (sym (failed_push p.events e ∙ calm)) there

  -- a call of the store that was refused for want of memory
  pub post_refused : {T : Type 0} (p : Past) (c d : C) (after : PostState) → halted p.events ≡ false
      → queued.Applied {T = T} honest now images firm c d (state_at p).post after (Err post.NoMemory) → PostStands honest now images firm c p → PostStands honest now images firm d p
  post_refused p c d after on applied h y =
      let old = post_before p c on h (applied.honest_before y) in
      let shown : queue.Shows now c (state_at p).post = record { map = old.map; told = old.told; cells = old.has } in
      let new = applied.no_memory y old.firm_is shown refl in
      let holds : Holds now images firm d (λ m. queue.HasCells m (state_at p).post) = record {
        firm_is = applied.no_memory_firm y old.firm_is refl;
        map = new.map;
        told = new.told;
        has = new.cells;
        only = λ n i. old.only n (applied.no_memory_images y refl n i);
      } in
      subst (PostHolds now images firm d p.fixed (state_at p)) (sym (none_failed p.events on)) holds

  -- a call of the store that failed
  pub post_failed : {T : Type 0} (p : Past) (t : State) (c d : C) → halted p.events ≡ false → MayCome p.fixed (state_at p) t → t.tables ≡ (state_at p).tables
      → queued.Applied {T = T} honest now images firm c d (state_at p).post t.post (Err post.Failed) → PostStands honest now images firm c p → PostStands honest now images firm d (pushed p (Halt Post))
  post_failed p t c d on may same applied h y =
      let old = post_before p c on h (applied.honest_before y) in
      let shown : queue.Shows now c (state_at p).post = record { map = old.map; told = old.told; cells = old.has } in
      let held : MayHold now images firm d (λ m. queue.HasCells m (state_at p).post) (λ m. queue.HasCells m t.post) = record {
        told = λ f. let new = applied.failed y old.firm_is shown refl f in (new.map, new.told, new.cells);
        each = λ n i. ⊎_elim (λ b. inl (old.only n b)) (λ b. inr b) (applied.failed_images y old.firm_is shown refl n i);
      } in
      let there : PostHolds now images firm d p.fixed (state_at p) (Some Post) = (t, may, same, held) in
      let moved = subst (λ (s : State). PostHolds now images firm d p.fixed s (Some Post)) (sym (halt_is p Post)) there in
      subst (PostHolds now images firm d p.fixed (state_at (pushed p (Halt Post)))) (sym (failed_push p.events (Halt Post))) moved
