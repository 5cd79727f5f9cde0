-- What the two stores are left with.
use Rattle.std.proofs.Common.{◌≡◌, ℕ, refl, sym, ap, ◌∙◌, subst}
use Rattle.std.specs.Prelude.{Option, Some, None, List}
use Rattle.nb_base.specs.declared.entry.Which.{Which}
use Rattle.nb_base.specs.declared.entry.Which.TheVariants.{Base, Post}
use Rattle.nb_cells.specs.Cells.{CellMap}
use Rattle.nb_core.specs.Legal.{IsOfWorker}
use Rattle.nb_core.specs.Past.{Fixed, constants}
use Rattle.nb_core.specs.Standing.{Constants}
use Rattle.nb_core.specs.Step.{Step}
use Rattle.nb_core.specs.declared.event.Event.{Event}
use Rattle.nb_core.specs.declared.history.History.{History}
use Rattle.nb_core.specs.declared.history.Opening.{Opening}
use Rattle.nb_core.specs.declared.state.State.{State}
use Rattle.nb_endpoint.specs.Asked.{Asked}
use Rattle.nb_endpoint.specs.Follows.{constants_of, state_in}
use Rattle.nb_cells.specs.declared.cells.Cells.{Ghosts}
use Rattle.nb_endpoint.specs.Left.{AreLeft, fixed_in}
use Rattle.nb_endpoint.specs.Stores.{DeskStands}
use Rattle.nb_hub.specs.Desks.{Started}
use Rattle.nb_hub.specs.Kept.{failed_store}
use Rattle.nb_hub.specs.Ledgers.{Past, state_at}
use Rattle.nb_hub.specs.Stores.{MayCome, BaseHolds, PostHolds}
use Rattle.nb_queue.specs.Maps as queue
use Rattle.nb_store.specs.CellMaps as table

-- which event may come next depends on the constants and the workers alone
may_come : (f g : Fixed) (s t : State) → constants f ≡ constants g → f.opening ≡ g.opening → MayCome f s t → MayCome g s t
may_come f g s t c o m = record {
  event = m.event;
  worker = subst (λ (x : Opening). IsOfWorker x.workers m.event) o m.worker;
  step = subst (λ (x : Constants). Step x s m.event t) c m.step;
}

base_holds : {C : Type 0} (now images : C → CellMap → Type 0) (firm : C → Type 0) (store : C) (f g : Fixed) (s : State) (o : Option Which) → constants f ≡ constants g → f.opening ≡ g.opening
    → BaseHolds now images firm store f s o → BaseHolds now images firm store g s o
base_holds now images firm store f g s None c op h = h
base_holds now images firm store f g s (Some Post) c op h = h
base_holds now images firm store f g s (Some Base) c op h = (h.0, may_come f g s h.0 c op h.1, h.2, h.3)

post_holds : {C : Type 0} (now images : C → CellMap → Type 0) (firm : C → Type 0) (store : C) (f g : Fixed) (s : State) (o : Option Which) → constants f ≡ constants g → f.opening ≡ g.opening
    → PostHolds now images firm store f s o → PostHolds now images firm store g s o
post_holds now images firm store f g s None c op h = h
post_holds now images firm store f g s (Some Base) c op h = h
post_holds now images firm store f g s (Some Post) c op h = (h.0, may_come f g s h.0 c op h.1, h.2, h.3)

module _ {P D : Type 0} (p : Ghosts P) (d : Ghosts D) (a : Asked) (h : History) (q : Past) (base : D) (post : P)
    (c : constants q.fixed ≡ constants_of a) (o : q.fixed.opening ≡ h.opening) (events : q.events ≡ h.events) (s : state_at q ≡ state_in a h) where
  pub are_left : (start : Started) → DeskStands p d start q base post → AreLeft p d start a h post base
  are_left start k = record {
    base_left = record {
      opening = λ honest. subst (λ (x : Opening). table.HasCells start.base x.tables) o (k.base_opening honest);
      holds = λ honest. base_holds d.now d.images d.firm base q.fixed (fixed_in a h) (state_in a h) (failed_store h.events) c o
          (subst (λ (x : State × List Event). BaseHolds d.now d.images d.firm base q.fixed x.0 (failed_store x.1)) (λ i. (s i, events i)) (k.base_stands honest));
    };
    post_left = record {
      opening = λ honest. subst (λ (x : Opening). queue.HasCells start.post x.post) o (k.post_opening honest);
      holds = λ honest. post_holds p.now p.images p.firm post q.fixed (fixed_in a h) (state_in a h) (failed_store h.events) c o
          (subst (λ (x : State × List Event). PostHolds p.now p.images p.firm post q.fixed x.0 (failed_store x.1)) (λ i. (s i, events i)) (k.post_stands honest));
    };
  }
