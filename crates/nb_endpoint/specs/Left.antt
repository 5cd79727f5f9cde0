-- The two stores, as they are handed in and back.
use Rattle.std.specs.Prelude.{◌≡◌, ◌⊎◌, ℕ, List}
use Rattle.nb_base.specs.Meanings.{Meaning, AllFit}
use Rattle.nb_base.specs.Shown.{stored}
use Rattle.nb_base.specs.declared.entry.Which.TheVariants.{Base, Post}
use Rattle.nb_base.specs.declared.tables.Tables.{Tables}
use Rattle.nb_cells.specs.Cells.{CellMap}
use Rattle.nb_cells.specs.declared.cells.Cells.{Ghosts}
use Rattle.nb_core.specs.Past.{Fixed}
use Rattle.nb_core.specs.declared.history.History.{History}
use Rattle.nb_endpoint.specs.Asked.{Asked}
use Rattle.nb_endpoint.specs.Follows.{constants_of, state_in}
use Rattle.nb_endpoint.specs.Stores.{BaseHolds, PostHolds}
use Rattle.nb_endpoint.specs.declared.status.Status.{Status}
use Rattle.nb_endpoint.specs.declared.status.Status.TheVariants.{Damaged}
use Rattle.nb_hub.specs.Desks.{Started}
use Rattle.nb_hub.specs.Kept.{failed_store}
use Rattle.nb_hub.specs.Starting.{IsMisfit}
use Rattle.nb_queue.specs.Damage.{IsLeastDamage}
use Rattle.nb_queue.specs.Maps as queue
use Rattle.nb_store.specs.CellMaps as table
use Rattle.nb_store.specs.Scanning.{Opens, IsLeastFault}

-- what never changes in a history; the counts of faults say nothing of what the stores hold
abbrev pub fixed_in : Asked → History → Fixed
fixed_in a h = record { meaning = (constants_of a).meaning; settings = a.settings; turns = a.said.turns; opening = h.opening; base_faults = 0; post_faults = 0 }

-- A store of tables that told this map: where it is honest to the end, the history opens with the tables for which the map
-- stands, and the store holds the tables of the state. Where it failed, it may hold those after one more event instead.
pub record BaseLeft {D : Type 0} (g : Ghosts D) (m : CellMap) (a : Asked) (h : History) (store : D) : Type 0 where
  pub opening : g.honest store → table.HasCells m h.opening.tables
  pub holds : g.honest store → BaseHolds g store (fixed_in a h) (state_in a h) (failed_store h.events)

pub record PostLeft {P : Type 0} (g : Ghosts P) (m : CellMap) (a : Asked) (h : History) (store : P) : Type 0 where
  pub opening : g.honest store → queue.HasCells m h.opening.post
  pub holds : g.honest store → PostHolds g store (fixed_in a h) (state_in a h) (failed_store h.events)

-- both stores, from the maps on that they told
pub record AreLeft {P D : Type 0} (p : Ghosts P) (d : Ghosts D) (start : Started) (a : Asked) (h : History) (post : P) (base : D) : Type 0 where
  pub base_left : BaseLeft d start.base a h base
  pub post_left : PostLeft p start.post a h post

-- where the base told this map, damage is of its least cell at fault, or of the least saga that doesn't fit; and where the
-- post is at fault, the base isn't
abbrev pub RefusesBase : Meaning → CellMap → Status → Type 0
RefusesBase meaning m (Damaged Base space key) = IsLeastFault m space key ⊎ IsMisfit meaning m space key
RefusesBase meaning m (Damaged Post space key) = (t : Tables) × Opens m t × AllFit meaning (stored t)
RefusesBase meaning m _ = Unit {0}

-- where the post told this map
abbrev pub RefusesPost : CellMap → Status → Type 0
RefusesPost m (Damaged Post space key) = IsLeastDamage m space key
RefusesPost m _ = Unit {0}
