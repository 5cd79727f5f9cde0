-- What the two stores tell.
use Rattle.std.specs.Prelude.{Option}
use Rattle.nb_base.specs.declared.entry.Which.{Which}
use Rattle.nb_cells.specs.Cells.{CellMap}
use Rattle.nb_cells.specs.declared.cells.Cells.{Ghosts}
use Rattle.nb_core.specs.Past.{Fixed}
use Rattle.nb_core.specs.declared.state.State.{State}
use Rattle.nb_hub.specs.Desks as desks
use Rattle.nb_hub.specs.Desks.{Started}
use Rattle.nb_hub.specs.Ledgers.{Past}
use Rattle.nb_hub.specs.Starting as starting
use Rattle.nb_hub.specs.Stores as stores

abbrev pub IsRead : {C : Type 0} → Ghosts C → C → C → Type 0
IsRead g old new = starting.IsRead g.honest g.now g.images g.firm g.count old new

abbrev pub Told : {C : Type 0} → Ghosts C → C → C → CellMap → Type 0
Told g old new m = starting.Told g.honest g.now g.firm old new m

abbrev pub TellsOne : {C : Type 0} → Ghosts C → C → CellMap → Type 0
TellsOne g store m = starting.TellsOne g.now g.images g.firm store m

abbrev pub BaseHolds : {C : Type 0} → Ghosts C → C → Fixed → State → Option Which → Type 0
BaseHolds g store f s o = stores.BaseHolds g.now g.images g.firm store f s o

abbrev pub PostHolds : {C : Type 0} → Ghosts C → C → Fixed → State → Option Which → Type 0
PostHolds g store f s o = stores.PostHolds g.now g.images g.firm store f s o

abbrev pub DeskStands : {P D : Type 0} → Ghosts P → Ghosts D → Started → Past → D → P → Type 0
DeskStands p d start q base post = desks.DeskStands d.honest d.now d.images d.firm p.honest p.now p.images p.firm start q base post
