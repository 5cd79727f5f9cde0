-- What holds of the stores under a hub, from the maps on that they told at its start.
use Rattle.nb_cells.specs.Cells.{CellMap}
use Rattle.nb_hub.specs.Ledgers.{Past}
use Rattle.nb_hub.specs.Stores.{BaseStands, PostStands}
use Rattle.nb_queue.specs.Maps as queue
use Rattle.nb_store.specs.CellMaps as table

-- what the store of tables and that of queues told
pub record Started : Type 0 where
  pub base : CellMap
  pub post : CellMap

-- Each store stands as it has to; and where it is honest still, the history opens with that for which its first map stands.
pub record DeskStands {P D : Type 0} (base_honest : D → Type 0) (base_now base_images : D → CellMap → Type 0) (base_firm : D → Type 0)
    (post_honest : P → Type 0) (post_now post_images : P → CellMap → Type 0) (post_firm : P → Type 0)
    (start : Started) (p : Past) (base : D) (post : P) : Type 0 where
  pub base_stands : BaseStands base_honest base_now base_images base_firm base p
  pub post_stands : PostStands post_honest post_now post_images post_firm post p
  pub base_opening : base_honest base → table.HasCells start.base p.fixed.opening.tables
  pub post_opening : post_honest post → queue.HasCells start.post p.fixed.opening.post
