-- A call of a hub.
use Rattle.std.specs.Prelude.{◌≡◌, ℕ, false, Some}
use Rattle.nb_base.specs.Causes.{Rose}
use Rattle.nb_base.specs.declared.entry.Which.TheVariants.{Base, Post}
use Rattle.nb_cells.specs.Cells.{CellMap}
use Rattle.nb_core.specs.declared.call.Answer.{Answer}
use Rattle.nb_core.specs.declared.call.Call.{Call}
use Rattle.nb_core.specs.Legal.{halted}
use Rattle.nb_hub.specs.Kept.{Makes, failed_store}
use Rattle.nb_hub.specs.Ledgers.{Past}
use Rattle.nb_hub.specs.Stores.{BaseStands, PostStands}

-- The call with its answer leads from one history to the next, and each store stays what it has to be. Where a store is
-- honest after the call, it was before. A store fails only by a call in which its count of faults rose.
pub record Served {P D : Type 0} (base_honest : D → Type 0) (base_now base_images : D → CellMap → Type 0) (base_firm : D → Type 0) (base_count : D → ℕ)
    (post_honest : P → Type 0) (post_now post_images : P → CellMap → Type 0) (post_firm : P → Type 0) (post_count : P → ℕ)
    (x : Call) (answer : Answer) (p q : Past) (base_old base_new : D) (post_old post_new : P) : Type 0 where
  pub call : Makes x answer p q
  pub base : BaseStands base_honest base_now base_images base_firm base_old p → BaseStands base_honest base_now base_images base_firm base_new q
  pub post : PostStands post_honest post_now post_images post_firm post_old p → PostStands post_honest post_now post_images post_firm post_new q
  pub base_before : base_honest base_new → base_honest base_old
  pub post_before : post_honest post_new → post_honest post_old
  pub base_rose : halted p.events ≡ false → failed_store q.events ≡ Some Base → Rose (base_count base_old) (base_count base_new)
  pub post_rose : halted p.events ≡ false → failed_store q.events ≡ Some Post → Rose (post_count post_old) (post_count post_new)
