-- A call keeps what holds of the stores under a hub.
use Rattle.std.proofs.Common.{ℕ, sym, subst}
use Rattle.nb_cells.specs.Cells.{CellMap}
use Rattle.nb_core.specs.Past.{Fixed}
use Rattle.nb_core.specs.declared.call.Answer.{Answer}
use Rattle.nb_core.specs.declared.call.Call.{Call}
use Rattle.nb_hub.specs.Desks.{Started, DeskStands}
use Rattle.nb_hub.specs.Ledgers.{Past}
use Rattle.nb_hub.specs.Served.{Served}
use Rattle.nb_queue.specs.Maps as queue
use Rattle.nb_store.specs.CellMaps as table

pub stands_on : {P D : Type 0} (bh : D → Type 0) (bn bi : D → CellMap → Type 0) (bf : D → Type 0) (bc : D → ℕ) (ph : P → Type 0) (pn pi : P → CellMap → Type 0) (pf : P → Type 0) (pc : P → ℕ)
    (x : Call) (a : Answer) (p q : Past) (d d' : D) (c c' : P) → Served bh bn bi bf bc ph pn pi pf pc x a p q d d' c c'
    → (start : Started) → DeskStands bh bn bi bf ph pn pi pf start p d c → DeskStands bh bn bi bf ph pn pi pf start q d' c'
stands_on bh bn bi bf bc ph pn pi pf pc x a p q d d' c c' s start k = record {
  base_stands = s.base k.base_stands;
  post_stands = s.post k.post_stands;
  base_opening = λ h. subst (λ (f : Fixed). table.HasCells start.base f.opening.tables) (sym s.call.fixed) (k.base_opening (s.base_before h));
  post_opening = λ h. subst (λ (f : Fixed). queue.HasCells start.post f.opening.post) (sym s.call.fixed) (k.post_opening (s.post_before h));
}
