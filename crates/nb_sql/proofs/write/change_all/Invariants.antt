use Rattle.std.proofs.Common.{◌≡◌, take, ◌<◌}
use Rattle.nb_cells.specs.Cells.{CellMap, changed}
use Rattle.nb_sql.specs.Held.{Sees, IsRunning}
use Rattle.sqlite.specs.State.{HasCleanDisk, Survives, KeepsCommit}
use Rattle.sqlite.specs.Held.{state}
use Rattle.nb_sql.proofs.write.change_all.Given as goal

abbrev pub invariant-changes : goal.invariant-changes
invariant-changes g l =
    let old = state g.S.Store l.fn.tx.conn.now in
    let now = state g.S.Store l.tx.conn.now in
    (l.tx.conn.ghost_name ≡ l.fn.tx.conn.ghost_name) × Survives old now (λ _. ⊥) × (HasCleanDisk now → KeepsCommit old now)
    × ((m : CellMap) → HasCleanDisk now → Sees old m → Sees now (changed (take l.change-index l.fn.changes) m) × (0 < l.change-index → IsRunning now))
