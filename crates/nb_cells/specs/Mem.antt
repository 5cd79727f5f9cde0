-- A store of cells in memory.
use Rattle.std.specs.Prelude.{◌≡◌, ◌≢◌, ℕ, List, is_some, unwrap_or, if◌then◌else◌, Option, Some, None, Result, Ok, Err, refl}
use Rattle.std.specs.Coded.{Coded, code_by, coded×, coded_ℕ, coded_option}
use Rattle.nb_cells.specs.Table.{ByPlace, by_place_code, written}
use Rattle.nb_cells.specs.Plan.{next, read_turn, apply_turn, plan_code}
use Rattle.nb_cells.specs.declared.change.Change.{Change}
use Rattle.nb_cells.specs.declared.fault.CellFault.{CellFault}
use Rattle.nb_cells.specs.declared.fault.CellFault.TheVariants.{Failed, NoMemory}
use Rattle.nb_cells.specs.declared.plan.FaultPlan.{FaultPlan}
use Rattle.nb_cells.specs.declared.plan.Turn.{Turn}
use Rattle.nb_cells.specs.declared.plan.Turn.TheVariants.{Works, Fails, Stops}

-- the cells that are told, those that a stop left, once it has come, the counts of calls and of faults, and the plan
pub record Mem : Type 0 where
  pub told : ByPlace
  pub stopped : Option ByPlace
  pub reads : ℕ
  pub applies : ℕ
  pub faults : ℕ
  pub plan : FaultPlan

-- a store is stored as its fields
abbrev pub mem_code : Coded Mem
mem_code =
    code_by (ByPlace × (Option ByPlace × (ℕ × (ℕ × (ℕ × FaultPlan))))) (coded× by_place_code (coded× (coded_option by_place_code) (coded× coded_ℕ (coded× coded_ℕ (coded× coded_ℕ plan_code)))))
    (λ c. (c.told, (c.stopped, (c.reads, (c.applies, (c.faults, c.plan))))))
    (λ p. record { told = p.0; stopped = p.1.0; reads = p.1.1.0; applies = p.1.1.1.0; faults = p.1.1.1.1.0; plan = p.1.1.1.1.1 }) (λ _. refl)

-- a store before its first call
abbrev pub opened : ByPlace → FaultPlan → Mem
opened t plan = record { told = t; stopped = None; reads = 0; applies = 0; faults = 0; plan = plan }

-- the cells that are found when the store is opened again
abbrev pub left : Mem → ByPlace
left c = unwrap_or c.stopped c.told

-- what comes of the next call of get or scan
abbrev pub next_read : Mem → Turn
next_read c = if is_some c.stopped then Fails else read_turn c.plan (next c.reads)

-- what comes of the next apply
abbrev pub next_apply : Mem → Turn
next_apply c = if is_some c.stopped then Fails else apply_turn c.plan (next c.applies)

-- the store after a call of get or scan
abbrev pub after_read : Turn → Mem → Mem
after_read Works c = record c { reads = next c.reads }
after_read Fails c = record c { reads = next c.reads; faults = next c.faults }
after_read (Stops after) c = record c { reads = next c.reads; faults = next c.faults }

-- the store after an apply
abbrev pub after_apply : Turn → List Change → Mem → Mem
after_apply Works changes c = record c { told = written changes c.told; applies = next c.applies }
after_apply Fails changes c = record c { applies = next c.applies; faults = next c.faults }
after_apply (Stops after) changes c = record c { stopped = Some (if after then written changes c.told else c.told); applies = next c.applies; faults = next c.faults }

-- the call came out by its turn, or it found no memory and left all as it was
abbrev pub ComesOut : {T : Type 0} → Turn → Mem → Mem → Mem → Result T CellFault → Type 0
ComesOut turn before after now (Ok x) = (turn ≡ Works) × (now ≡ after)
ComesOut turn before after now (Err Failed) = (turn ≢ Works) × (now ≡ after)
ComesOut turn before after now (Err NoMemory) = now ≡ before
