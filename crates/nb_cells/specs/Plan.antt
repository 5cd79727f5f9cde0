-- What a plan of faults says of the calls.
use Rattle.std.specs.Prelude.{ℕ, ◌+◌, ◌-◌, ◌^◌, min, nat_le, List, Bool, ◌==◌, if◌then◌else◌, Option, Some, None, refl}
use Rattle.std.specs.List.{list_any}
use Rattle.std.specs.Coded.{Coded, code_by, coded×, coded_ℕ, coded_bool, coded_list, coded_option}
use Rattle.nb_cells.specs.declared.plan.FaultPlan.{FaultPlan}
use Rattle.nb_cells.specs.declared.plan.Stop.{Stop}
use Rattle.nb_cells.specs.declared.plan.Turn.{Turn}
use Rattle.nb_cells.specs.declared.plan.Turn.TheVariants.{Works, Fails, Stops}

-- the number of the next call, up to the last number of its type
abbrev pub next : ℕ → ℕ
next n = min (n + 1) (2 ^ 64 - 1)

-- whether the call is listed
abbrev pub is_listed : List ℕ → ℕ → Bool
is_listed calls call = list_any (λ c. c == call) calls

-- a call fails where it is listed
abbrev pub listed_turn : List ℕ → ℕ → Turn
listed_turn calls call = if is_listed calls call then Fails else Works

-- the first apply whose number is that of the stop, or a later one, stops the store
abbrev pub stop_turn : Option Stop → ℕ → Turn → Turn
stop_turn None call turn = turn
stop_turn (Some stop) call turn = if nat_le stop.apply call then Stops stop.after else turn

-- what the plan says of a call of get or scan
abbrev pub read_turn : FaultPlan → ℕ → Turn
read_turn plan call = listed_turn plan.reads call

-- what the plan says of an apply
abbrev pub apply_turn : FaultPlan → ℕ → Turn
apply_turn plan call = stop_turn plan.stop call (listed_turn plan.applies call)

-- a stop is stored as the pair of its fields
abbrev pub stop_code : Coded Stop
stop_code = code_by (ℕ × Bool) (coded× coded_ℕ coded_bool) (λ s. (s.apply, s.after)) (λ p. record { apply = p.0; after = p.1 }) (λ _. refl)

-- a plan is stored as its fields
abbrev pub plan_code : Coded FaultPlan
plan_code =
    code_by (List ℕ × (List ℕ × Option Stop)) (coded× (coded_list coded_ℕ) (coded× (coded_list coded_ℕ) (coded_option stop_code))) (λ p. (p.reads, (p.applies, p.stop)))
    (λ p. record { reads = p.0; applies = p.1.0; stop = p.1.1 }) (λ _. refl)
