-- No Tick and no Release comes behind the last Take.
use Rattle.std.proofs.Common.{◌≡◌, ℕ, ◌+◌, ◌<◌, List, [], ◌∷◌, ◌++◌, sym, ap, ◌∙◌, subst, refl}
use Rattle.std.specs.Prelude.{All}
use Rattle.std.proofs.lemmas.List.Elements.{All-head, All-tail}
use Rattle.nb_core.specs.Calls.{View, OwnsAll}
use Rattle.nb_core.specs.Paced.{IsOfTurn}
use Rattle.nb_core.specs.Past.{Fixed, taken, takes}
use Rattle.nb_core.specs.declared.answers.DeskFault.{DeskFault}
use Rattle.nb_core.specs.declared.answers.DeskFault.TheVariants.{StoreFailed, PostFailed, Spent, Halted, NoMemory}
use Rattle.nb_core.specs.declared.event.Event.{Event}
use Rattle.nb_core.specs.declared.event.Event.TheVariants.{Load, Take, Look, Settle, Send, Mark, Aside, Remove, Tick, Release, Purge, PutBack, DropBack, Stop, Halt}
use Rattle.nb_pump.specs.Drains.{KeepsLimit, HasTake, StopsAtLimit}
use Rattle.nb_pump.specs.Leases.{stop_of}
use Rattle.nb_pump.specs.Made.{Made}
use Rattle.nb_pump.proofs.Views.{made_alone, made_kept, owns_all_same}

-- ---- the Takes of events, one after another

pub taken_append : (m : ℕ) (xs ys : List Event) → taken m (xs ++ ys) ≡ taken (taken m xs) ys
taken_append m [] ys = refl
taken_append t (Load m ∷ xs) ys = taken_append t xs ys
taken_append t (Take k ∷ xs) ys = taken_append (t + 1) xs ys
taken_append t (Look k ∷ xs) ys = taken_append t xs ys
taken_append t (Settle k ∷ xs) ys = taken_append t xs ys
taken_append t (Send k ∷ xs) ys = taken_append t xs ys
taken_append t (Mark k ∷ xs) ys = taken_append t xs ys
taken_append t (Aside k ∷ xs) ys = taken_append t xs ys
taken_append t (Remove k ∷ xs) ys = taken_append t xs ys
taken_append t (Tick to ∷ xs) ys = taken_append t xs ys
taken_append t (Release n ∷ xs) ys = taken_append t xs ys
taken_append t (Purge id ∷ xs) ys = taken_append t xs ys
taken_append t (PutBack n ∷ xs) ys = taken_append t xs ys
taken_append t (DropBack n ∷ xs) ys = taken_append t xs ys
taken_append t (Stop moment ∷ xs) ys = taken_append 0 xs ys
taken_append t (Halt store ∷ xs) ys = taken_append t xs ys

-- ---- events that keep to the limit

pub keeps_append : (turns n : ℕ) (xs ys : List Event) → KeepsLimit turns n xs → KeepsLimit turns (taken n xs) ys → KeepsLimit turns n (xs ++ ys)
keeps_append turns n [] ys a b = b
keeps_append turns n (Load m ∷ xs) ys a b = keeps_append turns n xs ys a b
keeps_append turns n (Take k ∷ xs) ys a b = keeps_append turns (n + 1) xs ys a b
keeps_append turns n (Look k ∷ xs) ys a b = keeps_append turns n xs ys a b
keeps_append turns n (Settle k ∷ xs) ys a b = keeps_append turns n xs ys a b
keeps_append turns n (Send k ∷ xs) ys a b = keeps_append turns n xs ys a b
keeps_append turns n (Mark k ∷ xs) ys a b = keeps_append turns n xs ys a b
keeps_append turns n (Aside k ∷ xs) ys a b = keeps_append turns n xs ys a b
keeps_append turns n (Remove k ∷ xs) ys a b = keeps_append turns n xs ys a b
keeps_append turns n (Tick to ∷ xs) ys a b = (a.0, keeps_append turns n xs ys a.1 b)
keeps_append turns n (Release j ∷ xs) ys a b = (a.0, keeps_append turns n xs ys a.1 b)
keeps_append turns n (Purge id ∷ xs) ys a b = keeps_append turns n xs ys a b
keeps_append turns n (PutBack j ∷ xs) ys a b = keeps_append turns n xs ys a b
keeps_append turns n (DropBack j ∷ xs) ys a b = keeps_append turns n xs ys a b
keeps_append turns n (Stop moment ∷ xs) ys a b = keeps_append turns 0 xs ys a b
keeps_append turns n (Halt store ∷ xs) ys a b = keeps_append turns n xs ys a b

-- events of workers
pub keeps_turns : (turns n : ℕ) (es : List Event) → All IsOfTurn es → KeepsLimit turns n es
keeps_turns turns n [] h = tt
keeps_turns turns n (Load m ∷ es) h = absurd (All-head IsOfTurn (Load m) es h)
keeps_turns turns n (Take k ∷ es) h = keeps_turns turns (n + 1) es (All-tail IsOfTurn (Take k) es h)
keeps_turns turns n (Look k ∷ es) h = keeps_turns turns n es (All-tail IsOfTurn (Look k) es h)
keeps_turns turns n (Settle k ∷ es) h = keeps_turns turns n es (All-tail IsOfTurn (Settle k) es h)
keeps_turns turns n (Send k ∷ es) h = keeps_turns turns n es (All-tail IsOfTurn (Send k) es h)
keeps_turns turns n (Mark k ∷ es) h = keeps_turns turns n es (All-tail IsOfTurn (Mark k) es h)
keeps_turns turns n (Aside k ∷ es) h = keeps_turns turns n es (All-tail IsOfTurn (Aside k) es h)
keeps_turns turns n (Remove k ∷ es) h = keeps_turns turns n es (All-tail IsOfTurn (Remove k) es h)
keeps_turns turns n (Tick to ∷ es) h = absurd (All-head IsOfTurn (Tick to) es h)
keeps_turns turns n (Release j ∷ es) h = absurd (All-head IsOfTurn (Release j) es h)
keeps_turns turns n (Purge id ∷ es) h = absurd (All-head IsOfTurn (Purge id) es h)
keeps_turns turns n (PutBack j ∷ es) h = absurd (All-head IsOfTurn (PutBack j) es h)
keeps_turns turns n (DropBack j ∷ es) h = absurd (All-head IsOfTurn (DropBack j) es h)
keeps_turns turns n (Stop moment ∷ es) h = absurd (All-head IsOfTurn (Stop moment) es h)
keeps_turns turns n (Halt store ∷ es) h = keeps_turns turns n es (All-tail IsOfTurn (Halt store) es h)

pub limit_turns : (v : View) (es : List Event) → All IsOfTurn es → StopsAtLimit v es
limit_turns v es h left = keeps_turns v.fixed.turns (takes v.events) es h

pub limit_stop : (v : View) (f : DeskFault) → StopsAtLimit v (stop_of f)
limit_stop v StoreFailed left = tt
limit_stop v PostFailed left = tt
limit_stop v Spent left = tt
limit_stop v Halted left = tt
limit_stop v NoMemory left = tt

-- ---- and more events behind them

pub takes_made : (v u : View) (xs : List Event) → OwnsAll u → Made v xs u → takes u.events ≡ taken (takes v.events) xs
takes_made v u xs all m =
    let kept = made_kept v u xs m in
    ap (λ (es : List Event). takes es) (made_alone v u xs (owns_all_same u v (sym kept.0) (sym kept.1) all) m) ∙ taken_append 0 v.events xs

pub limit_more : (v u : View) (xs ys : List Event) → OwnsAll u → Made v xs u → (HasTake v → HasTake u) → StopsAtLimit v xs → StopsAtLimit u ys → StopsAtLimit v (xs ++ ys)
limit_more v u xs ys all m still a b left =
    let turns : u.fixed.turns ≡ v.fixed.turns = ap (λ (f : Fixed). f.turns) (made_kept v u xs m).1 in
    let count : takes u.events ≡ taken (takes v.events) xs = takes_made v u xs all m in
    keeps_append v.fixed.turns (takes v.events) xs ys (a left)
    (subst (λ (y : ℕ × ℕ). KeepsLimit y.0 y.1 ys) (λ i. (turns i, count i)) (b (still left)))

-- where no Take was made, as many are left
pub left_still : (v u : View) (xs : List Event) → Made v xs u → takes u.events ≡ takes v.events → HasTake v → HasTake u
left_still v u xs m same left =
    subst (λ (y : ℕ × ℕ). y.0 < y.1) (λ i. ((sym same) i, (sym (ap (λ (f : Fixed). f.turns) (made_kept v u xs m).1)) i)) left

pub limit_same : (v u : View) (xs ys : List Event) → OwnsAll u → Made v xs u → takes u.events ≡ takes v.events → StopsAtLimit v xs → StopsAtLimit u ys → StopsAtLimit v (xs ++ ys)
limit_same v u xs ys all m same a b = limit_more v u xs ys all m (left_still v u xs m same) a b
