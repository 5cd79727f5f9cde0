-- What an apply leaves of a store in memory.
use Rattle.std.specs.Prelude.{◌≡◌, ◌≢◌, ◌⊎◌, ℕ, List, true, false, is_some, unwrap_or, cond, Option, Some, None, Result, Ok, Err, IfOk, OnOk, refl}
use Rattle.std.proofs.Common.{◌∙◌, sym, ap, subst, inl, inr}
use Rattle.nb_cells.specs.Cells.{CellMap, AreAlike, Scans, changed}
use Rattle.nb_cells.specs.Mem.{Mem, left, next_apply, after_read, after_apply, ComesOut}
use Rattle.nb_cells.specs.Plan.{next, apply_turn}
use Rattle.nb_cells.specs.Table.{ByPlace, told, cells_in, written}
use Rattle.nb_cells.specs.declared.cell.Cell.{Cell}
use Rattle.nb_cells.specs.declared.change.Change.{Change}
use Rattle.nb_cells.specs.declared.fault.CellFault.{CellFault}
use Rattle.nb_cells.specs.declared.fault.CellFault.TheVariants.{Failed, NoMemory}
use Rattle.nb_cells.specs.declared.plan.Turn.{Turn}
use Rattle.nb_cells.specs.declared.plan.Turn.TheVariants.{Works, Fails, Stops}
use Rattle.nb_cells.proofs.MapLaws.{told-written}
use Rattle.nb_cells.proofs.ScanLaws.{scans}

running_if : (o : Option ByPlace) (turn : Turn) → cond (is_some o) Fails turn ≢ Fails → o ≡ None
running_if None turn h = refl
running_if (Some t) turn h = absurd (h refl)

-- an apply that has an effect finds the store running
running : (c : Mem) (turn : Turn) → next_apply c ≡ turn → turn ≢ Fails → c.stopped ≡ None
running c turn is other = running_if c.stopped (apply_turn c.plan (next c.applies)) (λ e. other (sym is ∙ e))

works : (old new : Mem) (changes : List Change) → next_apply old ≡ Works → new ≡ after_apply (next_apply old) changes old → new ≡ after_apply Works changes old
works old new changes turn is = is ∙ ap (λ t. after_apply t changes old) turn

-- an apply that worked has changed what is told
pub ok_told : {A : Type 0} (old new : Mem) (changes : List Change) (result : Result A CellFault) (m : CellMap) → ComesOut (next_apply old) old (after_apply (next_apply old) changes old) new result
    → AreAlike (told old.told) m → OnOk result (AreAlike (told new.told) (changed changes m))
ok_told old new changes (Ok x) m out alike = λ s k. ap (λ c. told c.told s k) (works old new changes out.0 out.1) ∙ told-written changes old.told m alike s k
ok_told old new changes (Err e) m out alike = tt

-- and what is left
pub ok_left : {A : Type 0} (old new : Mem) (changes : List Change) (result : Result A CellFault) (m n : CellMap) → ComesOut (next_apply old) old (after_apply (next_apply old) changes old) new result
    → AreAlike (told old.told) m → AreAlike n (told (left new)) → OnOk result (AreAlike n (changed changes m))
ok_left old new changes (Ok x) m n out alike image = λ s k.
    image s k ∙ ap (λ c. told (left c) s k) (works old new changes out.0 out.1)
    ∙ ap (λ o. told (unwrap_or o (written changes old.told)) s k) (running old Works out.0 (λ e. absurd (cc)))
    ∙ told-written changes old.told m alike s k
ok_left old new changes (Err e) m n out alike image = tt

fails : (old : Mem) (changes : List Change) (turn : Turn) (m n : CellMap) → next_apply old ≡ turn → turn ≢ Works → AreAlike (told old.told) m → AreAlike n (told (left (after_apply turn changes old)))
    → AreAlike n (told (left old)) ⊎ AreAlike n (changed changes m)
fails old changes Works m n is other alike image = absurd (other refl)
fails old changes Fails m n is other alike image = inl image
fails old changes (Stops true) m n is other alike image = inr (λ s k. image s k ∙ told-written changes old.told m alike s k)
fails old changes (Stops false) m n is other alike image = inl (λ s k. image s k ∙ ap (λ o. told (unwrap_or o old.told) s k) (sym (running old (Stops false) is (λ e. absurd (cc)))))

-- an apply that failed has left what was left before, or the changed cells
pub failed_left : {A : Type 0} (old new : Mem) (changes : List Change) (result : Result A CellFault) (m n : CellMap) → ComesOut (next_apply old) old (after_apply (next_apply old) changes old) new result
    → result ≡ Err Failed → AreAlike (told old.told) m → AreAlike n (told (left new)) → AreAlike n (told (left old)) ⊎ AreAlike n (changed changes m)
failed_left old new changes (Ok x) m n out failed alike image = absurd (cc)
failed_left old new changes (Err Failed) m n out failed alike image = fails old changes (next_apply old) m n refl out.0 alike (λ s k. image s k ∙ ap (λ c. told (left c) s k) out.1)
failed_left old new changes (Err NoMemory) m n out failed alike image = absurd (cc)

told_if_failed : (old : Mem) (changes : List Change) (turn : Turn) → turn ≢ Works → (after_apply turn changes old).told ≡ old.told
told_if_failed old changes Works other = absurd (other refl)
told_if_failed old changes Fails other = refl
told_if_failed old changes (Stops after) other = refl

after_read-told : (turn : Turn) (c : Mem) → (after_read turn c).told ≡ c.told
after_read-told Works c = refl
after_read-told Fails c = refl
after_read-told (Stops after) c = refl

left-after_read : (turn : Turn) (c : Mem) → left (after_read turn c) ≡ left c
left-after_read Works c = refl
left-after_read Fails c = refl
left-after_read (Stops after) c = refl

-- a failed apply leaves what is told
pub failed_told : {A : Type 0} (old new : Mem) (changes : List Change) (result : Result A CellFault) → ComesOut (next_apply old) old (after_apply (next_apply old) changes old) new result → result ≡ Err Failed → new.told ≡ old.told
failed_told old new changes (Ok x) out failed = absurd (cc)
failed_told old new changes (Err Failed) out failed = ap (λ c. c.told) out.1 ∙ told_if_failed old changes (next_apply old) out.0
failed_told old new changes (Err NoMemory) out failed = absurd (cc)

-- a call that finds no memory leaves all
pub no_memory_same : {A : Type 0} (turn : Turn) (old after new : Mem) (result : Result A CellFault) → ComesOut turn old after new result → result ≡ Err NoMemory → new ≡ old
no_memory_same turn old after new (Ok x) out none = absurd (cc)
no_memory_same turn old after new (Err Failed) out none = absurd (cc)
no_memory_same turn old after new (Err NoMemory) out none = out

-- what is told and left doesn't change in a read
pub read_told : {A : Type 0} (turn : Turn) (old new : Mem) (result : Result A CellFault) → ComesOut turn old (after_read turn old) new result → new.told ≡ old.told
read_told turn old new (Ok x) out = ap (λ c. c.told) out.1 ∙ after_read-told turn old
read_told turn old new (Err Failed) out = ap (λ c. c.told) out.1 ∙ after_read-told turn old
read_told turn old new (Err NoMemory) out = ap (λ c. c.told) out

pub read_left : {A : Type 0} (turn : Turn) (old new : Mem) (result : Result A CellFault) → ComesOut turn old (after_read turn old) new result → left new ≡ left old
read_left turn old new (Ok x) out = ap left out.1 ∙ left-after_read turn old
read_left turn old new (Err Failed) out = ap left out.1 ∙ left-after_read turn old
read_left turn old new (Err NoMemory) out = ap left out

-- a scan of the table is one of its map
pub if_scans : (t : ByPlace) (m : CellMap) (space : ℕ) (result : Result (List Cell) CellFault) → AreAlike (told t) m → IfOk result (λ cells. cells ≡ cells_in space t) → IfOk result (Scans m space)
if_scans t m space (Ok cells) alike is = subst (Scans m space) (sym is) (scans t m space alike)
if_scans t m space (Err e) alike is = tt

-- what holds anyway holds on Ok
pub on_ok : {A E P : Type 0} (result : Result A E) → P → OnOk result P
on_ok (Ok x) holds = holds
on_ok (Err e) holds = tt
