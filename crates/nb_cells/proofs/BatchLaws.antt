-- The slots of changes that were made ready, one change at a time.
use Rattle.std.specs.Prelude.{◌≡◌, ℕ, ◌+◌, ◌<◌, suc, List, ◌∷◌, take, drop, length, fold, Option}
use Rattle.std.proofs.Common.{◌∙◌, sym, ap, subst, arith, get_or}
use Rattle.std.proofs.Math.ListN.{set}
use Rattle.std.proofs.lemmas.List.{drop_more, drop-set-lt}
use Rattle.std.proofs.lemmas.List.Elements.{All-more}
use Rattle.std.specs.BTreeMap.{BTreeMap}
use Rattle.nb_cells.specs.Slots.{with_staged, HasSlot, HaveSlots, KeepsSlots}
use Rattle.nb_cells.specs.Table.{ByPlace, with_slot}
use Rattle.nb_cells.specs.declared.place.Place.{Place}
use Rattle.nb_cells.specs.declared.slots.Staged.{Staged}

whole : (slots : BTreeMap Place (Option (List ℕ))) (batch : List Staged) (i : ℕ) (d : Staged) → i < length batch → HaveSlots slots (drop i batch) → HaveSlots slots (get_or batch i d ∷ drop (i + 1) batch)
whole slots batch i d lt have = subst (HaveSlots slots) (drop_more batch i d lt) have

-- the next change has its slot
pub next_slot : (slots : BTreeMap Place (Option (List ℕ))) (batch : List Staged) (i : ℕ) (d : Staged) → i < length batch → HaveSlots slots (drop i batch) → HasSlot slots (get_or batch i d).place
next_slot slots batch i d lt have = whole slots batch i d lt have 0 d (omega arith)

-- and those after it keep theirs
pub later_slots : (slots new : BTreeMap Place (Option (List ℕ))) (batch : List Staged) (i : ℕ) (d y : Staged) → i < length batch → HaveSlots slots (drop i batch) → KeepsSlots slots new → HaveSlots new (drop (i + 1) (set batch i y))
later_slots slots new batch i d y lt have keeps =
    subst (HaveSlots new) (sym (drop-set-lt (i + 1) batch i y (omega arith))) (λ k e in_range. keeps _ (whole slots batch i d lt have (suc k) e (omega arith)))

-- the next change, and then those after it
pub fold-rest : (t u : ByPlace) (batch : List Staged) (i : ℕ) (d y : Staged) (bytes : Option (List ℕ)) → i < length batch → u ≡ with_slot t (get_or batch i d).place bytes → bytes ≡ (get_or batch i d).bytes
    → fold with_staged u (drop (i + 1) (set batch i y)) ≡ fold with_staged t (drop i batch)
fold-rest t u batch i d y bytes lt filled is =
    ap (fold with_staged u) (drop-set-lt (i + 1) batch i y (omega arith))
    ∙ ap (λ v. fold with_staged v (drop (i + 1) batch)) (filled ∙ ap (with_slot t (get_or batch i d).place) is)
    ∙ ap (fold with_staged t) (sym (drop_more batch i d lt))

-- one more change has its slot
pub more_slots : (slots new : BTreeMap Place (Option (List ℕ))) (batch : List Staged) (i : ℕ) (d : Staged) → i < length batch → HaveSlots slots (take i batch) → KeepsSlots slots new → HasSlot new (get_or batch i d).place → HaveSlots new (take (i + 1) batch)
more_slots slots new batch i d lt have keeps made = All-more (λ s. HasSlot new s.place) batch i d lt (λ k e in_range. keeps _ (have k e in_range)) made
