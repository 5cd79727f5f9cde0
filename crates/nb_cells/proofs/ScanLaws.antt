-- The cells of one space of a table are those that its map has there.
use Rattle.std.specs.Prelude.{◌≡◌, ℕ, List, [], ◌∷◌, map, filter, All, Contains, Bool, true, false, cond, ◌&&◌, ◌==◌, Some, unwrap_or, T, refl}
use Rattle.std.proofs.Common.{◌∙◌, sym, ap, subst, eqb-true, eq-eqb, arith}
use Rattle.std.specs.declared.cmp.Ordering.{Ordering}
use Rattle.std.specs.declared.cmp.Ordering.TheVariants.{Less, Equal, Greater}
use Rattle.std.specs.List.{AllByRecursion}
use Rattle.std.specs.List.Sorted.{IsStrictlySortedBy}
use Rattle.std.specs.Ordering.{eq_by_cmp, is_eq, is_lt, nat_cmp, ordering_then}
use Rattle.std.specs.Cmp.{Equal-is, eq_by_cmp_equiv, nat_cmp_total, tied_itself}
use Rattle.std.specs.Cmp.Lexicographic.{slice_cmp}
use Rattle.std.specs.Map.{keys_of, lookup}
use Rattle.std.specs.FinMap as finite
use Rattle.std.specs.FinMap.Entries.{below_all}
use Rattle.std.proofs.lemmas.List.Elements.{All-nil, All-cons, All-head, All-tail, All-weaker, All-contains_itself, Contains-append_right}
use Rattle.std.proofs.lemmas.Map.Keys.{IsDistinct-from_sorted}
use Rattle.std.proofs.lemmas.Map.Views.{lookup-from_Contains}
use Rattle.nb_cells.specs.Cells.{CellMap, AreAlike, Scans}
use Rattle.nb_cells.specs.Place.{place_cmp}
use Rattle.nb_cells.specs.Table.{ByPlace, told, cell_of, cells_in}
use Rattle.nb_cells.specs.declared.cell.Cell.{Cell}
use Rattle.nb_cells.specs.declared.place.Place.{Place}
use Rattle.nb_cells.proofs.SlotLaws.{place_total, same_place}

both : (a b : Bool) → T (a && b) → T a × T b
both true b h = (tt, h)
both false b h = absurd h

less : (o : Ordering) → T (is_lt o) → o ≡ Less
less Less h = refl
less Equal h = absurd h
less Greater h = absurd h

all_below : (p : Place) (es : List (Place × List ℕ)) → T (below_all place_cmp p es) → AllByRecursion (λ q. place_cmp p q ≡ Less) (keys_of es)
all_below p [] h = tt
all_below p (e ∷ es) h = let parts = both _ _ h in (less _ parts.0, all_below p es parts.1)

sorted_places : (es : List (Place × List ℕ)) → T (finite.is_sorted place_cmp es) → IsStrictlySortedBy place_cmp (keys_of es)
unfolding IsStrictlySortedBy
sorted_places [] h = tt
sorted_places (e ∷ es) h = let parts = both _ _ h in (all_below e.0 es parts.0, sorted_places es parts.1)

-- the cells of the entries that are in the space
abbrev pub within : ℕ → List (Place × List ℕ) → List Cell
within space es = filter (λ c. c.space == space) (map cell_of es)

keys_above : (p : Place) (space : ℕ) (es : List (Place × List ℕ)) → p.space ≡ space → AllByRecursion (λ q. place_cmp p q ≡ Less) (keys_of es) → AllByRecursion (λ k. slice_cmp nat_cmp p.key k ≡ Less) (map (λ c. c.key) (within space es))
keys_above p space [] here h = tt
keys_above p space (e ∷ es) here h =
    (elim (e.0.space == space) as (λ b. (e.0.space == space) ≡ b → AllByRecursion (λ k. slice_cmp nat_cmp p.key k ≡ Less) (map (λ c. c.key) (cond b (cell_of e ∷ within space es) (within space es)))) [
      | true ↦ λ there.
          let level : nat_cmp p.space e.0.space ≡ Equal = ap (nat_cmp p.space) (eqb-true e.0.space space there ∙ sym here) ∙ tied_itself nat_cmp_total p.space in
          (sym (ap (λ o. ordering_then o (slice_cmp nat_cmp p.key e.0.key)) level) ∙ h.0, keys_above p space es here h.1)
      | false ↦ λ there. keys_above p space es here h.1
    ]) refl

keys_ascend : (space : ℕ) (es : List (Place × List ℕ)) → IsStrictlySortedBy place_cmp (keys_of es) → IsStrictlySortedBy (slice_cmp nat_cmp) (map (λ c. c.key) (within space es))
unfolding IsStrictlySortedBy
keys_ascend space [] h = tt
keys_ascend space (e ∷ es) h =
    (elim (e.0.space == space) as (λ b. (e.0.space == space) ≡ b → IsStrictlySortedBy (slice_cmp nat_cmp) (map (λ c. c.key) (cond b (cell_of e ∷ within space es) (within space es)))) [
      | true ↦ λ there. (keys_above e.0 space es (eqb-true e.0.space space there) h.0, keys_ascend space es h.1)
      | false ↦ λ there. keys_ascend space es h.1
    ]) refl

find-lookup : (q : Place) (es : List (Place × List ℕ)) → finite.find place_cmp q es ≡ lookup (eq_by_cmp place_cmp q) es
find-lookup q [] = refl
find-lookup q (e ∷ es) = ap (cond (eq_by_cmp place_cmp q e.0) (Some e.1)) (find-lookup q es)

-- the entries have these bytes at the place
abbrev pub HasEntry : List (Place × List ℕ) → Place × List ℕ → Type 0
HasEntry es e = finite.find place_cmp e.0 es ≡ Some e.1

all_found : (es : List (Place × List ℕ)) → IsStrictlySortedBy place_cmp (keys_of es) → All (HasEntry es) es
all_found es sorted =
    All-weaker (Contains es) (HasEntry es)
    (λ e has. find-lookup e.0 es ∙ lookup-from_Contains (eq_by_cmp_equiv place_total) e.0 e.1 es (IsDistinct-from_sorted place_cmp (keys_of es) sorted) has)
    es (All-contains_itself es)

-- the cell is in the space, and is what the entries have at its place
abbrev pub IsFound : ℕ → List (Place × List ℕ) → Cell → Type 0
IsFound space es c = (c.space ≡ space) × (finite.find place_cmp (record { space = space; key = c.key }) es ≡ Some c.bytes)

sound_within : (space : ℕ) (whole es : List (Place × List ℕ)) → All (HasEntry whole) es → All (IsFound space whole) (within space es)
sound_within space whole [] found = All-nil (IsFound space whole)
sound_within space whole (e ∷ es) found =
    let rest = sound_within space whole es (All-tail (HasEntry whole) e es found) in
    (elim (e.0.space == space) as (λ b. (e.0.space == space) ≡ b → All (IsFound space whole) (cond b (cell_of e ∷ within space es) (within space es))) [
      | true ↦ λ there.
          let here : e.0.space ≡ space = eqb-true e.0.space space there in
          All-cons (IsFound space whole) (cell_of e) (within space es) (here, subst (λ s. finite.find place_cmp (record { space = s; key = e.0.key }) whole ≡ Some e.1) here (All-head (HasEntry whole) e es found)) rest
      | false ↦ λ there. rest
    ]) refl

first : (c d : Cell) (cells : List Cell) → c ≡ d → Contains (c ∷ cells) d
first c d cells same = (0, omega arith, same)

later : (b : Bool) (c d : Cell) (cells : List Cell) → Contains cells d → Contains (cond b (c ∷ cells) cells) d
later true c d cells has = Contains-append_right (c ∷ []) cells d has
later false c d cells has = has

inside : {A : Type 0} (x y : A) → Some x ≡ Some y → x ≡ y
inside x y e = ap (λ o. unwrap_or o x) e

complete_within : (space : ℕ) (key bytes : List ℕ) (es : List (Place × List ℕ)) → finite.find place_cmp (record { space = space; key = key }) es ≡ Some bytes
    → Contains (within space es) (record { space = space; key = key; bytes = bytes })
complete_within space key bytes [] found = absurd (cc)
complete_within space key bytes (e ∷ es) found =
    let q : Place = record { space = space; key = key } in
    let wanted : Cell = record { space = space; key = key; bytes = bytes } in
    (elim (is_eq (place_cmp q e.0)) as (λ b. is_eq (place_cmp q e.0) ≡ b → cond b (Some e.1) (finite.find place_cmp q es) ≡ Some bytes → Contains (within space (e ∷ es)) wanted) [
      | true ↦ λ tied found.
          let same : q ≡ e.0 = same_place q e.0 ((Equal-is (place_cmp q e.0)).0 tied) in
          let here : (e.0.space == space) ≡ true = eq-eqb e.0.space space (ap (λ p. p.space) (sym same)) in
          subst (λ b. Contains (cond b (cell_of e ∷ within space es) (within space es)) wanted) (sym here)
          (first (cell_of e) wanted (within space es) (ap (λ p. cell_of (p, e.1)) (sym same) ∙ ap (λ b. cell_of (q, b)) (inside e.1 bytes found)))
      | false ↦ λ apart found. later (e.0.space == space) (cell_of e) wanted (within space es) (complete_within space key bytes es found)
    ]) refl found

-- the cells that a table has in a space
pub scans : (t : ByPlace) (m : CellMap) (space : ℕ) → AreAlike (told t) m → Scans m space (cells_in space t)
scans t m space alike =
    let es = finite.entries t in
    let sorted = sorted_places es (finite.entries_sorted t) in
    let same : (key : List ℕ) → finite.find place_cmp (record { space = space; key = key }) es ≡ m space key = λ key. sym (finite.get-entries t (record { space = space; key = key })) ∙ alike space key in
    record {
      ascending = keys_ascend space es sorted;
      sound = All-weaker (IsFound space es) (λ c. (c.space ≡ space) × (m space c.key ≡ Some c.bytes)) (λ c has. (has.0, sym (same c.key) ∙ has.1)) (within space es) (sound_within space es es (all_found es sorted));
      complete = λ key bytes is. complete_within space key bytes es (same key ∙ is);
    }
