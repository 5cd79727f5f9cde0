-- The cells of a table as lists.
use Rattle.std.specs.Prelude.{◌≡◌, ℕ, List, [], ◌∷◌, map, filter, true, false, cond, ◌==◌, Option, Some, None, option_map, T, ◌++◌, refl}
use Rattle.std.proofs.Common.{◌∙◌, sym, ap, subst}
use Rattle.std.specs.declared.cmp.Ordering.TheVariants.{Less, Equal}
use Rattle.std.specs.List.{filter_map, cons_option, AllByRecursion}
use Rattle.std.specs.List.Sorted.{IsStrictlySortedBy}
use Rattle.std.specs.Option.{option_flatten, option_to_list}
use Rattle.std.specs.Ordering.{is_eq}
use Rattle.std.specs.Cmp.{Equal-is}
use Rattle.std.proofs.lemmas.List.Elements.{filter_map-append}
use Rattle.std.specs.Map.{keys_of, lookup}
use Rattle.std.specs.BTreeMap.{is_at}
use Rattle.std.specs.FinMap as finite
use Rattle.std.specs.FinMap.Entries.{below_all}
use Rattle.nb_cells.specs.Place.{place_cmp}
use Rattle.nb_cells.specs.Table.{cell_of, listed}
use Rattle.nb_cells.specs.Slots.{shown, cell_in}
use Rattle.nb_cells.specs.declared.place.Place.{Place}
use Rattle.nb_cells.proofs.SlotLaws.{place_total, get-shown, same_table}

-- the bytes in a slot, with its place
abbrev pub filled_in : Place × Option (List ℕ) → Option (Place × List ℕ)
filled_in e = option_map (λ bytes. (e.0, bytes)) e.1

-- the slots that have bytes
abbrev pub filled : List (Place × Option (List ℕ)) → List (Place × List ℕ)
filled es = filter_map filled_in es

below_later : (p : Place) (es : List (Place × Option (List ℕ))) → AllByRecursion (λ q. place_cmp p q ≡ Less) (keys_of es) → below_all place_cmp p (filled es) ≡ true
below_later p [] h = refl
below_later p ((q, Some bytes) ∷ es) h = rw h.0 (below_later p es h.1)
below_later p ((q, None) ∷ es) h = below_later p es h.1

sorted_filled : (es : List (Place × Option (List ℕ))) → IsStrictlySortedBy place_cmp (keys_of es) → finite.is_sorted place_cmp (filled es) ≡ true
unfolding IsStrictlySortedBy
sorted_filled [] h = refl
sorted_filled ((p, Some bytes) ∷ es) h = rw (below_later p es h.0) (sorted_filled es h.1)
sorted_filled ((p, None) ∷ es) h = sorted_filled es h.1

no_later : (p q : Place) (es : List (Place × Option (List ℕ))) → AllByRecursion (λ r. place_cmp p r ≡ Less) (keys_of es) → place_cmp q p ≡ Equal → finite.find place_cmp q (filled es) ≡ None
no_later p q [] h e = refl
no_later p q ((r, Some bytes) ∷ es) h e = rw (place_total.congr q p r e ∙ h.0) (no_later p q es h.1 e)
no_later p q ((r, None) ∷ es) h e = no_later p q es h.1 e

find-filled : (q : Place) (es : List (Place × Option (List ℕ))) → IsStrictlySortedBy place_cmp (keys_of es) → finite.find place_cmp q (filled es) ≡ option_flatten (lookup (is_at (place_cmp q)) es)
unfolding IsStrictlySortedBy
find-filled q [] h = refl
find-filled q ((p, Some bytes) ∷ es) h =
    elim (is_eq (place_cmp q p)) as (λ b. cond b (Some bytes) (finite.find place_cmp q (filled es)) ≡ option_flatten (cond b (Some (Some bytes)) (lookup (is_at (place_cmp q)) es))) [
      | true ↦ refl
      | false ↦ find-filled q es h.1
    ]
find-filled q ((p, None) ∷ es) h =
    (elim (is_eq (place_cmp q p)) as (λ b. is_eq (place_cmp q p) ≡ b → finite.find place_cmp q (filled es) ≡ option_flatten (cond b (Some None) (lookup (is_at (place_cmp q)) es))) [
      | true ↦ λ e. no_later p q es h.0 ((Equal-is (place_cmp q p)).0 e)
      | false ↦ λ e. find-filled q es h.1
    ]) refl

-- the entries that the slots show are those that have bytes
entries-shown : (es : List (Place × Option (List ℕ))) → IsStrictlySortedBy place_cmp (keys_of es) → finite.entries (shown es) ≡ filled es
entries-shown es h =
    let sorted = subst T (sym (sorted_filled es h)) tt in
    ap finite.entries (same_table (shown es) (finite.from_sorted (filled es)) (λ q. get-shown es q ∙ sym (find-filled q es h) ∙ sym (finite.get-from_sorted place_cmp (filled es) q sorted)))
    ∙ finite.entries-from_sorted place_cmp (filled es) sorted

all_cells : (es : List (Place × Option (List ℕ))) → filter_map (cell_in None) es ≡ map cell_of (filled es)
all_cells [] = refl
all_cells ((p, Some bytes) ∷ es) = ap (λ cells. cell_of (p, bytes) ∷ cells) (all_cells es)
all_cells ((p, None) ∷ es) = all_cells es

cells_asked : (space : ℕ) (es : List (Place × Option (List ℕ))) → filter_map (cell_in (Some space)) es ≡ filter (λ c. c.space == space) (map cell_of (filled es))
cells_asked space [] = refl
cells_asked space ((p, Some bytes) ∷ es) =
    elim (p.space == space) as (λ b. cons_option (cond b (Some (cell_of (p, bytes))) None) (filter_map (cell_in (Some space)) es) ≡ cond b (cell_of (p, bytes) ∷ filter (λ c. c.space == space) (map cell_of (filled es))) (filter (λ c. c.space == space) (map cell_of (filled es)))) [
      | true ↦ ap (λ cells. cell_of (p, bytes) ∷ cells) (cells_asked space es)
      | false ↦ cells_asked space es
    ]
cells_asked space ((p, None) ∷ es) =
    elim (p.space == space) as (λ b. cons_option (cond b None None) (filter_map (cell_in (Some space)) es) ≡ filter (λ c. c.space == space) (map cell_of (filled es))) [
      | true ↦ cells_asked space es
      | false ↦ cells_asked space es
    ]

-- the cells in the slots, listed
pub listed-shown : (asked : Option ℕ) (es : List (Place × Option (List ℕ))) → IsStrictlySortedBy place_cmp (keys_of es) → filter_map (cell_in asked) es ≡ listed asked (shown es)
listed-shown None es h = all_cells es ∙ ap (map cell_of) (sym (entries-shown es h))
listed-shown (Some space) es h = cells_asked space es ∙ ap (λ entries. filter (λ c. c.space == space) (map cell_of entries)) (sym (entries-shown es h))

adds : (asked : Option ℕ) (e : Place × Option (List ℕ)) → filter_map (cell_in asked) (e ∷ []) ≡ option_to_list (cell_in asked e)
adds asked e = elim (cell_in asked e) as (λ o. cons_option o [] ≡ option_to_list o) [ None ↦ refl | Some cell ↦ refl ]

-- one more slot
pub filter_map-cell_in : (asked : Option ℕ) (es : List (Place × Option (List ℕ))) (e : Place × Option (List ℕ)) → filter_map (cell_in asked) (es ++ e ∷ []) ≡ filter_map (cell_in asked) es ++ option_to_list (cell_in asked e)
filter_map-cell_in asked es e = filter_map-append (cell_in asked) es (e ∷ []) ∙ ap (λ cells. filter_map (cell_in asked) es ++ cells) (adds asked e)
