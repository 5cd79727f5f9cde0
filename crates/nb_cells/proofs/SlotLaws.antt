-- What the slots show after a change of one of them.
use Rattle.std.specs.Prelude.{◌≡◌, ℕ, List, [], ◌∷◌, Bool, true, false, cond, Option, Some, None, is_some, IsSome, refl}
use Rattle.std.proofs.Common.{◌∙◌, sym, ap, subst, true≢false}
use Rattle.std.specs.declared.cmp.Ordering.TheVariants.{Equal}
use Rattle.std.specs.Option.{option_flatten}
use Rattle.std.specs.Ordering.{eq_by_cmp}
use Rattle.std.specs.Cmp.{IsTotalOrder, eq_by_cmp_equiv, tied_back, Equal-is}
use Rattle.std.specs.Cmp.Lexicographic.{on_texts}
use Rattle.std.specs.Map.{lookup}
use Rattle.std.specs.BTreeMap.{BTreeMap, get, is_at, UpdatesBy}
use Rattle.std.specs.FinMap as finite
use Rattle.std.proofs.lemmas.Map.Lookups.{exact_bytes}
use Rattle.nb_cells.specs.Place.{place_bytes, place_cmp}
use Rattle.nb_cells.specs.Table.{ByPlace, with_slot}
use Rattle.nb_cells.specs.Slots.{shown}
use Rattle.nb_cells.specs.declared.place.Place.{Place}

pub place_total : IsTotalOrder place_cmp
place_total = on_texts place_bytes

space_in : List ℕ → ℕ
space_in [] = 0
space_in (s ∷ k) = s

key_in : List ℕ → List ℕ
key_in [] = []
key_in (s ∷ k) = k

-- places that tie are equal
pub same_place : (p q : Place) → place_cmp p q ≡ Equal → p ≡ q
unfolding space_in key_in
same_place p q e =
    let one = exact_bytes (place_bytes p) (place_bytes q) e in
    λ i. record { space = space_in (one i); key = key_in (one i) }

-- what stands at a place after a change of a slot
pub get-with_slot : (t : ByPlace) (p : Place) (o : Option (List ℕ)) (q : Place) → finite.get (with_slot t p o) q ≡ cond (eq_by_cmp place_cmp q p) o (finite.get t q)
get-with_slot t p (Some bytes) q = finite.get-insert place_total t p bytes q
get-with_slot t p None q = finite.get-remove place_total t p q

flat-cond : (b : Bool) (x y : Option (Option (List ℕ))) → option_flatten (cond b x y) ≡ cond b (option_flatten x) (option_flatten y)
flat-cond true x y = refl
flat-cond false x y = refl

-- the cell at a place is in its slot
pub get-shown : (es : List (Place × Option (List ℕ))) (q : Place) → finite.get (shown es) q ≡ option_flatten (lookup (is_at (place_cmp q)) es)
get-shown [] q = finite.get-empty place_cmp q
get-shown (e ∷ es) q =
    get-with_slot (shown es) e.0 e.1 q ∙ ap (cond (eq_by_cmp place_cmp q e.0) e.1) (get-shown es q) ∙ sym (flat-cond (is_at (place_cmp q) e.0) (Some e.1) _)

-- tables that have the same at each place are equal
pub same_table : (t u : ByPlace) → ((q : Place) → finite.get t q ≡ finite.get u q) → t ≡ u
same_table t u alike = finite.same_map place_total same_place t u alike

-- a change of one slot
pub shown-updated : (m n : BTreeMap Place (Option (List ℕ))) (p : Place) (w : Option (Option (List ℕ))) → UpdatesBy place_cmp (place_cmp p) m n w → shown n.entries ≡ with_slot (shown m.entries) p (option_flatten w)
shown-updated m n p w updates =
    same_table _ _ (λ q.
    get-shown n.entries q ∙ ap option_flatten (updates.0 q) ∙ flat-cond (is_at (place_cmp p) q) w _
    ∙ ap (λ b. cond b (option_flatten w) (option_flatten (get place_cmp m q))) ((eq_by_cmp_equiv place_total).symm p q)
    ∙ ap (cond (eq_by_cmp place_cmp q p) (option_flatten w)) (sym (get-shown m.entries q))
    ∙ sym (get-with_slot (shown m.entries) p (option_flatten w) q))

-- no cell is taken away where none is
pub with_slot-none : (t : ByPlace) (p : Place) → finite.get t p ≡ None → with_slot t p None ≡ t
with_slot-none t p absent =
    same_table _ _ (λ q.
    get-with_slot t p None q
    ∙ (elim (eq_by_cmp place_cmp q p) as (λ b. eq_by_cmp place_cmp q p ≡ b → cond b None (finite.get t q) ≡ finite.get t q) [
      | true ↦ λ e. sym (finite.get_tied place_total t p q (tied_back place_total q p ((Equal-is (place_cmp q p)).0 e)) ∙ absent)
      | false ↦ λ e. refl
    ]) refl)

-- room for a cell shows none
pub shown-room : (m n : BTreeMap Place (Option (List ℕ))) (p : Place) → get place_cmp m p ≡ None → UpdatesBy place_cmp (place_cmp p) m n (Some None) → shown n.entries ≡ shown m.entries
shown-room m n p absent updates = shown-updated m n p (Some None) updates ∙ with_slot-none (shown m.entries) p (get-shown m.entries p ∙ ap option_flatten absent)

-- a slot without bytes shows no cell
pub shown-swept : (m n : BTreeMap Place (Option (List ℕ))) (p : Place) → get place_cmp m p ≡ Some None → UpdatesBy place_cmp (place_cmp p) m n None → shown n.entries ≡ shown m.entries
shown-swept m n p empty updates = shown-updated m n p None updates ∙ with_slot-none (shown m.entries) p (get-shown m.entries p ∙ ap option_flatten empty)

kept : (b : Bool) (o : Option (List ℕ)) (x : Option (Option (List ℕ))) → is_some x ≡ true → is_some (cond b (Some o) x) ≡ true
kept true o x h = refl
kept false o x h = h

-- a slot stays where another one is written
pub IsSome-updated : (m n : BTreeMap Place (Option (List ℕ))) (p : Place) (o : Option (List ℕ)) → UpdatesBy place_cmp (place_cmp p) m n (Some o) → (q : Place) → IsSome (get place_cmp m q) → IsSome (get place_cmp n q)
IsSome-updated m n p o updates q has = subst (λ x. is_some x ≡ true) (sym (updates.0 q)) (kept (is_at (place_cmp p) q) o (get place_cmp m q) has)

-- no slot is there
pub absent_if : (x : Option (Option (List ℕ))) → is_some x ≡ false → x ≡ None
absent_if None e = refl
absent_if (Some o) e = absurd (true≢false e)

-- what a look-up finds is the cell
pub found : (m : BTreeMap Place (Option (List ℕ))) (t : ByPlace) (q : Place) (x : Option (Option (List ℕ))) → shown m.entries ≡ t → get place_cmp m q ≡ x → option_flatten x ≡ finite.get t q
found m t q x is at = sym (ap (λ u. finite.get u q) (sym is) ∙ get-shown m.entries q ∙ ap option_flatten at)
