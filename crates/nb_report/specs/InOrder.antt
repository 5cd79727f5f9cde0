-- Lists put in order.
use Rattle.std.specs.Prelude.{List, [], ◌∷◌, Bool, if◌then◌else◌}

-- the item in its place: before the first one that isn't below it
abbrev pub put_in : {X : Type 0} → (X → X → Bool) → X → List X → List X
put_in is_below x [] = x ∷ []
put_in is_below x (y ∷ ys) = if is_below y x then y ∷ put_in is_below x ys else x ∷ y ∷ ys

-- the items, the lower ones first
abbrev pub in_order : {X : Type 0} → (X → X → Bool) → List X → List X
in_order is_below [] = []
in_order is_below (x ∷ xs) = put_in is_below x (in_order is_below xs)
