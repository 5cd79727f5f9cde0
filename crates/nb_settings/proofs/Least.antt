-- The least of keys that come in two parts.
use Rattle.std.proofs.Common.{◌≡◌, ℕ, List, [], ◌∷◌, ◌++◌, Option, Some, refl}
use Rattle.nb_settings.specs.Unknown.{least_with, lesser}

pub least_in_both : (best : Option (List ℕ)) (a b : List (List ℕ)) → least_with best (a ++ b) ≡ least_with (least_with best a) b
least_in_both best [] b = refl
least_in_both best (key ∷ a) b = least_in_both (Some (lesser best key)) a b
