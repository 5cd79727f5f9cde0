-- The first of some breaches.
use Rattle.std.proofs.Common.{◌≡◌, refl, List, [], ◌∷◌, None, Some}
use Rattle.nb_check.specs.Breaches.{first_from, first_of, earlier}
use Rattle.nb_check.specs.declared.breach.Breach.{Breach}

some-stays : (b : Breach) (fs : List Breach) → first_from (Some b) fs ≡ None → ⊥
some-stays b [] h = cc
some-stays b (f ∷ fs) h = some-stays (earlier (Some b) f) fs h

-- where there is no first one, there is none
pub first_none : (fs : List Breach) → first_of fs ≡ None → fs ≡ []
first_none [] h = refl
first_none (f ∷ fs) h = absurd (some-stays f fs h)
