-- What joins a spelling and its reading.
use Rattle.std.specs.Prelude.{◌≡◌, ◌<◌, ℕ, List, ◌++◌, Option, Some, slice_index}

abbrev pub IsBytes : List ℕ → Type 0
IsBytes bytes = (i : ℕ) → slice_index bytes i < 256

-- what is read is spelled so, and what is spelled so is read, whatever follows
pub record IsFormat {A : Type 0} (Is : A → Type 0) (spelled : A → List ℕ) (read : List ℕ → Option (A × List ℕ)) : Type 0 where
  pub found : (bytes : List ℕ) (x : A) (rest : List ℕ) → IsBytes bytes → read bytes ≡ Some (x, rest) → (bytes ≡ spelled x ++ rest) × Is x × IsBytes rest
  pub again : (x : A) (rest : List ℕ) → Is x → read (spelled x ++ rest) ≡ Some (x, rest)

-- no spelling begins another one
abbrev pub NoneBegins : {A : Type 0} → (A → Type 0) → (A → List ℕ) → Type 0
NoneBegins {A} Is spelled = (x y : A) (r s : List ℕ) → Is x → Is y → spelled x ++ r ≡ spelled y ++ s → (x ≡ y) × (r ≡ s)
