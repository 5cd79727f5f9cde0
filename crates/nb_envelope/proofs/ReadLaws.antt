-- A text read by its length.
use Rattle.std.specs.Prelude.{◌≡◌, ◌≤◌, ℕ, List, length, take, drop, true, false, Some, None, IsUtf8, refl}
use Rattle.std.proofs.Common.{le-ltb}
use Rattle.std.specs.Str.{is_utf8}
use Rattle.std.proofs.lemmas.Str.{is_utf8-from_IsUtf8, IsUtf8-from_is_utf8}
use Rattle.nb_envelope.specs.Cells.{text_of}

pub text_of-utf8 : (n : ℕ) (bytes : List ℕ) → n ≤ length bytes → IsUtf8 (take n bytes) → text_of n bytes ≡ Some (take n bytes, drop n bytes)
unfolding text_of
text_of-utf8 n bytes fits utf8 = rw (le-ltb _ _ fits, is_utf8-from_IsUtf8 (take n bytes) utf8) refl

pub text_of-other : (n : ℕ) (bytes : List ℕ) → n ≤ length bytes → (IsUtf8 (take n bytes) → ⊥) → text_of n bytes ≡ None
unfolding text_of
text_of-other n bytes fits other =
    (elim (is_utf8 (take n bytes)) as (λ b. is_utf8 (take n bytes) ≡ b → text_of n bytes ≡ None) [
      | true ↦ λ e. absurd (other (IsUtf8-from_is_utf8 (take n bytes) e))
      | false ↦ λ e. rw (le-ltb _ _ fits, e) refl
    ]) refl
