-- A text cut at its first semicolon.
use Rattle.std.specs.Prelude.{◌≡◌, ◌<◌, ◌≤◌, ℕ, List, [], ◌∷◌, length, Bool, true, false, bytes_eq, cond, Option, Some, None, position, refl, not, ◌==◌, ◌+◌}
use Rattle.std.proofs.Common.{◌∙◌, sym, ap, arith}
use Rattle.std.specs.List.{position_or_len, before_first, after_first, onto_first}
use Rattle.std.specs.Option.{option_or}
use Rattle.std.proofs.lemmas.List.Splits.{slice_split_first}
use Rattle.nb_headers.specs.Reads.{type_name, entries_of, first_declared}

abbrev pub ends_entry : ℕ → Bool
ends_entry c = c == 59

-- the first entry is declared: its position is the answer
pub first_found : (declared : List (List ℕ)) (text entry more : List ℕ) (place : ℕ)
    → (position_or_len ends_entry text < length text) × (entry ≡ before_first ends_entry text) × (more ≡ after_first ends_entry text)
    → position (bytes_eq (type_name entry)) declared ≡ Some place → first_declared declared (entries_of text) ≡ Some place
first_found declared text entry more place cut is =
    let front : position (bytes_eq (type_name (before_first ends_entry text))) declared ≡ Some place = ap (λ e. position (bytes_eq (type_name e)) declared) (sym cut.1) ∙ is in
    ap (first_declared declared) (slice_split_first ends_entry text 0 cut.0)
    ∙ ap (λ o. option_or o (first_declared declared (entries_of (after_first ends_entry text)))) front

-- the first entry isn't declared: the others decide
pub first_passed : (declared : List (List ℕ)) (text entry more : List ℕ)
    → (position_or_len ends_entry text < length text) × (entry ≡ before_first ends_entry text) × (more ≡ after_first ends_entry text)
    → position (bytes_eq (type_name entry)) declared ≡ None → first_declared declared (entries_of text) ≡ first_declared declared (entries_of more)
first_passed declared text entry more cut is =
    let front : position (bytes_eq (type_name (before_first ends_entry text))) declared ≡ None = ap (λ e. position (bytes_eq (type_name e)) declared) (sym cut.1) ∙ is in
    ap (first_declared declared) (slice_split_first ends_entry text 0 cut.0)
    ∙ ap (λ o. option_or o (first_declared declared (entries_of (after_first ends_entry text)))) front
    ∙ ap (λ t. first_declared declared (entries_of t)) (sym cut.2)

one_entry : (text : List ℕ) → length text ≤ position_or_len ends_entry text → entries_of text ≡ text ∷ []
one_entry [] past = refl
one_entry (c ∷ text) past =
    (elim (ends_entry c) as (λ t. length (c ∷ text) ≤ cond (not t) (1 + position_or_len ends_entry text) 0 → cond t ([] ∷ entries_of text) (onto_first c (entries_of text)) ≡ (c ∷ text) ∷ []) [
      | true ↦ λ p. absurd (omega arith)
      | false ↦ λ p. rw (one_entry text (omega arith)) refl
    ]) past

or_none : (o : Option ℕ) → option_or o None ≡ o
or_none None = refl
or_none (Some n) = refl

-- there is one entry alone
pub last_entry : (declared : List (List ℕ)) (text : List ℕ) → position_or_len ends_entry text ≡ length text
    → first_declared declared (entries_of text) ≡ position (bytes_eq (type_name text)) declared
last_entry declared text all = ap (first_declared declared) (one_entry text (omega arith)) ∙ or_none (position (bytes_eq (type_name text)) declared)
