-- Items written one after the other.
use Rattle.std.specs.Prelude.{◌≡◌, ◌≤◌, ℕ, List, [], ◌∷◌, ◌++◌, ◌+◌, length, take, Some, slice_get}
use Rattle.std.proofs.Common.{◌∙◌, ap, sym, append_assoc}
use Rattle.std.specs.List.{flat_map, AllByRecursion}
use Rattle.std.proofs.lemmas.Grind.{flat_map-append}
use Rattle.std.proofs.lemmas.List.Concat.{flat_map-cons}
use Rattle.std.proofs.lemmas.List.{append-nil, take_all}
use Rattle.nb_base.proofs.ListLaws.{take_next}
use Rattle.nb_envelope.specs.Spelling.{spelled_text, spelled_header}

-- the items so far stand at the end, and each has a spelling
pub record Wrote {A : Type 0} (Is : A → Type 0) (spelled : A → List ℕ) (before now : List ℕ) (xs : List A) : Type 0 where
  pub bytes : now ≡ before ++ flat_map spelled xs
  pub fits : AllByRecursion Is xs

all_push : {A : Type 0} (P : A → Type 0) (xs : List A) (x : A) → AllByRecursion P xs → P x → AllByRecursion P (xs ++ x ∷ [])
all_push P [] x all one = (one, tt)
all_push P (y ∷ ys) x all one = (all.0, all_push P ys x all.1 one)

pub Wrote-start : {A : Type 0} (Is : A → Type 0) (spelled : A → List ℕ) (before : List ℕ) (xs : List A) → Wrote Is spelled before before (take 0 xs)
Wrote-start Is spelled before xs = record { bytes = sym (append-nil before); fits = tt }

pub Wrote-next : {A : Type 0} (Is : A → Type 0) (spelled : A → List ℕ) (before now after : List ℕ) (xs : List A) (i : ℕ) (x : A)
    → Wrote Is spelled before now (take i xs) → slice_get xs i ≡ Some x → after ≡ now ++ spelled x → Is x → Wrote Is spelled before after (take (i + 1) xs)
Wrote-next Is spelled before now after xs i x so_far at put one =
    let one_more : flat_map spelled (take i xs ++ x ∷ []) ≡ flat_map spelled (take i xs) ++ spelled x =
    flat_map-append spelled (take i xs) (x ∷ []) ∙ ap (λ (t : List ℕ). flat_map spelled (take i xs) ++ t) (flat_map-cons spelled x [] ∙ append-nil (spelled x)) in
    rw (take_next xs i x at) (record {
      bytes = put ∙ rw (so_far.bytes, one_more) (append_assoc before (flat_map spelled (take i xs)) (spelled x));
      fits = all_push Is (take i xs) x so_far.fits one;
    })

pub Wrote-end : {A : Type 0} (Is : A → Type 0) (spelled : A → List ℕ) (before now : List ℕ) (xs : List A) (i : ℕ) → Wrote Is spelled before now (take i xs) → length xs ≤ i → Wrote Is spelled before now xs
Wrote-end Is spelled before now xs i so_far all = rw (take_all i xs all) at so_far

-- a header is its name and its text
pub header_put : (before named now : List ℕ) (h : List ℕ × List ℕ) → named ≡ before ++ spelled_text h.0 → now ≡ named ++ spelled_text h.1 → now ≡ before ++ spelled_header h
header_put before named now h name text = text ∙ rw name (append_assoc before (spelled_text h.0) (spelled_text h.1))
