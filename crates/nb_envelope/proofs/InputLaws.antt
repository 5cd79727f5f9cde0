-- An input cut at its first line feed.
use Rattle.std.specs.Prelude.{◌≡◌, ◌<◌, ◌≤◌, ◌+◌, ℕ, List, [], ◌∷◌, length, take, drop, position, Bool, true, false, not, cond, nat_lt, ◌==◌, Option, Some, None, Result, Ok, Err, ◌++◌, refl}
use Rattle.std.proofs.Common.{◌∙◌, sym, ap, arith, ltb-true, ltb-false, append_assoc}
use Rattle.std.proofs.lemmas.List.{append-nil}
use Rattle.nb_base.specs.Messages.{Message}
use Rattle.nb_envelope.specs.Inputs.{◌>>>◌, line_past, line_at, messages_from, messages_of}
use Rattle.nb_envelope.specs.declared.input.InputFault.{InputFault}
use Rattle.std.specs.List.{slice_split, position_or_len, after_first, onto_first}
use Rattle.std.specs.Str.Lines.{lines, lines_of_parts, strip_carriage_return}
use Rattle.std.proofs.lemmas.List.Splits.{slice_split_first, length-slice_split}

abbrev pub is_feed : ℕ → Bool
is_feed b = b == 10

parts_cons : (x : List ℕ) (ps : List (List ℕ)) → 0 < length ps → lines_of_parts (x ∷ ps) ≡ strip_carriage_return x ∷ lines_of_parts ps
parts_cons x [] some = absurd (omega arith)
parts_cons x (p ∷ ps) some = refl

some_part : (bs : List ℕ) → 0 < length (slice_split is_feed bs)
some_part bs = omega (arith, length-slice_split is_feed bs)

pub lines_first : (bs : List ℕ) (i : ℕ) → position is_feed bs ≡ Some i → lines bs ≡ strip_carriage_return (take i bs) ∷ lines (drop (i + 1) bs)
lines_first bs i at =
    (elim (nat_lt (position_or_len is_feed bs) (length bs)) as (λ t. nat_lt (position_or_len is_feed bs) (length bs) ≡ t → cond t (Some (position_or_len is_feed bs)) None ≡ Some i
    → lines bs ≡ strip_carriage_return (take i bs) ∷ lines (drop (i + 1) bs)) [
      | true ↦ λ t e.
          let place : position_or_len is_feed bs ≡ i = cc in
          let within = ltb-true _ _ t in
          ap lines_of_parts (slice_split_first is_feed bs 0 within) ∙ parts_cons _ _ (some_part (after_first is_feed bs))
          ∙ ap (λ n. strip_carriage_return (take n bs) ∷ lines (drop (n + 1) bs)) place
      | false ↦ λ t e. absurd (cc)
    ]) refl at

no_feed : (bs : List ℕ) → length bs ≤ position_or_len is_feed bs → slice_split is_feed bs ≡ bs ∷ []
no_feed [] past = refl
no_feed (b ∷ bs) past =
    (elim (is_feed b) as (λ t. length (b ∷ bs) ≤ cond (not t) (1 + position_or_len is_feed bs) 0 → cond t ([] ∷ slice_split is_feed bs) (onto_first b (slice_split is_feed bs)) ≡ (b ∷ bs) ∷ []) [
      | true ↦ λ p. absurd (omega arith)
      | false ↦ λ p. rw (no_feed bs (omega arith)) refl
    ]) past

pub lines_last : (bs : List ℕ) → 0 < length bs → position is_feed bs ≡ None → lines bs ≡ bs ∷ []
lines_last bs some at =
    (elim (nat_lt (position_or_len is_feed bs) (length bs)) as (λ t. nat_lt (position_or_len is_feed bs) (length bs) ≡ t → cond t (Some (position_or_len is_feed bs)) None ≡ None → lines bs ≡ bs ∷ []) [
      | true ↦ λ t e. absurd (cc)
      | false ↦ λ t e. ap lines_of_parts (no_feed bs (ltb-false _ _ t)) ∙ one bs some
    ]) refl at
  where
    one : (bs : List ℕ) → 0 < length bs → lines_of_parts (bs ∷ []) ≡ bs ∷ []
    one bs some = let full : (length bs == 0) ≡ false = grind arith in rw full refl

-- ---- the loop over the lines

-- what comes after, behind the messages so far
abbrev pub behind : List Message → Result (List Message) InputFault → Result (List Message) InputFault
behind ms rest = rest >>> λ more. Ok (ms ++ more)

pub behind-none : (rest : Result (List Message) InputFault) → behind [] rest ≡ rest
behind-none (Ok more) = refl
behind-none (Err e) = refl

pub behind-more : (ms now : List Message) (rest : Result (List Message) InputFault) → behind ms (rest >>> λ more. Ok (now ++ more)) ≡ behind (ms ++ now) rest
behind-more ms now (Ok more) = ap Ok (sym (append_assoc ms now more))
behind-more ms now (Err e) = refl

-- what the loop keeps: the messages so far, and those of the lines that are left
pub record Keeps (input : List ℕ) (past : Option ℕ) (n : ℕ) (ms : List Message) (rest : List ℕ) : Type 0 where
  pub meant : messages_of input ≡ behind ms (messages_from past n (lines rest))
  pub from : 1 ≤ n
  pub room : n + length rest ≤ length input + 1

pub Keeps-start : (input : List ℕ) (past : Option ℕ) → past ≡ line_past input → Keeps input past 1 [] input
Keeps-start input past is = record { meant = rw (← is) (sym (behind-none _)); from = omega arith; room = omega arith }

pub Keeps-next : (input : List ℕ) (past : Option ℕ) (n : ℕ) (ms now : List Message) (rest l more : List ℕ) → Keeps input past n ms rest → lines rest ≡ l ∷ lines more → length more < length rest
    → line_at past n l ≡ Ok now → Keeps input past (n + 1) (ms ++ now) more
Keeps-next input past n ms now rest l more keeps cut shorter here = record {
  meant = keeps.meant ∙ rw (cut, here) (behind-more ms now (messages_from past (n + 1) (lines more)));
  from = omega arith;
  room = omega (arith, keeps.room);
}

pub Keeps-end : (input : List ℕ) (past : Option ℕ) (n : ℕ) (ms : List Message) (rest : List ℕ) → Keeps input past n ms rest → rest ≡ [] → messages_of input ≡ Ok ms
Keeps-end input past n ms rest keeps none = keeps.meant ∙ rw none (ap Ok (append-nil ms))

pub Keeps-bad : (input : List ℕ) (past : Option ℕ) (n : ℕ) (ms : List Message) (rest l more : List ℕ) (e : InputFault) → Keeps input past n ms rest → lines rest ≡ l ∷ lines more
    → line_at past n l ≡ Err e → messages_of input ≡ Err e
Keeps-bad input past n ms rest l more e keeps cut here = keeps.meant ∙ rw (cut, here) refl
