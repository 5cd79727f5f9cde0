-- Headers read one by one, each name once.
use Rattle.std.specs.Prelude.{◌≡◌, ◌≤◌, ◌<◌, ◌+◌, ◌-◌, ℕ, zero, suc, List, [], ◌∷◌, ◌++◌, Bool, true, false, cond, bytes_eq, is_none, is_some, option_copied, Option, Some, None, refl}
use Rattle.std.proofs.Common.{Bor, ◌∙◌, ap, sym, arith, append_assoc}
use Rattle.std.specs.Option.{option_or}
use Rattle.std.specs.Cmp.Lexicographic.{bytes_decides}
use Rattle.std.proofs.lemmas.List.{append-nil}
use Rattle.nb_base.specs.Messages.{Pairs, header, with_header}
use Rattle.nb_envelope.specs.declared.fault.FormatFault.{FormatFault}
use Rattle.nb_envelope.specs.declared.fault.FormatFault.TheVariants.{Damaged, NoMemory}
use Rattle.nb_envelope.specs.Cells.{◌>>=◌, header_in, items_in, are_distinct, once_each, headers_of, added_in, Fails}
use Rattle.nb_envelope.proofs.Reading.{with_header-new}

either : (b : Bool) (t : List ℕ) (rest whole gs : Option (List ℕ)) → whole ≡ option_or rest gs → cond b (Some t) whole ≡ option_or (cond b (Some t) rest) gs
either true t rest whole gs is = refl
either false t rest whole gs is = is

pub header-append : (hs gs : Pairs) (q : List ℕ) → header (hs ++ gs) q ≡ option_or (header hs q) (header gs q)
header-append [] gs q = refl
header-append (h ∷ hs) gs q = either (bytes_eq q h.0) h.1 (header hs q) (header (hs ++ gs) q) (header gs q) (header-append hs gs q)

-- a new name leaves the names distinct
pub are_distinct-new : (hs : Pairs) (h : List ℕ × List ℕ) → are_distinct hs ≡ true → header hs h.0 ≡ None → are_distinct (hs ++ h ∷ []) ≡ true
are_distinct-new [] h d new = refl
are_distinct-new (g ∷ hs) h d new =
    grind (arith, d, new, header-append hs (h ∷ []) g.0, are_distinct-new hs h, bytes_decides g.0 h.0, bytes_decides h.0 g.0)

-- a name that is there already
pub are_distinct-again : (hs more : Pairs) (h : List ℕ × List ℕ) (y : List ℕ) → header hs h.0 ≡ Some y → are_distinct (hs ++ h ∷ more) ≡ false
are_distinct-again [] more h y there = absurd cc
are_distinct-again (g ∷ hs) more h y there =
    grind (arith, there, header-append hs (h ∷ more) g.0, are_distinct-again hs more h y, bytes_decides g.0 h.0, bytes_decides h.0 g.0)

-- the headers before, and so many more, each with a name of its own
unfoldable pub headers_from : Pairs → ℕ → List ℕ → Option (Pairs × List ℕ)
headers_from hs zero bytes = Some (hs, bytes)
headers_from hs (suc n) bytes = do
  x ← added_in hs bytes
  headers_from x.0 n x.1

-- the headers before, and those that were read
abbrev after : Pairs → Option (Pairs × List ℕ) → Option (Pairs × List ℕ)
after hs read = read >>= λ x. once_each (hs ++ x.0, x.1)

regroup : (hs : Pairs) (h : List ℕ × List ℕ) (read : Option (Pairs × List ℕ)) → after (hs ++ h ∷ []) read ≡ after hs (read >>= λ o. Some (h ∷ o.0, o.1))
regroup hs h None = refl
regroup hs h (Some o) = ap (λ (gs : Pairs). once_each (gs, o.1)) (append_assoc hs (h ∷ []) o.0)

repeated : (hs : Pairs) (h : List ℕ × List ℕ) (y : List ℕ) (read : Option (Pairs × List ℕ)) → header hs h.0 ≡ Some y → after hs (read >>= λ o. Some (h ∷ o.0, o.1)) ≡ None
repeated hs h y None there = refl
repeated hs h y (Some o) there = rw (are_distinct-again hs o.0 h y there) refl

-- what the loop gives for so many headers
abbrev Loop : ℕ → Type 0
Loop n = (hs : Pairs) (bytes : List ℕ) → are_distinct hs ≡ true → headers_from hs n bytes ≡ after hs (items_in header_in n bytes)

abbrev loop_on : ℕ → Option (Pairs × List ℕ) → Option (Pairs × List ℕ)
loop_on n read = read >>= λ x. headers_from x.0 n x.1

abbrev new_or_none : Pairs → (List ℕ × List ℕ) × List ℕ → Option (List ℕ) → Option (Pairs × List ℕ)
new_or_none hs h o = cond (is_none o) (Some (hs ++ h.0 ∷ [], h.1)) None

abbrev others_in : ℕ → (List ℕ × List ℕ) × List ℕ → Option (Pairs × List ℕ)
others_in n h = items_in header_in n h.1 >>= λ o. Some (h.0 ∷ o.0, o.1)

known : (hs : Pairs) (n : ℕ) (h : (List ℕ × List ℕ) × List ℕ) (o : Option (List ℕ)) → header hs h.0.0 ≡ o → Loop n → are_distinct hs ≡ true → loop_on n (new_or_none hs h o) ≡ after hs (others_in n h)
known hs n h None new loop d = loop (hs ++ h.0 ∷ []) h.1 (are_distinct-new hs h.0 d new) ∙ regroup hs h.0 (items_in header_in n h.1)
known hs n h (Some y) there loop d = sym (repeated hs h.0 y (items_in header_in n h.1) there)

first : (hs : Pairs) (n : ℕ) (read : Option ((List ℕ × List ℕ) × List ℕ)) → Loop n → are_distinct hs ≡ true
    → loop_on n (read >>= λ h. new_or_none hs h (header hs h.0.0)) ≡ after hs (read >>= others_in n)
first hs n None loop d = refl
first hs n (Some h) loop d = known hs n h (header hs h.0.0) refl loop d

counted : (n : ℕ) → Loop n
unfolding headers_from items_in added_in
counted zero hs bytes d = rw (append-nil hs, d) refl
counted (suc n) hs bytes d = first hs n (header_in bytes) (counted n) d

pub headers_of-from : (n : ℕ) (bytes : List ℕ) → headers_from [] n bytes ≡ headers_of n bytes
unfolding headers_of
headers_of-from n bytes = counted n [] bytes refl

-- ---- one header

pub added : (hs : Pairs) (k t bytes rest : List ℕ) → header_in bytes ≡ Some ((k, t), rest) → header hs k ≡ None → added_in hs bytes ≡ Some (with_header hs k t, rest)
unfolding added_in
added hs k t bytes rest read new = rw (read, new, with_header-new hs k t new) refl

-- ---- the loop

pub goes_on : (hs more : Pairs) (count i : ℕ) (bytes rest : List ℕ) (total : Option (Pairs × List ℕ)) → i < count → added_in hs bytes ≡ Some (more, rest)
    → headers_from hs (count - i) bytes ≡ total → headers_from more (count - (i + 1)) rest ≡ total
unfolding headers_from
goes_on hs more count i bytes rest total lt one so_far =
    let k : count - i ≡ suc (count - (i + 1)) = omega arith in
    let next : headers_from hs (count - i) bytes ≡ headers_from more (count - (i + 1)) rest = rw (k, one) refl in
    sym next ∙ so_far

pub ends : (e : FormatFault) (hs : Pairs) (count i : ℕ) (bytes : List ℕ) (total : Option (Pairs × List ℕ)) → i < count → Fails e (added_in hs bytes)
    → headers_from hs (count - i) bytes ≡ total → Fails e total
unfolding headers_from
ends NoMemory hs count i bytes total lt one so_far = tt
ends Damaged hs count i bytes total lt one so_far =
    let k : count - i ≡ suc (count - (i + 1)) = omega arith in
    let none : headers_from hs (count - i) bytes ≡ None = rw (k, one) refl in
    sym so_far ∙ none

pub is_done : (hs : Pairs) (count i : ℕ) (bytes : List ℕ) (total : Option (Pairs × List ℕ)) → count ≤ i → headers_from hs (count - i) bytes ≡ total → total ≡ Some (hs, bytes)
unfolding headers_from
is_done hs count i bytes total past so_far =
    let k : count - i ≡ 0 = omega arith in
    let all : headers_from hs (count - i) bytes ≡ Some (hs, bytes) = rw k refl in
    sym so_far ∙ all

pub none_copied : {A : Type 0} (o : Option (Bor A)) → is_some o ≡ false → option_copied o ≡ None
none_copied None e = refl
none_copied (Some x) e = absurd cc
