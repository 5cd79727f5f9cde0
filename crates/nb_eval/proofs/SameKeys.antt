-- Keys that are the same, lists of keys, and what was read at them.
use Rattle.std.proofs.Common.{◌≡◌, ℕ, refl, sym, ap, ◌∙◌, subst, List, [], ◌∷◌, ◌++◌, Bool, true, false, not, ◌&&◌, cond, true≢false}
use Rattle.std.specs.List.{AllByRecursion}
use Rattle.std.specs.Str.{bytes_eq}
use Rattle.std.specs.Cmp.Lexicographic.{bytes_decides}
use Rattle.std.proofs.lemmas.Bool.Decides.{Decides-int_eq}
use Rattle.nb_base.specs.Shown.{Stored, shown, seen}
use Rattle.nb_base.specs.declared.saga_row.Seen.{Seen}
use Rattle.nb_base.specs.declared.value.Key.{Key}
use Rattle.nb_base.specs.declared.value.Key.TheVariants.{ByCorr, ById, Row}
use Rattle.nb_base.specs.declared.value.Value.{Value}
use Rattle.nb_base.specs.declared.value.Value.TheVariants.{Int, Text, Bool as Truth}
use Rattle.nb_check.specs.Keys.{same_value, same_key, has_key, with_key, with_keys}
use Rattle.nb_eval.specs.Worlds.{seen_in}
use Rattle.nb_eval.proofs.Steps.{and-left, and-right}

pub bytes-is : (a b : List ℕ) → bytes_eq a b ≡ true → a ≡ b
bytes-is a b h = (bytes_decides a b).0 h

pub bytes-refl : (a : List ℕ) → bytes_eq a a ≡ true
bytes-refl a = (bytes_decides a a).1 refl

truth-is : (b c : Bool) → cond b c (not c) ≡ true → b ≡ c
truth-is true true h = refl
truth-is false false h = refl
truth-is true false h = absurd (true≢false (sym h))
truth-is false true h = absurd (true≢false (sym h))

truth-refl : (b : Bool) → cond b b (not b) ≡ true
truth-refl true = refl
truth-refl false = refl

same_value-is : (a b : Value) → same_value a b ≡ true → a ≡ b
same_value-is (Int m) (Int n) h = ap Int ((Decides-int_eq m n).0 h)
same_value-is (Text a) (Text b) h = ap Text (bytes-is a b h)
same_value-is (Truth a) (Truth b) h = ap Truth (truth-is a b h)
same_value-is (Int m) (Text b) h = absurd (true≢false (sym h))
same_value-is (Int m) (Truth b) h = absurd (true≢false (sym h))
same_value-is (Text m) (Int b) h = absurd (true≢false (sym h))
same_value-is (Text m) (Truth b) h = absurd (true≢false (sym h))
same_value-is (Truth m) (Int b) h = absurd (true≢false (sym h))
same_value-is (Truth m) (Text b) h = absurd (true≢false (sym h))

same_value-refl : (a : Value) → same_value a a ≡ true
same_value-refl (Int m) = (Decides-int_eq m m).1 refl
same_value-refl (Text t) = bytes-refl t
same_value-refl (Truth b) = truth-refl b

both-true : (a b : Bool) → a ≡ true → b ≡ true → a && b ≡ true
both-true a b p q = rw p q

pub same_key-is : (j k : Key) → same_key j k ≡ true → j ≡ k
same_key-is (ByCorr s v) (ByCorr t w) h = ap (λ s. ByCorr s v) (bytes-is s t (and-left _ _ h)) ∙ ap (ByCorr t) (same_value-is v w (and-right (bytes_eq s t) _ h))
same_key-is (ById s v) (ById t w) h = ap (λ s. ById s v) (bytes-is s t (and-left _ _ h)) ∙ ap (ById t) (bytes-is v w (and-right (bytes_eq s t) _ h))
same_key-is (Row a) (Row b) h = ap Row (bytes-is a b h)
same_key-is (ByCorr s v) (ById t w) h = absurd (true≢false (sym h))
same_key-is (ByCorr s v) (Row t) h = absurd (true≢false (sym h))
same_key-is (ById s v) (ByCorr t w) h = absurd (true≢false (sym h))
same_key-is (ById s v) (Row t) h = absurd (true≢false (sym h))
same_key-is (Row s) (ByCorr t w) h = absurd (true≢false (sym h))
same_key-is (Row s) (ById t w) h = absurd (true≢false (sym h))

same_key-refl : (k : Key) → same_key k k ≡ true
same_key-refl (ByCorr s v) = both-true (bytes_eq s s) _ (bytes-refl s) (same_value-refl v)
same_key-refl (ById s v) = both-true (bytes_eq s s) _ (bytes-refl s) (bytes-refl v)
same_key-refl (Row a) = bytes-refl a

-- ---- tables that show the same at keys

abbrev pub Agree : (Key → Seen) → (Key → Seen) → List Key → Type 0
Agree look other ks = AllByRecursion (λ k. look k ≡ other k) ks

agree-at : (look other : Key → Seen) (ks : List Key) (k : Key) → Agree look other ks → has_key k ks ≡ true → look k ≡ other k
agree-at look other [] k a h = absurd (true≢false (sym h))
agree-at look other (j ∷ js) k a h =
    elim (same_key j k) as (λ b. same_key j k ≡ b → cond b true (has_key k js) ≡ true → look k ≡ other k) [
      | true ↦ λ e _. subst (λ k. look k ≡ other k) (same_key-is j k e) a.0
      | false ↦ λ e h. agree-at look other js k a.1 h
    ] refl h

has-here : (k : Key) (js : List Key) → has_key k (k ∷ js) ≡ true
has-here k js = rw (same_key-refl k) refl

has-more : (j k : Key) (js : List Key) → has_key k js ≡ true → has_key k (j ∷ js) ≡ true
has-more j k js h = elim (same_key j k) as (λ b. cond b true (has_key k js) ≡ true) [ true ↦ refl | false ↦ h ]

has-front : (ks js : List Key) (k : Key) → has_key k ks ≡ true → has_key k (ks ++ js) ≡ true
has-front [] js k h = absurd (true≢false (sym h))
has-front (i ∷ ks) js k h =
    elim (same_key i k) as (λ b. cond b true (has_key k ks) ≡ true → cond b true (has_key k (ks ++ js)) ≡ true)
    [ true ↦ λ h. refl | false ↦ λ h. has-front ks js k h ] h

has-last : (ks : List Key) (k : Key) → has_key k (ks ++ k ∷ []) ≡ true
has-last [] k = has-here k []
has-last (i ∷ ks) k = has-more i k (ks ++ k ∷ []) (has-last ks k)

with-keeps : (ks : List Key) (j k : Key) → has_key k ks ≡ true → has_key k (with_key ks j) ≡ true
with-keeps ks j k h = elim (has_key j ks) as (λ b. has_key k (cond b ks (ks ++ j ∷ [])) ≡ true) [ true ↦ h | false ↦ has-front ks (j ∷ []) k h ]

with-has : (ks : List Key) (j : Key) → has_key j (with_key ks j) ≡ true
with-has ks j = elim (has_key j ks) as (λ b. has_key j ks ≡ b → has_key j (cond b ks (ks ++ j ∷ [])) ≡ true) [ true ↦ λ e. e | false ↦ λ e. has-last ks j ] refl

all-keep : (ks js : List Key) (k : Key) → has_key k ks ≡ true → has_key k (with_keys ks js) ≡ true
all-keep ks [] k h = h
all-keep ks (j ∷ js) k h = all-keep (with_key ks j) js k (with-keeps ks j k h)

-- each of the keys is among those without repeats
pub all-has : (ks js : List Key) → AllByRecursion (λ j. has_key j (with_keys ks js) ≡ true) js
all-has ks [] = tt
all-has ks (j ∷ js) = (all-keep (with_key ks j) js j (with-has ks j), all-has (with_key ks j) js)

-- what agrees at the keys without repeats agrees at all of them
pub agree-all : (look other : Key → Seen) (ks js : List Key) → Agree look other (with_keys ks js) → Agree look other js
agree-all look other ks [] a = tt
agree-all look other ks (j ∷ js) a =
    (agree-at look other (with_keys (with_key ks j) js) j a (all-keep (with_key ks j) js j (with-has ks j)), agree-all look other (with_key ks j) js a)

-- ---- what was read at the keys agrees there

seen-is : (t : Stored) (ks : List Key) (k : Key) → has_key k ks ≡ true → seen_in (seen t ks) k ≡ shown t k
seen-is t [] k h = absurd (true≢false (sym h))
seen-is t (j ∷ js) k h =
    elim (same_key j k) as (λ b. same_key j k ≡ b → cond b true (has_key k js) ≡ true → cond b (shown t j) (seen_in (seen t js) k) ≡ shown t k)
    [ true ↦ λ e _. ap (shown t) (same_key-is j k e) | false ↦ λ e h. seen-is t js k h ] refl h

seen-agrees : (t : Stored) (ks js : List Key) → ((k : Key) → has_key k js ≡ true → has_key k ks ≡ true) → Agree (shown t) (seen_in (seen t ks)) js
seen-agrees t ks [] h = tt
seen-agrees t ks (j ∷ js) h = (sym (seen-is t ks j (h j (has-here j js))), seen-agrees t ks js (λ k p. h k (has-more j k js p)))

pub seen-all : (t : Stored) (ks : List Key) → Agree (shown t) (seen_in (seen t ks)) ks
seen-all t ks = seen-agrees t ks ks (λ k h. h)
