-- The answer is right: the script's tokens are the text's, and a fault stands at the first token that can't go on.
use Rattle.std.proofs.Common.{◌≡◌, ℕ, zero, suc, ◌+◌, ◌≤◌, ◌<◌, Some, None, Ok, Err, Option, true, false, List, [], ◌∷◌, ◌++◌, length, slice_get, refl, ap, sym, subst, ◌∙◌, arith}
use Rattle.nb_script.specs.declared.lexeme.Lexeme.{Lexeme}
use Rattle.nb_script.specs.declared.fault.Fault.{Fault}
use Rattle.nb_script.specs.declared.fault.Fault.TheVariants.{TooDeep, Expected}
use Rattle.nb_script.specs.Grammar.{ItemTerm}
use Rattle.nb_script.specs.Spelling.{Mark, each, item, Strung, IsItem, IsScript, lexemes, script_marks}
use Rattle.nb_script.specs.Reading.{Source, Outcome, always, many, and_then}
use Rattle.nb_script.specs.ReadingScript as read
use Rattle.nb_script.specs.ReadingScript.{whole}
use Rattle.nb_script.specs.Answer.{Agrees, Begins, Starts, IsFirstPlace, Spells}
use Rattle.nb_script.proofs.Laws.{Stands, Begun, Reaches, Explains, end}
use Rattle.nb_script.proofs.Complete.{Excuse, Meets, Reads, Gets, Stops}
use Rattle.nb_script.proofs.SoundScript.{strung_every}
use Rattle.nb_script.proofs.SoundItems.{whole_sound}
use Rattle.nb_script.proofs.CompleteScript.{every_strung}
use Rattle.nb_script.proofs.CompleteItems.{whole_complete}

-- ---- tokens in a row, and lists

stands_meets : (E : Excuse) (g : Source) (k : ℕ) (xs : List Mark) (m : ℕ) → Stands g k xs m → Meets E g k xs m
stands_meets E g k [] m s = s
stands_meets E g k (x ∷ xs) m s = (s.0, (λ p. (let no : true ≡ false = sym p ∙ s.1 in absurd cc)), stands_meets E g (suc k) xs m s.2)

meets_get : (E : Excuse) (g : Source) (k m : ℕ) (xs ys : List Mark) → Meets E g k xs m → (j : ℕ) → k + j < m → slice_get (lexemes (xs ++ ys)) j ≡ g (k + j)
meets_get E g k m [] ys s j lt = let e : k ≡ m = s in absurd (omega arith)
meets_get E g k m (x ∷ xs) ys s zero lt = sym (subst (λ i. g i ≡ Some x.lexeme) (omega arith) s.0)
meets_get E g k m (x ∷ xs) ys s (suc j) lt = let lt' : suc k + j < m = omega arith in meets_get E g (suc k) m xs ys s.2 j lt' ∙ (let e : suc k + j ≡ k + suc j = omega arith in ap g e)

stands_keep : (g : Source) (k m : ℕ) (xs ys : List Mark) → Stands g k xs m → (j : ℕ) (x : Mark) → k + j < m → slice_get (xs ++ ys) j ≡ Some x → x.past ≡ false
stands_keep g k m [] ys s j x lt e = let at : k ≡ m = s in absurd (omega arith)
stands_keep g k m (y ∷ xs) ys s zero x lt e = let both : Some y ≡ Some x = e in let same : y ≡ x = cc in subst (λ y. y.past ≡ false) same s.1
stands_keep g k m (y ∷ xs) ys s (suc j) x lt e = stands_keep g (suc k) m xs ys s.2 j x (omega arith) e

within : (ts : List Lexeme) (k : ℕ) (t : Lexeme) → slice_get ts k ≡ Some t → k < length ts
within [] k t e = cc
within (x ∷ xs) zero t e = omega arith
within (x ∷ xs) (suc k) t e = let lt : k < length xs = within xs k t e in omega arith

stands_within : (ts : List Lexeme) (k : ℕ) (xs : List Mark) (m : ℕ) → k ≤ length ts → Stands (slice_get ts) k xs m → m ≤ length ts
stands_within ts k [] m le s = let e : k ≡ m = s in omega arith
stands_within ts k (x ∷ xs) m le s = let lt : k < length ts = within ts k x.lexeme s.0 in stands_within ts (suc k) xs m (omega arith) s.2

-- the tokens of a list stand at their numbers
pub list_meets : (E : Excuse) (g : Source) (k : ℕ) (xs : List Mark) → ((j : ℕ) → g (k + j) ≡ slice_get (lexemes xs) j) → ((j : ℕ) (x : Mark) → slice_get xs j ≡ Some x → x.past ≡ true → E TooDeep (k + j)) → Meets E g k xs (k + length xs)
list_meets E g k [] at excused = omega arith
list_meets E g k (x ∷ xs) at excused =
    let here : g k ≡ Some x.lexeme = subst (λ i. g i ≡ Some x.lexeme) (omega arith) (at 0) in
    let same : suc k + length xs ≡ k + length (x ∷ xs) = omega arith in (
      here,
      (λ p. subst (λ i. E TooDeep i) (omega arith) (excused 0 x refl p)),
      subst (λ m. Meets E g (suc k) xs m) same (list_meets E g (suc k) xs (λ j. subst (λ i. g i ≡ slice_get (lexemes xs) j) (omega arith) (at (suc j))) (λ j y e p. subst (λ i. E TooDeep i) (omega arith) (excused (suc j) y e p))),
    )

pub after_list : (xs : List Mark) → slice_get (lexemes xs) (length xs) ≡ None
after_list [] = refl
after_list (x ∷ xs) = (let e : length (x ∷ xs) ≡ suc (length xs) = omega arith in ap (λ n. slice_get (lexemes (x ∷ xs)) n) e) ∙ after_list xs

-- tokens that stand in a row, up to the end, are the list
list_stands : (g : Source) (k m : ℕ) (ts : List Lexeme) (xs : List Mark) → ((j : ℕ) → g (k + j) ≡ slice_get ts j) → Stands g k xs m → g m ≡ None → ts ≡ lexemes xs
list_stands g k m [] [] at s none = refl
list_stands g k m [] (x ∷ xs) at s none = let a : g k ≡ None = subst (λ i. g i ≡ None) (omega arith) (at 0) in let b : g k ≡ Some x.lexeme = s.0 in let no : None ≡ Some x.lexeme = sym a ∙ b in cc
list_stands g k m (t ∷ ts) [] at s none = let a : g k ≡ Some t = subst (λ i. g i ≡ Some t) (omega arith) (at 0) in let b : g k ≡ None = ap g s ∙ none in let no : None ≡ Some t = sym b ∙ a in cc
list_stands g k m (t ∷ ts) (x ∷ xs) at s none =
    let a : g k ≡ Some t = subst (λ i. g i ≡ Some t) (omega arith) (at 0) in
    let both : Some t ≡ Some x.lexeme = sym a ∙ s.0 in
    let head : t ≡ x.lexeme = cc in
    let rest : ts ≡ lexemes xs = list_stands g (suc k) m ts xs (λ j. subst (λ i. g i ≡ slice_get ts j) (omega arith) (at (suc j))) s.2 none in
    cc

stands_all : (g : Source) (k m : ℕ) (xs : List Mark) → Stands g k xs m → (j : ℕ) (x : Mark) → slice_get xs j ≡ Some x → x.past ≡ false
stands_all g k m [] s j x e = cc
stands_all g k m (y ∷ xs) s zero x e = let both : Some y ≡ Some x = e in let same : y ≡ x = cc in subst (λ y. y.past ≡ false) same s.1
stands_all g k m (y ∷ xs) s (suc j) x e = stands_all g (suc k) m xs s.2 j x e

-- ---- what was read to the end

same_ok : (r : Outcome (List ItemTerm)) (p q : List ItemTerm × ℕ) → r ≡ Ok p → r ≡ Ok q → p ≡ q
same_ok r p q a b = cc

same_err : (r : Outcome (List ItemTerm)) (p q : Fault × ℕ) → r ≡ Err p → r ≡ Err q → p ≡ q
same_err r p q a b = cc

end_of : (o : Option Lexeme) (xs ys : List ItemTerm) (g : Source) (k m : ℕ) → g k ≡ o → read.finished xs (read.is_end o) g k ≡ Ok (ys, m) → g m ≡ None
end_of None xs ys g k m at e = subst (λ i. g i ≡ None) (ap (λ p. p.1) (same_ok _ (xs, k) (ys, m) refl e)) at
end_of (Some t) xs ys g k m at e = cc

ends : (r : Outcome (List ItemTerm)) (g : Source) (ys : List ItemTerm) (m : ℕ) → and_then r (λ xs k. read.finished xs (read.is_end (g k)) g k) ≡ Ok (ys, m) → g m ≡ None
ends (Ok p) g ys m e = end_of (g p.1) p.0 ys g p.1 m refl e
ends (Err x) g ys m e = cc

whole_ends : (lines room : ℕ) (g : Source) (ys : List ItemTerm) (m : ℕ) → whole lines room g 0 ≡ Ok (ys, m) → g m ≡ None
unfolding whole
whole_ends lines room g ys m e = ends (many lines read.is_end always (read.item lines room (read.inside lines room)) g 0) g ys m e

-- the script that was read is the one that the tokens spell
pub found : (lines : ℕ) (ts : List Lexeme) (s : List ItemTerm) (m : ℕ) → whole lines 100 (slice_get ts) 0 ≡ Ok (s, m) → Spells ts s
found lines ts s m e =
    let it : Explains (each (item 100)) (Strung always IsItem) (slice_get ts) 0 (Ok (s, m)) = subst (λ r. Explains (each (item 100)) (Strung always IsItem) (slice_get ts) 0 r) e ((whole_sound lines 100).explains (slice_get ts) 0 0 refl) in
    record {
      spelled = list_stands (slice_get ts) 0 m ts (script_marks s) (λ j. (let e' : 0 + j ≡ j = omega arith in ap (slice_get ts) e')) it.1 (whole_ends lines 100 (slice_get ts) s m e);
      grammatical = strung_every IsItem s it.0;
      keeps = stands_all (slice_get ts) 0 m (script_marks s) it.1;
    }

-- ---- where reading stopped

abbrev Stopped : ℕ → List Lexeme → Fault → ℕ → Type 0
Stopped lines ts f k = whole lines 100 (slice_get ts) 0 ≡ Err (f, k)

begun : (lines : ℕ) (ts : List Lexeme) (f : Fault) (k : ℕ) → Stopped lines ts f k → Begun (each (item 100)) (Strung always IsItem) (slice_get ts) 0 k f
begun lines ts f k out = subst (λ r. Explains (each (item 100)) (Strung always IsItem) (slice_get ts) 0 r) out ((whole_sound lines 100).explains (slice_get ts) 0 0 refl)

pub plus : (j : ℕ) → 0 + j ≡ j
plus j = omega arith

before : (ts : List Lexeme) (f : Fault) (k : ℕ) → Begun (each (item 100)) (Strung always IsItem) (slice_get ts) 0 k f → Starts ts k
before ts f k b = record {
  whole = b.whole;
  grammatical = strung_every IsItem b.whole b.fits;
  agrees = λ j lt. ap (λ xs. slice_get (lexemes xs) j) b.spelled ∙ meets_get (λ f i. Unit {0}) (slice_get ts) 0 k b.front b.back (stands_meets (λ f i. Unit {0}) (slice_get ts) 0 b.front k b.stands) j (omega arith) ∙ ap (slice_get ts) (plus j);
  keeps = λ j x lt e. stands_keep (slice_get ts) 0 k b.front b.back b.stands j x (omega arith) (ap (λ xs. slice_get xs j) (sym b.spelled) ∙ e);
}

-- what stands up to and with a token
meets_more : (E : Excuse) (g : Source) (k m : ℕ) (xs : List Mark) (x : Mark) → Meets E g k xs m → g m ≡ Some x.lexeme → (x.past ≡ true → E TooDeep m) → Meets E g k (xs ++ x ∷ []) (suc m)
meets_more E g k m [] x s at excused = (subst (λ i. g i ≡ Some x.lexeme) (sym s) at, (λ p. subst (λ i. E TooDeep i) (sym s) (excused p)), ap suc s)
meets_more E g k m (y ∷ xs) x s at excused = (s.0, s.1, meets_more E g (suc k) m xs x s.2 at excused)

append_one : (xs : List Mark) (x : Mark) (ys : List Mark) → xs ++ x ∷ ys ≡ (xs ++ x ∷ []) ++ ys
append_one [] x ys = refl
append_one (y ∷ xs) x ys = ap (λ zs. y ∷ zs) (append_one xs x ys)

deeper : (ts : List Lexeme) (k : ℕ) (whole : List ItemTerm) (fits : Strung always IsItem whole) (front back : List Mark) → script_marks whole ≡ front ++ back → Stands (slice_get ts) 0 front k → Reaches TooDeep (slice_get ts) k back → Begins ts (suc k)
deeper ts k whole fits front [] spelled stands reaches = absurd reaches
deeper ts k whole fits front (x ∷ back) spelled stands reaches = record {
  whole = whole;
  grammatical = strung_every IsItem whole fits;
  agrees = λ j lt. ap (λ xs. slice_get (lexemes xs) j) (spelled ∙ append_one front x back)
      ∙ meets_get (λ f i. Unit {0}) (slice_get ts) 0 (suc k) (front ++ x ∷ []) back (meets_more (λ f i. Unit {0}) (slice_get ts) 0 k front x (stands_meets (λ f i. Unit {0}) (slice_get ts) 0 front k stands) reaches (λ p. tt)) j (omega arith) ∙ ap (slice_get ts) (plus j);
}

-- a fault that isn't this one
abbrev Other : Fault → ℕ → Excuse
Other f k = λ x j. x ≡ f → j ≡ k → ⊥

apart : (r : Outcome (List ItemTerm)) (p : List ItemTerm × ℕ) (e : Fault × ℕ) → r ≡ Ok p → r ≡ Err e → ⊥
apart r p e a b = cc

clash : (f x : Fault) (k j : ℕ) (r : Outcome (List ItemTerm)) → r ≡ Err (f, k) → r ≡ Err (x, j) → Other f k x j → ⊥
clash f x k j r a b other = let same = same_err r (x, j) (f, k) b a in other (ap (λ p. p.0) same) (ap (λ p. p.1) same)

-- No script agrees with the tokens and the next one, but where it is itself past the limits there.
none_agrees : (ts : List Lexeme) (f : Fault) (k : ℕ) → Stopped (suc (length ts)) ts f k → (s : List ItemTerm) → IsScript s → Agrees ts (suc k) s
    → ((j : ℕ) (x : Mark) → slice_get (script_marks s) j ≡ Some x → x.past ≡ true → Other f k TooDeep j) → ⊥
none_agrees ts f k out s all agrees kept =
    let lines : ℕ = suc (length ts) in
    let g : Source = slice_get (lexemes (script_marks s)) in
    let at : end (whole lines 100 (slice_get ts) 0) ≡ k = ap end out in
    let here : whole lines 100 g 0 ≡ Err (f, k) = (whole_sound lines 100).same (slice_get ts) g 0 (λ j le. agrees j (omega arith)) ∙ out in
    let b = begun lines ts f k out in
    let few : k ≤ length ts = stands_within ts 0 b.front k (omega arith) b.stands in
    let read : Reads (Other f k) (whole lines 100) g 0 s (0 + length (script_marks s)) =
    whole_complete (Other f k) lines (λ j le e same. (let no : suc (length ts) ≤ k = subst (λ i. suc (length ts) ≤ i) same le in absurd (omega arith))) 100 s (every_strung IsItem s all) g (0 + length (script_marks s))
    (list_meets (Other f k) g 0 (script_marks s) (λ j. ap g (plus j)) (λ j x e p. subst (λ i. Other f k TooDeep i) (sym (plus j)) (kept j x e p)))
    (ap g (plus (length (script_marks s))) ∙ after_list (script_marks s)) in
    elim read [ Gets e ↦ apart (whole lines 100 g 0) _ _ e here | Stops x ↦ clash f x.fault k x.at (whole lines 100 g 0) here x.is x.excuse ]

which_fault : (ts : List Lexeme) (f : Fault) (k : ℕ) → Stopped (suc (length ts)) ts f k → Begins ts (suc k) → f ≡ TooDeep
which_fault ts TooDeep k out b = refl
which_fault ts Expected k out b = absurd (none_agrees ts Expected k out b.whole b.grammatical b.agrees (λ j x e p one two. (let no : TooDeep ≡ Expected = one in cc)))

taken_too_deep : (ts : List Lexeme) (f : Fault) (k : ℕ) → Begun (each (item 100)) (Strung always IsItem) (slice_get ts) 0 k f → f ≡ TooDeep → Begins ts (suc k)
taken_too_deep ts Expected k b e = let no : Expected ≡ TooDeep = e in cc
taken_too_deep ts TooDeep k b e = deeper ts k b.whole b.fits b.front b.back b.spelled b.stands b.reaches

-- where reading stopped, that is the first place
pub halts : (ts : List Lexeme) (f : Fault) (k : ℕ) → whole (suc (length ts)) 100 (slice_get ts) 0 ≡ Err (f, k) → IsFirstPlace ts f k
halts ts f k out = record {
  before = before ts f k (begun (suc (length ts)) ts f k out);
  stuck = λ s. none_agrees ts f k out s.whole s.grammatical s.agrees (λ j x e p one two. (
      let kept : x.past ≡ false = s.keeps j x (omega arith) e in let no : true ≡ false = sym p ∙ kept in absurd cc));
  which = (taken_too_deep ts f k (begun (suc (length ts)) ts f k out), which_fault ts f k out);
}
