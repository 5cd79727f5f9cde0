-- What a parser gives is explained by trees, and depends on the tokens up to its end only: closed under the steps that parsers take.
use Rattle.std.proofs.Common.{◌≡◌, ℕ, zero, suc, ◌≤◌, Option, Some, None, Ok, Err, Bool, true, false, List, [], ◌∷◌, ◌++◌, refl, ap, sym, subst, ◌∙◌, arith, append_assoc}
use Rattle.std.proofs.lemmas.List.{append-nil}
use Rattle.nb_script.specs.declared.lexeme.Lexeme.{Lexeme}
use Rattle.nb_script.specs.declared.fault.Fault.{Fault}
use Rattle.nb_script.specs.declared.fault.Fault.TheVariants.{TooDeep, Expected}
use Rattle.nb_script.specs.Spelling.{Mark, each, MayPrecede, Strung}
use Rattle.nb_script.specs.Reading.{Source, Outcome, Parser, ret, fail, and_then, ◌>>=◌, look, taken, take, after_one, many_by, many}

-- ---- tokens in a row

-- from the token with the number k to before the one with the number m stand these, and none is past the limits
abbrev pub Stands : Source → ℕ → List Mark → ℕ → Type 0
Stands g k [] m = k ≡ m
Stands g k (x ∷ xs) m = (g k ≡ Some x.lexeme) × (x.past ≡ false) × Stands g (suc k) xs m

pub stands_append : (g : Source) (k : ℕ) (xs : List Mark) (m : ℕ) (ys : List Mark) (n : ℕ) → Stands g k xs m → Stands g m ys n → Stands g k (xs ++ ys) n
stands_append g k [] m ys n a b = subst (λ i. Stands g i ys n) (sym a) b
stands_append g k (x ∷ xs) m ys n a b = (a.0, a.1, stands_append g (suc k) xs m ys n a.2 b)

-- where a token is too deep, the whole goes on with it
abbrev pub Reaches : Fault → Source → ℕ → List Mark → Type 0
Reaches Expected g k back = Unit {0}
Reaches TooDeep g k [] = ⊥
Reaches TooDeep g k (x ∷ xs) = g k ≡ Some x.lexeme

reaches_more : (f : Fault) (g : Source) (k : ℕ) (back more : List Mark) → Reaches f g k back → Reaches f g k (back ++ more)
reaches_more Expected g k back more r = tt
reaches_more TooDeep g k [] more r = absurd r
reaches_more TooDeep g k (x ∷ xs) more r = r

-- a whole of which the tokens from s to before k are the front
pub record Begun {R : Type 0} (spell : R → List Mark) (Fits : R → Type 0) (g : Source) (s k : ℕ) (f : Fault) : Type 0 where
  pub whole : R
  pub front : List Mark
  pub back : List Mark
  pub fits : Fits whole
  pub spelled : spell whole ≡ front ++ back
  pub stands : Stands g s front k
  pub reaches : Reaches f g k back

abbrev pub Explains : {R : Type 0} → (R → List Mark) → (R → Type 0) → Source → ℕ → Outcome R → Type 0
Explains spell Fits g s (Ok p) = Fits p.0 × Stands g s (spell p.0) p.1
Explains spell Fits g s (Err e) = Begun spell Fits g s e.1 e.0

-- some whole begins with these
pub record Extends {R : Type 0} (spell : R → List Mark) (Fits : R → Type 0) (before : List Mark) : Type 0 where
  pub whole : R
  pub more : List Mark
  pub fits : Fits whole
  pub spelled : spell whole ≡ before ++ more

abbrev pub end : {A : Type 0} → Outcome A → ℕ
end (Ok p) = p.1
end (Err e) = e.1

-- the first source has the tokens of the second up to a number
abbrev pub Agree : ℕ → Source → Source → Type 0
Agree m g h = (j : ℕ) → j ≤ m → h j ≡ g j

-- A parser that goes on behind these tokens of a whole, and gives that whole.
pub record Sound {R : Type 0} (spell : R → List Mark) (Fits : R → Type 0) (before : List Mark) (p : Parser R) : Type 0 where
  pub goes_on : (g : Source) (k : ℕ) → k ≤ end (p g k)
  pub same : (g h : Source) (k : ℕ) → Agree (end (p g k)) g h → p h k ≡ p g k
  pub extends : Extends spell Fits before
  pub explains : (g : Source) (s k : ℕ) → Stands g s before k → Explains spell Fits g s (p g k)

-- ---- the steps

pub ret_sound : {R : Type 0} {spell : R → List Mark} {Fits : R → Type 0} {before : List Mark} (r : R) → Fits r → spell r ≡ before → Sound spell Fits before (ret r)
ret_sound {spell = spell} {before = before} r fits spelled = record {
  goes_on = λ g k. omega arith;
  same = λ g h k a. refl;
  extends = record { whole = r; more = []; fits = fits; spelled = spelled ∙ sym (append-nil before) };
  explains = λ g s k stands. (fits, subst (λ xs. Stands g s xs k) (sym spelled) stands);
}

pub stop_sound : {R : Type 0} {spell : R → List Mark} {Fits : R → Type 0} {before : List Mark} → Extends spell Fits before → Sound spell Fits before (fail Expected)
stop_sound {before = before} x = record {
  goes_on = λ g k. omega arith;
  same = λ g h k a. refl;
  extends = x;
  explains = λ g s k stands. record { whole = x.whole; front = before; back = x.more; fits = x.fits; spelled = x.spelled; stands = stands; reaches = tt };
}

pub look_sound : {R : Type 0} {spell : R → List Mark} {Fits : R → Type 0} {before : List Mark} {f : Option Lexeme → Parser R} → ((o : Option Lexeme) → Sound spell Fits before (f o)) → Sound spell Fits before (look f)
look_sound {f = f} l = record {
  goes_on = λ g k. (l (g k)).goes_on g k;
  same = λ g h k a. ap (λ o. f o h k) (a k ((l (g k)).goes_on g k)) ∙ (l (g k)).same g h k a;
  extends = (l None).extends;
  explains = λ g s k stands. (l (g k)).explains g s k stands;
}

-- what is read behind a first part
abbrev Rest : {A R : Type 0} → (A → List Mark) → (A → Type 0) → (R → List Mark) → (R → Type 0) → List Mark → (A → Parser R) → Type 0
Rest spell' Fits' spell Fits before rest = (a : _) → Fits' a → Sound spell Fits (before ++ spell' a) (rest a)

end_bind : {A R : Type 0} (spell' : A → List Mark) (Fits' : A → Type 0) (spell : R → List Mark) (Fits : R → Type 0) (before : List Mark) (rest : A → Parser R) → Rest spell' Fits' spell Fits before rest
    → (g : Source) (k : ℕ) (r : Outcome A) → Explains spell' Fits' g k r → end r ≤ end (and_then r (λ a m. rest a g m))
end_bind spell' Fits' spell Fits before rest l g k (Ok p) x = (l p.0 x.0).goes_on g p.1
end_bind spell' Fits' spell Fits before rest l g k (Err e) x = omega arith

same_bind : {A R : Type 0} (spell' : A → List Mark) (Fits' : A → Type 0) (spell : R → List Mark) (Fits : R → Type 0) (before : List Mark) (rest : A → Parser R) → Rest spell' Fits' spell Fits before rest
    → (g h : Source) (k : ℕ) (r : Outcome A) → Explains spell' Fits' g k r → Agree (end (and_then r (λ a m. rest a g m))) g h → and_then r (λ a m. rest a h m) ≡ and_then r (λ a m. rest a g m)
same_bind spell' Fits' spell Fits before rest l g h k (Ok p) x a = (l p.0 x.0).same g h p.1 a
same_bind spell' Fits' spell Fits before rest l g h k (Err e) x a = refl

explains_bind : {A R : Type 0} (spell' : A → List Mark) (Fits' : A → Type 0) (spell : R → List Mark) (Fits : R → Type 0) (before : List Mark) (rest : A → Parser R) → Rest spell' Fits' spell Fits before rest
    → (g : Source) (s k : ℕ) → Stands g s before k → (r : Outcome A) → Explains spell' Fits' g k r → Explains spell Fits g s (and_then r (λ a m. rest a g m))
explains_bind spell' Fits' spell Fits before rest l g s k stands (Ok p) x = (l p.0 x.0).explains g s p.1 (stands_append g s before k _ _ stands x.1)
explains_bind spell' Fits' spell Fits before rest l g s k stands (Err e) x =
    let more = (l x.whole x.fits).extends in
    record {
      whole = more.whole;
      front = before ++ x.front;
      back = x.back ++ more.more;
      fits = more.fits;
      spelled = more.spelled ∙ ap (λ xs. (before ++ xs) ++ more.more) x.spelled ∙ ap (λ xs. xs ++ more.more) (sym (append_assoc before x.front x.back)) ∙ append_assoc (before ++ x.front) x.back more.more;
      stands = stands_append g s before k _ _ stands x.stands;
      reaches = reaches_more e.0 g e.1 x.back more.more x.reaches;
    }

pub bind_sound : {A R : Type 0} {spell' : A → List Mark} {Fits' : A → Type 0} {spell : R → List Mark} {Fits : R → Type 0} {before : List Mark} {p : Parser A} {rest : A → Parser R}
    → Sound spell' Fits' [] p → ((a : A) → Fits' a → Sound spell Fits (before ++ spell' a) (rest a)) → Sound spell Fits before (p >>= rest)
bind_sound {spell' = spell'} {Fits' = Fits'} {spell = spell} {Fits = Fits} {before = before} {p = p} {rest = rest} first l = record {
  goes_on = λ g k. (let a : k ≤ end (p g k) = first.goes_on g k in let b : end (p g k) ≤ end (and_then (p g k) (λ a m. rest a g m)) = end_bind spell' Fits' spell Fits before rest l g k (p g k) (first.explains g k k refl) in omega arith);
  same = λ g h k a.
      (let b : end (p g k) ≤ end (and_then (p g k) (λ a m. rest a g m)) = end_bind spell' Fits' spell Fits before rest l g k (p g k) (first.explains g k k refl) in
      ap (λ r. and_then r (λ a m. rest a h m)) (first.same g h k (λ j le. a j (omega arith))) ∙ same_bind spell' Fits' spell Fits before rest l g h k (p g k) (first.explains g k k refl) a);
  extends = (
      let x = first.extends in
      let more = (l x.whole x.fits).extends in
      record { whole = more.whole; more = spell' x.whole ++ more.more; fits = more.fits; spelled = more.spelled ∙ append_assoc before (spell' x.whole) more.more });
  explains = λ g s k stands. explains_bind spell' Fits' spell Fits before rest l g s k stands (p g k) (first.explains g k k refl);
}

-- the token that is wanted, as one of a tree
abbrev pub one : {A : Type 0} → (A → Lexeme) → Bool → A → List Mark
one token past a = (record { lexeme = token a; past = past }) ∷ []

-- A token that is wanted is the one of what is taken.
abbrev pub IsWanted : {A : Type 0} → (Option Lexeme → Option A) → (A → Lexeme) → (A → Type 0) → Type 0
IsWanted want token Fits = (o : Option Lexeme) (a : _) → want o ≡ Some a → (o ≡ Some (token a)) × Fits a

taken_on : {A : Type 0} (past : Bool) (w : Option A) (g : Source) (k : ℕ) → k ≤ end (taken past w g k)
taken_on true None g k = omega arith
taken_on false None g k = omega arith
taken_on true (Some a) g k = omega arith
taken_on false (Some a) g k = omega arith

taken_same : {A : Type 0} (past : Bool) (w : Option A) (g h : Source) (k : ℕ) → taken past w h k ≡ taken past w g k
taken_same true None g h k = refl
taken_same false None g h k = refl
taken_same true (Some a) g h k = refl
taken_same false (Some a) g h k = refl

taken_explains : {A : Type 0} (want : Option Lexeme → Option A) (token : A → Lexeme) (Fits : A → Type 0) (past : Bool) → IsWanted want token Fits → (a : A) → Fits a → (g : Source) (s k : ℕ) → s ≡ k → (w : Option A) → want (g k) ≡ w
    → Explains (one token past) Fits g s (taken past w g k)
taken_explains want token Fits true is a fits g s k at None e = record { whole = a; front = []; back = one token true a; fits = fits; spelled = refl; stands = at; reaches = tt }
taken_explains want token Fits false is a fits g s k at None e = record { whole = a; front = []; back = one token false a; fits = fits; spelled = refl; stands = at; reaches = tt }
taken_explains want token Fits true is a fits g s k at (Some b) e = record { whole = b; front = []; back = one token true b; fits = (is (g k) b e).1; spelled = refl; stands = at; reaches = (is (g k) b e).0 }
taken_explains want token Fits false is a fits g s k at (Some b) e = ((is (g k) b e).1, (ap g at ∙ (is (g k) b e).0, refl, ap suc at))

pub take_sound : {A : Type 0} (want : Option Lexeme → Option A) (token : A → Lexeme) (Fits : A → Type 0) (past : Bool) → IsWanted want token Fits → (a : A) → Fits a → Sound (one token past) Fits [] (take past want)
unfolding take
take_sound want token Fits past is a fits = record {
  goes_on = λ g k. taken_on past (want (g k)) g k;
  same = λ g h k agree. ap (λ o. taken past (want o) h k) (agree k (taken_on past (want (g k)) g k)) ∙ taken_same past (want (g k)) g h k;
  extends = record { whole = a; more = one token past a; fits = fits; spelled = refl };
  explains = λ g s k at. taken_explains want token Fits past is a fits g s k at (want (g k)) refl;
}

-- ---- lists

after_sound : {A : Type 0} (spell : A → List Mark) (Fits : A → Type 0) (more : A → Bool) (x : A) → Fits x → (b : Bool) → more x ≡ b → (others : Parser (List A)) → Sound (each spell) (Strung more Fits) [] others
    → Sound (each spell) (Strung more Fits) ([] ++ spell x) (after_one b x others)
after_sound spell Fits more x fits true goes others l = bind_sound l (λ xs all. ret_sound (x ∷ xs) (fits, subst (λ b. MayPrecede b xs) (sym goes) tt, all) refl)
after_sound {A = A} spell Fits more x fits false goes others l = let none : List A = [] in ret_sound (x ∷ []) (fits, subst (λ b. MayPrecede b none) (sym goes) tt, tt) (append-nil (spell x))

nothing_yet : {A : Type 0} (spell : A → List Mark) (Fits : A → Type 0) (more : A → Bool) → Extends (each spell) (Strung more Fits) []
nothing_yet spell Fits more = record { whole = []; more = []; fits = tt; spelled = refl }

many_step : {A : Type 0} (spell : A → List Mark) (Fits : A → Type 0) (more : A → Bool) (p : Parser A) (others : Parser (List A)) → Sound spell Fits [] p → Sound (each spell) (Strung more Fits) [] others → (b : Bool)
    → Sound (each spell) (Strung more Fits) [] (many_by more p others b)
many_step spell Fits more p others l ls true = ret_sound [] tt refl
many_step spell Fits more p others l ls false = bind_sound l (λ x fits. after_sound spell Fits more x fits (more x) refl others ls)

pub many_sound : {A : Type 0} {spell : A → List Mark} {Fits : A → Type 0} {p : Parser A} (n : ℕ) (stop : Option Lexeme → Bool) (more : A → Bool) → Sound spell Fits [] p → Sound (each spell) (Strung more Fits) [] (many n stop more p)
unfolding many
many_sound {spell = spell} {Fits = Fits} zero stop more l = stop_sound (nothing_yet spell Fits more)
many_sound {spell = spell} {Fits = Fits} {p = p} (suc n) stop more l = look_sound (λ o. many_step spell Fits more p (many n stop more p) l (many_sound n stop more l) (stop o))
