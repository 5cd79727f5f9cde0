-- One token: what is taken is the one that is wanted, and what is wanted is taken.
use Rattle.std.proofs.Common.{◌≡◌, ℕ, ℤ, suc, ◌==◌, Option, Some, None, Bool, true, false, List, [], pos, refl, ap, sym, subst, ◌∙◌, if◌then◌else◌}
use Rattle.std.specs.Str.{bytes_eq}
use Rattle.std.proofs.lemmas.Slice.Eq.{bytes_eq-Decides}
use Rattle.std.proofs.lemmas.Bool.{eqb-true}
use Rattle.nb_script.specs.declared.lexeme.Keyword.{Keyword}
use Rattle.nb_script.specs.declared.lexeme.Symbol.{Symbol}
use Rattle.nb_script.specs.declared.lexeme.Symbol.TheVariants as sym'
use Rattle.nb_script.specs.declared.lexeme.Content.{Content}
use Rattle.nb_script.specs.declared.lexeme.Content.TheVariants as c
use Rattle.nb_script.specs.declared.lexeme.Lexeme.{Lexeme}
use Rattle.nb_script.specs.declared.fault.Fault.TheVariants.{TooDeep}
use Rattle.nb_script.specs.Words.{keyword_text, keyword_of}
use Rattle.nb_script.specs.Spelling.{lexeme, IsName, Always}
use Rattle.nb_script.specs.Reading.{Source, place_if, symbol_code, is_symbol, want_symbol, is_word, want_this, want_word, unless_key, want_name, want_number, want_quoted, take, symbol, this, key, word, name, number, quoted}
use Rattle.nb_script.proofs.Laws.{Sound, one, IsWanted, take_sound}
use Rattle.nb_script.proofs.Complete.{Excuse, Halts, Reads, take_reads, take_stops}

-- ---- symbols by their codes

symbol_in : ℕ → Symbol
symbol_in n =
    if n == 0 then sym'.OpenBrace else (
    if n == 1 then sym'.CloseBrace else (
    if n == 2 then sym'.Open else (
    if n == 3 then sym'.Close else (
    if n == 4 then sym'.Comma else (
    if n == 5 then sym'.Semi else (
    if n == 6 then sym'.Colon else (
    if n == 7 then sym'.Dot else (
    if n == 8 then sym'.Assign else (
    if n == 9 then sym'.Equal else (
    if n == 10 then sym'.Unequal else (
    if n == 11 then sym'.Less else (
    if n == 12 then sym'.LessOrEqual else (
    if n == 13 then sym'.Greater else (
    if n == 14 then sym'.GreaterOrEqual else (
    if n == 15 then sym'.Plus else (
    if n == 16 then sym'.Join else (
    if n == 17 then sym'.Minus else (
    if n == 18 then sym'.Star else (
    if n == 19 then sym'.And else (
    if n == 20 then sym'.Or else (
    sym'.Not)))))))))))))))))))))

symbol_back : (s : Symbol) → symbol_in (symbol_code s) ≡ s
unfolding symbol_in
symbol_back sym'.OpenBrace = refl
symbol_back sym'.CloseBrace = refl
symbol_back sym'.Open = refl
symbol_back sym'.Close = refl
symbol_back sym'.Comma = refl
symbol_back sym'.Semi = refl
symbol_back sym'.Colon = refl
symbol_back sym'.Dot = refl
symbol_back sym'.Assign = refl
symbol_back sym'.Equal = refl
symbol_back sym'.Unequal = refl
symbol_back sym'.Less = refl
symbol_back sym'.LessOrEqual = refl
symbol_back sym'.Greater = refl
symbol_back sym'.GreaterOrEqual = refl
symbol_back sym'.Plus = refl
symbol_back sym'.Join = refl
symbol_back sym'.Minus = refl
symbol_back sym'.Star = refl
symbol_back sym'.And = refl
symbol_back sym'.Or = refl
symbol_back sym'.Not = refl

same_symbol : (s t : Symbol) → (symbol_code t == symbol_code s) ≡ true → t ≡ s
same_symbol s t e = sym (symbol_back t) ∙ ap symbol_in (eqb-true (symbol_code t) (symbol_code s) e) ∙ symbol_back s

pub itself_symbol : (s : Symbol) → (symbol_code s == symbol_code s) ≡ true
itself_symbol sym'.OpenBrace = refl
itself_symbol sym'.CloseBrace = refl
itself_symbol sym'.Open = refl
itself_symbol sym'.Close = refl
itself_symbol sym'.Comma = refl
itself_symbol sym'.Semi = refl
itself_symbol sym'.Colon = refl
itself_symbol sym'.Dot = refl
itself_symbol sym'.Assign = refl
itself_symbol sym'.Equal = refl
itself_symbol sym'.Unequal = refl
itself_symbol sym'.Less = refl
itself_symbol sym'.LessOrEqual = refl
itself_symbol sym'.Greater = refl
itself_symbol sym'.GreaterOrEqual = refl
itself_symbol sym'.Plus = refl
itself_symbol sym'.Join = refl
itself_symbol sym'.Minus = refl
itself_symbol sym'.Star = refl
itself_symbol sym'.And = refl
itself_symbol sym'.Or = refl
itself_symbol sym'.Not = refl

pub record IsPlaced (b : Bool) (p a : ℕ) : Type 0 where
  pub holds : b ≡ true
  pub same : p ≡ a

placed : (b : Bool) (p a : ℕ) → place_if b p ≡ Some a → IsPlaced b p a
placed true p a e = let both : Some p ≡ Some a = e in record { holds = refl; same = cc }
placed false p a e = cc

-- ---- what is wanted

symbol_content : (s : Symbol) (x : Content) (p a : ℕ) → place_if (is_symbol s x) p ≡ Some a → (Some (lexeme x p) ≡ Some (lexeme (c.Symbol s) a)) × Unit {0}
symbol_content s (c.Symbol t) p a e =
    let it = placed (symbol_code t == symbol_code s) p a e in
    (ap (λ t. Some (lexeme (c.Symbol t) p)) (same_symbol s t it.holds) ∙ ap (λ p. Some (lexeme (c.Symbol s) p)) it.same, tt)
symbol_content s _ p a e = cc

pub symbol_wanted : (s : Symbol) → IsWanted (want_symbol s) (λ p. lexeme (c.Symbol s) p) Always
symbol_wanted s None a e = cc
symbol_wanted s (Some t) a e = symbol_content s t.content t.at a e

word_content : (w : List ℕ) (x : Content) (p a : ℕ) → place_if (is_word w x) p ≡ Some a → (Some (lexeme x p) ≡ Some (lexeme (c.Word w) a)) × Unit {0}
word_content w (c.Word x) p a e =
    let it = placed (bytes_eq x w) p a e in
    (ap (λ t. Some (lexeme (c.Word t) p)) ((bytes_eq-Decides x w).0 it.holds) ∙ ap (λ p. Some (lexeme (c.Word w) p)) it.same, tt)
word_content w _ p a e = cc

pub this_wanted : (w : List ℕ) → IsWanted (want_this w) (λ p. lexeme (c.Word w) p) Always
this_wanted w None a e = cc
this_wanted w (Some t) a e = word_content w t.content t.at a e

any_content : (x : Content) (p : ℕ) (a : ℕ × List ℕ) → want_word (Some (lexeme x p)) ≡ Some a → (Some (lexeme x p) ≡ Some (lexeme (c.Word a.1) a.0)) × Unit {0}
any_content (c.Word x) p a e = let both : Some (p, x) ≡ Some a = e in let same : (p, x) ≡ a = cc in (ap (λ a. Some (lexeme (c.Word a.1) a.0)) same, tt)
any_content _ p a e = cc

pub word_wanted : IsWanted want_word (λ a. lexeme (c.Word a.1) a.0) Always
word_wanted None a e = cc
word_wanted (Some t) a e = any_content t.content t.at a e

name_key : (w : Option Keyword) (x : List ℕ) (p : ℕ) (a : ℕ × List ℕ) → keyword_of x ≡ w → unless_key w p x ≡ Some a → (Some (lexeme (c.Word x) p) ≡ Some (lexeme (c.Word a.1) a.0)) × IsName a.1
name_key None x p a e f = let both : Some (p, x) ≡ Some a = f in let same : (p, x) ≡ a = cc in (ap (λ a. Some (lexeme (c.Word a.1) a.0)) same, subst (λ a. IsName a.1) same e)
name_key (Some w) x p a e f = cc

name_content : (x : Content) (p : ℕ) (a : ℕ × List ℕ) → want_name (Some (lexeme x p)) ≡ Some a → (Some (lexeme x p) ≡ Some (lexeme (c.Word a.1) a.0)) × IsName a.1
name_content (c.Word x) p a e = name_key (keyword_of x) x p a refl e
name_content _ p a e = cc

pub name_wanted : IsWanted want_name (λ a. lexeme (c.Word a.1) a.0) (λ a. IsName a.1)
name_wanted None a e = cc
name_wanted (Some t) a e = name_content t.content t.at a e

number_content : (x : Content) (p : ℕ) (a : ℕ × ℤ) → want_number (Some (lexeme x p)) ≡ Some a → (Some (lexeme x p) ≡ Some (lexeme (c.Number a.1) a.0)) × Unit {0}
number_content (c.Number x) p a e = let both : Some (p, x) ≡ Some a = e in let same : (p, x) ≡ a = cc in (ap (λ a. Some (lexeme (c.Number a.1) a.0)) same, tt)
number_content _ p a e = cc

pub number_wanted : IsWanted want_number (λ a. lexeme (c.Number a.1) a.0) Always
number_wanted None a e = cc
number_wanted (Some t) a e = number_content t.content t.at a e

quoted_content : (x : Content) (p : ℕ) (a : ℕ × List ℕ) → want_quoted (Some (lexeme x p)) ≡ Some a → (Some (lexeme x p) ≡ Some (lexeme (c.Quoted a.1) a.0)) × Unit {0}
quoted_content (c.Quoted x) p a e = let both : Some (p, x) ≡ Some a = e in let same : (p, x) ≡ a = cc in (ap (λ a. Some (lexeme (c.Quoted a.1) a.0)) same, tt)
quoted_content _ p a e = cc

pub quoted_wanted : IsWanted want_quoted (λ a. lexeme (c.Quoted a.1) a.0) Always
quoted_wanted None a e = cc
quoted_wanted (Some t) a e = quoted_content t.content t.at a e

-- ---- what is taken

abbrev pub symbol_token : Symbol → ℕ → Lexeme
symbol_token s p = lexeme (c.Symbol s) p

abbrev pub word_token : List ℕ → ℕ → Lexeme
word_token w p = lexeme (c.Word w) p

abbrev pub text_token : ℕ × List ℕ → Lexeme
text_token a = lexeme (c.Word a.1) a.0

abbrev pub number_token : ℕ × ℤ → Lexeme
number_token a = lexeme (c.Number a.1) a.0

abbrev pub quoted_token : ℕ × List ℕ → Lexeme
quoted_token a = lexeme (c.Quoted a.1) a.0

pub past_symbol_sound : (past : Bool) (s : Symbol) → Sound (one (symbol_token s) past) Always [] (take past (want_symbol s))
past_symbol_sound past s = take_sound (want_symbol s) (symbol_token s) Always past (symbol_wanted s) 0 tt

pub past_word_sound : (past : Bool) (w : List ℕ) → Sound (one (word_token w) past) Always [] (take past (want_this w))
past_word_sound past w = take_sound (want_this w) (word_token w) Always past (this_wanted w) 0 tt

pub symbol_sound : (s : Symbol) → Sound (one (symbol_token s) false) Always [] (symbol s)
unfolding symbol
symbol_sound s = past_symbol_sound false s

pub this_sound : (w : List ℕ) → Sound (one (word_token w) false) Always [] (this w)
unfolding this
this_sound w = past_word_sound false w

pub key_sound : (w : Keyword) → Sound (one (word_token (keyword_text w)) false) Always [] (key w)
unfolding key
key_sound w = this_sound (keyword_text w)

pub word_sound : Sound (one text_token false) Always [] word
unfolding word
word_sound = take_sound want_word text_token Always false word_wanted (0, []) tt

pub name_sound : Sound (one text_token false) (λ a. IsName a.1) [] name
unfolding name keyword_of
name_sound = take_sound want_name text_token (λ a. IsName a.1) false name_wanted (0, []) refl

pub number_sound : Sound (one number_token false) Always [] number
unfolding number
number_sound = take_sound want_number number_token Always false number_wanted (0, pos 0) tt

pub quoted_sound : Sound (one quoted_token false) Always [] quoted
unfolding quoted
quoted_sound = take_sound want_quoted quoted_token Always false quoted_wanted (0, []) tt

-- ---- what stands there is taken

taken_symbol : (s : Symbol) (p : ℕ) → want_symbol s (Some (symbol_token s p)) ≡ Some p
taken_symbol s p = ap (λ b. place_if b p) (itself_symbol s)

taken_word : (w : List ℕ) (p : ℕ) → want_this w (Some (word_token w p)) ≡ Some p
taken_word w p = ap (λ b. place_if b p) ((bytes_eq-Decides w w).1 refl)

never : (E : Excuse) (k : ℕ) → false ≡ true → E TooDeep k
never E k e = absurd (let no : false ≡ true = e in cc)

pub past_symbol_reads : (E : Excuse) (past : Bool) (s : Symbol) (p : ℕ) (g : Source) (k : ℕ) → g k ≡ Some (symbol_token s p) → (past ≡ true → E TooDeep k) → Reads E (take past (want_symbol s)) g k p (suc k)
past_symbol_reads E past s p g k at x = take_reads (want_symbol s) (symbol_token s p) p at (taken_symbol s p) x

pub past_symbol_stops : (E : Excuse) (s : Symbol) (p : ℕ) (g : Source) (k : ℕ) → g k ≡ Some (symbol_token s p) → E TooDeep k → Halts E (take true (want_symbol s)) g k
past_symbol_stops E s p g k at x = take_stops E (want_symbol s) g k (symbol_token s p) p at (taken_symbol s p) x

pub past_word_reads : (E : Excuse) (past : Bool) (w : List ℕ) (p : ℕ) (g : Source) (k : ℕ) → g k ≡ Some (word_token w p) → (past ≡ true → E TooDeep k) → Reads E (take past (want_this w)) g k p (suc k)
past_word_reads E past w p g k at x = take_reads (want_this w) (word_token w p) p at (taken_word w p) x

pub past_word_stops : (E : Excuse) (w : List ℕ) (p : ℕ) (g : Source) (k : ℕ) → g k ≡ Some (word_token w p) → E TooDeep k → Halts E (take true (want_this w)) g k
past_word_stops E w p g k at x = take_stops E (want_this w) g k (word_token w p) p at (taken_word w p) x

pub symbol_reads : {E : Excuse} (s : Symbol) {p : ℕ} {g : Source} {k : ℕ} → g k ≡ Some (symbol_token s p) → Reads E (symbol s) g k p (suc k)
unfolding symbol
symbol_reads {E = E} s {p = p} {g = g} {k = k} at = past_symbol_reads E false s p g k at (never E k)

pub this_reads : {E : Excuse} (w : List ℕ) {p : ℕ} {g : Source} {k : ℕ} → g k ≡ Some (word_token w p) → Reads E (this w) g k p (suc k)
unfolding this
this_reads {E = E} w {p = p} {g = g} {k = k} at = past_word_reads E false w p g k at (never E k)

pub key_reads : {E : Excuse} (w : Keyword) {p : ℕ} {g : Source} {k : ℕ} → g k ≡ Some (word_token (keyword_text w) p) → Reads E (key w) g k p (suc k)
unfolding key
key_reads w at = this_reads (keyword_text w) at

pub word_reads : {E : Excuse} (a : ℕ × List ℕ) {g : Source} {k : ℕ} → g k ≡ Some (text_token a) → Reads E word g k a (suc k)
unfolding word
word_reads {E = E} a {k = k} at = take_reads want_word (text_token a) a at refl (never E k)

pub name_reads : {E : Excuse} (a : ℕ × List ℕ) {g : Source} {k : ℕ} → IsName a.1 → g k ≡ Some (text_token a) → Reads E name g k a (suc k)
unfolding name
name_reads {E = E} a {k = k} free at = take_reads want_name (text_token a) a at (ap (λ w. unless_key w a.0 a.1) free) (never E k)

pub number_reads : {E : Excuse} (a : ℕ × ℤ) {g : Source} {k : ℕ} → g k ≡ Some (number_token a) → Reads E number g k a (suc k)
unfolding number
number_reads {E = E} a {k = k} at = take_reads want_number (number_token a) a at refl (never E k)

pub quoted_reads : {E : Excuse} (a : ℕ × List ℕ) {g : Source} {k : ℕ} → g k ≡ Some (quoted_token a) → Reads E quoted g k a (suc k)
unfolding quoted
quoted_reads {E = E} a {k = k} at = take_reads want_quoted (quoted_token a) a at refl (never E k)
