-- What is spelled is read, or a fault comes that is excused: closed under the steps that parsers take.
use Rattle.std.proofs.Common.{◌≡◌, ℕ, zero, suc, ◌+◌, ◌≤◌, ◌<◌, Option, Some, Ok, Err, Bool, true, false, List, [], ◌∷◌, ◌++◌, refl, ap, sym, subst, ◌∙◌, arith}
use Rattle.nb_script.specs.declared.lexeme.Lexeme.{Lexeme}
use Rattle.nb_script.specs.declared.fault.Fault.{Fault}
use Rattle.nb_script.specs.declared.fault.Fault.TheVariants.{TooDeep, Expected}
use Rattle.nb_script.specs.Spelling.{Mark, each, MayPrecede, Strung}
use Rattle.nb_script.specs.Reading.{Source, Outcome, Parser, ret, and_then, ◌>>=◌, look, taken, take, after_one, many_by, many}

-- which faults are excused, and at which tokens
abbrev pub Excuse : Type 1
Excuse = Fault → ℕ → Type 0

-- these tokens stand from k to before m, and at those past the limits a fault is excused
abbrev pub Meets : Excuse → Source → ℕ → List Mark → ℕ → Type 0
Meets E g k [] m = k ≡ m
Meets E g k (x ∷ xs) m = (g k ≡ Some x.lexeme) × (x.past ≡ true → E TooDeep k) × Meets E g (suc k) xs m

-- the parts of a row of tokens
pub record Split (E : Excuse) (g : Source) (k : ℕ) (xs ys : List Mark) (n : ℕ) : Type 0 where
  pub mid : ℕ
  pub front : Meets E g k xs mid
  pub back : Meets E g mid ys n

pub split : (E : Excuse) (g : Source) (k : ℕ) (xs ys : List Mark) (n : ℕ) → Meets E g k (xs ++ ys) n → Split E g k xs ys n
split E g k [] ys n s = record { mid = k; front = refl; back = s }
split E g k (x ∷ xs) ys n s = let rest = split E g (suc k) xs ys n s.2 in record { mid = rest.mid; front = (s.0, s.1, rest.front); back = rest.back }

pub meets_on : (E : Excuse) (g : Source) (k : ℕ) (xs : List Mark) (m : ℕ) → Meets E g k xs m → k ≤ m
meets_on E g k [] m s = omega arith
meets_on E g k (x ∷ xs) m s = let a : suc k ≤ m = meets_on E g (suc k) xs m s.2 in omega arith

pub record Excused {A : Type 0} (E : Excuse) (r : Outcome A) : Type 0 where
  pub fault : Fault
  pub at : ℕ
  pub is : r ≡ Err (fault, at)
  pub excuse : E fault at

pub data Reads {A : Type 0} (E : Excuse) (p : Parser A) (g : Source) (k : ℕ) (a : A) (m : ℕ) : Type 0 where
  Gets : p g k ≡ Ok (a, m) → Reads E p g k a m
  Stops : Excused E (p g k) → Reads E p g k a m

-- ---- the steps

pub ret_reads : {A : Type 0} (E : Excuse) (a : A) (g : Source) (k m : ℕ) → k ≡ m → Reads E (ret a) g k a m
ret_reads E a g k m e = Gets (ap (λ i. Ok (a, i)) e)

same_excused : {A : Type 0} (E : Excuse) (r r' : Outcome A) → r ≡ r' → Excused E r' → Excused E r
same_excused E r r' e x = record { fault = x.fault; at = x.at; is = e ∙ x.is; excuse = x.excuse }

-- a parser that has the same outcome
pub same_reads : {A : Type 0} (E : Excuse) (p q : Parser A) (g : Source) (k n : ℕ) (a : A) (m : ℕ) → p g k ≡ q g n → Reads E q g n a m → Reads E p g k a m
same_reads E p q g k n a m e h = elim h [ Gets f ↦ Gets (e ∙ f) | Stops x ↦ Stops (same_excused E (p g k) (q g n) e x) ]

bind_excused : {A R : Type 0} (E : Excuse) (p : Parser A) (rest : A → Parser R) (g : Source) (k : ℕ) → Excused E (p g k) → Excused E ((p >>= rest) g k)
bind_excused E p rest g k x = record { fault = x.fault; at = x.at; is = ap (λ r. and_then r (λ a m. rest a g m)) x.is; excuse = x.excuse }

-- a part, and what stands behind it
pub bind_reads : {A R : Type 0} {E : Excuse} {p : Parser A} (rest : A → Parser R) {g : Source} {k : ℕ} {a : A} {n : ℕ} {r : R} {m : ℕ} → Reads E p g k a n → Reads E (rest a) g n r m → Reads E (p >>= rest) g k r m
bind_reads {E = E} {p = p} rest {g = g} {k = k} {a = a} {n = n} {r = r} {m = m} first h =
    elim first [ Gets e ↦ same_reads E (p >>= rest) (rest a) g k n r m (ap (λ r. and_then r (λ a m. rest a g m)) e) h | Stops x ↦ Stops (bind_excused E p rest g k x) ]

-- a parser that stops for an excused fault
pub record Halts {A : Type 0} (E : Excuse) (p : Parser A) (g : Source) (k : ℕ) : Type 0 where
  pub excused : Excused E (p g k)

-- what is too deep needs no rest
pub bind_stops : {A R : Type 0} {E : Excuse} {p : Parser A} (rest : A → Parser R) {g : Source} {k : ℕ} {r : R} {m : ℕ} → Halts E p g k → Reads E (p >>= rest) g k r m
bind_stops {E = E} {p = p} rest {g = g} {k = k} x = Stops (bind_excused E p rest g k x.excused)

pub look_reads : {A : Type 0} {E : Excuse} (f : Option Lexeme → Parser A) {g : Source} {k : ℕ} {a : A} {m : ℕ} (o : Option Lexeme) → g k ≡ o → Reads E (f o) g k a m → Reads E (look f) g k a m
look_reads {E = E} f {g = g} {k = k} {a = a} {m = m} o at h = same_reads E (look f) (f o) g k k a m (ap (λ o. f o g k) at) h

taken_reads : {A : Type 0} (E : Excuse) (past : Bool) (a : A) (g : Source) (k : ℕ) → (past ≡ true → E TooDeep k) → Reads E (taken past (Some a)) g k a (suc k)
taken_reads E true a g k x = Stops (record { fault = TooDeep; at = k; is = refl; excuse = x refl })
taken_reads E false a g k x = Gets refl

pub take_reads : {A : Type 0} {E : Excuse} {past : Bool} (want : Option Lexeme → Option A) {g : Source} {k : ℕ} (t : Lexeme) (a : A) → g k ≡ Some t → want (Some t) ≡ Some a → (past ≡ true → E TooDeep k) → Reads E (take past want) g k a (suc k)
unfolding take
take_reads {E = E} {past = past} want {g = g} {k = k} t a at is x = same_reads E (take past want) (taken past (Some a)) g k k a (suc k) (ap (λ o. taken past o g k) (ap want at ∙ is)) (taken_reads E past a g k x)

pub take_stops : {A : Type 0} (E : Excuse) (want : Option Lexeme → Option A) (g : Source) (k : ℕ) (t : Lexeme) (a : A) → g k ≡ Some t → want (Some t) ≡ Some a → E TooDeep k → Halts E (take true want) g k
unfolding take
take_stops E want g k t a at is x = record { excused = record { fault = TooDeep; at = k; is = ap (λ o. taken true o g k) (ap want at ∙ is); excuse = x } }

-- What is spelled is read, where what follows may follow.
abbrev pub Complete : {A : Type 0} → Excuse → (A → List Mark) → (A → Type 0) → (A → Option Lexeme → Type 0) → Parser A → Type 0
Complete E spell Fits Follow p = (a : _) → Fits a → (g : Source) (k m : ℕ) → Meets E g k (spell a) m → Follow a (g m) → Reads E p g k a m

-- ---- lists

-- It begins with a token at which the list doesn't stop.
pub record Opens (stop : Option Lexeme → Bool) (xs : List Mark) : Type 0 where
  pub first : Mark
  pub others : List Mark
  pub are : xs ≡ first ∷ others
  pub goes : stop (Some first.lexeme) ≡ false

-- a list's elements: each opens, and may be followed by another or by the end
pub record IsRow {A : Type 0} (spell : A → List Mark) (Fits : A → Type 0) (Follow : A → Option Lexeme → Type 0) (stop : Option Lexeme → Bool) (more : A → Bool) : Type 0 where
  pub opens : (x : A) → Fits x → Opens stop (spell x)
  pub between : (x y : A) → Fits x → Fits y → more x ≡ true → (t : Mark) (ts : List Mark) → spell y ≡ t ∷ ts → Follow x (Some t.lexeme)
  pub ending : (x : A) → Fits x → (o : Option Lexeme) → stop o ≡ true → Follow x o

first_meets : (E : Excuse) (g : Source) (k : ℕ) (t : Mark) (xs ts ys : List Mark) (m : ℕ) → xs ≡ t ∷ ts → Meets E g k (xs ++ ys) m → g k ≡ Some t.lexeme
first_meets E g k t xs ts ys m e s = (let here : Meets E g k ((t ∷ ts) ++ ys) m = subst (λ xs. Meets E g k (xs ++ ys) m) e s in here.0)

some_pass : (E : Excuse) (g : Source) (k : ℕ) (t : Mark) (xs ts : List Mark) (m : ℕ) → xs ≡ t ∷ ts → Meets E g k xs m → k < m
some_pass E g k t xs ts m e s = (let here : Meets E g k (t ∷ ts) m = subst (λ xs. Meets E g k xs m) e s in let a : suc k ≤ m = meets_on E g (suc k) ts m here.2 in omega arith)

-- what follows an element of a row
follows : {A : Type 0} (E : Excuse) (spell : A → List Mark) (Fits : A → Type 0) (Follow : A → Option Lexeme → Type 0) (stop : Option Lexeme → Bool) (more : A → Bool) → IsRow spell Fits Follow stop more
    → (x : A) (xs : List A) → Fits x → MayPrecede (more x) xs → Strung more Fits xs → (g : Source) (k m : ℕ) → Meets E g k (each spell xs) m → stop (g m) ≡ true → (b : Bool) → more x ≡ b → Follow x (g k)
follows E spell Fits Follow stop more row x [] fits may all g k m s stops b goes = subst (λ i. Follow x (g i)) (sym s) (row.ending x fits (g m) stops)
follows {A = A} E spell Fits Follow stop more row x (y ∷ ys) fits may all g k m s stops false goes = let no : MayPrecede false (y ∷ ys) = subst (λ b. MayPrecede b (y ∷ ys)) goes may in absurd no
follows E spell Fits Follow stop more row x (y ∷ ys) fits may all g k m s stops true goes =
    let o = row.opens y all.0 in
    subst (λ q. Follow x q) (sym (first_meets E g k o.first (spell y) o.others (each spell ys) m o.are s)) (row.between x y fits all.0 goes o.first o.others o.are)

-- the steps of a row: where it stops, and where it goes on
many_ends : {A : Type 0} (E : Excuse) (n : ℕ) (stop : Option Lexeme → Bool) (more : A → Bool) (p : Parser A) (lines : ℕ) (g : Source) (k : ℕ) → ((j : ℕ) → lines ≤ j → E Expected j) → lines ≤ n + k → stop (g k) ≡ true → Reads E (many n stop more p) g k [] k
unfolding many
many_ends E zero stop more p lines g k far le stops = Stops (record { fault = Expected; at = k; is = refl; excuse = far k (omega arith) })
many_ends E (suc n) stop more p lines g k far le stops = Gets (ap (λ b. many_by more p (many n stop more p) b g k) stops)

after_reads : {A : Type 0} (E : Excuse) (x : A) (xs : List A) (b : Bool) → MayPrecede b xs → (others : Parser (List A)) (g : Source) (k m : ℕ) → Reads E others g k xs m → (xs ≡ [] → k ≡ m) → Reads E (after_one b x others) g k (x ∷ xs) m
after_reads E x xs true may others g k m h none = bind_reads _ h (Gets refl)
after_reads E x [] false may others g k m h none = Gets (ap (λ i. Ok (x ∷ [], i)) (none refl))
after_reads E x (y ∷ ys) false may others g k m h none = absurd may

many_goes : {A : Type 0} (E : Excuse) (n : ℕ) (stop : Option Lexeme → Bool) (more : A → Bool) (p : Parser A) (lines : ℕ) (g : Source) (k j m : ℕ) (x : A) (xs : List A)
    → ((j : ℕ) → lines ≤ j → E Expected j) → lines ≤ n + k → stop (g k) ≡ false → Reads E p g k x j → k < j → MayPrecede (more x) xs
    → ((n' : ℕ) → lines ≤ n' + j → Reads E (many n' stop more p) g j xs m) → (xs ≡ [] → j ≡ m) → Reads E (many n stop more p) g k (x ∷ xs) m
unfolding many
many_goes E zero stop more p lines g k j m x xs far le goes first lt may others none = Stops (record { fault = Expected; at = k; is = refl; excuse = far k (omega arith) })
many_goes E (suc n) stop more p lines g k j m x xs far le goes first lt may others none =
    let step : Reads E (p >>= λ x. after_one (more x) x (many n stop more p)) g k (x ∷ xs) m =
    bind_reads (λ x. after_one (more x) x (many n stop more p)) first (after_reads E x xs (more x) may (many n stop more p) g j m (others n (omega arith)) none) in
    same_reads E (many (suc n) stop more p) (p >>= λ x. after_one (more x) x (many n stop more p)) g k k (x ∷ xs) m (ap (λ b. many_by more p (many n stop more p) b g k) goes) step

no_more : {A : Type 0} (E : Excuse) (spell : A → List Mark) (g : Source) (k m : ℕ) (xs : List A) → Meets E g k (each spell xs) m → xs ≡ [] → k ≡ m
no_more E spell g k m [] s e = s
no_more E spell g k m (x ∷ xs) s e = cc

pub many_complete : {A : Type 0} {spell : A → List Mark} {Fits : A → Type 0} {Follow : A → Option Lexeme → Type 0} {p : Parser A} (E : Excuse) (stop : Option Lexeme → Bool) (more : A → Bool) (lines : ℕ) → IsRow spell Fits Follow stop more
    → Complete E spell Fits Follow p → ((j : ℕ) → lines ≤ j → E Expected j)
    → (xs : List A) → Strung more Fits xs → (g : Source) (k m : ℕ) → Meets E g k (each spell xs) m → stop (g m) ≡ true → (n : ℕ) → lines ≤ n + k → Reads E (many n stop more p) g k xs m
many_complete {p = p} E stop more lines row complete far [] all g k m s stops n le = subst (λ i. Reads E (many n stop more p) g k [] i) s (many_ends E n stop more p lines g k far le (subst (λ i. stop (g i) ≡ true) (sym s) stops))
many_complete {spell = spell} {Fits = Fits} {Follow = Follow} {p = p} E stop more lines row complete far (x ∷ xs) all g k m s stops n le =
    let parts = split E g k (spell x) (each spell xs) m s in
    let o = row.opens x all.0 in
    let lt : k < parts.mid = some_pass E g k o.first (spell x) o.others parts.mid o.are parts.front in
    let goes : stop (g k) ≡ false = ap stop (first_meets E g k o.first (spell x) o.others (each spell xs) m o.are s) ∙ o.goes in
    let first : Reads E p g k x parts.mid = complete x all.0 g k parts.mid parts.front (follows E spell Fits Follow stop more row x xs all.0 all.1 all.2 g parts.mid m parts.back stops (more x) refl) in
    many_goes E n stop more p lines g k parts.mid m x xs far le goes first lt all.1
    (λ n' le'. many_complete {spell = spell} {Fits = Fits} {Follow = Follow} E stop more lines row complete far xs all.2 g parts.mid m parts.back stops n' le')
    (no_more E spell g parts.mid m xs parts.back)
