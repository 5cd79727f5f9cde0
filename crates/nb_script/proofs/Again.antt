-- An expression with the places that its printed tokens have.
use Rattle.std.proofs.Common.{◌≡◌, ℕ, zero, suc, ◌+◌, ◌-◌, ◌≤◌, ◌<◌, ◌||◌, nat_le, Bool, true, false, List, [], ◌∷◌, ◌++◌, refl, ap, sym, subst, ◌∙◌, arith, append_assoc}
use Rattle.std.proofs.lemmas.List.{append-nil, map-append}
use Rattle.std.proofs.lemmas.Bool.{leb-true, leb-false}
use Rattle.nb_script.specs.declared.lexeme.Symbol.TheVariants as sym'
use Rattle.nb_script.specs.declared.lexeme.Content.{Content}
use Rattle.nb_script.specs.declared.lexeme.Content.TheVariants as c
use Rattle.nb_script.specs.declared.lexeme.Lexeme.{Lexeme}
use Rattle.nb_script.specs.declared.expr.Binary.{Binary}
use Rattle.nb_script.specs.declared.expr.Binary.TheVariants as binary
use Rattle.nb_script.specs.Grammar.{Term, Number, Quoted, Constant, Field, Name, Call, Paren, Prefix, Infix}
use Rattle.nb_script.specs.Spelling.{Mark, marked, lexeme, lexemes, is_zero, one_less, operators, spelling, binary_symbol, unary_symbol, function_key, level, left_level, IsWithin, Every}
use Rattle.nb_script.specs.Words.{keyword_text}
use Rattle.nb_script.specs.Printing.{expr, open_unless, close_unless}
use Rattle.nb_script.specs.Bare as bare
use Rattle.nb_script.specs.Respelling.{placed}
use Rattle.nb_script.proofs.LexBack.{IsPrintable}

-- ---- tokens with their places, by their numbers

-- the number behind that of the last token
abbrev pub past : ℕ → List Content → ℕ
past k [] = k
past k (x ∷ xs) = past (suc k) xs

pub placed_append : (f : ℕ → ℕ) (k : ℕ) (xs ys : List Content) → placed f k (xs ++ ys) ≡ placed f k xs ++ placed f (past k xs) ys
placed_append f k [] ys = refl
placed_append f k (x ∷ xs) ys = ap (λ zs. lexeme x (f k) ∷ zs) (placed_append f (suc k) xs ys)

-- The tokens are these, from a number on.
abbrev pub Shown : (ℕ → ℕ) → ℕ → List Mark → List Content → Type 0
Shown f k ms xs = lexemes ms ≡ placed f k xs

-- a token in front
pub shown_more : (f : ℕ → ℕ) (k : ℕ) (x : Content) {us vs : List Lexeme} → us ≡ vs → lexeme x (f k) ∷ us ≡ lexeme x (f k) ∷ vs
shown_more f k x it = ap (λ zs. lexeme x (f k) ∷ zs) it

pub shown_join : (f : ℕ → ℕ) (k : ℕ) (ms ns : List Mark) (xs ys : List Content) → Shown f k ms xs → Shown f (past k xs) ns ys → Shown f k (ms ++ ns) (xs ++ ys)
shown_join f k ms ns xs ys it other = map-append (λ m. m.lexeme) ms ns ∙ ap (λ zs. zs ++ lexemes ns) it ∙ ap (λ zs. placed f k xs ++ zs) other ∙ sym (placed_append f k xs ys)

-- ---- expressions

abbrev pub infix_at : (ℕ → ℕ) → ℕ → (ℕ → Term) → Binary → (ℕ → Term) → List Content → Term
infix_at f k a op b xs = Infix (a k) (f (past k xs)) op (b (suc (past k xs)))

abbrev pub unless : Bool → (ℕ → ℕ) → ℕ → (ℕ → Term) → Binary → (ℕ → Term) → List Content → List Content → Term
unless true f k a op b xs ys = infix_at f k a op b xs
unless false f k a op b xs ys = Paren (f k) (infix_at f (suc k) a op b xs) (f (past (suc k) (xs ++ c.Symbol (binary_symbol op) ∷ ys)))

-- the expression that is read, where the tokens have the numbers from one on
abbrev pub again : (ℕ → ℕ) → ℕ → ℕ → Term → Term
again f k n (Number p v) = Number (f k) v
again f k n (Quoted p t) = Quoted (f k) t
again f k n (Constant p w) = Constant (f k) w
again f k n (Field p h d q x) = Field (f k) h (f (suc k)) (f (suc (suc k))) x
again f k n (Name p x) = Name (f k) x
again f k n (Call p w o e q) = Call (f k) w (f (suc k)) (again f (suc (suc k)) 5 e) (f (past (suc (suc k)) (expr 5 e)))
again f k n (Paren o e q) = again f k n e
again f k n (Prefix p op e) = Prefix (f k) op (again f (suc k) 0 e)
again f k n (Infix a p op b) = unless (nat_le (level op) n) f k (λ j. again f j (left_level op) a) op (λ j. again f j (level op - 1) b) (expr (left_level op) a) (expr (level op - 1) b)

-- ---- Its tokens are those that are printed.

abbrev Prints : (ℕ → ℕ) → (ℕ → Term) → List Content → Type 0
Prints f e xs = (j room left : ℕ) → Shown f j (spelling room left (e j)) xs

infix_shown : (f : ℕ → ℕ) (k room left : ℕ) (a : ℕ → Term) (op : Binary) (b : ℕ → Term) (xs ys : List Content) → Prints f a xs → Prints f b ys
    → Shown f k (spelling room left (infix_at f k a op b xs)) (xs ++ c.Symbol (binary_symbol op) ∷ ys)
infix_shown f k room left a op b xs ys it other =
    shown_join f k _ _ xs (c.Symbol (binary_symbol op) ∷ ys) (it k room left) (shown_more f (past k xs) (c.Symbol (binary_symbol op)) (other (suc (past k xs)) room (left - operators (a k) - 1)))

unless_shown : (bare : Bool) (f : ℕ → ℕ) (k room left : ℕ) (a : ℕ → Term) (op : Binary) (b : ℕ → Term) (xs ys : List Content) → Prints f a xs → Prints f b ys
    → Shown f k (spelling room left (unless bare f k a op b xs ys)) (open_unless bare ++ (xs ++ c.Symbol (binary_symbol op) ∷ (ys ++ close_unless bare)))
unless_shown true f k room left a op b xs ys it other = infix_shown f k room left a op b xs ys it other ∙ ap (λ zs. placed f k (xs ++ c.Symbol (binary_symbol op) ∷ zs)) (sym (append-nil ys))
unless_shown false f k room left a op b xs ys it other =
    shown_more f k (c.Symbol sym'.Open)
    (shown_join f (suc k) _ _ (xs ++ c.Symbol (binary_symbol op) ∷ ys) (c.Symbol sym'.Close ∷ []) (infix_shown f (suc k) (one_less room) left a op b xs ys it other) refl
    ∙ ap (placed f (suc k)) (append_assoc xs (c.Symbol (binary_symbol op) ∷ ys) (c.Symbol sym'.Close ∷ [])))

pub again_shown : (f : ℕ → ℕ) (k n room left : ℕ) (e : Term) → Shown f k (spelling room left (again f k n e)) (expr n e)
again_shown f k n room left (Number p v) = refl
again_shown f k n room left (Quoted p t) = refl
again_shown f k n room left (Constant p w) = refl
again_shown f k n room left (Field p h d q x) = refl
again_shown f k n room left (Name p x) = refl
again_shown f k n room left (Call p w o e q) =
    shown_more f k (c.Word (keyword_text (function_key w))) (shown_more f (suc k) (c.Symbol sym'.Open) (shown_join f (suc (suc k)) _ _ (expr 5 e) (c.Symbol sym'.Close ∷ []) (again_shown f (suc (suc k)) 5 (one_less room) left e) refl))
again_shown f k n room left (Paren o e q) = again_shown f k n room left e
again_shown f k n room left (Prefix p op e) = shown_more f k (c.Symbol (unary_symbol op)) (again_shown f (suc k) 0 (one_less room) (left - 1) e)
again_shown f k n room left (Infix a p op b) =
    unless_shown (nat_le (level op) n) f k room left _ op _ (expr (left_level op) a) (expr (level op - 1) b)
    (λ j room left. again_shown f j (left_level op) room left a) (λ j room left. again_shown f j (level op - 1) room left b)

-- ---- It may stand there.

level_most : (op : Binary) → level op ≤ 5
level_most binary.Times = omega arith
level_most binary.Plus = omega arith
level_most binary.Minus = omega arith
level_most binary.Join = omega arith
level_most binary.Equal = omega arith
level_most binary.Unequal = omega arith
level_most binary.Less = omega arith
level_most binary.LessOrEqual = omega arith
level_most binary.Greater = omega arith
level_most binary.GreaterOrEqual = omega arith
level_most binary.And = omega arith
level_most binary.Or = omega arith

unless_within : (bare : Bool) (f : ℕ → ℕ) (k n : ℕ) (a : ℕ → Term) (op : Binary) (b : ℕ → Term) (xs ys : List Content) → nat_le (level op) n ≡ bare → ((j : ℕ) → IsWithin (left_level op) (a j)) → ((j : ℕ) → IsWithin (level op - 1) (b j))
    → IsWithin n (unless bare f k a op b xs ys)
unless_within true f k n a op b xs ys e left right = (leb-true (level op) n e, left k, right (suc (past k xs)))
unless_within false f k n a op b xs ys e left right = (level_most op, left (suc k), right (suc (past (suc k) xs)))

pub again_within : (f : ℕ → ℕ) (k n m : ℕ) (e : Term) → IsWithin m e → IsWithin n (again f k n e)
again_within f k n m (Number p v) it = tt
again_within f k n m (Quoted p t) it = tt
again_within f k n m (Constant p w) it = tt
again_within f k n m (Field p h d q x) it = tt
again_within f k n m (Name p x) it = it
again_within f k n m (Call p w o e q) it = again_within f (suc (suc k)) 5 5 e it
again_within f k n m (Paren o e q) it = again_within f k n 5 e it
again_within f k n m (Prefix p op e) it = again_within f (suc k) 0 0 e it
again_within f k n m (Infix a p op b) it =
    unless_within (nat_le (level op) n) f k n _ op _ (expr (left_level op) a) (expr (level op - 1) b) refl
    (λ j. again_within f j (left_level op) (left_level op) a it.1) (λ j. again_within f j (level op - 1) (level op - 1) b it.2)

-- ---- It is the same but for places.

unless_bare : (plain : Bool) (f : ℕ → ℕ) (k : ℕ) (a : ℕ → Term) (op : Binary) (b : ℕ → Term) (xs ys : List Content) (left right : Term) → ((j : ℕ) → bare.term (a j) ≡ left) → ((j : ℕ) → bare.term (b j) ≡ right)
    → bare.term (unless plain f k a op b xs ys) ≡ Infix left 0 op right
unless_bare true f k a op b xs ys left right it other = ap (λ t. Infix t 0 op (bare.term (b (suc (past k xs))))) (it k) ∙ ap (λ t. Infix left 0 op t) (other (suc (past k xs)))
unless_bare false f k a op b xs ys left right it other = ap (λ t. Infix t 0 op (bare.term (b (suc (past (suc k) xs))))) (it (suc k)) ∙ ap (λ t. Infix left 0 op t) (other (suc (past (suc k) xs)))

pub again_bare : (f : ℕ → ℕ) (k n : ℕ) (e : Term) → bare.term (again f k n e) ≡ bare.term e
again_bare f k n (Number p v) = refl
again_bare f k n (Quoted p t) = refl
again_bare f k n (Constant p w) = refl
again_bare f k n (Field p h d q x) = refl
again_bare f k n (Name p x) = refl
again_bare f k n (Call p w o e q) = ap (λ t. Call 0 w 0 t 0) (again_bare f (suc (suc k)) 5 e)
again_bare f k n (Paren o e q) = again_bare f k n e
again_bare f k n (Prefix p op e) = ap (λ t. Prefix 0 op t) (again_bare f (suc k) 0 e)
again_bare f k n (Infix a p op b) =
    unless_bare (nat_le (level op) n) f k _ op _ (expr (left_level op) a) (expr (level op - 1) b) (bare.term a) (bare.term b) (λ j. again_bare f j (left_level op) a) (λ j. again_bare f j (level op - 1) b)

-- ---- It keeps the limits.

unless_operators : (bare : Bool) (f : ℕ → ℕ) (k : ℕ) (a : ℕ → Term) (op : Binary) (b : ℕ → Term) (xs ys : List Content) (m n : ℕ) → ((j : ℕ) → operators (a j) ≡ m) → ((j : ℕ) → operators (b j) ≡ n)
    → operators (unless bare f k a op b xs ys) ≡ suc (m + n)
unless_operators true f k a op b xs ys m n it other = ap (λ i. suc (i + operators (b (suc (past k xs))))) (it k) ∙ ap (λ i. suc (m + i)) (other (suc (past k xs)))
unless_operators false f k a op b xs ys m n it other = ap (λ i. suc (i + operators (b (suc (past (suc k) xs))))) (it (suc k)) ∙ ap (λ i. suc (m + i)) (other (suc (past (suc k) xs)))

pub again_operators : (f : ℕ → ℕ) (k n : ℕ) (e : Term) → operators (again f k n e) ≡ operators e
again_operators f k n (Number p v) = refl
again_operators f k n (Quoted p t) = refl
again_operators f k n (Constant p w) = refl
again_operators f k n (Field p h d q x) = refl
again_operators f k n (Name p x) = refl
again_operators f k n (Call p w o e q) = again_operators f (suc (suc k)) 5 e
again_operators f k n (Paren o e q) = again_operators f k n e
again_operators f k n (Prefix p op e) = ap suc (again_operators f (suc k) 0 e)
again_operators f k n (Infix a p op b) =
    unless_operators (nat_le (level op) n) f k _ op _ (expr (left_level op) a) (expr (level op - 1) b) (operators a) (operators b) (λ j. again_operators f j (left_level op) a) (λ j. again_operators f j (level op - 1) b)

-- It isn't past the limits, and can be printed.
abbrev pub IsKept : Mark → Type 0
IsKept m = (m.past ≡ false) × IsPrintable m.lexeme.content

abbrev pub Kept : List Mark → Type 0
Kept ms = Every IsKept ms

pub kept_join : (ms ns : List Mark) → Kept ms → Kept ns → Kept (ms ++ ns)
kept_join [] ns it other = other
kept_join (m ∷ ms) ns it other = (it.0, kept_join ms ns it.1 other)

pub kept_front : (ms ns : List Mark) → Kept (ms ++ ns) → Kept ms
kept_front [] ns it = tt
kept_front (m ∷ ms) ns it = (it.0, kept_front ms ns it.1)

pub kept_back : (ms ns : List Mark) → Kept (ms ++ ns) → Kept ns
kept_back [] ns it = it
kept_back (m ∷ ms) ns it = kept_back ms ns it.1

pub has_room : (room more : ℕ) → is_zero room ≡ false → room ≤ more → is_zero more ≡ false
has_room zero more e le = cc
has_room (suc room) zero e le = absurd (omega arith)
has_room (suc room) (suc more) e le = refl

pub less_room : (room more : ℕ) → room ≤ more → one_less room ≤ one_less more
less_room zero more le = omega arith
less_room (suc room) zero le = absurd (omega arith)
less_room (suc room) (suc more) le = omega arith

either_kept : (a b c : Bool) → (a || b) ≡ false → (a ≡ false → c ≡ false) → (c || b) ≡ false
either_kept true b c e f = cc
either_kept false b c e f = ap (λ x. x || b) (f refl) ∙ e

-- What binds up to the first level may stand where the second one may, or there is room for parentheses.
pub data HasRoom (m n room more : ℕ) : Type 0 where
  Bare : m ≤ n → HasRoom m n room more
  Deep : room < more → HasRoom m n room more

infix_kept : (f : ℕ → ℕ) (k more left i : ℕ) (a : ℕ → Term) (op : Binary) (b : ℕ → Term) (xs : List Content) → ((j : ℕ) → operators (a j) ≡ i) → ((j : ℕ) → Kept (spelling more left (a j))) → is_zero (left - i) ≡ false → ((j : ℕ) → Kept (spelling more (left - i - 1) (b j)))
    → Kept (spelling more left (infix_at f k a op b xs))
infix_kept f k more left i a op b xs count first few second =
    kept_join (spelling more left (a k)) _ (first k)
    ((subst (λ i. is_zero (left - i) ≡ false) (sym (count k)) few, tt), subst (λ i. Kept (spelling more (left - i - 1) (b (suc (past k xs))))) (sym (count k)) (second (suc (past k xs))))

unless_kept : (bare : Bool) (f : ℕ → ℕ) (k n m room more left i : ℕ) (a : ℕ → Term) (op : Binary) (b : ℕ → Term) (xs ys : List Content) → nat_le (level op) n ≡ bare → level op ≤ m → HasRoom m n room more → room ≤ more → ((j : ℕ) → operators (a j) ≡ i)
    → ((j more : ℕ) → room ≤ more → Kept (spelling more left (a j))) → is_zero (left - i) ≡ false → ((j more : ℕ) → room ≤ more → Kept (spelling more (left - i - 1) (b j)))
    → Kept (spelling more left (unless bare f k a op b xs ys))
unless_kept true f k n m room more left i a op b xs ys e low has le count first few second = infix_kept f k more left i a op b xs count (λ j. first j more le) few (λ j. second j more le)
unless_kept false f k n m room more left i a op b xs ys e low (Bare fits) le count first few second = (let above : n < level op = leb-false (level op) n e in absurd (omega arith))
unless_kept false f k n m room zero left i a op b xs ys e low (Deep lt) le count first few second = absurd (omega arith)
unless_kept false f k n m room (suc more) left i a op b xs ys e low (Deep lt) le count first few second =
    ((refl, tt), kept_join (spelling more left (infix_at f (suc k) a op b xs)) _ (infix_kept f (suc k) more left i a op b xs count (λ j. first j more (omega arith)) few (λ j. second j more (omega arith))) ((refl, tt), tt))

pub again_kept : (f : ℕ → ℕ) (k n m room more left : ℕ) (e : Term) → Kept (spelling room left e) → IsWithin m e → room ≤ more → HasRoom m n room more → Kept (spelling more left (again f k n e))
again_kept f k n m room more left (Number p v) it fits le has = it
again_kept f k n m room more left (Quoted p t) it fits le has = it
again_kept f k n m room more left (Constant p w) it fits le has = it
again_kept f k n m room more left (Field p h d q x) it fits le has = it
again_kept f k n m room more left (Name p x) it fits le has = it
again_kept f k n m room more left (Call p w o e q) it fits le has =
    (it.0, ((has_room room more it.1.0.0 le, tt), kept_join _ _ (again_kept f (suc (suc k)) 5 5 (one_less room) (one_less more) left e (kept_front (spelling (one_less room) left e) _ it.1.1) fits (less_room room more le) (Bare (omega arith))) ((refl, tt), tt)))
again_kept f k n m zero more left (Paren o e q) it fits le has = (let no : true ≡ false = it.0.0 in cc)
again_kept f k n m (suc room) more left (Paren o e q) it fits le has = again_kept f k n 5 room more left e (kept_front (spelling room left e) _ it.1) fits (omega arith) (Deep (omega arith))
again_kept f k n m room more left (Prefix p op e) it fits le has =
    ((either_kept (is_zero room) (is_zero left) (is_zero more) it.0.0 (λ z. has_room room more z le), tt), again_kept f (suc k) 0 0 (one_less room) (one_less more) (left - 1) e it.1 fits (less_room room more le) (Bare (omega arith)))
again_kept f k n m room more left (Infix a p op b) it fits le has =
    let front : Kept (spelling room left a) = kept_front (spelling room left a) _ it in
    let back : IsKept (marked (is_zero (left - operators a)) (c.Symbol (binary_symbol op)) p) × Kept (spelling room (left - operators a - 1) b) = kept_back (spelling room left a) _ it in
    unless_kept (nat_le (level op) n) f k n m room more left (operators a) _ op _ (expr (left_level op) a) (expr (level op - 1) b) refl fits.0 has le (λ j. again_operators f j (left_level op) a)
    (λ j more le. again_kept f j (left_level op) (left_level op) room more left a front fits.1 le (Bare (omega arith))) back.0.0
    (λ j more le. again_kept f j (level op - 1) (level op - 1) room more (left - operators a - 1) b back.1 fits.2 le (Bare (omega arith)))
