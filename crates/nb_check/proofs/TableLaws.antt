-- Tables that are built of lists, name by name.
use Rattle.std.proofs.Common.{◌≡◌, ℕ, zero, suc, ◌≤◌, List, [], ◌∷◌, ◌++◌, length, drop, Bool, true, false, not, ◌||◌, cond, Option, Some, None, is_some, refl, sym, ap, ◌∙◌, arith, append-nil, true≢false}
use Rattle.std.specs.FinMap as map
use Rattle.std.specs.FinMap.{get-insert, get-empty}
use Rattle.std.specs.Ordering.{eq_by_cmp}
use Rattle.std.specs.List.{AllByRecursion}
use Rattle.std.specs.Str.{bytes_eq}
use Rattle.std.specs.Cmp.Lexicographic.{bytes_decides, nat_list_eq_equiv}
use Rattle.std.proofs.lemmas.Map.Text.{is_eq-slice_cmp}
use Rattle.std.proofs.lemmas.Slice.Eq.{bytes_eq-Decides}
use Rattle.nb_base.specs.Orders.{ByName, name_cmp}
use Rattle.nb_base.proofs.Maps.{names}
use Rattle.nb_check.specs.Breaches.{unless_true, again, twice}
use Rattle.nb_check.specs.Tables.{with_first}
use Rattle.nb_check.specs.declared.breach.CheckKind.{CheckKind}
use Rattle.nb_check.specs.declared.breach.Placed.{Placed}

pub nothing_left : {A : Type 0} (xs : List A) (i : ℕ) → length xs ≤ i → drop i xs ≡ []
nothing_left [] zero h = refl
nothing_left [] (suc i) h = refl
nothing_left (x ∷ xs) zero h = absurd (omega arith)
nothing_left (x ∷ xs) (suc i) h = nothing_left xs i (omega arith)

pub same_name : (q k : List ℕ) → eq_by_cmp name_cmp q k ≡ bytes_eq k q
same_name q k = is_eq-slice_cmp q k ∙ nat_list_eq_equiv.symm q k

pub inserted : {V : Type 0} (m : ByName V) (k : List ℕ) (v : V) (q : List ℕ) → map.get (map.insert m k v) q ≡ cond (bytes_eq k q) (Some v) (map.get m q)
inserted m k v q = get-insert names.total m k v q ∙ ap (λ b. cond b (Some v) (map.get m q)) (same_name q k)

pub none_yet : {V : Type 0} (q : List ℕ) → map.get (map.empty {X = V} {R = name_cmp}) q ≡ None
none_yet q = get-empty name_cmp q

-- ---- the first of each name

-- the first of two
abbrev pub or_else : {V : Type 0} → Option V → Option V → Option V
or_else None r = r
or_else (Some v) r = Some v

pub or_none : {V : Type 0} (o : Option V) → or_else o None ≡ o
or_none None = refl
or_none (Some v) = refl

pub of_none : {V : Type 0} (o : Option V) (r : Option V) → o ≡ None → r ≡ or_else o r
of_none o r h = ap (λ x. or_else x r) (sym h)

known_before : {V : Type 0} (m : ByName V) (k q : List ℕ) (v w : V) (rest : Option V) (b : Bool) → bytes_eq k q ≡ b → map.get m k ≡ Some w
    → or_else (map.get m q) (cond b (Some v) rest) ≡ or_else (map.get m q) rest
known_before m k q v w rest true h e =
    let here : map.get m q ≡ Some w = ap (map.get m) (sym ((bytes_eq-Decides k q).0 h)) ∙ e in
    ap (λ o. or_else o (Some v)) here ∙ sym (ap (λ o. or_else o rest) here)
known_before m k q v w rest false h e = refl

new_here : {V : Type 0} (m : ByName V) (k q : List ℕ) (v : V) (rest : Option V) (b : Bool) → bytes_eq k q ≡ b → map.get m k ≡ None
    → or_else (map.get m q) (cond b (Some v) rest) ≡ or_else (cond b (Some v) (map.get m q)) rest
new_here m k q v rest true h e =
    let here : map.get m q ≡ None = ap (map.get m) (sym ((bytes_eq-Decides k q).0 h)) ∙ e in
    ap (λ o. or_else o (Some v)) here
new_here m k q v rest false h e = refl

put_at : {V : Type 0} (m : ByName V) (k q : List ℕ) (v : V) (rest : Option V) (o : Option V) → map.get m k ≡ o
    → or_else (map.get m q) (cond (bytes_eq k q) (Some v) rest) ≡ or_else (map.get (cond (is_some o) m (map.insert m k v)) q) rest
put_at m k q v rest None e = new_here m k q v rest (bytes_eq k q) refl e ∙ ap (λ x. or_else x rest) (sym (inserted m k v q))
put_at m k q v rest (Some w) e = known_before m k q v w rest (bytes_eq k q) refl e

-- a value that is put under a name without one
pub put_step : {V : Type 0} (m : ByName V) (k : List ℕ) (v : V) (rest : Option V) (q : List ℕ)
    → or_else (map.get m q) (cond (bytes_eq k q) (Some v) rest) ≡ or_else (map.get (with_first m k v) q) rest
put_step m k v rest q = put_at m k q v rest (map.get m k) refl

-- ---- names that are there

among : {V : Type 0} (o : Option V) (v : V) (rest b : Bool) → (is_some o || cond b true rest) ≡ (is_some (cond b (Some v) o) || rest)
among None v rest true = refl
among None v rest false = refl
among (Some w) v rest true = refl
among (Some w) v rest false = refl

pub name_step : {V : Type 0} (m : ByName V) (k : List ℕ) (v : V) (rest : Bool) (q : List ℕ)
    → (is_some (map.get m q) || cond (bytes_eq k q) true rest) ≡ (is_some (map.get (map.insert m k v) q) || rest)
name_step m k v rest q = among (map.get m q) v rest (bytes_eq k q) ∙ ap (λ o. is_some o || rest) (sym (inserted m k v q))

pub or_false : (b : Bool) → (b || false) ≡ b
or_false true = refl
or_false false = refl

-- ---- names that differ

abbrev pub NoneOf : {V : Type 0} → ByName V → List Placed → Type 0
NoneOf m ps = AllByRecursion (λ (p : Placed). is_some (map.get m p.name) ≡ false) ps

apart : {V : Type 0} (b : Bool) (v : V) (o : Option V) → is_some (cond b (Some v) o) ≡ false → (b ≡ false) × (is_some o ≡ false)
apart true v o e = absurd (true≢false e)
apart false v o e = (refl, e)

turned : (k n : List ℕ) → bytes_eq k n ≡ false → bytes_eq n k ≡ false
turned k n e = grind (arith, e, bytes_decides k n, bytes_decides n k)

none_before : {V : Type 0} (m : ByName V) (k : List ℕ) (v : V) (rule : CheckKind) (ps : List Placed) → NoneOf (map.insert m k v) ps → NoneOf m ps × (again rule k ps ≡ [])
none_before m k v rule [] h = (tt, refl)
none_before m k v rule (p ∷ ps) h =
    let here = apart (bytes_eq k p.name) v (map.get m p.name) (ap is_some (sym (inserted m k v p.name)) ∙ h.0) in
    let more = none_before m k v rule ps h.1 in
    ((here.1, more.0), ap (λ b. unless_true (not b) p.at rule ++ again rule k ps) (turned k p.name here.0) ∙ more.1)

-- a name that no other has
pub new_name : {V : Type 0} (m : ByName V) (p : Placed) (v : V) (rule : CheckKind) (ps : List Placed) → is_some (map.get m p.name) ≡ false → NoneOf (map.insert m p.name v) ps → twice rule ps ≡ []
    → NoneOf m (p ∷ ps) × (twice rule (p ∷ ps) ≡ [])
new_name m p v rule ps new h e =
    let before = none_before m p.name v rule ps h in
    ((new, before.0), ap (λ bs. again rule p.name ps ++ bs) e ∙ append-nil (again rule p.name ps) ∙ before.1)
