-- Items read one by one.
use Rattle.std.specs.Prelude.{◌≡◌, ◌≤◌, ◌<◌, ◌+◌, ◌-◌, ℕ, suc, List, [], ◌∷◌, ◌++◌, Option, Some, None, refl}
use Rattle.std.proofs.Common.{◌∙◌, ap, sym, arith, append_assoc}
use Rattle.std.proofs.lemmas.List.{append-nil}
use Rattle.nb_envelope.specs.declared.fault.FormatFault.{FormatFault}
use Rattle.nb_envelope.specs.declared.fault.FormatFault.TheVariants.{Damaged, NoMemory}
use Rattle.nb_envelope.specs.Cells.{◌>>=◌, items_in, Fails}

-- the items before, and those that were read
abbrev pub onto : {A : Type 0} → List A → Option (List A × List ℕ) → Option (List A × List ℕ)
onto before read = read >>= λ x. Some (before ++ x.0, x.1)

pub onto_none : {A : Type 0} (read : Option (List A × List ℕ)) → onto [] read ≡ read
onto_none None = refl
onto_none (Some x) = refl

regroup : {A : Type 0} (before : List A) (x : A) (read : Option (List A × List ℕ)) → onto (before ++ x ∷ []) read ≡ onto before (read >>= λ o. Some (x ∷ o.0, o.1))
regroup before x None = refl
regroup before x (Some o) = ap (λ xs. Some (xs, o.1)) (append_assoc before (x ∷ []) o.0)

pub goes_on : {A : Type 0} (read : List ℕ → Option (A × List ℕ)) (before : List A) (x : A) (count i : ℕ) (bytes rest : List ℕ) (total : Option (List A × List ℕ)) → i < count → read bytes ≡ Some (x, rest)
    → onto before (items_in read (count - i) bytes) ≡ total → onto (before ++ x ∷ []) (items_in read (count - (i + 1)) rest) ≡ total
unfolding items_in
goes_on read before x count i bytes rest total lt one so_far =
    let k : count - i ≡ suc (count - (i + 1)) = omega arith in
    let next : onto before (items_in read (count - i) bytes) ≡ onto before (items_in read (count - (i + 1)) rest >>= λ o. Some (x ∷ o.0, o.1)) = rw (k, one) refl in
    regroup before x (items_in read (count - (i + 1)) rest) ∙ sym next ∙ so_far

pub ends : {A : Type 0} (e : FormatFault) (read : List ℕ → Option (A × List ℕ)) (before : List A) (count i : ℕ) (bytes : List ℕ) (total : Option (List A × List ℕ)) → i < count → Fails e (read bytes)
    → onto before (items_in read (count - i) bytes) ≡ total → Fails e total
unfolding items_in
ends NoMemory read before count i bytes total lt one so_far = tt
ends Damaged read before count i bytes total lt one so_far =
    let k : count - i ≡ suc (count - (i + 1)) = omega arith in
    let none : onto before (items_in read (count - i) bytes) ≡ None = rw (k, one) refl in
    sym so_far ∙ none

pub is_done : {A : Type 0} (read : List ℕ → Option (A × List ℕ)) (before : List A) (count i : ℕ) (bytes : List ℕ) (total : Option (List A × List ℕ)) → count ≤ i
    → onto before (items_in read (count - i) bytes) ≡ total → total ≡ Some (before, bytes)
unfolding items_in
is_done read before count i bytes total past so_far =
    let k : count - i ≡ 0 = omega arith in
    let all : onto before (items_in read (count - i) bytes) ≡ Some (before, bytes) = rw (k, append-nil before) refl in
    sym so_far ∙ all
