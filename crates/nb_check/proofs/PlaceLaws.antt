-- What is found of names by the places kept for them.
use Rattle.std.proofs.Common.{◌≡◌, ℕ, zero, suc, List, [], ◌∷◌, ◌++◌, length, take, Bool, true, false, cond, Option, Some, None, is_some, is_none, option_map, slice_get, refl, sym, ap, ◌∙◌, subst, true≢false}
use Rattle.std.specs.FinMap as map
use Rattle.std.specs.Str.{bytes_eq}
use Rattle.std.proofs.lemmas.Slice.Eq.{bytes_eq-Decides}
use Rattle.nb_base.specs.Orders.{ByName}
use Rattle.nb_script.specs.declared.item.FieldKind.{FieldKind}
use Rattle.nb_check.specs.Kinds.{local_in}
use Rattle.nb_check.specs.Places.{place_of, ArePlaces, place_if, kind_if, kind_by}
use Rattle.nb_check.specs.declared.sight.Local.{Local}
use Rattle.nb_check.proofs.TableLaws.{inserted}

number : Option ℕ → ℕ
number None = 0
number (Some n) = n

same_number : (i j : ℕ) → Some i ≡ Some j → i ≡ j
unfolding number
same_number i j h = ap number h

-- ---- lists that grow and are cut

step : (b : Bool) (o p : Option ℕ) (i : ℕ) → ((j : ℕ) → o ≡ Some j → p ≡ Some j) → cond b (Some 0) (option_map suc o) ≡ Some i → cond b (Some 0) (option_map suc p) ≡ Some i
step true o p i f h = h
step false None p i f h = absurd (true≢false (sym (ap is_some h)))
step false (Some j) p i f h = ap (λ x. option_map suc x) (f j refl) ∙ h

kept : (q : List ℕ) (ls more : List Local) (i : ℕ) → place_of q ls ≡ Some i → place_of q (ls ++ more) ≡ Some i
kept q [] more i h = absurd (true≢false (sym (ap is_some h)))
kept q (l ∷ ls) more i h = step (bytes_eq l.name q) (place_of q ls) (place_of q (ls ++ more)) i (λ j e. kept q ls more j e) h

taken : (q : List ℕ) (n : ℕ) (ls : List Local) (i : ℕ) → place_of q (take n ls) ≡ Some i → place_of q ls ≡ Some i
taken q zero ls i h = absurd (true≢false (sym (ap is_some h)))
taken q (suc n) [] i h = h
taken q (suc n) (l ∷ ls) i h = step (bytes_eq l.name q) (place_of q (take n ls)) (place_of q ls) i (λ j e. taken q n ls j e) h

-- places of a list serve for its front
pub places_cut : (m : ByName ℕ) (n : ℕ) (ls : List Local) → ArePlaces m ls → ArePlaces m (take n ls)
places_cut m n ls h = λ q i e. h q i (taken q n ls i e)

-- ---- names that don't stand in the list

none_of : (b : Bool) (o : Option ℕ) (x r : Option (Option FieldKind)) → (o ≡ None → r ≡ None) → cond b (Some 0) (option_map suc o) ≡ None → cond b x r ≡ None
none_of true o x r f h = absurd (true≢false (ap is_some h))
none_of false None x r f h = f refl
none_of false (Some j) x r f h = absurd (true≢false (ap is_some h))

none_behind : (b : Bool) (o : Option ℕ) → cond b (Some 0) (option_map suc o) ≡ None → o ≡ None
none_behind true o h = absurd (true≢false (ap is_some h))
none_behind false None h = refl
none_behind false (Some j) h = absurd (true≢false (ap is_some h))

unplaced : (q : List ℕ) (ls : List Local) → place_of q ls ≡ None → local_in q ls ≡ None
unplaced q [] h = refl
unplaced q (l ∷ ls) h = none_of (bytes_eq l.name q) (place_of q ls) (Some l.kind) (local_in q ls) (λ e. unplaced q ls e) h

none_here : (q : List ℕ) (ls : List Local) (i : ℕ) → place_of q ls ≡ None → kind_if q (slice_get ls i) ≡ None
none_here q [] i h = refl
none_here q (l ∷ ls) zero h = none_of (bytes_eq l.name q) (place_of q ls) (Some l.kind) None (λ e. refl) h
none_here q (l ∷ ls) (suc i) h = none_here q ls i (none_behind (bytes_eq l.name q) (place_of q ls) h)

-- ---- names that do

abbrev IsThere : List ℕ → List Local → ℕ → Type 0
IsThere q ls i = (kind_if q (slice_get ls i) ≡ local_in q ls) × (is_some (local_in q ls) ≡ true)

placed_at : (q : List ℕ) (l : Local) (ls : List Local) (b : Bool) (o : Option ℕ) (i : ℕ) → ((j : ℕ) → o ≡ Some j → IsThere q ls j) → bytes_eq l.name q ≡ b → cond b (Some 0) (option_map suc o) ≡ Some i
    → IsThere q (l ∷ ls) i
placed_at q l ls true o i f e h =
    let local : local_in q (l ∷ ls) ≡ Some l.kind = ap (λ b. cond b (Some l.kind) (local_in q ls)) e in
    subst (λ k. IsThere q (l ∷ ls) k) (same_number 0 i h) (ap (λ b. cond b (Some l.kind) None) e ∙ sym local, ap is_some local)
placed_at q l ls false None i f e h = absurd (true≢false (sym (ap is_some h)))
placed_at q l ls false (Some j) i f e h =
    let local : local_in q (l ∷ ls) ≡ local_in q ls = ap (λ b. cond b (Some l.kind) (local_in q ls)) e in
    let there = f j refl in
    subst (λ k. IsThere q (l ∷ ls) k) (same_number (suc j) i h) (there.0 ∙ sym local, ap is_some local ∙ there.1)

placed : (q : List ℕ) (ls : List Local) (i : ℕ) → place_of q ls ≡ Some i → IsThere q ls i
placed q [] i h = absurd (true≢false (sym (ap is_some h)))
placed q (l ∷ ls) i h = placed_at q l ls (bytes_eq l.name q) (place_of q ls) i (λ j e. placed q ls j e) refl h

none_by : (q : List ℕ) (ls : List Local) (o : Option ℕ) → place_of q ls ≡ None → kind_by q o ls ≡ None
none_by q ls None h = refl
none_by q ls (Some i) h = none_here q ls i h

told_at : (m : ByName ℕ) (ls : List Local) (q : List ℕ) (o : Option ℕ) → ArePlaces m ls → place_of q ls ≡ o → kind_by q (map.get m q) ls ≡ local_in q ls
told_at m ls q None h e = none_by q ls (map.get m q) e ∙ sym (unplaced q ls e)
told_at m ls q (Some i) h e = ap (λ o. kind_by q o ls) (h q i e) ∙ (placed q ls i e).0

-- what is found by places is the kind of the first of the name
pub told : (m : ByName ℕ) (ls : List Local) (q : List ℕ) → ArePlaces m ls → kind_by q (map.get m q) ls ≡ local_in q ls
told m ls q h = told_at m ls q (place_of q ls) h refl

-- ---- one name more

still_here : (m : ByName ℕ) (n q : List ℕ) (ls : List Local) (k i : ℕ) (b : Bool) → place_of q ls ≡ Some i → map.get m q ≡ Some i → local_in n ls ≡ None → bytes_eq n q ≡ b → cond b (Some k) (map.get m q) ≡ Some i
still_here m n q ls k i true e g w f =
    absurd (true≢false (sym (placed q ls i e).1 ∙ ap (λ x. is_some (local_in x ls)) (sym ((bytes_eq-Decides n q).0 f)) ∙ ap is_some w))
still_here m n q ls k i false e g w f = g

still_at : (m : ByName ℕ) (n q : List ℕ) (ls : List Local) (k i : ℕ) (o : Option (Option FieldKind)) → place_of q ls ≡ Some i → map.get m q ≡ Some i → local_in n ls ≡ o → map.get (place_if (is_none o) m n k) q ≡ Some i
still_at m n q ls k i None e g w =
    inserted m n k q ∙ still_here m n q ls k i (bytes_eq n q) e g w refl
still_at m n q ls k i (Some x) e g w = g

pub still : (m : ByName ℕ) (n : List ℕ) (ls : List Local) (k : ℕ) → ArePlaces m ls → ArePlaces (place_if (is_none (local_in n ls)) m n k) ls
still m n ls k h = λ q i e. still_at m n q ls k i (local_in n ls) e (h q i e) refl

suc_if : (c : Bool) (n : ℕ) → option_map suc (cond c (Some n) None) ≡ cond c (Some (suc n)) None
suc_if true n = refl
suc_if false n = refl

behind_at : (b : Bool) (o p : Option ℕ) (c : Bool) (n : ℕ) → (o ≡ None → p ≡ cond c (Some n) None) → cond b (Some 0) (option_map suc o) ≡ None → cond b (Some 0) (option_map suc p) ≡ cond c (Some (suc n)) None
behind_at true o p c n f h = absurd (true≢false (ap is_some h))
behind_at false None p c n f h = ap (λ x. option_map suc x) (f refl) ∙ suc_if c n
behind_at false (Some j) p c n f h = absurd (true≢false (ap is_some h))

behind : (q : List ℕ) (ls : List Local) (l : Local) → place_of q ls ≡ None → place_of q (ls ++ l ∷ []) ≡ cond (bytes_eq l.name q) (Some (length ls)) None
behind q [] l h = refl
behind q (x ∷ ls) l h = behind_at (bytes_eq x.name q) (place_of q ls) (place_of q (ls ++ l ∷ [])) (bytes_eq l.name q) (length ls) (λ e. behind q ls l e) h

last_at : (m : ByName ℕ) (l : Local) (ls : List Local) (q : List ℕ) (i : ℕ) (b : Bool) → bytes_eq l.name q ≡ b → place_of q ls ≡ None → cond b (Some (length ls)) None ≡ Some i
    → map.get (place_if (is_none (local_in l.name ls)) m l.name (length ls)) q ≡ Some i
last_at m l ls q i true f w e =
    let new : local_in l.name ls ≡ None = ap (λ x. local_in x ls) ((bytes_eq-Decides l.name q).0 f) ∙ unplaced q ls w in
    ap (λ o. map.get (place_if (is_none o) m l.name (length ls)) q) new
    ∙ inserted m l.name (length ls) q
    ∙ ap (λ b. cond b (Some (length ls)) (map.get m q)) f
    ∙ e
last_at m l ls q i false f w e = absurd (true≢false (sym (ap is_some e)))

grown_at : (m : ByName ℕ) (l : Local) (ls : List Local) (q : List ℕ) (i : ℕ) (o : Option ℕ) → ArePlaces m ls → place_of q ls ≡ o → place_of q (ls ++ l ∷ []) ≡ Some i
    → map.get (place_if (is_none (local_in l.name ls)) m l.name (length ls)) q ≡ Some i
grown_at m l ls q i None h w e = last_at m l ls q i (bytes_eq l.name q) refl w (sym (behind q ls l w) ∙ e)
grown_at m l ls q i (Some j) h w e = still m l.name ls (length ls) h q i (w ∙ sym (kept q ls (l ∷ []) j w) ∙ e)

-- places of a list with one name more
pub grown : (m : ByName ℕ) (l : Local) (ls : List Local) → ArePlaces m ls → ArePlaces (place_if (is_none (local_in l.name ls)) m l.name (length ls)) (ls ++ l ∷ [])
grown m l ls h = λ q i e. grown_at m l ls q i (place_of q ls) h refl e
