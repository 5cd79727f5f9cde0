-- Writes in memory: what stands at each place before and after them, and before and after room was made for them.
use Rattle.std.specs.Prelude.{◌≡◌, ◌≢◌, ◌⊎◌, ℕ, ◌+◌, ◌≤◌, List, [], ◌∷◌, ◌++◌, take, length, slice_get, map as map_list, fold, zero, suc, Result, Ok, Err, OnOk, OnErr, Option, Some, None, refl}
use Rattle.std.proofs.Common.{◌∙◌, ap, sym, subst, inl, inr, arith, Ordering}
use Rattle.std.specs.FinMap as map
use Rattle.std.specs.FinMap.{FinMap}
use Rattle.std.specs.List.{AllByRecursion}
use Rattle.std.proofs.lemmas.List.{take_all, map-append}
use Rattle.nb_base.proofs.ListLaws.{take_next}
use Rattle.nb_base.proofs.Maps.{IsExact, names, places, same_or_other, at_same, at_other, gone, kept}
use Rattle.nb_base.specs.Meanings.{Place, saga_at, row_at}
use Rattle.nb_base.specs.Shown.{Stored, stored}
use Rattle.nb_base.specs.declared.plan.Write.{Write}
use Rattle.nb_base.specs.declared.saga_row.SagaRow.{SagaRow}
use Rattle.nb_base.specs.declared.tables.Row.{Row as StoredRow}
use Rattle.nb_base.specs.declared.tables.Tables.{Tables}
use Rattle.nb_saga_store.specs.Writes.{written_of, with_written, all_written}
use Rattle.nb_saga_store.specs.declared.written.Written.{Written}
use Rattle.nb_saga_store.specs.declared.written.Written.TheVariants.{Saga, SagaGone, Row, RowGone}
use Rattle.nb_store.specs.Batches.{Among, Content, saga_there, row_there, version_of, saga_found, row_found, found_at, place_of, content_of, IsOf, AreOf, AreApart, MakesRoom, Widens, HasRoomFor, HasRoom, HaveRoom, IsNewAt, IsWider, IsOlder, ClearsAt, Clears}

-- ---- items of a list

inside : {A : Type 0} (x y : A) → Some x ≡ Some y → x ≡ y
inside x y e = cc

pub clash : {A : Type 0} (x : A) → Some x ≡ None → ⊥
clash x e = cc

pub among_at : {A : Type 0} (xs : List A) (i : ℕ) (x : A) → slice_get xs i ≡ Some x → Among x xs
among_at [] i x e = absurd cc
among_at (y ∷ ys) zero x e = inl (inside x y (sym e))
among_at (y ∷ ys) (suc i) x e = inr (among_at ys i x e)

pub among_left : {A : Type 0} (x : A) (xs ys : List A) → Among x xs → Among x (xs ++ ys)
among_left x [] ys a = absurd a
among_left x (y ∷ xs) ys (inl e) = inl e
among_left x (y ∷ xs) ys (inr a) = inr (among_left x xs ys a)

pub among_right : {A : Type 0} (x : A) (xs ys : List A) → Among x ys → Among x (xs ++ ys)
among_right x [] ys a = a
among_right x (y ∷ xs) ys a = inr (among_right x xs ys a)

among_split : {A : Type 0} (x y : A) (xs : List A) → Among x (xs ++ y ∷ []) → Among x xs ⊎ (x ≡ y)
among_split x y [] (inl e) = inr e
among_split x y [] (inr a) = absurd a
among_split x y (z ∷ xs) (inl e) = inl (inl e)
among_split x y (z ∷ xs) (inr a) = more (among_split x y xs a)
  where
    more : Among x xs ⊎ (x ≡ y) → Among x (z ∷ xs) ⊎ (x ≡ y)
    more (inl b) = inl (inr b)
    more (inr e) = inr e

-- among the items up to a place and the one there
pub among_next : {A : Type 0} (xs : List A) (i : ℕ) (x y : A) → slice_get xs i ≡ Some y → Among x (take (i + 1) xs) → Among x (take i xs) ⊎ (x ≡ y)
among_next xs i x y at a = among_split x y (take i xs) (subst (Among x) (take_next xs i y at) a)

pub all_among : {A : Type 0} (P : A → Type 0) (xs : List A) (x : A) → AllByRecursion P xs → Among x xs → P x
all_among P [] x all a = absurd a
all_among P (y ∷ ys) x all (inl e) = subst P (sym e) all.0
all_among P (y ∷ ys) x all (inr a) = all_among P ys x all.1 a

all_push : {A : Type 0} (P : A → Type 0) (xs : List A) (x : A) → AllByRecursion P xs → P x → AllByRecursion P (xs ++ x ∷ [])
all_push P [] x all one = (one, tt)
all_push P (y ∷ ys) x all one = (all.0, all_push P ys x all.1 one)

pub all_weaker : {A : Type 0} (P Q : A → Type 0) (xs : List A) → ((x : A) → P x → Q x) → AllByRecursion P xs → AllByRecursion Q xs
all_weaker P Q [] f all = tt
all_weaker P Q (x ∷ xs) f all = (f x all.0, all_weaker P Q xs f all.1)

pub all_next : {A : Type 0} (P : A → Type 0) (xs : List A) (i : ℕ) (x : A) → slice_get xs i ≡ Some x → AllByRecursion P (take i xs) → P x → AllByRecursion P (take (i + 1) xs)
all_next P xs i x at all one = subst (AllByRecursion P) (sym (take_next xs i x at)) (all_push P (take i xs) x all one)

pub all_end : {A : Type 0} (P : A → Type 0) (xs : List A) (i : ℕ) → AllByRecursion P (take i xs) → length xs ≤ i → AllByRecursion P xs
all_end P xs i all end = subst (AllByRecursion P) (take_all i xs end) all

-- ---- places

pub place_cases : (p q : Place) → (p ≡ q) ⊎ (p ≢ q)
place_cases (saga_at p) (saga_at q) = go (same_or_other places p q)
  where
    go : (p ≡ q) ⊎ (p ≢ q) → (saga_at p ≡ saga_at q) ⊎ (saga_at p ≢ saga_at q)
    go (inl e) = inl (ap saga_at e)
    go (inr ne) = inr (λ e. ne cc)
place_cases (saga_at p) (row_at q) = inr (λ e. cc)
place_cases (row_at p) (saga_at q) = inr (λ e. cc)
place_cases (row_at p) (row_at q) = go (same_or_other names p q)
  where
    go : (p ≡ q) ⊎ (p ≢ q) → (row_at p ≡ row_at q) ⊎ (row_at p ≢ row_at q)
    go (inl e) = inl (ap row_at e)
    go (inr ne) = inr (λ e. ne cc)

pub written_here : (t : Stored) (w : Written) → found_at (with_written t w) (place_of w) ≡ content_of w
written_here t (Saga place row) = ap saga_found (at_same places t.sagas place row)
written_here t (SagaGone place) = ap saga_found (gone places t.sagas place)
written_here t (Row name row) = ap row_found (at_same names t.rows name row)
written_here t (RowGone name) = ap row_found (gone names t.rows name)

pub written_other : (t : Stored) (w : Written) (q : Place) → q ≢ place_of w → found_at (with_written t w) q ≡ found_at t q
written_other t (Saga place row) (saga_at q) ne = ap saga_found (at_other places t.sagas place row q (λ e. ne (ap saga_at e)))
written_other t (Saga place row) (row_at q) ne = refl
written_other t (SagaGone place) (saga_at q) ne = ap saga_found (kept places t.sagas place q (λ e. ne (ap saga_at e)))
written_other t (SagaGone place) (row_at q) ne = refl
written_other t (Row name row) (saga_at q) ne = refl
written_other t (Row name row) (row_at q) ne = ap row_found (at_other names t.rows name row q (λ e. ne (ap row_at e)))
written_other t (RowGone name) (saga_at q) ne = refl
written_other t (RowGone name) (row_at q) ne = ap row_found (kept names t.rows name q (λ e. ne (ap row_at e)))

pub written_commits : (t : Stored) (w : Written) → (with_written t w).commits ≡ t.commits
written_commits t (Saga place row) = refl
written_commits t (SagaGone place) = refl
written_commits t (Row name row) = refl
written_commits t (RowGone name) = refl

pub saga_back : (a b : Option SagaRow) → saga_found a ≡ saga_found b → a ≡ b
saga_back None None e = refl
saga_back None (Some b) e = absurd cc
saga_back (Some a) None e = absurd cc
saga_back (Some a) (Some b) e = cc

pub row_back : (a b : Option StoredRow) → row_found a ≡ row_found b → a ≡ b
row_back None None e = refl
row_back None (Some b) e = absurd cc
row_back (Some a) None e = absurd cc
row_back (Some a) (Some b) e = cc

-- what shows the same at every place is the same
pub same_stored : (t u : Stored) → ((q : Place) → found_at u q ≡ found_at t q) → u.commits ≡ t.commits → u ≡ t
same_stored t u alike commits =
    let s : u.sagas ≡ t.sagas = map.same_map places.total places.same u.sagas t.sagas (λ q. saga_back _ _ (alike (saga_at q))) in
    let r : u.rows ≡ t.rows = map.same_map names.total names.same u.rows t.rows (λ q. row_back _ _ (alike (row_at q))) in
    λ i. record { sagas = s i; rows = r i; commits = commits i }

-- ---- many writes

pub record IsCovered (ws : List Written) (p : Place) : Type 0 where
  pub write : Written
  pub among : Among write ws
  pub place : place_of write ≡ p

covered_more : (w : Written) (ws : List Written) (p : Place) → IsCovered ws p → IsCovered (w ∷ ws) p
covered_more w ws p c = record { write = c.write; among = inr c.among; place = c.place }

pub cover_cases : (ws : List Written) (p : Place) → IsCovered ws p ⊎ (IsCovered ws p → ⊥)
cover_cases [] p = inr (λ c. c.among)
cover_cases (w ∷ ws) p = go (place_cases (place_of w) p) (cover_cases ws p)
  where
    go : (place_of w ≡ p) ⊎ (place_of w ≢ p) → IsCovered ws p ⊎ (IsCovered ws p → ⊥) → IsCovered (w ∷ ws) p ⊎ (IsCovered (w ∷ ws) p → ⊥)
    go (inl e) more = inl (record { write = w; among = inl refl; place = e })
    go (inr ne) (inl c) = inl (covered_more w ws p c)
    go (inr ne) (inr free) = inr (λ c. other c c.among)
      where
        other : (c : IsCovered (w ∷ ws) p) → Among c.write (w ∷ ws) → ⊥
        other c (inl e) = ne (ap place_of (sym e) ∙ c.place)
        other c (inr a) = free (record { write = c.write; among = a; place = c.place })

-- two that agree but where something is written are the same after the writes
pub all_agree : (ws : List Written) (t u : Stored) → u.commits ≡ t.commits → ((q : Place) → IsCovered ws q ⊎ (found_at u q ≡ found_at t q)) → fold with_written u ws ≡ fold with_written t ws
all_agree [] t u commits alike = same_stored t u (λ q. go q (alike q)) commits
  where
    go : (q : Place) → IsCovered [] q ⊎ (found_at u q ≡ found_at t q) → found_at u q ≡ found_at t q
    go q (inl c) = absurd c.among
    go q (inr e) = e
all_agree (w ∷ ws) t u commits alike =
    all_agree ws (with_written t w) (with_written u w) (written_commits u w ∙ commits ∙ sym (written_commits t w)) (λ q. go q (place_cases q (place_of w)) (alike q))
  where
    go : (q : Place) → (q ≡ place_of w) ⊎ (q ≢ place_of w) → IsCovered (w ∷ ws) q ⊎ (found_at u q ≡ found_at t q) → IsCovered ws q ⊎ (found_at (with_written u w) q ≡ found_at (with_written t w) q)
    go q (inl same) before = inr (subst (λ p. found_at (with_written u w) p ≡ found_at (with_written t w) p) (sym same) (written_here u w ∙ sym (written_here t w)))
    go q (inr ne) (inr e) = inr (written_other u w q ne ∙ e ∙ sym (written_other t w q ne))
    go q (inr ne) (inl c) = later c c.among
      where
        later : (c : IsCovered (w ∷ ws) q) → Among c.write (w ∷ ws) → IsCovered ws q ⊎ (found_at (with_written u w) q ≡ found_at (with_written t w) q)
        later c (inl e) = absurd (ne (sym c.place ∙ ap place_of e))
        later c (inr a) = inl (record { write = c.write; among = a; place = c.place })

-- elsewhere nothing changes
pub untouched : (ws : List Written) (t : Stored) (q : Place) → (IsCovered ws q → ⊥) → found_at (fold with_written t ws) q ≡ found_at t q
untouched [] t q free = refl
untouched (w ∷ ws) t q free =
    untouched ws (with_written t w) q (λ c. free (covered_more w ws q c)) ∙ written_other t w q (λ e. free (record { write = w; among = inl refl; place = sym e }))

apart_free : (w : Written) (ws : List Written) → AllByRecursion (λ v. place_of w ≢ place_of v) ws → IsCovered ws (place_of w) → ⊥
apart_free w ws apart c = all_among (λ v. place_of w ≢ place_of v) ws c.write apart c.among (sym c.place)

-- each write is there once all are made
pub touched : (ws : List Written) (t : Stored) (w : Written) → AreApart ws → Among w ws → found_at (fold with_written t ws) (place_of w) ≡ content_of w
touched [] t w apart a = absurd a
touched (v ∷ ws) t w apart (inl e) =
    subst (λ x. found_at (fold with_written (with_written t v) ws) (place_of x) ≡ content_of x) (sym e) (untouched ws (with_written t v) (place_of v) (apart_free v ws apart.0) ∙ written_here t v)
touched (v ∷ ws) t w apart (inr a) = touched ws (with_written t v) w apart.1 a

pub all_written-fold : (endpoint : List ℕ) (n : ℕ) (t : Stored) (ws : List Write) → all_written endpoint n t ws ≡ fold with_written t (map_list (written_of endpoint n) ws)
all_written-fold endpoint n t [] = refl
all_written-fold endpoint n t (w ∷ ws) = all_written-fold endpoint n (with_written t (written_of endpoint n w)) ws

pub fold_commits : (ws : List Written) (t : Stored) → (fold with_written t ws).commits ≡ t.commits
fold_commits [] t = refl
fold_commits (w ∷ ws) t = fold_commits ws (with_written t w) ∙ written_commits t w

-- ---- room

saga_some : (o : Option SagaRow) → o ≢ None → saga_found o ≢ None
saga_some None there e = there refl
saga_some (Some row) there e = cc

row_some : (o : Option StoredRow) → o ≢ None → row_found o ≢ None
row_some None there e = there refl
row_some (Some row) there e = cc

pub saga_none : (o : Option SagaRow) → o ≡ None → saga_found o ≡ None
saga_none o e = ap saga_found e

pub room_saga : (t u : Stored) (place : _) (row : SagaRow) → MakesRoom t.sagas place row u.sagas → u.rows ≡ t.rows → u.commits ≡ t.commits → Widens (Saga place row) t u
room_saga t u place row (inl e) rows commits = inl (λ i. record { sagas = e i; rows = rows i; commits = commits i })
room_saga t u place row (inr (none, e)) rows commits = inr (ap saga_found none, λ i. record { sagas = e i; rows = rows i; commits = commits i })

pub room_row : (t u : Stored) (name : List ℕ) (row : StoredRow) → MakesRoom t.rows name row u.rows → u.sagas ≡ t.sagas → u.commits ≡ t.commits → Widens (Row name row) t u
room_row t u name row (inl e) sagas commits = inl (λ i. record { sagas = sagas i; rows = e i; commits = commits i })
room_row t u name row (inr (none, e)) sagas commits = inr (ap row_found none, λ i. record { sagas = sagas i; rows = e i; commits = commits i })

pub has_saga_room : (u : Stored) (place : _) (row : SagaRow) → map.get u.sagas place ≢ None → HasRoom u (Saga place row)
has_saga_room u place row there = saga_some (map.get u.sagas place) there

pub has_row_room : (u : Stored) (name : List ℕ) (row : StoredRow) → map.get u.rows name ≢ None → HasRoom u (Row name row)
has_row_room u name row there = row_some (map.get u.rows name) there

pub wider_start : (ws : List Written) (t : Stored) → IsWider ws t t
wider_start ws t = record { places = λ p. inl refl; commits = refl }

pub wider_next : (ws : List Written) (t u v : Stored) (w : Written) → Among w ws → IsWider ws t u → Widens w u v → IsWider ws t v
wider_next ws t u v w among wider (inl e) = subst (IsWider ws t) (sym e) wider
wider_next ws t u v w among wider (inr (none, e)) =
    subst (IsWider ws t) (sym e) (record { places = λ p. go p (place_cases p (place_of w)) (wider.places p); commits = written_commits u w ∙ wider.commits })
  where
    none_at : (p : Place) → p ≡ place_of w → found_at u p ≡ None
    none_at p same = ap (found_at u) same ∙ none

    here : (p : Place) → p ≡ place_of w → found_at t p ≡ None → IsNewAt ws t (with_written u w) p
    here p same before = record { write = w; among = among; place = sym same; before = before; now = ap (found_at (with_written u w)) same ∙ written_here u w }

    go : (p : Place) → (p ≡ place_of w) ⊎ (p ≢ place_of w) → (found_at u p ≡ found_at t p) ⊎ IsNewAt ws t u p → (found_at (with_written u w) p ≡ found_at t p) ⊎ IsNewAt ws t (with_written u w) p
    go p (inl same) (inl e) = inr (here p same (sym e ∙ none_at p same))
    go p (inl same) (inr new) = inr (here p same new.before)
    go p (inr ne) (inl e) = inl (written_other u w p ne ∙ e)
    go p (inr ne) (inr new) = inr (record { write = new.write; among = new.among; place = new.place; before = new.before; now = written_other u w p ne ∙ new.now })

room_stays : (u v : Stored) (w : Written) (p : Place) (o : Option Content) → Widens w u v → HasRoomFor u p o → HasRoomFor v p o
room_stays u v w p None widens room = tt
room_stays u v w p (Some content) (inl e) room = subst (λ x. found_at x p ≢ None) (sym e) room
room_stays u v w p (Some content) (inr (none, e)) room =
    let ne : p ≢ place_of w = λ same. room (ap (found_at u) same ∙ none) in
    subst (λ x. found_at x p ≢ None) (sym e) (λ gone. room (sym (written_other u w p ne) ∙ gone))

pub rooms_stay : (u v : Stored) (w : Written) (ws : List Written) → Widens w u v → HaveRoom u ws → HaveRoom v ws
rooms_stay u v w ws widens = all_weaker (HasRoom u) (HasRoom v) ws (λ x. room_stays u v w (place_of x) (content_of x) widens)

-- where writes were given room, they lead to the same
pub wider_same : (ws : List Written) (t u : Stored) → IsWider ws t u → fold with_written u ws ≡ fold with_written t ws
wider_same ws t u wider = all_agree ws t u wider.commits (λ q. go q (wider.places q))
  where
    go : (q : Place) → (found_at u q ≡ found_at t q) ⊎ IsNewAt ws t u q → IsCovered ws q ⊎ (found_at u q ≡ found_at t q)
    go q (inl e) = inr e
    go q (inr new) = inl (record { write = new.write; among = new.among; place = new.place })

-- ---- room that is taken away again

pub record IsCleared (ws : List Written) (i : ℕ) (t u : Stored) : Type 0 where
  pub wider : IsWider ws t u
  pub done : (w : Written) → Among w (take i ws) → found_at u (place_of w) ≡ found_at t (place_of w)

pub cleared_start : (ws : List Written) (t u : Stored) → IsWider ws t u → IsCleared ws 0 t u
cleared_start ws t u wider = record { wider = wider; done = λ w a. absurd a }

of_none : (n : ℕ) (o : Option Content) → IsOf n o → ((content : Content) → o ≡ Some content → version_of content ≢ n) → o ≡ None
of_none n None is other = refl
of_none n (Some content) is other = absurd (other content refl is)

pub cleared_next : (n : ℕ) (ws : List Written) (i : ℕ) (t u v : Stored) (w : Written) → AreOf n ws → IsOlder n t → slice_get ws i ≡ Some w → IsCleared ws i t u → Clears n (place_of w) u v → IsCleared ws (i + 1) t v
cleared_next n ws i t u v w are older at so_far clears = record {
  wider = record { places = λ p. places p (place_cases p (place_of w)); commits = clears.commits ∙ so_far.wider.commits };
  done = λ x a. done x (place_cases (place_of x) (place_of w)) (among_next ws i x w at a);
}
  where
    equal : found_at v (place_of w) ≡ found_at t (place_of w)
    equal = go clears.here (so_far.wider.places (place_of w))
      where
        go : ((content : Content) × (found_at u (place_of w) ≡ Some content) × (version_of content ≡ n) × (found_at v (place_of w) ≡ None))
            ⊎ (((content : Content) → found_at u (place_of w) ≡ Some content → version_of content ≢ n) × (found_at v (place_of w) ≡ found_at u (place_of w)))
            → (found_at u (place_of w) ≡ found_at t (place_of w)) ⊎ IsNewAt ws t u (place_of w) → found_at v (place_of w) ≡ found_at t (place_of w)
        go (inl (content, is, version, gone)) (inl e) = absurd (older (place_of w) content (sym e ∙ is) version)
        go (inl (content, is, version, gone)) (inr new) = gone ∙ sym new.before
        go (inr (other, stays)) (inl e) = stays ∙ e
        go (inr (other, stays)) (inr new) =
            stays ∙ new.now ∙ of_none n (content_of new.write) (all_among (λ x. IsOf n (content_of x)) ws new.write are new.among) (λ content is. other content (new.now ∙ is)) ∙ sym new.before

    places : (p : Place) → (p ≡ place_of w) ⊎ (p ≢ place_of w) → (found_at v p ≡ found_at t p) ⊎ IsNewAt ws t v p
    places p (inl same) = inl (subst (λ q. found_at v q ≡ found_at t q) (sym same) equal)
    places p (inr ne) = go (so_far.wider.places p)
      where
        go : (found_at u p ≡ found_at t p) ⊎ IsNewAt ws t u p → (found_at v p ≡ found_at t p) ⊎ IsNewAt ws t v p
        go (inl e) = inl (clears.others p ne ∙ e)
        go (inr new) = inr (record { write = new.write; among = new.among; place = new.place; before = new.before; now = clears.others p ne ∙ new.now })

    done : (x : Written) → (place_of x ≡ place_of w) ⊎ (place_of x ≢ place_of w) → Among x (take i ws) ⊎ (x ≡ w) → found_at v (place_of x) ≡ found_at t (place_of x)
    done x (inl same) a = subst (λ q. found_at v q ≡ found_at t q) (sym same) equal
    done x (inr ne) (inl a) = clears.others (place_of x) ne ∙ so_far.done x a
    done x (inr ne) (inr e) = absurd (ne (ap place_of e))

pub cleared_end : (ws : List Written) (i : ℕ) (t u : Stored) → length ws ≤ i → IsCleared ws i t u → u ≡ t
cleared_end ws i t u end so_far = same_stored t u (λ q. go q (so_far.wider.places q)) so_far.wider.commits
  where
    go : (q : Place) → (found_at u q ≡ found_at t q) ⊎ IsNewAt ws t u q → found_at u q ≡ found_at t q
    go q (inl e) = e
    go q (inr new) = subst (λ p. found_at u p ≡ found_at t p) new.place (so_far.done new.write (subst (Among new.write) (sym (take_all i ws end)) new.among))

pub clears_saga : (n : ℕ) (t u : Stored) (place : _) → ClearsAt (λ (row : SagaRow). row.version ≡ n) t.sagas place u.sagas → u.rows ≡ t.rows → u.commits ≡ t.commits → Clears n (saga_at place) t u
clears_saga n t u place clears rows commits = record { here = here clears; others = others clears; commits = commits }
  where
    here : ClearsAt (λ (row : SagaRow). row.version ≡ n) t.sagas place u.sagas
        → ((content : Content) × (found_at t (saga_at place) ≡ Some content) × (version_of content ≡ n) × (found_at u (saga_at place) ≡ None))
        ⊎ (((content : Content) → found_at t (saga_at place) ≡ Some content → version_of content ≢ n) × (found_at u (saga_at place) ≡ found_at t (saga_at place)))
    here (inl (row, is, version, e)) = inl (saga_there row, ap saga_found is, version, ap (λ m. saga_found (map.get m place)) e ∙ ap saga_found (gone places t.sagas place))
    here (inr (other, e)) = inr (λ content is. not_of (map.get t.sagas place) (λ row at. other row at) content is, ap (λ m. saga_found (map.get m place)) e)
      where
        not_of : (o : Option SagaRow) → ((row : SagaRow) → o ≡ Some row → row.version ≡ n → ⊥) → (content : Content) → saga_found o ≡ Some content → version_of content ≢ n
        not_of None other content is = absurd (clash content (sym is))
        not_of (Some row) other content is = λ e. other row refl (ap version_of (inside (saga_there row) content is) ∙ e)

    others : ClearsAt (λ (row : SagaRow). row.version ≡ n) t.sagas place u.sagas → (q : Place) → q ≢ saga_at place → found_at u q ≡ found_at t q
    others (inl (row, is, version, e)) (saga_at q) ne = ap (λ m. saga_found (map.get m q)) e ∙ ap saga_found (kept places t.sagas place q (λ same. ne (ap saga_at same)))
    others (inr (other, e)) (saga_at q) ne = ap (λ m. saga_found (map.get m q)) e
    others clears (row_at q) ne = ap (λ m. row_found (map.get m q)) rows

pub clears_row : (n : ℕ) (t u : Stored) (name : List ℕ) → ClearsAt (λ (row : StoredRow). row.version ≡ n) t.rows name u.rows → u.sagas ≡ t.sagas → u.commits ≡ t.commits → Clears n (row_at name) t u
clears_row n t u name clears sagas commits = record { here = here clears; others = others clears; commits = commits }
  where
    here : ClearsAt (λ (row : StoredRow). row.version ≡ n) t.rows name u.rows
        → ((content : Content) × (found_at t (row_at name) ≡ Some content) × (version_of content ≡ n) × (found_at u (row_at name) ≡ None))
        ⊎ (((content : Content) → found_at t (row_at name) ≡ Some content → version_of content ≢ n) × (found_at u (row_at name) ≡ found_at t (row_at name)))
    here (inl (row, is, version, e)) = inl (row_there row, ap row_found is, version, ap (λ m. row_found (map.get m name)) e ∙ ap row_found (gone names t.rows name))
    here (inr (other, e)) = inr (λ content is. not_of (map.get t.rows name) (λ row at. other row at) content is, ap (λ m. row_found (map.get m name)) e)
      where
        not_of : (o : Option StoredRow) → ((row : StoredRow) → o ≡ Some row → row.version ≡ n → ⊥) → (content : Content) → row_found o ≡ Some content → version_of content ≢ n
        not_of None other content is = absurd (clash content (sym is))
        not_of (Some row) other content is = λ e. other row refl (ap version_of (inside (row_there row) content is) ∙ e)

    others : ClearsAt (λ (row : StoredRow). row.version ≡ n) t.rows name u.rows → (q : Place) → q ≢ row_at name → found_at u q ≡ found_at t q
    others clears (saga_at q) ne = ap (λ m. saga_found (map.get m q)) sagas
    others (inl (row, is, version, e)) (row_at q) ne = ap (λ m. row_found (map.get m q)) e ∙ ap row_found (kept names t.rows name q (λ same. ne (ap row_at same)))
    others (inr (other, e)) (row_at q) ne = ap (λ m. row_found (map.get m q)) e

-- ---- writes that have room

-- a put that isn't refused, since the key is there
pub put_there : {K V E T : Type 0} {R : K → K → Ordering} (m n : FinMap R V) (k : K) (v : V) (r : Result T E) → OnOk r (n ≡ map.insert m k v) → OnErr r (map.get m k ≡ None) → map.get m k ≢ None → n ≡ map.insert m k v
put_there m n k v (Ok x) ok err there = ok
put_there m n k v (Err e) ok err there = absurd (there err)

pub saga_room : (o : Option SagaRow) → saga_found o ≢ None → o ≢ None
saga_room o there e = there (ap saga_found e)

pub row_room : (o : Option StoredRow) → row_found o ≢ None → o ≢ None
row_room o there e = there (ap row_found e)

room_after : (t : Stored) (w : Written) (p : Place) (o : Option Content) → place_of w ≢ p → HasRoomFor t p o → HasRoomFor (with_written t w) p o
room_after t w p None ne room = tt
room_after t w p (Some content) ne room = λ gone. room (sym (written_other t w p (λ e. ne (sym e))) ∙ gone)

pub rooms_after : (t : Stored) (w : Written) (ws : List Written) → AllByRecursion (λ v. place_of w ≢ place_of v) ws → HaveRoom t ws → HaveRoom (with_written t w) ws
rooms_after t w [] apart rooms = tt
rooms_after t w (v ∷ ws) apart rooms = (room_after t w (place_of v) (content_of v) apart.0 rooms.0, rooms_after t w ws apart.1 rooms.1)

-- a key that was put is there
pub there_after : {K V : Type 0} {R : K → K → Ordering} → IsExact R → (m n : FinMap R V) (k j : K) (v : V) → n ≡ map.insert m j v → j ≡ k → map.get n k ≢ None
there_after x m n k j v e same none = clash v (sym (at_same x m j v) ∙ ap (λ z. map.get z j) (sym e) ∙ ap (map.get n) same ∙ none)

-- ---- the loops

pub record IsMakingRoom (ws : List Written) (i : ℕ) (t u : Tables) : Type 0 where
  pub wider : IsWider ws (stored t) (stored u)
  pub there : HaveRoom (stored u) (take i ws)
  pub outbox : u.outbox ≡ t.outbox

pub making_start : (ws : List Written) (t : Tables) → IsMakingRoom ws 0 t t
making_start ws t = record { wider = wider_start ws (stored t); there = tt; outbox = refl }

pub making_next : (ws : List Written) (i : ℕ) (t u v : Tables) (w : Written) → slice_get ws i ≡ Some w → IsMakingRoom ws i t u → Widens w (stored u) (stored v) → HasRoom (stored v) w → v.outbox ≡ u.outbox
    → IsMakingRoom ws (i + 1) t v
making_next ws i t u v w at so_far widens room outbox = record {
  wider = wider_next ws (stored t) (stored u) (stored v) w (among_at ws i w at) so_far.wider widens;
  there = all_next (HasRoom (stored v)) ws i w at (rooms_stay (stored u) (stored v) w (take i ws) widens so_far.there) room;
  outbox = outbox ∙ so_far.outbox;
}

pub record IsClearing (ws : List Written) (n i : ℕ) (t u : Tables) : Type 0 where
  pub cleared : (s : Stored) → IsWider ws s (stored t) → AreOf n ws → IsOlder n s → IsCleared ws i s (stored u)
  pub outbox : u.outbox ≡ t.outbox

pub clearing_start : (ws : List Written) (n : ℕ) (t : Tables) → IsClearing ws n 0 t t
clearing_start ws n t = record { cleared = λ s wider are older. cleared_start ws s (stored t) wider; outbox = refl }

pub clearing_next : (ws : List Written) (n i : ℕ) (t u v : Tables) (w : Written) → slice_get ws i ≡ Some w → IsClearing ws n i t u → Clears n (place_of w) (stored u) (stored v) → v.outbox ≡ u.outbox → IsClearing ws n (i + 1) t v
clearing_next ws n i t u v w at so_far clears outbox = record {
  cleared = λ s wider are older. cleared_next n ws i s (stored u) (stored v) w are older at (so_far.cleared s wider are older) clears;
  outbox = outbox ∙ so_far.outbox;
}

pub record IsWriting (ws rest : List Written) (t u : Tables) : Type 0 where
  pub written : fold with_written (stored u) rest ≡ fold with_written (stored t) ws
  pub room : HaveRoom (stored u) rest
  pub apart : AreApart rest
  pub outbox : u.outbox ≡ t.outbox

pub writing_start : (ws rest : List Written) (t : Tables) → rest ≡ ws → HaveRoom (stored t) ws → AreApart ws → IsWriting ws rest t t
writing_start ws rest t same room apart = subst (λ xs. IsWriting ws xs t t) (sym same) (record { written = refl; room = room; apart = apart; outbox = refl })

pub writing_next : (ws rest more : List Written) (t u v : Tables) (w : Written) → rest ≡ w ∷ more → IsWriting ws rest t u → stored v ≡ with_written (stored u) w → v.outbox ≡ u.outbox → IsWriting ws more t v
writing_next ws rest more t u v w same so_far written outbox = go (subst (λ xs. IsWriting ws xs t u) same so_far)
  where
    go : IsWriting ws (w ∷ more) t u → IsWriting ws more t v
    go now = record {
      written = ap (λ s. fold with_written s more) written ∙ now.written;
      room = subst (λ s. HaveRoom s more) (sym written) (rooms_after (stored u) w more now.apart.0 now.room.1);
      apart = now.apart.1;
      outbox = outbox ∙ now.outbox;
    }

pub writing_room : (ws rest more : List Written) (t u : Tables) (w : Written) → rest ≡ w ∷ more → IsWriting ws rest t u → HasRoom (stored u) w
writing_room ws rest more t u w same so_far = (subst (λ xs. HaveRoom (stored u) xs) same so_far.room).0

pub nothing_left : {A : Type 0} (xs : List A) → length xs ≡ 0 → xs ≡ []
nothing_left [] e = refl
nothing_left (x ∷ xs) e = absurd (omega arith)

pub writing_end : (ws rest : List Written) (t u : Tables) → length rest ≡ 0 → IsWriting ws rest t u → stored u ≡ fold with_written (stored t) ws
writing_end ws rest t u end so_far = (subst (λ xs. IsWriting ws xs t u) (nothing_left rest end) so_far).written

pub map_next : {A B : Type 0} (f : A → B) (xs : List A) (i : ℕ) (x : A) (y : B) (ys : List B) → slice_get xs i ≡ Some x → ys ≡ map_list f (take i xs) → y ≡ f x → ys ++ y ∷ [] ≡ map_list f (take (i + 1) xs)
map_next f xs i x y ys at so_far made =
    ap (λ (zs : List _). zs ++ y ∷ []) so_far ∙ ap (λ z. map_list f (take i xs) ++ z ∷ []) made ∙ sym (map-append f (take i xs) (x ∷ [])) ∙ ap (map_list f) (sym (take_next xs i x at))
