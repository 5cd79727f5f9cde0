-- The cells that tables have once cells joined them are those cells.
use Rattle.std.specs.Prelude.{◌≡◌, ◌⊎◌, ◌≤◌, ◌==◌, ◌&&◌, ℕ, zero, suc, List, [], ◌∷◌, ◌++◌, map as map_list, length, Bool, true, false, cond, bytes_eq, Option, Some, None, refl}
use Rattle.std.proofs.Common.{◌∙◌, ap, sym, subst, arith, inl, inr, true≢false, eqb-true, lit≤}
use Rattle.std.specs.Cmp.Lexicographic.{bytes_decides}
use Rattle.std.specs.List.{AllByRecursion}
use Rattle.std.specs.FinMap as map
use Rattle.std.proofs.lemmas.List.Elements.{All-contains, All-from_recursion, recursion_from_All}
use Rattle.nb_base.proofs.Maps.{names}
use Rattle.nb_base.specs.Shown.{stored}
use Rattle.nb_base.specs.declared.tables.Tables.{Tables}
use Rattle.nb_cells.specs.Cells.{CellMap, IsSpace, Scans, with_change, changed}
use Rattle.nb_cells.specs.declared.cell.Cell.{Cell}
use Rattle.nb_cells.specs.declared.change.Change.{Change}
use Rattle.nb_cells.specs.declared.change.Change.TheVariants.{Put}
use Rattle.nb_outbox.specs.Spelled.{spelled_record}
use Rattle.nb_saga_store.proofs.MapLaws.{spelled-insert, write_one}
use Rattle.nb_saga_store.specs.Maps.{HaveStored, AreSpelled}
use Rattle.nb_saga_store.specs.Spelled.{place_of}
use Rattle.nb_saga_store.specs.declared.written.Written.TheVariants.{Saga, Row}
use Rattle.nb_store.specs.CellMaps.{cells, count_bytes, spelled_count, HasCells}
use Rattle.nb_store.specs.Opening.{Part, count, saga, row, handled, cell_of, Fits, with_part, Joins, no_tables}
use Rattle.nb_store.specs.Scanning.{ScansAll, Opens}
use Rattle.nb_store.specs.declared.parts.Scanned.{Scanned}
use Rattle.nb_store.proofs.ChangeLaws.{alone_id}
use Rattle.nb_store.proofs.OpenLaws.{open_nothing, no_entries}
use Rattle.nb_base.specs.Orders.{name_cmp, saga_key_cmp}
use Rattle.nb_base.specs.declared.entry.OutboxRow.{OutboxRow}
use Rattle.nb_base.specs.declared.saga_row.SagaRow.{SagaRow}
use Rattle.nb_base.specs.declared.tables.Row.{Row as StoredLine}

-- ---- the four spaces

pub by_space : (P : ℕ → Type 0) → P 1 → P 2 → P 3 → P 4 → (s : ℕ) → IsSpace s → P s
by_space P a b c d zero is = absurd (let x = is.0 in omega arith)
by_space P a b c d (suc zero) is = a
by_space P a b c d (suc (suc zero)) is = b
by_space P a b c d (suc (suc (suc zero))) is = c
by_space P a b c d (suc (suc (suc (suc zero)))) is = d
by_space P a b c d (suc (suc (suc (suc (suc n))))) is = absurd (let x = is.1 in omega arith)

pub one_ok : IsSpace 1
one_ok = (lit≤ tt, lit≤ tt)

pub two_ok : IsSpace 2
two_ok = (lit≤ tt, lit≤ tt)

pub three_ok : IsSpace 3
three_ok = (lit≤ tt, lit≤ tt)

pub four_ok : IsSpace 4
four_ok = (lit≤ tt, lit≤ tt)

-- ---- a cell that joins

put_of : Cell → Change
put_of c = Put c.space c.key c.bytes

pub some_count : (n : ℕ) → 1 ≤ n → cond (n == 0) None (Some (spelled_count n)) ≡ Some (spelled_count n)
some_count n from = (elim (n == 0) as (λ b. (n == 0) ≡ b → cond b None (Some (spelled_count n)) ≡ Some (spelled_count n)) [
  | true ↦ λ e. absurd (let z = eqb-true n 0 e in omega arith)
  | false ↦ λ e. refl
]) refl

count_at : (n old : ℕ) (key : List ℕ) (o : Option (List ℕ)) → 1 ≤ n → o ≡ count_bytes old key → old ≡ 0 → cond (bytes_eq key []) (Some (spelled_count n)) o ≡ count_bytes n key
count_at n old [] o from has none = sym (some_count n from)
count_at n old (k ∷ key) o from has none = has ∙ keyed
  where
    past : (length (k ∷ key) == 0) ≡ false
    past = grind arith

    keyed : count_bytes old (k ∷ key) ≡ count_bytes n (k ∷ key)
    keyed = rw past refl

pub stored_has : (m : CellMap) (t : Tables) → HasCells m t → HaveStored m (stored t)
stored_has m t has = record { sagas = λ key. has 2 key two_ok; rows = λ key. has 3 key three_ok }

joined_cells : (m : CellMap) (t : Tables) (p : Part) → AreSpelled (stored t) → Fits t p → HasCells m t → HasCells (with_change m (put_of (cell_of p))) (with_part t p) × AreSpelled (stored (with_part t p))
unfolding put_of
joined_cells m t (count n) are fit has = (
  λ s key. by_space (λ s. with_change m (put_of (cell_of (count n))) s key ≡ cells (with_part t (count n)) s key)
      (count_at n t.commits key (m 1 key) fit.from (has 1 key one_ok) fit.new) (has 2 key two_ok) (has 3 key three_ok) (has 4 key four_ok) s,
  record { sagas = are.sagas; rows = are.rows },
)
joined_cells m t (saga x) are fit has =
    let w = write_one m (stored t) (Saga (place_of x) x.row) are (refl, fit.spelled.place, fit.spelled.row) (stored_has m t has) in
    (λ s key. by_space (λ s. with_change m (put_of (cell_of (saga x))) s key ≡ cells (with_part t (saga x)) s key) (has 1 key one_ok) (w.0.sagas key) (w.0.rows key) (has 4 key four_ok) s, w.1)
joined_cells m t (row x) are fit has =
    let w = write_one m (stored t) (Row x.name (record { version = x.version; value = x.value })) are (fit.spelled.name, fit.spelled.row) (stored_has m t has) in
    (λ s key. by_space (λ s. with_change m (put_of (cell_of (row x))) s key ≡ cells (with_part t (row x)) s key) (has 1 key one_ok) (w.0.sagas key) (w.0.rows key) (has 4 key four_ok) s, w.1)
joined_cells m t (handled id r) are fit has = (
  λ s key. by_space (λ s. with_change m (put_of (cell_of (handled id r))) s key ≡ cells (with_part t (handled id r)) s key) (has 1 key one_ok) (has 2 key two_ok) (has 3 key three_ok)
      (ap (cond (bytes_eq key id) (Some (spelled_record r))) (has 4 key four_ok) ∙ sym (spelled-insert names (λ n. n) spelled_record t.outbox id r (alone_id id (map.entries t.outbox)) key)) s,
  record { sagas = are.sagas; rows = are.rows },
)

puts : List Cell → List Change
puts cs = map_list put_of cs

joins_cells : (cs : List Cell) (m : CellMap) (t u : Tables) → AreSpelled (stored t) → HasCells m t → Joins cs t u → HasCells (changed (puts cs) m) u
unfolding puts
joins_cells [] m t u are has joins = subst (HasCells m) joins has
joins_cells (c ∷ cs) m t u are has joins =
    let j = joins.1 in
    let one = joined_cells m t j.0 are j.2 has in
    let next : Tables = joins.0 in
    joins_cells cs (with_change m (put_of c)) next u (subst (λ v. AreSpelled (stored v)) (sym j.3) one.1)
    (subst (HasCells (with_change m (put_of c))) (sym j.3) (subst (λ d. HasCells (with_change m (put_of d)) (with_part t j.0)) (sym j.1) one.0)) joins.2

-- ---- cells that a map has

put_cases : (m n : CellMap) (c : Cell) (s : ℕ) (key : List ℕ) (here : Bool) → (here ≡ true → (s ≡ c.space) × (key ≡ c.key)) → m c.space c.key ≡ Some c.bytes
    → (n s key ≡ None) ⊎ (n s key ≡ m s key) → (cond here (Some c.bytes) (n s key) ≡ None) ⊎ (cond here (Some c.bytes) (n s key) ≡ m s key)
put_cases m n c s key true at is before = let p = at refl in inr (sym is ∙ λ i. m (sym p.0 i) (sym p.1 i))
put_cases m n c s key false at is before = before

put_stays : (m n : CellMap) (c : Cell) (s : ℕ) (key : List ℕ) (here : Bool) → (here ≡ true → (s ≡ c.space) × (key ≡ c.key)) → m c.space c.key ≡ Some c.bytes
    → n s key ≡ m s key → cond here (Some c.bytes) (n s key) ≡ m s key
put_stays m n c s key true at is before = let p = at refl in sym is ∙ λ i. m (sym p.0 i) (sym p.1 i)
put_stays m n c s key false at is before = before

here_is : (c : Cell) (s : ℕ) (key : List ℕ) → (s == c.space && bytes_eq key c.key) ≡ true → (s ≡ c.space) × (key ≡ c.key)
here_is c s key e = go (s == c.space) refl e
  where
    go : (b : Bool) → (s == c.space) ≡ b → (b && bytes_eq key c.key) ≡ true → (s ≡ c.space) × (key ≡ c.key)
    go true is e = (eqb-true s c.space is, (bytes_decides key c.key).0 e)
    go false is e = absurd (true≢false (sym e))

agrees : (m n : CellMap) (cs : List Cell) → AllByRecursion (λ c. m c.space c.key ≡ Some c.bytes) cs → (s : ℕ) (key : List ℕ) → (n s key ≡ None) ⊎ (n s key ≡ m s key)
    → (changed (puts cs) n s key ≡ None) ⊎ (changed (puts cs) n s key ≡ m s key)
unfolding puts put_of
agrees m n [] all s key before = before
agrees m n (c ∷ cs) all s key before = agrees m (with_change n (put_of c)) cs all.1 s key (put_cases m n c s key (s == c.space && bytes_eq key c.key) (here_is c s key) all.0 before)

stays : (m n : CellMap) (cs : List Cell) → AllByRecursion (λ c. m c.space c.key ≡ Some c.bytes) cs → (s : ℕ) (key : List ℕ) → n s key ≡ m s key → changed (puts cs) n s key ≡ m s key
unfolding puts put_of
stays m n [] all s key before = before
stays m n (c ∷ cs) all s key before = stays m (with_change n (put_of c)) cs all.1 s key (put_stays m n c s key (s == c.space && bytes_eq key c.key) (here_is c s key) all.0 before)

same_test : (s : ℕ) (key : List ℕ) → (s == s && bytes_eq key key) ≡ true
same_test s key = rw ((bytes_decides key key).1 refl) (grind arith)

hits : (m n : CellMap) (cs : List Cell) → AllByRecursion (λ c. m c.space c.key ≡ Some c.bytes) cs → AllByRecursion (λ c. changed (puts cs) n c.space c.key ≡ m c.space c.key) cs
unfolding puts put_of
hits m n [] all = tt
hits m n (c ∷ cs) all =
    (stays m (with_change n (put_of c)) cs all.1 c.space c.key (ap (λ b. cond b (Some c.bytes) (n c.space c.key)) (same_test c.space c.key) ∙ sym all.0), hits m (with_change n (put_of c)) cs all.1)

all_append : {A : Type 0} (P : A → Type 0) (xs ys : List A) → AllByRecursion P xs → AllByRecursion P ys → AllByRecursion P (xs ++ ys)
all_append P [] ys a b = b
all_append P (x ∷ xs) ys a b = (a.0, all_append P xs ys a.1 b)

all_split : {A : Type 0} (P : A → Type 0) (xs ys : List A) → AllByRecursion P (xs ++ ys) → AllByRecursion P xs × AllByRecursion P ys
all_split P [] ys all = (tt, all)
all_split P (x ∷ xs) ys all = let s = all_split P xs ys all.1 in ((all.0, s.0), s.1)

in_space : (m : CellMap) (space : ℕ) (cs : List Cell) → AllByRecursion (λ c. (c.space ≡ space) × (m space c.key ≡ Some c.bytes)) cs → AllByRecursion (λ c. m c.space c.key ≡ Some c.bytes) cs
in_space m space [] all = tt
in_space m space (c ∷ cs) all = (ap (λ s. m s c.key) all.0.0 ∙ all.0.1, in_space m space cs all.1)

scanned_in : (m : CellMap) (space : ℕ) (cs : List Cell) → Scans m space cs → AllByRecursion (λ c. m c.space c.key ≡ Some c.bytes) cs
scanned_in m space cs scans = in_space m space cs (recursion_from_All _ cs scans.sound)

abbrev nowhere : CellMap
nowhere = λ s key. None

-- the cells of a space are there
found_in : (m n : CellMap) (space : ℕ) (cs : List Cell) → Scans m space cs → AllByRecursion (λ c. n c.space c.key ≡ m c.space c.key) cs → (key bytes : List ℕ) → m space key ≡ Some bytes → n space key ≡ m space key
found_in m n space cs scans all key bytes is =
    All-contains (λ c. n c.space c.key ≡ m c.space c.key) cs (record { space = space; key = key; bytes = bytes }) (All-from_recursion _ cs all) (scans.complete key bytes is)

-- all cells, put one after the other, are the map
scanned_all : (m : CellMap) (s : Scanned) → ScansAll m s → (space : ℕ) (key : List ℕ) → IsSpace space → changed (puts ((s.counts ++ s.sagas) ++ (s.rows ++ s.records))) nowhere space key ≡ m space key
scanned_all m s scans space key is = go (m space key) refl
  where
    sound : AllByRecursion (λ c. m c.space c.key ≡ Some c.bytes) ((s.counts ++ s.sagas) ++ (s.rows ++ s.records))
    sound =
        all_append _ (s.counts ++ s.sagas) (s.rows ++ s.records) (all_append _ s.counts s.sagas (scanned_in m 1 s.counts scans.counts) (scanned_in m 2 s.sagas scans.sagas))
        (all_append _ s.rows s.records (scanned_in m 3 s.rows scans.rows) (scanned_in m 4 s.records scans.records))

    there : (bytes : List ℕ) → m space key ≡ Some bytes → changed (puts ((s.counts ++ s.sagas) ++ (s.rows ++ s.records))) nowhere space key ≡ m space key
    there bytes =
        let here = changed (puts ((s.counts ++ s.sagas) ++ (s.rows ++ s.records))) nowhere in
        let h = hits m nowhere ((s.counts ++ s.sagas) ++ (s.rows ++ s.records)) sound in
        let p = all_split (λ c. here c.space c.key ≡ m c.space c.key) (s.counts ++ s.sagas) (s.rows ++ s.records) h in
        let a = all_split (λ c. here c.space c.key ≡ m c.space c.key) s.counts s.sagas p.0 in
        let b = all_split (λ c. here c.space c.key ≡ m c.space c.key) s.rows s.records p.1 in
        by_space (λ k. m k key ≡ Some bytes → here k key ≡ m k key) (found_in m here 1 s.counts scans.counts a.0 key bytes) (found_in m here 2 s.sagas scans.sagas a.1 key bytes)
        (found_in m here 3 s.rows scans.rows b.0 key bytes) (found_in m here 4 s.records scans.records b.1 key bytes) space is

    go : (o : Option (List ℕ)) → m space key ≡ o → changed (puts ((s.counts ++ s.sagas) ++ (s.rows ++ s.records))) nowhere space key ≡ m space key
    go (Some bytes) e = there bytes e
    go None e =
        elim (agrees m nowhere ((s.counts ++ s.sagas) ++ (s.rows ++ s.records)) sound space key (inl refl)) [
          | inl none ↦ none ∙ sym e
          | inr same ↦ same
        ]

abbrev no_bytes : Option (List ℕ)
no_bytes = None

nothing_cells : HasCells nowhere no_tables
nothing_cells space key is =
    by_space (λ s. no_bytes ≡ cells no_tables s key) (no_count (length key == 0)) (sym (empty_at key)) (sym (empty_rows key)) (sym (empty_records key)) space is
  where
    no_count : (b : Bool) → no_bytes ≡ cond b no_bytes no_bytes
    no_count true = refl
    no_count false = refl

    empty_at : (key : List ℕ) → cells no_tables 2 key ≡ None
    empty_at key = rw (no_entries {V = SagaRow} saga_key_cmp) refl

    empty_rows : (key : List ℕ) → cells no_tables 3 key ≡ None
    empty_rows key = rw (no_entries {V = StoredLine} name_cmp) refl

    empty_records : (key : List ℕ) → cells no_tables 4 key ≡ None
    empty_records key = rw (no_entries {V = OutboxRow} name_cmp) refl

-- tables that a map opens have the cells of the map
pub opens_cells : (m : CellMap) (t : Tables) → Opens m t → HasCells m t
opens_cells m t o space key is =
    let s = o.are.scanned in
    sym (scanned_all m s o.are.scans space key is)
    ∙ joins_cells ((s.counts ++ s.sagas) ++ (s.rows ++ s.records)) nowhere no_tables t open_nothing.kept.spelled nothing_cells (subst (λ cs. Joins cs no_tables t) o.are.order o.joins) space key is
