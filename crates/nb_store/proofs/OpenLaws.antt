-- What is kept of the tables while their cells are read.
use Rattle.std.specs.Prelude.{◌≡◌, ◌≢◌, ◌⊎◌, ◌≤◌, ◌<◌, ◌^◌, ◌==◌, ◌+◌, ℕ, zero, suc, List, [], ◌∷◌, ◌++◌, length, take, slice_get, Bool, true, false, cond, Some, None, Result, Ok, Err, refl}
use Rattle.std.proofs.Common.{◌∙◌, ap, sym, subst, arith, inl, inr, eqb-true, append_assoc, Ordering}
use Rattle.std.specs.Ordering.{nat_cmp}
use Rattle.std.proofs.lemmas.List.{nil_from_length, take_all}
use Rattle.nb_base.proofs.ListLaws.{take_next}
use Rattle.std.specs.FinMap as map
use Rattle.nb_base.proofs.Maps.{names, numbers, places, same_or_other, at_same, at_other}
use Rattle.nb_base.specs.Orders.{ByName, ByNumber, name_cmp, saga_key_cmp}
use Rattle.nb_base.specs.Sound.{IsSoundSaga, IsSoundRecord, IsVersion}
use Rattle.nb_base.specs.declared.entry.OutboxRow.{OutboxRow}
use Rattle.nb_base.specs.declared.saga_key.SagaKey.{SagaKey}
use Rattle.nb_base.specs.declared.saga_row.SagaRow.{SagaRow}
use Rattle.nb_base.specs.declared.tables.Row.{Row}
use Rattle.nb_base.specs.declared.tables.Tables.{Tables}
use Rattle.nb_cells.specs.declared.cell.Cell.{Cell}
use Rattle.nb_saga_store.proofs.MapLaws.{each-insert}
use Rattle.nb_saga_store.specs.Maps.{IsSagaAt, IsRowAt}
use Rattle.nb_saga_store.specs.Spelled.{place_of, cell_of_saga, cell_of_row, IsStoredSaga, IsStoredRow}
use Rattle.nb_saga_store.specs.declared.stored.StoredRow.{StoredRow}
use Rattle.nb_saga_store.specs.declared.stored.StoredSaga.{StoredSaga}
use Rattle.nb_base.specs.Messages.{has_id}
use Rattle.nb_base.specs.declared.entry.Op.{Op}
use Rattle.std.specs.List.{AllByRecursion}
use Rattle.nb_envelope.specs.Spelling.{spelled_u64}
use Rattle.nb_envelope.specs.Cells.{u64_in, whole}
use Rattle.nb_envelope.specs.Formats.{IsBytes}
use Rattle.nb_envelope.proofs.FormatLaws.{IsBytes-rest, format_u64, whole_found, whole_again}
use Rattle.nb_outbox.specs.Spelled.{cell_of_record, IsId, IsOp, IsRecord}
use Rattle.nb_outbox.proofs.FormatLaws.{record_queues}
use Rattle.nb_store.specs.CellMaps.{spelled_count}
use Rattle.nb_store.specs.Counts.{count_in}
use Rattle.nb_store.specs.Kept.{IsKept, IsIndex, IsRecordAt}
use Rattle.nb_store.specs.Opening.{Part, count, saga, row, handled, cell_of, Fits, IsFitCount, IsFitSaga, IsFitRow, IsFitRecord, IsNumbered, cell_of_count, with_part, IsGood, IsOpen, ReadsCell, ReadsCells, AddsPart, IsDamaged, Joined, Joins, no_tables}
use Rattle.nb_store.specs.declared.fault.StoreFault.{StoreFault}
use Rattle.nb_store.specs.declared.fault.StoreFault.TheVariants.{Failed, Damaged, Spent, NoMemory}
use Rattle.nb_store.specs.declared.parts.Parts.{Parts}

pub inside : {A : Type 0} (x y : A) → Some x ≡ Some y → x ≡ y
inside x y e = cc

clash : {A : Type 0} (x : A) → None ≡ Some x → ⊥
clash x e = cc

-- ---- a saga more

sound_saga : (t : Tables) (ids : ByName SagaKey) (s : StoredSaga) (place : SagaKey) (r : SagaRow) → IsKept t ids → IsFitSaga t s → map.get (map.insert t.sagas (place_of s) s.row) place ≡ Some r → IsSoundSaga t.commits place r
sound_saga t ids s place r is fit at = go (same_or_other places place (place_of s))
  where
    this : IsSoundSaga t.commits (place_of s) s.row
    this = record { corr = refl; kind = fit.spelled.place.2; id = fit.id; version = fit.version; revision = fit.spelled.row.revision.0; fields = fit.spelled.row.fields.1 }

    go : (place ≡ place_of s) ⊎ (place ≢ place_of s) → IsSoundSaga t.commits place r
    go (inl same) =
        let row_is : s.row ≡ r = inside s.row r (sym (at_same places t.sagas (place_of s) s.row) ∙ ap (map.get (map.insert t.sagas (place_of s) s.row)) (sym same) ∙ at) in
        subst (λ x. IsSoundSaga t.commits place x) row_is (subst (λ p. IsSoundSaga t.commits p s.row) (sym same) this)
    go (inr other) = is.sound.base.sagas place r (sym (at_other places t.sagas (place_of s) s.row place other) ∙ at)

-- where a saga stands once there is one more
data Where (t : Tables) (s : StoredSaga) (place : SagaKey) (r : SagaRow) : Type 0 where
  new : place ≡ place_of s → r ≡ s.row → Where t s place r
  old : map.get t.sagas place ≡ Some r → Where t s place r

at_saga : (t : Tables) (s : StoredSaga) (place : SagaKey) (r : SagaRow) → map.get (map.insert t.sagas (place_of s) s.row) place ≡ Some r → Where t s place r
at_saga t s place r at = go (same_or_other places place (place_of s))
  where
    go : (place ≡ place_of s) ⊎ (place ≢ place_of s) → Where t s place r
    go (inl same) = new same (sym (inside s.row r (sym (at_same places t.sagas (place_of s) s.row) ∙ ap (map.get (map.insert t.sagas (place_of s) s.row)) (sym same) ∙ at)))
    go (inr other) = old (sym (at_other places t.sagas (place_of s) s.row place other) ∙ at)

ids_saga : (t : Tables) (s : StoredSaga) → IsFitSaga t s → ((p q : SagaKey) (a b : SagaRow) → map.get t.sagas p ≡ Some a → map.get t.sagas q ≡ Some b → a.id ≡ b.id → p ≡ q)
    → (p q : SagaKey) (a b : SagaRow) → Where t s p a → Where t s q b → a.id ≡ b.id → p ≡ q
ids_saga t s fit ids p q a b (new p_is a_is) (new q_is b_is) same = p_is ∙ sym q_is
ids_saga t s fit ids p q a b (new p_is a_is) (old at) same = absurd (fit.new_id q b at (sym same ∙ ap (λ (x : SagaRow). x.id) a_is))
ids_saga t s fit ids p q a b (old at) (new q_is b_is) same = absurd (fit.new_id p a at (same ∙ ap (λ (x : SagaRow). x.id) b_is))
ids_saga t s fit ids p q a b (old at) (old at') same = ids p q a b at at' same

index_saga : (t : Tables) (ids : ByName SagaKey) (s : StoredSaga) → IsIndex t.sagas ids → IsFitSaga t s → IsIndex (map.insert t.sagas (place_of s) s.row) (map.insert ids s.row.id (place_of s))
index_saga t ids s index fit = record {
  found = λ place r at. found place r (at_saga t s place r at);
  only = λ id place at. only id place at (same_or_other names id s.row.id);
}
  where
    found : (place : SagaKey) (r : SagaRow) → Where t s place r → map.get (map.insert ids s.row.id (place_of s)) r.id ≡ Some place
    found place r (new place_is row_is) =
        ap (map.get (map.insert ids s.row.id (place_of s))) (ap (λ (x : SagaRow). x.id) row_is) ∙ at_same names ids s.row.id (place_of s) ∙ ap (λ p. Some p) (sym place_is)
    found place r (old at) = at_other names ids s.row.id (place_of s) r.id (fit.new_id place r at) ∙ index.found place r at

    apart : (place : SagaKey) (r : SagaRow) → map.get t.sagas place ≡ Some r → place ≢ place_of s
    apart place r at same = clash r (sym fit.new ∙ ap (map.get t.sagas) (sym same) ∙ at)

    only : (id : List ℕ) (place : SagaKey) → map.get (map.insert ids s.row.id (place_of s)) id ≡ Some place → (id ≡ s.row.id) ⊎ (id ≢ s.row.id) → (r : SagaRow) × (map.get (map.insert t.sagas (place_of s) s.row) place ≡ Some r) × (r.id ≡ id)
    only id place at (inl same) =
        let here : place_of s ≡ place = inside (place_of s) place (sym (at_same names ids s.row.id (place_of s)) ∙ ap (map.get (map.insert ids s.row.id (place_of s))) (sym same) ∙ at) in
        (s.row, ap (map.get (map.insert t.sagas (place_of s) s.row)) (sym here) ∙ at_same places t.sagas (place_of s) s.row, sym same)
    only id place at (inr other) =
        let o = index.only id place (sym (at_other names ids s.row.id (place_of s) id other) ∙ at) in
        (o.0, at_other places t.sagas (place_of s) s.row place (apart place o.0 o.1) ∙ o.1, o.2)

pub open_saga : (p : Parts) (s : StoredSaga) → IsOpen p → IsFitSaga p.tables s
    → IsOpen (record { tables = record p.tables { sagas = map.insert p.tables.sagas (place_of s) s.row }; ids = map.insert p.ids s.row.id (place_of s); numbers = p.numbers })
open_saga p s is fit = record {
  kept = record {
    sound = record {
      base = record {
        commits = is.kept.sound.base.commits;
        sagas = λ place r at. sound_saga p.tables p.ids s place r is.kept fit at;
        ids = λ a b x y at_a at_b same. ids_saga p.tables s fit is.kept.sound.base.ids a b x y (at_saga p.tables s a x at_a) (at_saga p.tables s b y at_b) same;
        rows = is.kept.sound.base.rows;
      };
      records = is.kept.sound.records;
      numbers = is.kept.sound.numbers;
    };
    spelled = record { sagas = each-insert places IsSagaAt p.tables.sagas (place_of s) s.row is.kept.spelled.sagas (refl, fit.spelled.place, fit.spelled.row); rows = is.kept.spelled.rows };
    records = is.kept.records;
    index = index_saga p.tables p.ids s is.kept.index fit;
  };
  numbered = is.numbered;
}

-- ---- a row more

pub open_row : (p : Parts) (r : StoredRow) → IsOpen p → IsFitRow p.tables r
    → IsOpen (record p { tables = record p.tables { rows = map.insert p.tables.rows r.name (record { version = r.version; value = r.value }) } })
open_row p r is fit = record {
  kept = record {
    sound = record {
      base = record {
        commits = is.kept.sound.base.commits;
        sagas = is.kept.sound.base.sagas;
        ids = is.kept.sound.base.ids;
        rows = λ name x at. at_row name x at (same_or_other names name r.name);
      };
      records = is.kept.sound.records;
      numbers = is.kept.sound.numbers;
    };
    spelled = record { sagas = is.kept.spelled.sagas; rows = each-insert names IsRowAt p.tables.rows r.name (record { version = r.version; value = r.value }) is.kept.spelled.rows (fit.spelled.name, fit.spelled.row) };
    records = is.kept.records;
    index = is.kept.index;
  };
  numbered = is.numbered;
}
  where
    at_row : (name : List ℕ) (x : Row) → map.get (map.insert p.tables.rows r.name (record { version = r.version; value = r.value })) name ≡ Some x → (name ≡ r.name) ⊎ (name ≢ r.name) → IsVersion p.tables.commits x.version
    at_row name x at (inl same) =
        subst (λ (y : Row). IsVersion p.tables.commits y.version)
        (inside (record { version = r.version; value = r.value }) x (sym (at_same names p.tables.rows r.name (record { version = r.version; value = r.value })) ∙ ap (map.get (map.insert p.tables.rows r.name (record { version = r.version; value = r.value }))) (sym same) ∙ at)) fit.version
    at_row name x at (inr other) = is.kept.sound.base.rows name x (sym (at_other names p.tables.rows r.name (record { version = r.version; value = r.value }) name other) ∙ at)

-- ---- cells

-- the only part that the cell stands for
abbrev pub IsOnly : Cell → Part → Type 0
IsOnly c part = (t : Tables) (other : Part) → c ≡ cell_of other → Fits t other → other ≡ part

pub reads_cell : {T : Type 0} (p : Parts) (part : Part) (c : Cell) (q : Parts) (result : Result T StoreFault) → c ≡ cell_of part → IsOnly c part → AddsPart p part c q result → ReadsCell p c q result
reads_cell p part c q (Ok x) is only adds = (adds.0, (part, is, adds.1, adds.2))
reads_cell p part c q (Err Failed) is only adds = adds
reads_cell p part c q (Err (Damaged space key)) is only adds = ((λ (other, at, fits). adds.0 (subst (Fits p.tables) (only p.tables other at fits) fits)), adds.1, adds.2)
reads_cell p part c q (Err Spent) is only adds = adds
reads_cell p part c q (Err NoMemory) is only adds = tt

space_is : (c d : Cell) → c ≡ d → c.space ≡ d.space
space_is c d e = ap (λ (x : Cell). x.space) e

pub only_saga : (c : Cell) (s : StoredSaga) → c.space ≡ 2 → ((o : StoredSaga) → IsStoredSaga o → c ≡ cell_of_saga o → o ≡ s) → IsOnly c (saga s)
only_saga c s two unique t (count n) e fits = absurd (let x = space_is c (cell_of (count n)) e in omega arith)
only_saga c s two unique t (saga o) e fits = ap saga (unique o fits.spelled e)
only_saga c s two unique t (row r) e fits = absurd (let x = space_is c (cell_of (row r)) e in omega arith)
only_saga c s two unique t (handled id r) e fits = absurd (let x = space_is c (cell_of (handled id r)) e in omega arith)

pub only_row : (c : Cell) (r : StoredRow) → c.space ≡ 3 → ((o : StoredRow) → IsStoredRow o → c ≡ cell_of_row o → o ≡ r) → IsOnly c (row r)
only_row c r three unique t (count n) e fits = absurd (let x = space_is c (cell_of (count n)) e in omega arith)
only_row c r three unique t (saga o) e fits = absurd (let x = space_is c (cell_of (saga o)) e in omega arith)
only_row c r three unique t (row o) e fits = ap row (unique o fits.spelled e)
only_row c r three unique t (handled id o) e fits = absurd (let x = space_is c (cell_of (handled id o)) e in omega arith)

pub no_saga : (t : Tables) (c : Cell) → c.space ≡ 2 → ((o : StoredSaga) → IsStoredSaga o → c ≢ cell_of_saga o) → IsGood t c → ⊥
no_saga t c two never (count n, e, fits) = let x = space_is c (cell_of (count n)) e in absurd (omega arith)
no_saga t c two never (saga o, e, fits) = never o fits.spelled e
no_saga t c two never (row r, e, fits) = let x = space_is c (cell_of (row r)) e in absurd (omega arith)
no_saga t c two never (handled id r, e, fits) = let x = space_is c (cell_of (handled id r)) e in absurd (omega arith)

pub no_row : (t : Tables) (c : Cell) → c.space ≡ 3 → ((o : StoredRow) → IsStoredRow o → c ≢ cell_of_row o) → IsGood t c → ⊥
no_row t c three never (count n, e, fits) = let x = space_is c (cell_of (count n)) e in absurd (omega arith)
no_row t c three never (saga o, e, fits) = let x = space_is c (cell_of (saga o)) e in absurd (omega arith)
no_row t c three never (row o, e, fits) = never o fits.spelled e
no_row t c three never (handled id r, e, fits) = let x = space_is c (cell_of (handled id r)) e in absurd (omega arith)

-- ---- what a call added

pub added_saga : (p q : Parts) (s : StoredSaga) (place : SagaKey) → IsOpen p → IsFitSaga p.tables s → place ≡ place_of s → q.tables ≡ record p.tables { sagas = map.insert p.tables.sagas place s.row } → q.ids ≡ map.insert p.ids s.row.id place
    → q.numbers ≡ p.numbers → IsOpen q × IsFitSaga p.tables s × (q.tables ≡ with_part p.tables (saga s))
added_saga p q s place is fit here tables ids numbers =
    let t : q.tables ≡ with_part p.tables (saga s) = tables ∙ ap (λ (k : SagaKey). record p.tables { sagas = map.insert p.tables.sagas k s.row }) here in
    let d : q.ids ≡ map.insert p.ids s.row.id (place_of s) = ids ∙ ap (map.insert p.ids s.row.id) here in
    let all : record { tables = with_part p.tables (saga s); ids = map.insert p.ids s.row.id (place_of s); numbers = p.numbers } ≡ q = λ i. record { tables = sym t i; ids = sym d i; numbers = sym numbers i } in
    (subst IsOpen all (open_saga p s is fit), fit, t)

pub added_row : (p : Parts) (r : StoredRow) (rows : ByName Row) → IsOpen p → IsFitRow p.tables r → rows ≡ map.insert p.tables.rows r.name (record { version = r.version; value = r.value })
    → IsOpen (record p { tables = record p.tables { rows = rows } }) × IsFitRow p.tables r × (record p.tables { rows = rows } ≡ with_part p.tables (row r))
added_row p r rows is fit here =
    (subst (λ (x : ByName Row). IsOpen (record p { tables = record p.tables { rows = x } })) (sym here) (open_row p r is fit), fit, ap (λ (x : ByName Row). record p.tables { rows = x }) here)

-- ---- a record more

data WhereRecord (t : Tables) (k : List ℕ) (s : OutboxRow) (id : List ℕ) (r : OutboxRow) : Type 0 where
  this : id ≡ k → r ≡ s → WhereRecord t k s id r
  that : map.get t.outbox id ≡ Some r → WhereRecord t k s id r

at_record : (t : Tables) (k : List ℕ) (s : OutboxRow) (id : List ℕ) (r : OutboxRow) → map.get (map.insert t.outbox k s) id ≡ Some r → WhereRecord t k s id r
at_record t k s id r at = go (same_or_other names id k)
  where
    go : (id ≡ k) ⊎ (id ≢ k) → WhereRecord t k s id r
    go (inl same) = this same (sym (inside s r (sym (at_same names t.outbox k s) ∙ ap (map.get (map.insert t.outbox k s)) (sym same) ∙ at)))
    go (inr other) = that (sym (at_other names t.outbox k s id other) ∙ at)

op_ids : (ops : List Op) → AllByRecursion IsOp ops → AllByRecursion (λ (op : Op). has_id op.envelope.headers ≡ true) ops
op_ids [] all = tt
op_ids (op ∷ ops) all = (all.0.envelope.message.id, op_ids ops all.1)

sound_record : (t : Tables) (k : List ℕ) (s : OutboxRow) → IsFitRecord t k s → ((id : List ℕ) (r : OutboxRow) → map.get t.outbox id ≡ Some r → IsSoundRecord t.commits id r)
    → (id : List ℕ) (r : OutboxRow) → WhereRecord t k s id r → IsSoundRecord t.commits id r
sound_record t k s fit sound id r (that at) = sound id r at
sound_record t k s fit sound id r (this id_is r_is) =
    subst (λ i. IsSoundRecord t.commits i r) (sym id_is) (subst (λ x. IsSoundRecord t.commits k x) (sym r_is) (record {
      named = fit.named.1;
      number = fit.number;
      few = fit.few;
      queues = record_queues s fit.spelled;
      ids = op_ids s.ops fit.spelled.ops.1;
      sent = fit.spelled.sent;
    }))

numbers_record : (t : Tables) (k : List ℕ) (s : OutboxRow) → IsFitRecord t k s → ((i j : List ℕ) (a b : OutboxRow) → map.get t.outbox i ≡ Some a → map.get t.outbox j ≡ Some b → a.n ≡ b.n → i ≡ j)
    → (i j : List ℕ) (a b : OutboxRow) → WhereRecord t k s i a → WhereRecord t k s j b → a.n ≡ b.n → i ≡ j
numbers_record t k s fit one i j a b (this i_is a_is) (this j_is b_is) same = i_is ∙ sym j_is
numbers_record t k s fit one i j a b (this i_is a_is) (that at) same = absurd (fit.new_number j b at (sym same ∙ ap (λ (x : OutboxRow). x.n) a_is))
numbers_record t k s fit one i j a b (that at) (this j_is b_is) same = absurd (fit.new_number i a at (same ∙ ap (λ (x : OutboxRow). x.n) b_is))
numbers_record t k s fit one i j a b (that at) (that at') same = one i j a b at at' same

numbered_record : (t : Tables) (ns : ByNumber (List ℕ)) (k : List ℕ) (s : OutboxRow) → IsNumbered t.outbox ns → IsFitRecord t k s → IsNumbered (map.insert t.outbox k s) (map.insert ns s.n k)
numbered_record t ns k s is fit = record {
  found = λ id r at. found id r (at_record t k s id r at);
  only = λ n id at. only n id at (same_or_other numbers n s.n);
}
  where
    found : (id : List ℕ) (r : OutboxRow) → WhereRecord t k s id r → map.get (map.insert ns s.n k) r.n ≡ Some id
    found id r (this id_is r_is) = ap (map.get (map.insert ns s.n k)) (ap (λ (x : OutboxRow). x.n) r_is) ∙ at_same numbers ns s.n k ∙ ap (λ (i : List ℕ). Some i) (sym id_is)
    found id r (that at) = at_other numbers ns s.n k r.n (fit.new_number id r at) ∙ is.found id r at

    apart : (id : List ℕ) (r : OutboxRow) → map.get t.outbox id ≡ Some r → id ≢ k
    apart id r at same = clash r (sym fit.new ∙ ap (map.get t.outbox) (sym same) ∙ at)

    only : (n : ℕ) (id : List ℕ) → map.get (map.insert ns s.n k) n ≡ Some id → (n ≡ s.n) ⊎ (n ≢ s.n) → (r : OutboxRow) × (map.get (map.insert t.outbox k s) id ≡ Some r) × (r.n ≡ n)
    only n id at (inl same) =
        let here : k ≡ id = inside k id (sym (at_same numbers ns s.n k) ∙ ap (map.get (map.insert ns s.n k)) (sym same) ∙ at) in
        (s, ap (map.get (map.insert t.outbox k s)) (sym here) ∙ at_same names t.outbox k s, sym same)
    only n id at (inr other) =
        let o = is.only n id (sym (at_other numbers ns s.n k n other) ∙ at) in
        (o.0, at_other names t.outbox k s id (apart id o.0 o.1) ∙ o.1, o.2)

open_record : (p : Parts) (k : List ℕ) (s : OutboxRow) → IsOpen p → IsFitRecord p.tables k s
    → IsOpen (record { tables = record p.tables { outbox = map.insert p.tables.outbox k s }; ids = p.ids; numbers = map.insert p.numbers s.n k })
open_record p k s is fit = record {
  kept = record {
    sound = record {
      base = is.kept.sound.base;
      records = λ id r at. sound_record p.tables k s fit is.kept.sound.records id r (at_record p.tables k s id r at);
      numbers = λ i j a b at_i at_j same. numbers_record p.tables k s fit is.kept.sound.numbers i j a b (at_record p.tables k s i a at_i) (at_record p.tables k s j b at_j) same;
    };
    spelled = is.kept.spelled;
    records = each-insert names IsRecordAt p.tables.outbox k s is.kept.records (fit.named, fit.spelled);
    index = is.kept.index;
  };
  numbered = numbered_record p.tables p.numbers k s is.numbered fit;
}

pub added_record : (p q : Parts) (k : List ℕ) (s : OutboxRow) → IsOpen p → IsFitRecord p.tables k s → q.tables ≡ record p.tables { outbox = map.insert p.tables.outbox k s } → q.ids ≡ p.ids
    → q.numbers ≡ map.insert p.numbers s.n k → IsOpen q × IsFitRecord p.tables k s × (q.tables ≡ with_part p.tables (handled k s))
added_record p q k s is fit tables ids numbers =
    let all : record { tables = with_part p.tables (handled k s); ids = p.ids; numbers = map.insert p.numbers s.n k } ≡ q = λ i. record { tables = sym tables i; ids = sym ids i; numbers = sym numbers i } in
    (subst IsOpen all (open_record p k s is fit), fit, tables)

only_record : (c : Cell) (r : OutboxRow) → c.space ≡ 4 → ((id : List ℕ) (o : OutboxRow) → IsId id → IsRecord o → c ≡ cell_of_record id o → o ≡ r) → IsOnly c (handled c.key r)
only_record c r four unique t (count n) e fits = absurd (let x = space_is c (cell_of (count n)) e in omega arith)
only_record c r four unique t (saga o) e fits = absurd (let x = space_is c (cell_of (saga o)) e in omega arith)
only_record c r four unique t (row o) e fits = absurd (let x = space_is c (cell_of (row o)) e in omega arith)
only_record c r four unique t (handled id o) e fits = λ i. handled (ap (λ (x : Cell). x.key) (sym e) i) (unique id o fits.named fits.spelled e i)

pub reads_record : {T : Type 0} (p q : Parts) (c : Cell) (id : List ℕ) (r : OutboxRow) (result : Result T StoreFault) → c.space ≡ 4 → id ≡ c.key → c ≡ cell_of_record c.key r
    → ((id : List ℕ) (o : OutboxRow) → IsId id → IsRecord o → c ≡ cell_of_record id o → Some o ≡ Some r) → AddsPart p (handled id r) c q result → ReadsCell p c q result
reads_record p q c id r result four id_is is unique adds =
    reads_cell p (handled c.key r) c q result is (only_record c r four (λ i o named spelled e. inside o r (unique i o named spelled e))) (subst (λ k. AddsPart p (handled k r) c q result) id_is adds)

pub no_record : (t : Tables) (c : Cell) → c.space ≡ 4 → ((id : List ℕ) (o : OutboxRow) → IsId id → IsRecord o → c ≢ cell_of_record id o) → IsGood t c → ⊥
no_record t c four never (count n, e, fits) = let x = space_is c (cell_of (count n)) e in absurd (omega arith)
no_record t c four never (saga o, e, fits) = let x = space_is c (cell_of (saga o)) e in absurd (omega arith)
no_record t c four never (row o, e, fits) = let x = space_is c (cell_of (row o)) e in absurd (omega arith)
no_record t c four never (handled id r, e, fits) = never id r fits.named fits.spelled e

-- ---- the count

count_cases : (one : Bool) (b n : ℕ) (bytes : List ℕ) → (one ≡ true → b ≡ 1) → IsBytes bytes → cond one (whole u64_in bytes) None ≡ Some n → (n < 2 ^ 64) × (b ∷ bytes ≡ spelled_count n)
count_cases true b n bytes is fits e =
    let f = whole_found (λ n. n < 2 ^ 64) spelled_u64 u64_in bytes n format_u64 fits e in
    (f.0, ap (λ k. k ∷ bytes) (is refl) ∙ ap (λ (t : List ℕ). 1 ∷ t) f.1)
count_cases false b n bytes is fits e = absurd cc

pub count_found : (bytes : List ℕ) (n : ℕ) → IsBytes bytes → count_in bytes ≡ Some n → (n < 2 ^ 64) × (bytes ≡ spelled_count n)
unfolding count_in
count_found [] n fits e = absurd cc
count_found (b ∷ bytes) n fits e = count_cases (b == 1) b n bytes (eqb-true b 1) (IsBytes-rest b bytes fits) e

pub count_again : (n : ℕ) → n < 2 ^ 64 → count_in (spelled_count n) ≡ Some n
unfolding count_in
count_again n short = whole_again (λ n. n < 2 ^ 64) spelled_u64 u64_in n format_u64 short

no_versions : (v : ℕ) → IsVersion 0 v → ⊥
no_versions v is = absurd (let a = is.0 in let b = is.1 in omega arith)

no_version : (t : Tables) (v : ℕ) → t.commits ≡ 0 → IsVersion t.commits v → ⊥
no_version t v none is = no_versions v (subst (λ n. IsVersion n v) none is)

open_count : (p : Parts) (n : ℕ) → IsOpen p → IsFitCount p.tables n → IsOpen (record p { tables = record p.tables { commits = n } })
open_count p n is fit = record {
  kept = record {
    sound = record {
      base = record {
        commits = fit.to;
        sagas = λ place r at. absurd (no_version p.tables r.version fit.new (is.kept.sound.base.sagas place r at).version);
        ids = is.kept.sound.base.ids;
        rows = λ name r at. absurd (no_version p.tables r.version fit.new (is.kept.sound.base.rows name r at));
      };
      records = λ id r at. absurd (no_version p.tables r.n fit.new (is.kept.sound.records id r at).number);
      numbers = is.kept.sound.numbers;
    };
    spelled = record { sagas = is.kept.spelled.sagas; rows = is.kept.spelled.rows };
    records = is.kept.records;
    index = is.kept.index;
  };
  numbered = is.numbered;
}

pub added_count : (p : Parts) (n : ℕ) → IsOpen p → IsFitCount p.tables n → IsOpen (record p { tables = record p.tables { commits = n } }) × IsFitCount p.tables n × (record p.tables { commits = n } ≡ with_part p.tables (count n))
added_count p n is fit = (open_count p n is fit, fit, refl)

only_count : (c : Cell) (n : ℕ) → c.space ≡ 1 → count_in c.bytes ≡ Some n → IsOnly c (count n)
only_count c n one read t (count o) e fits =
    ap count (inside o n (sym (count_again o (omega (arith, fits.to))) ∙ ap (λ (x : Cell). count_in x.bytes) (sym e) ∙ read))
only_count c n one read t (saga o) e fits = absurd (let x = space_is c (cell_of (saga o)) e in omega arith)
only_count c n one read t (row o) e fits = absurd (let x = space_is c (cell_of (row o)) e in omega arith)
only_count c n one read t (handled id o) e fits = absurd (let x = space_is c (cell_of (handled id o)) e in omega arith)

pub reads_count : {T : Type 0} (p q : Parts) (c : Cell) (n : ℕ) (result : Result T StoreFault) → c.space ≡ 1 → c.key ≡ [] → IsBytes c.bytes → count_in c.bytes ≡ Some n → AddsPart p (count n) c q result → ReadsCell p c q result
reads_count p q c n result one key fits read adds =
    let f = count_found c.bytes n fits read in
    reads_cell p (count n) c q result (λ i. record { space = one i; key = key i; bytes = f.1 i }) (only_count c n one read) adds

pub no_count : (t : Tables) (c : Cell) → c.space ≡ 1 → ((n : ℕ) → n < 2 ^ 64 → c ≢ cell_of_count n) → IsGood t c → ⊥
no_count t c one never (count n, e, fits) = never n (let to = fits.to in omega arith) e
no_count t c one never (saga o, e, fits) = let x = space_is c (cell_of (saga o)) e in absurd (omega arith)
no_count t c one never (row o, e, fits) = let x = space_is c (cell_of (row o)) e in absurd (omega arith)
no_count t c one never (handled id r, e, fits) = let x = space_is c (cell_of (handled id r)) e in absurd (omega arith)

none_read : (n : ℕ) → None ≡ Some n → ⊥
none_read n e = cc

pub unread_count : (t : Tables) (c : Cell) → c.space ≡ 1 → count_in c.bytes ≡ None → IsGood t c → ⊥
unread_count t c one unread = no_count t c one (λ n short e. none_read n (sym unread ∙ ap (λ (x : Cell). count_in x.bytes) e ∙ count_again n short))

pub keyed_count : (t : Tables) (c : Cell) → c.space ≡ 1 → c.key ≢ [] → IsGood t c → ⊥
keyed_count t c one keyed = no_count t c one (λ n short e. keyed (ap (λ (x : Cell). x.key) e))

pub no_part : (t : Tables) (c : Cell) → c.space ≢ 1 → c.space ≢ 2 → c.space ≢ 3 → c.space ≢ 4 → IsGood t c → ⊥
no_part t c one two three four (count n, e, fits) = one (space_is c (cell_of (count n)) e)
no_part t c one two three four (saga o, e, fits) = two (space_is c (cell_of (saga o)) e)
no_part t c one two three four (row o, e, fits) = three (space_is c (cell_of (row o)) e)
no_part t c one two three four (handled id r, e, fits) = four (space_is c (cell_of (handled id r)) e)

pub damaged_reads : (p q : Parts) (c : Cell) (f : StoreFault) → IsDamaged c f → (IsGood p.tables c → ⊥) → ReadsCell {T = Unit {0}} p c q (Err f)
damaged_reads p q c Failed is bad = is
damaged_reads p q c (Damaged space key) is bad = (bad, is.0, is.1)
damaged_reads p q c Spent is bad = is
damaged_reads p q c NoMemory is bad = tt

-- ---- nothing read yet

pub no_entries : {K V : Type 0} (R : K → K → Ordering) → map.entries (map.empty {X = V} {R = R}) ≡ []
no_entries R = nil_from_length _ (sym (map.len-entries _) ∙ map.len-empty R _)

none_there : {K V : Type 0} (R : K → K → Ordering) (k : K) (v : V) → map.get (map.empty {R = R}) k ≡ Some v → ⊥
none_there R k v e = clash v (sym (map.get-empty R k) ∙ e)

abbrev pub nothing : Parts
nothing = record { tables = no_tables; ids = map.empty; numbers = map.empty }

pub open_nothing : IsOpen nothing
open_nothing = record {
  kept = record {
    sound = record {
      base = record {
        commits = omega arith;
        sagas = λ place r at. absurd (none_there saga_key_cmp place r at);
        ids = λ p q a b at_p at_q same. absurd (none_there saga_key_cmp p a at_p);
        rows = λ name r at. absurd (none_there name_cmp name r at);
      };
      records = λ id r at. absurd (none_there name_cmp id r at);
      numbers = λ i j a b at_i at_j same. absurd (none_there name_cmp i a at_i);
    };
    spelled = record { sagas = rw (no_entries {V = SagaRow} saga_key_cmp) tt; rows = rw (no_entries {V = Row} name_cmp) tt };
    records = rw (no_entries {V = OutboxRow} name_cmp) tt;
    index = record { found = λ place r at. absurd (none_there saga_key_cmp place r at); only = λ id place at. absurd (none_there name_cmp id place at) };
  };
  numbered = record { found = λ id r at. absurd (none_there name_cmp id r at); only = λ n id at. absurd (none_there nat_cmp n id at) };
}

-- ---- one cell after the other

pub Joins-append : (xs ys : List Cell) (t u v : Tables) → Joins xs t u → Joins ys u v → Joins (xs ++ ys) t v
Joins-append [] ys t u v first second = subst (λ w. Joins ys w v) (sym first) second
Joins-append (x ∷ xs) ys t u v first second = (first.0, first.1, Joins-append xs ys first.0 u v first.2 second)

pub Joins-push : (xs : List Cell) (c : Cell) (t u v : Tables) → Joins xs t u → Joined u c v → Joins (xs ++ c ∷ []) t v
Joins-push xs c t u v first second = Joins-append xs (c ∷ []) t u v first (v, second, refl)

split_at : {A : Type 0} (xs : List A) (i : ℕ) (x : A) → slice_get xs i ≡ Some x → (more : List A) × (xs ≡ take i xs ++ x ∷ more)
split_at [] i x e = absurd cc
split_at (y ∷ ys) zero x e = (ys, cc)
split_at (y ∷ ys) (suc i) x e = let s = split_at ys i x e in (s.0, ap (λ zs. y ∷ zs) s.1)

-- so far
pub record Read (p q : Parts) (cs : List Cell) : Type 0 where
  pub open_now : IsOpen q
  pub joins : Joins cs p.tables q.tables

pub Read-start : (p : Parts) (cs : List Cell) → IsOpen p → Read p p (take 0 cs)
Read-start p cs is = record { open_now = is; joins = refl }

pub Read-next : (p q r : Parts) (cs : List Cell) (i : ℕ) (c : Cell) → Read p q (take i cs) → slice_get cs i ≡ Some c → IsOpen r × Joined q.tables c r.tables → Read p r (take (i + 1) cs)
Read-next p q r cs i c so_far at one = rw (take_next cs i c at) (record { open_now = one.0; joins = Joins-push (take i cs) c p.tables q.tables r.tables so_far.joins one.1 })

pub Read-fault : (p q r : Parts) (cs : List Cell) (i : ℕ) (c : Cell) (f : StoreFault) → Read p q (take i cs) → slice_get cs i ≡ Some c → ReadsCell {T = Unit {0}} q c r (Err f) → ReadsCells {T = Unit {0}} p cs r (Err f)
Read-fault p q r cs i c Failed so_far at bad = bad
Read-fault p q r cs i c (Damaged space key) so_far at bad =
    let s = split_at cs i c at in
    record { before = take i cs; cell = c; after = s.0; found = q.tables; order = s.1; good = so_far.joins; bad = bad.0; space_is = bad.1; key_is = bad.2 }
Read-fault p q r cs i c Spent so_far at bad = bad
Read-fault p q r cs i c NoMemory so_far at bad = tt

pub Read-end : (p q : Parts) (cs : List Cell) (i : ℕ) → Read p q (take i cs) → length cs ≤ i → IsOpen q × Joins cs p.tables q.tables
Read-end p q cs i so_far all = (so_far.open_now, subst (λ xs. Joins xs p.tables q.tables) (take_all i cs all) so_far.joins)

-- ---- one list after the other

pub fault_first : (p q r : Parts) (xs ys : List Cell) (f : StoreFault) → ReadsCells {T = Unit {0}} p xs q (Err f) → ReadsCells {T = Unit {0}} p (xs ++ ys) r (Err f)
fault_first p q r xs ys Failed bad = bad
fault_first p q r xs ys (Damaged space key) bad =
    record { before = bad.before; cell = bad.cell; after = bad.after ++ ys; found = bad.found; order = ap (λ (zs : List Cell). zs ++ ys) bad.order ∙ append_assoc bad.before (bad.cell ∷ bad.after) ys; good = bad.good; bad = bad.bad; space_is = bad.space_is; key_is = bad.key_is }
fault_first p q r xs ys Spent bad = bad
fault_first p q r xs ys NoMemory bad = tt

pub both_read : {U : Type 0} (p q r : Parts) (xs ys : List Cell) (result : Result U StoreFault) → IsOpen q × Joins xs p.tables q.tables → ReadsCells q ys r result → ReadsCells p (xs ++ ys) r result
both_read p q r xs ys (Ok x) first second = (second.0, Joins-append xs ys p.tables q.tables r.tables first.1 second.1)
both_read p q r xs ys (Err Failed) first second = second
both_read p q r xs ys (Err (Damaged space key)) first bad =
    record { before = xs ++ bad.before; cell = bad.cell; after = bad.after; found = bad.found; order = ap (λ (zs : List Cell). xs ++ zs) bad.order ∙ sym (append_assoc xs bad.before (bad.cell ∷ bad.after)); good = Joins-append xs bad.before p.tables q.tables bad.found first.1 bad.good; bad = bad.bad; space_is = bad.space_is; key_is = bad.key_is }
both_read p q r xs ys (Err Spent) first second = second
both_read p q r xs ys (Err NoMemory) first second = tt
