-- Whole cells of sagas and of rows.
use Rattle.std.specs.Prelude.{◌≡◌, ◌≢◌, ◌<◌, ◌^◌, ℕ, List, length, Bool, true, false, cond, Option, Some, None, Result, Ok, Err, IfOk, IsUtf8, refl}
use Rattle.std.proofs.Common.{◌∙◌, ap, sym, subst}
use Rattle.std.specs.Str.{is_utf8}
use Rattle.std.proofs.lemmas.Str.{is_utf8-from_IsUtf8, IsUtf8-from_is_utf8}
use Rattle.nb_base.specs.declared.saga_key.SagaKey.{SagaKey}
use Rattle.nb_base.specs.declared.saga_row.SagaRow.{SagaRow}
use Rattle.nb_base.specs.declared.tables.Row.{Row}
use Rattle.nb_cells.specs.declared.cell.Cell.{Cell}
use Rattle.nb_envelope.specs.Cells.{◌>>=◌, whole, Gives}
use Rattle.nb_envelope.specs.Formats.{IsBytes}
use Rattle.nb_envelope.specs.declared.fault.FormatFault.{FormatFault}
use Rattle.nb_envelope.specs.declared.fault.FormatFault.TheVariants.{Damaged}
use Rattle.nb_envelope.proofs.FormatLaws.{some_is, bind_some, whole_found, whole_again}
use Rattle.nb_saga_store.specs.Spelled.{spelled_place, spelled_saga, spelled_row, place_of, cell_of_saga, cell_of_row, IsPlace, IsRowOf, IsRow, IsStoredSaga, IsStoredRow}
use Rattle.nb_saga_store.specs.Read.{place_in, saga_in, row_in, saga_of, row_of}
use Rattle.nb_saga_store.specs.declared.stored.StoredSaga.{StoredSaga}
use Rattle.nb_saga_store.specs.declared.stored.StoredRow.{StoredRow}
use Rattle.nb_saga_store.proofs.FormatLaws.{format_place, format_saga, format_row}

-- ---- sagas

abbrev stored : SagaKey → SagaRow → Option StoredSaga
stored place row = Some (record { saga = place.saga; row = row })

abbrev content : List ℕ → SagaKey → Option StoredSaga
content bytes place = whole (saga_in place.corr) bytes >>= stored place

saga_found : (key bytes : List ℕ) (s : StoredSaga) → IsBytes key → IsBytes bytes → saga_of key bytes ≡ Some s → IsStoredSaga s × (key ≡ spelled_place (place_of s)) × (bytes ≡ spelled_saga s.row)
unfolding saga_of
saga_found key bytes s k b e =
    let p = bind_some (whole place_in key) (content bytes) s e in
    let r = bind_some (whole (saga_in p.0.corr) bytes) (stored p.0) s p.2 in
    let f = whole_found IsPlace spelled_place place_in key p.0 format_place k p.1 in
    let g = whole_found (IsRowOf p.0.corr) spelled_saga (saga_in p.0.corr) bytes r.0 (format_saga p.0.corr) b r.1 in
    let made : StoredSaga = record { saga = p.0.saga; row = r.0 } in
    let place : p.0 ≡ place_of made = λ i. record { saga = p.0.saga; corr = sym g.0.0 i } in
    subst (λ (x : StoredSaga). IsStoredSaga x × (key ≡ spelled_place (place_of x)) × (bytes ≡ spelled_saga x.row)) (some_is made s r.2)
    (record { place = subst IsPlace place f.0; row = g.0.1 }, f.1 ∙ ap spelled_place place, g.1)

saga_again : (s : StoredSaga) → IsStoredSaga s → saga_of (spelled_place (place_of s)) (spelled_saga s.row) ≡ Some s
unfolding saga_of
saga_again s is =
    ap (λ p. p >>= content (spelled_saga s.row)) (whole_again IsPlace spelled_place place_in (place_of s) format_place is.place)
    ∙ ap (λ r. r >>= stored (place_of s)) (whole_again (IsRowOf s.row.corr) spelled_saga (saga_in s.row.corr) s.row (format_saga s.row.corr) (refl, is.row))

-- ---- rows

abbrev named : List ℕ → Row → Option StoredRow
named key row = Some (record { name = key; version = row.version; value = row.value })

row_cases : (key bytes : List ℕ) (r : StoredRow) (utf8 : Bool) → is_utf8 key ≡ utf8 → IsBytes bytes → cond utf8 (whole row_in bytes >>= named key) None ≡ Some r
    → IsUtf8 key × IsRow (record { version = r.version; value = r.value }) × (key ≡ r.name) × (bytes ≡ spelled_row (record { version = r.version; value = r.value }))
row_cases key bytes r true is b e =
    let n = bind_some (whole row_in bytes) (named key) r e in
    let f = whole_found IsRow spelled_row row_in bytes n.0 format_row b n.1 in
    let made : StoredRow = record { name = key; version = n.0.version; value = n.0.value } in
    subst (λ (x : StoredRow). IsUtf8 key × IsRow (record { version = x.version; value = x.value }) × (key ≡ x.name) × (bytes ≡ spelled_row (record { version = x.version; value = x.value }))) (some_is made r n.2)
    (IsUtf8-from_is_utf8 key is, f.0, refl, f.1)
row_cases key bytes r false is b e = absurd cc

row_again : (r : StoredRow) → IsStoredRow r → row_of r.name (spelled_row (record { version = r.version; value = r.value })) ≡ Some r
unfolding row_of
row_again r is =
    ap (λ u. cond u (whole row_in (spelled_row (record { version = r.version; value = r.value })) >>= named r.name) None) (is_utf8-from_IsUtf8 r.name is.name.0)
    ∙ ap (λ o. o >>= named r.name) (whole_again IsRow spelled_row row_in (record { version = r.version; value = r.value }) format_row is.row)

-- ---- what a call gave that reads a cell

not_none : {A : Type 0} (x : A) → Some x ≡ None → ⊥
not_none x e = absurd cc

only_from : {A : Type 0} (meant : Option A) (x : A) (result : Result A FormatFault) → Gives (λ y. y) result meant → meant ≡ Some x → Gives (λ y. y) result (Some x)
only_from meant x result given is = subst (Gives (λ y. y) result) is given

damaged_from : {A : Type 0} (x : A) (result : Result A FormatFault) → Gives (λ y. y) result (Some x) → result ≡ Err Damaged → ⊥
damaged_from x result given damaged = not_none x (rw damaged at given)

pub read_saga-found : (cell : Cell) (result : Result StoredSaga FormatFault) → cell.space ≡ 2 → IsBytes cell.key × IsBytes cell.bytes → Gives (λ x. x) result (saga_of cell.key cell.bytes)
    → IfOk result (λ s. IsStoredSaga s × (cell ≡ cell_of_saga s))
read_saga-found cell (Ok s) space fits given =
    let f = saga_found cell.key cell.bytes s fits.0 fits.1 given in
    (f.0, λ i. record { space = space i; key = f.1 i; bytes = f.2 i })
read_saga-found cell (Err e) space fits given = tt

pub read_saga-only : (cell : Cell) (result : Result StoredSaga FormatFault) → Gives (λ x. x) result (saga_of cell.key cell.bytes)
    → (s : StoredSaga) → IsStoredSaga s → cell ≡ cell_of_saga s → Gives (λ x. x) result (Some s)
read_saga-only cell result given s is e = only_from (saga_of cell.key cell.bytes) s result given (ap (λ (c : Cell). saga_of c.key c.bytes) e ∙ saga_again s is)

pub read_saga-damaged : (cell : Cell) (result : Result StoredSaga FormatFault) → Gives (λ x. x) result (saga_of cell.key cell.bytes)
    → result ≡ Err Damaged → (s : StoredSaga) → IsStoredSaga s → cell ≢ cell_of_saga s
read_saga-damaged cell result given damaged s is e = damaged_from s result (read_saga-only cell result given s is e) damaged

pub read_row-found : (cell : Cell) (result : Result StoredRow FormatFault) → cell.space ≡ 3 → IsBytes cell.key × IsBytes cell.bytes → length cell.key < 2 ^ 32 → Gives (λ x. x) result (row_of cell.key cell.bytes)
    → IfOk result (λ r. IsStoredRow r × (cell ≡ cell_of_row r))
unfolding row_of
read_row-found cell (Ok r) space fits short given =
    let f = row_cases cell.key cell.bytes r (is_utf8 cell.key) refl fits.1 given in
    (subst (λ (name : List ℕ). IsStoredRow (record r { name = name })) f.2 (record { name = (f.0, short); row = f.1 }), λ i. record { space = space i; key = f.2 i; bytes = f.3 i })
read_row-found cell (Err e) space fits short given = tt

pub read_row-only : (cell : Cell) (result : Result StoredRow FormatFault) → Gives (λ x. x) result (row_of cell.key cell.bytes)
    → (r : StoredRow) → IsStoredRow r → cell ≡ cell_of_row r → Gives (λ x. x) result (Some r)
read_row-only cell result given r is e = only_from (row_of cell.key cell.bytes) r result given (ap (λ (c : Cell). row_of c.key c.bytes) e ∙ row_again r is)

pub read_row-damaged : (cell : Cell) (result : Result StoredRow FormatFault) → Gives (λ x. x) result (row_of cell.key cell.bytes)
    → result ≡ Err Damaged → (r : StoredRow) → IsStoredRow r → cell ≢ cell_of_row r
read_row-damaged cell result given damaged r is e = damaged_from r result (read_row-only cell result given r is e) damaged

-- ---- one row

pub row_of-utf8 : (key bytes : List ℕ) (row : Row) → IsUtf8 key → whole row_in bytes ≡ Some row → row_of key bytes ≡ Some (record { name = key; version = row.version; value = row.value })
unfolding row_of
row_of-utf8 key bytes row utf8 read = rw (is_utf8-from_IsUtf8 key utf8, read) refl

pub row_of-other : (key bytes : List ℕ) → (IsUtf8 key → ⊥) → row_of key bytes ≡ None
unfolding row_of
row_of-other key bytes other =
    (elim (is_utf8 key) as (λ u. is_utf8 key ≡ u → cond u (whole row_in bytes >>= named key) None ≡ None) [
      | true ↦ λ e. absurd (other (IsUtf8-from_is_utf8 key e))
      | false ↦ λ e. refl
    ]) refl
