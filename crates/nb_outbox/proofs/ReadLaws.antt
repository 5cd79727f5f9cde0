-- Whole cells of records.
use Rattle.std.specs.Prelude.{◌≡◌, ◌≢◌, ◌<◌, ◌^◌, ◌&&◌, ◌==◌, ℕ, List, length, Bool, true, false, cond, nat_lt, Some, None, Result, Ok, Err, IfOk, IsUtf8, refl}
use Rattle.std.proofs.Common.{◌∙◌, ap, sym, subst, arith, true≢false}
use Rattle.std.specs.Str.{is_utf8}
use Rattle.std.proofs.lemmas.Str.{is_utf8-from_IsUtf8, IsUtf8-from_is_utf8}
use Rattle.nb_base.specs.declared.entry.OutboxRow.{OutboxRow}
use Rattle.nb_cells.specs.declared.cell.Cell.{Cell}
use Rattle.nb_envelope.specs.Cells.{whole, Gives}
use Rattle.nb_envelope.specs.Formats.{IsBytes}
use Rattle.nb_envelope.specs.declared.fault.FormatFault.{FormatFault}
use Rattle.nb_envelope.specs.declared.fault.FormatFault.TheVariants.{Damaged}
use Rattle.nb_envelope.proofs.FormatLaws.{whole_found, whole_again}
use Rattle.nb_outbox.specs.Spelled.{spelled_record, cell_of_record, IsId, IsRecord}
use Rattle.nb_outbox.specs.Read.{record_in, record_of}
use Rattle.nb_outbox.proofs.FormatLaws.{named_from, from_named, format_record}

pub is_named : (n : ℕ) → (n ≡ 0 → ⊥) → nat_lt 0 n ≡ true
is_named n other = grind (arith, other)

both_true : (a b : Bool) → (a && b) ≡ true → (a ≡ true) × (b ≡ true)
both_true true b e = (refl, e)
both_true false b e = absurd (true≢false (sym e))

id_cases : (id bytes : List ℕ) (r : OutboxRow) (is : Bool) → (is_utf8 id && nat_lt 0 (length id)) ≡ is → length id < 2 ^ 32 → IsBytes bytes → cond is (whole record_in bytes) None ≡ Some r
    → IsId id × IsRecord r × (bytes ≡ spelled_record r)
id_cases id bytes r true is short b e =
    let t = both_true (is_utf8 id) (nat_lt 0 (length id)) is in
    let f = whole_found IsRecord spelled_record record_in bytes r format_record b e in
    (((IsUtf8-from_is_utf8 id t.0, short), named_from id t.1), f.0, f.1)
id_cases id bytes r false is short b e = absurd cc

record_again : (id : List ℕ) (r : OutboxRow) → IsId id → IsRecord r → record_of id (spelled_record r) ≡ Some r
unfolding record_of
record_again id r is_id is = rw (is_utf8-from_IsUtf8 id is_id.0.0, from_named id is_id.1) (whole_again IsRecord spelled_record record_in r format_record is)

not_none : {A : Type 0} (x : A) → Some x ≡ None → ⊥
not_none x e = absurd cc

pub read-found : (cell : Cell) (result : Result OutboxRow FormatFault) → cell.space ≡ 4 → IsBytes cell.bytes → length cell.key < 2 ^ 32 → Gives (λ x. x) result (record_of cell.key cell.bytes)
    → IfOk result (λ r. IsId cell.key × IsRecord r × (cell ≡ cell_of_record cell.key r))
unfolding record_of
read-found cell (Ok r) space fits short given =
    let f = id_cases cell.key cell.bytes r (is_utf8 cell.key && nat_lt 0 (length cell.key)) refl short fits given in
    (f.0, f.1, λ i. record { space = space i; key = cell.key; bytes = f.2 i })
read-found cell (Err e) space fits short given = tt

pub read-only : (cell : Cell) (result : Result OutboxRow FormatFault) → Gives (λ x. x) result (record_of cell.key cell.bytes)
    → (id : List ℕ) (r : OutboxRow) → IsId id → IsRecord r → cell ≡ cell_of_record id r → Gives (λ x. x) result (Some r)
read-only cell result given id r is_id is e = subst (Gives (λ x. x) result) (ap (λ (c : Cell). record_of c.key c.bytes) e ∙ record_again id r is_id is) given

pub read-damaged : (cell : Cell) (result : Result OutboxRow FormatFault) → Gives (λ x. x) result (record_of cell.key cell.bytes)
    → result ≡ Err Damaged → (id : List ℕ) (r : OutboxRow) → IsId id → IsRecord r → cell ≢ cell_of_record id r
read-damaged cell result given damaged id r is_id is e = not_none r (rw damaged at (read-only cell result given id r is_id is e))

-- ---- one record

record_of-named : (id bytes : List ℕ) → IsUtf8 id → 0 < length id → record_of id bytes ≡ whole record_in bytes
unfolding record_of
record_of-named id bytes utf8 named = rw (is_utf8-from_IsUtf8 id utf8, is_named (length id) (λ none. omega arith)) refl

pub given_named : (id bytes : List ℕ) (result : Result OutboxRow FormatFault) → IsUtf8 id → 0 < length id → Gives (λ x. x) result (whole record_in bytes) → Gives (λ x. x) result (record_of id bytes)
given_named id bytes result utf8 named given = subst (Gives (λ x. x) result) (sym (record_of-named id bytes utf8 named)) given

pub some_bytes : (n : ℕ) → (n == 0) ≡ false → 0 < n
some_bytes n e = grind (arith, e)

pub record_of-empty : (id bytes : List ℕ) → length id ≡ 0 → record_of id bytes ≡ None
unfolding record_of
record_of-empty id bytes none = rw none (elim (is_utf8 id) as (λ u. cond (u && false) (whole record_in bytes) None ≡ None) [ true ↦ refl | false ↦ refl ])

pub record_of-other : (id bytes : List ℕ) → (IsUtf8 id → ⊥) → record_of id bytes ≡ None
unfolding record_of
record_of-other id bytes other =
    (elim (is_utf8 id) as (λ u. is_utf8 id ≡ u → cond (u && nat_lt 0 (length id)) (whole record_in bytes) None ≡ None) [
      | true ↦ λ e. absurd (other (IsUtf8-from_is_utf8 id e))
      | false ↦ λ e. refl
    ]) refl
