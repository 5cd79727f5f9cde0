use Rattle.std.proofs.Common.{◌≡◌, inl, inr, subst, Some, None, arith}
use Rattle.nb_envelope.specs.Cells.{u64_in, whole, Fails}
use Rattle.nb_envelope.specs.Formats.{IsBytes}
use Rattle.nb_envelope.specs.Spelling.{spelled_u64}
use Rattle.nb_envelope.proofs.FormatLaws.{format_u64, whole_found}
use Rattle.nb_queue.specs.Read.{entry_in}
use Rattle.nb_queue.specs.Spelled.{spelled_entry, IsEntry, IsNumber}
use Rattle.nb_queue.proofs.FormatLaws.{format_entry}
use Rattle.nb_queue.proofs.OpeningLaws.{no_number, same_number, no_entry}
use Rattle.nb_queue.proofs.opening.entry_of.Goals as goal

pub returns-in_default : goal.returns-in_default
returns-in_default c = λ x.
    let none = subst (λ e. Fails e (whole u64_in c.as_slice.result.now)) c.in_default.ensures.needs_no_memory c.in_default.ensures.given in
    no_number c.args.next x.0 x.1 c.args.cell.now.key c.args.cell.now.bytes (omega arith) (subst (λ b. whole u64_in b ≡ None) c.as_slice.ensures.value none) x.2

pub returns-then-number-lt1 : goal.returns-then-number-lt1
returns-then-number-lt1 c = λ x.
    let some = subst (λ b. whole u64_in b ≡ Some c.in-Ok.number) c.as_slice.ensures.value c.in-Ok.ensures.given in
    let same = same_number c.args.next x.0 c.in-Ok.number x.1 c.args.cell.now.key c.args.cell.now.bytes (omega arith) some x.2 in
    let from = x.2.from in
    let below = x.2.below in
    elim c.then-number-lt1.either [ inl low ↦ absurd (omega arith) | inr high ↦ absurd (omega (arith, high.1)) ]

pub returns-in-Ok-read_entry : goal.returns-in-Ok-read_entry
returns-in-Ok-read_entry c =
    let some = subst (λ b. whole u64_in b ≡ Some c.in-Ok.number) c.as_slice.ensures.value c.in-Ok.ensures.given in
    let key = whole_found IsNumber spelled_u64 u64_in c.args.cell.now.key c.in-Ok.number format_u64 (subst IsBytes c.as_slice.ensures.value c.in-Ok.ensures.bytes) some in
    let entry = subst (λ b. whole entry_in b ≡ Some c.in-Ok-read_entry.entry) c.as_slice-2.ensures.value c.in-Ok-read_entry.ensures.given in
    let bytes = whole_found IsEntry spelled_entry entry_in c.args.cell.now.bytes c.in-Ok-read_entry.entry format_entry (subst IsBytes c.as_slice-2.ensures.value c.in-Ok-read_entry.ensures.bytes) entry in
    record { key_is = key.1; bytes_are = bytes.1; spelled = bytes.0; from = omega arith; below = omega arith }

pub returns-in-Err-Damaged : goal.returns-in-Err-Damaged
returns-in-Err-Damaged c = λ x.
    let none = subst (λ e. Fails e (whole entry_in c.as_slice-2.result.now)) c.in-Err-Damaged.field-0-is c.in-Err-Damaged.ensures.given in
    no_entry c.args.next x.0 x.1 c.args.cell.now.key c.args.cell.now.bytes (subst (λ b. whole entry_in b ≡ None) c.as_slice-2.ensures.value none) x.2
