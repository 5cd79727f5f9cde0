use Rattle.std.proofs.Common.{◌≡◌, inl, inr, subst, Some, None, arith}
use Rattle.nb_envelope.specs.Cells.{whole, Fails}
use Rattle.nb_envelope.specs.Formats.{IsBytes}
use Rattle.nb_envelope.proofs.FormatLaws.{whole_found}
use Rattle.nb_queue.specs.Read.{next_in}
use Rattle.nb_queue.specs.Spelled.{spelled_next, IsNumber}
use Rattle.nb_queue.proofs.FormatLaws.{format_next}
use Rattle.nb_queue.proofs.OpeningLaws.{no_next, same_next}
use Rattle.nb_queue.proofs.opening.next_of.Goals as goal

pub returns-in_default : goal.returns-in_default
returns-in_default c = λ x.
    let none = subst (λ e. Fails e (whole next_in c.as_slice.result.now)) c.in_default.ensures.needs_no_memory c.in_default.ensures.given in
    no_next c.args.cell.now.key c.args.cell.now.bytes (subst (λ b. whole next_in b ≡ None) c.as_slice.ensures.value none) x.0 x.1

pub returns-then-next-lt2 : goal.returns-then-next-lt2
returns-then-next-lt2 c = λ x.
    let some = subst (λ b. whole next_in b ≡ Some c.in-Ok.next) c.as_slice.ensures.value c.in-Ok.ensures.given in
    let same = same_next c.args.cell.now.key c.args.cell.now.bytes c.in-Ok.next x.0 some x.1 in
    let from = x.1.from in
    let to = x.1.to in
    elim c.then-next-lt2.either [ inl low ↦ absurd (omega arith) | inr high ↦ absurd (omega (arith, high.1)) ]

pub returns : goal.returns
returns c =
    let some = subst (λ b. whole next_in b ≡ Some c.in-Ok.next) c.as_slice.ensures.value c.in-Ok.ensures.given in
    let bytes = subst IsBytes c.as_slice.ensures.value c.in-Ok.ensures.bytes in
    let found = whole_found IsNumber spelled_next next_in c.args.cell.now.bytes c.in-Ok.next format_next bytes some in
    record { key_is = c.is_empty.ensures.0 c.if-not-is_empty.false; bytes_are = found.1; from = omega arith; to = omega arith }
