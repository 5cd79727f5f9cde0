use Rattle.std.proofs.Common.{◌≡◌, ◌∙◌, sym, refl, arith}
use Rattle.std.specs.Prelude.{None, Some}
use Rattle.nb_base.specs.Messages.{header}
use Rattle.nb_envelope.specs.Cells.{header_in}
use Rattle.nb_envelope.proofs.HeaderLaws.{added, none_copied}
use Rattle.nb_envelope.proofs.take.add_header.Goals as goal

pub returns : goal.returns
unfolding header_in
returns c =
    let read : header_in c.args.bytes.now ≡ Some ((c.in_ok-name.name.now, c.in_ok-text.text), c.in_ok-text.rest.now) = rw (c.in_ok-name.ensures.value, c.in_ok-text.ensures) refl in
    let new : header c.args.headers.now c.in_ok-name.name.now ≡ None = sym c.get.ensures ∙ none_copied c.get.result (grind (arith, c.is_some.ensures, c.if-is_some.false)) in
    rw c.in_ok-set.ensures.ok (added _ _ _ _ _ read new)
