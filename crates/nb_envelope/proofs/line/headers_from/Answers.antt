use Rattle.std.proofs.Common.{refl}
use Rattle.std.specs.Prelude.{string_cmp}
use Rattle.std.proofs.lemmas.Map.Keys.{IsDistinct-from_sorted}
use Rattle.nb_envelope.proofs.Reading.{Keeps-start, Keeps-null, Keeps-text}
use Rattle.nb_envelope.proofs.line.headers_from.Goals as goal

pub loop-name-init : goal.loop-name-init
loop-name-init c =
    rw (c.into_iter-name-iterator.ensures.into_iter_gives, c.iter-name-items.ensures.rest, c.new-headers.ensures)
    (Keeps-start _ (IsDistinct-from_sorted string_cmp _ c.iter-name-items.ensures.ordered))

pub loop-name-preserved-in-Null : goal.loop-name-preserved-in-Null
loop-name-preserved-in-Null c = Keeps-null _ _ c.in-Some.name.now c.in-Some.value.now _ _ c.in-Some.ensures.steps c.in-Null.is c.loop-name.invariant

pub loop-name-preserved : goal.loop-name-preserved
loop-name-preserved c =
    Keeps-text _ _ _ c.in-Some.name.now c.in-Some.value.now c.in-String.text _ _ c.in-Some.ensures.steps c.in-String.is
    (rw (c.in_ok-set-in-String.ensures.ok, c.as_str-in-String.ensures.value, c.in_ok-text-in-String.ensures, c.as_str.ensures.value) refl) c.loop-name.invariant
