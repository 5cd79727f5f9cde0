use Rattle.std.proofs.Common.{◌∙◌, ap, sym}
use Rattle.std.specs.Prelude.{is_some}
use Rattle.nb_saga_store.proofs.OnceLaws.{SeenNames-start, SeenNames-next, SeenNames-again, is_some_copied}
use Rattle.nb_saga_store.proofs.take.have_distinct_names.Goals as goal

pub loop-i-init : goal.loop-i-init
loop-i-init c = rw c.new-names.ensures (SeenNames-start c.args.fields.now)

pub returns-then-is_some : goal.returns-then-is_some
returns-then-is_some c =
    sym (SeenNames-again c.args.fields.now c.loop-i.i c.at.result.now c.loop-i.names c.loop-i.invariant c.at.ensures (ap is_some (sym c.get.ensures) ∙ is_some_copied c.get.result ∙ sym c.is_some.ensures ∙ c.if-is_some.true))

pub loop-i-preserved : goal.loop-i-preserved
loop-i-preserved c =
    rw (c.in_ok-insert.ensures.ok, c.in_ok-copy.ensures)
    (SeenNames-next c.args.fields.now c.loop-i.i c.at.result.now c.loop-i.names c.loop-i.i c.loop-i.invariant c.at.ensures (ap is_some (sym c.get.ensures) ∙ is_some_copied c.get.result ∙ sym c.is_some.ensures ∙ c.if-is_some.false))
