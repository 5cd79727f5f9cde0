use Rattle.std.proofs.Common.{◌≡◌, ◌∙◌, ◌++◌, string_bytes, get_or, sym, ap}
use Rattle.nb_report.specs.Lines.{discarded_line}
use Rattle.nb_report.proofs.PieceLaws.{one_more}
use Rattle.nb_report.proofs.reporting.discarded_lines.Goals as goal

pub loop-discard-preserved : goal.loop-discard-preserved
loop-discard-preserved c =
    let list = c.as_slice-discard-items.result.now in
    let i = c.loop-discard.discard-index in
    let line : string_bytes c.in_ok-line.line ≡ discarded_line (get_or list i c.discard-item.result) = c.in_ok-line.ensures ∙ ap discarded_line c.discard-item.is in
    c.in_ok-push_str.ensures.bytes
    ∙ ap (λ l. string_bytes c.loop-discard.out ++ l) (c.as_str.ensures.value ∙ line)
    ∙ ap (λ l. l ++ discarded_line (get_or list i c.discard-item.result)) c.loop-discard.invariant
    ∙ sym (one_more discarded_line list i c.discard-item.result c.loop-discard-test.true)
