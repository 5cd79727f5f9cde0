use Rattle.nb_envelope.proofs.WriteLaws.{Wrote-next, header_put}
use Rattle.nb_envelope.proofs.put.put_headers.Goals as goal

pub loop-i-preserved : goal.loop-i-preserved
loop-i-preserved c =
    let text = rw c.as_str.ensures.value at c.in_ok-put_text-2.ensures in
    let put = header_put _ _ _ (c.at.result.0.now, c.at.result.1.now) c.in_ok-put_text.ensures.bytes text.bytes in
    Wrote-next _ _ _ _ _ _ _ _ c.loop-i.invariant c.at.ensures put (c.in_ok-put_text.ensures.fits, text.fits)
