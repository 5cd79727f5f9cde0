use Rattle.std.proofs.Common.{◌≡◌, ◌∙◌, List, ℕ, Ok, subst}
use Rattle.nb_envelope.specs.Lines.{line_of}
use Rattle.nb_endpoint.proofs.Sampled.{sampled_more}
use Rattle.nb_endpoint.proofs.sampling.sampled.Goals as goal

pub loop-i-preserved : goal.loop-i-preserved
loop-i-preserved c =
    let line = subst (λ (b : List ℕ). line_of b ≡ Ok c.in-Ok.message) (c.as_slice.ensures.value ∙ c.in_ok-line.ensures) c.in-Ok.ensures in
    rw c.in_ok-push.ensures.ok (sampled_more c.args.seed c.loop-i.i c.loop-i.messages c.in-Ok.message c.loop-i.invariant line)
