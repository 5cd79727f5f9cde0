use Rattle.nb_hub.proofs.Reading.{key_next}
use Rattle.nb_hub.proofs.looking.keys_of.Goals as goal

pub loop-i-preserved : goal.loop-i-preserved
loop-i-preserved c =
    key_next c.args.reads.now c.loop-i.i c.at.result.now c.loop-i.keys c.push.new.self c.in_ok-copy.field-0
    c.at.ensures c.in_ok-copy.ensures c.loop-i.invariant c.in_ok-push.ensures.ok
