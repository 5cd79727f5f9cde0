use Rattle.std.proofs.Common.{◌+◌, ◌∙◌, sym, ap}
use Rattle.std.specs.FinMap as map
use Rattle.nb_core.specs.declared.phase.Phase.TheVariants.{Idle, Sending}
use Rattle.nb_hub.proofs.Phasing.{there_now, advanced}
use Rattle.nb_hub.proofs.phases.advance.Goals as goal

pub replace-requires : goal.replace-requires
replace-requires c = there_now c.args.phases.now c.replace-sending.new.self c.from-2.result c.from.result Idle c.replace-sending.ensures.rest (c.from.ensures ∙ sym c.from-2.ensures)

pub returns : goal.returns
returns c =
    let x = c.in-Sending in
    let mid = c.replace-sending.new.self in
    advanced c.args.phases.now mid c.replace.new.self c.args.w c.from.result x.number x.k x.id x.ops
    c.from.ensures x.ensures.value c.replace-sending.ensures.rest
    (c.replace.ensures.rest ∙ ap (λ v. map.insert mid v (Sending x.number x.id x.ops (x.k + 1))) c.from-2.ensures)
