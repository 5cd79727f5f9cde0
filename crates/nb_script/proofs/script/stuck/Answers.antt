use Rattle.std.proofs.Common.{◌∙◌}
use Rattle.nb_script.proofs.Parsed.{stuck_bad}
use Rattle.nb_script.proofs.script.stuck.Goals as goal

pub returns-in-Bad : goal.returns-in-Bad
returns-in-Bad c =
    stuck_bad c.args.text.now c.args.lexemes.now c.args.fault c.args.token c.in-Bad.fault c.in-Bad.at c.unreadable.result c.requires.text c.requires.tokens c.requires.first c.in-None.ensures (c.requires.tail ∙ c.in-Bad.is) c.unreadable.ensures.place c.unreadable.ensures.kind
