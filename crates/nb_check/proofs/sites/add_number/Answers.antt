use Rattle.nb_check.proofs.SiteLaws.{number_more}
use Rattle.nb_check.proofs.sites.add_number.Goals as goal

pub returns : goal.returns
returns c =
    number_more c.args.named.now c.take_numbers-numbers.new.named c.insert.new.self c.args.name.now c.in_ok-key.key c.args.number c.take_numbers-numbers.result c.push.new.self c.take_numbers-numbers.ensures.rest c.take_numbers-numbers.ensures.value
    c.in_ok-push.ensures.ok c.in_ok-key.ensures c.in_ok-insert.ensures.ok
