use Rattle.std.proofs.Common.{◌++◌, sym, ap, ◌∙◌}
use Rattle.std.specs.FinMap as map
use Rattle.nb_check.specs.Sites.{numbers_in, numbers_of}
use Rattle.nb_check.proofs.TableLaws.{none_yet}
use Rattle.nb_check.proofs.sites.numbers_by_name.Goals as goal

pub loop-s-init : goal.loop-s-init
loop-s-init c = λ name. sym (ap (λ o. numbers_of o ++ numbers_in name 0 c.args.sites.now) (ap (λ m. map.get m name) c.new-named.ensures ∙ none_yet name))
