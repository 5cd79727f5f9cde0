use Rattle.std.proofs.Common.{◌≡◌, ◌∙◌, ap, map as map_list, fold, rules}
use Rattle.std.specs.FinMap as map
use Rattle.std.specs.Map.Iter.{deref_pair}
use Rattle.std.proofs.lemmas.Map.Iter.{iter_end}
use Rattle.nb_base.proofs.Copies.{with_one, fold-entries}
use Rattle.nb_base.proofs.Maps.{names}
use Rattle.nb_base.proofs.by_name.ByNameCopied.copy.Goals as goal

pub returns : goal.returns
returns g c =
    let all : map_list deref_pair c.loop-name.yielded ≡ map.entries c.args.self.now = search (rules, iter_end) in
    c.loop-name.invariant ∙ ap (fold with_one map.empty) all ∙ fold-entries names c.args.self.now
