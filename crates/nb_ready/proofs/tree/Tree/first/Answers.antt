use Rattle.std.proofs.Common.{sym, subst}
use Rattle.nb_ready.specs.First.{IsFirst}
use Rattle.nb_ready.proofs.NodeLaws.{first_empty, first_at_one}
use Rattle.nb_ready.proofs.tree.Tree.first.Goals as goal

pub returns-in-Empty : goal.returns-in-Empty
returns-in-Empty c = first_empty _ _ c.self.view_is c.in-Empty.is

pub returns-in-One : goal.returns-in-One
returns-in-One c = subst (IsFirst c.args.self.now.0) (sym c.of.ensures) (first_at_one _ _ _ _ c.self.view_is c.in-One.is)
