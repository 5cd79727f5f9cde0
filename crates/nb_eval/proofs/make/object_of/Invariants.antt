use Rattle.std.proofs.Common.{◌≡◌, length}
use Rattle.std.specs.Vec.Iter.{into_iter_items, into_iter_len}
use Rattle.serde_json.specs.Data.{no_members}
use Rattle.serde_json.specs.View.{members_view}
use Rattle.nb_eval.specs.Making.{with_members}
use Rattle.nb_eval.proofs.make.object_of.Given as goal

abbrev pub invariant-loop-f : goal.invariant-loop-f
invariant-loop-f l =
    (with_members no_members l.fn.fields ≡ with_members (members_view l.members.entries) (into_iter_items l.f-iterator)) × (into_iter_len l.f-iterator ≡ length (into_iter_items l.f-iterator))
