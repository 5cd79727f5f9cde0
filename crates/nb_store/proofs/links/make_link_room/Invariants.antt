use Rattle.nb_store.proofs.LinkLaws.{IsLinking}
use Rattle.nb_store.proofs.links.make_link_room.Given as goal

abbrev pub invariant-loop-i : goal.invariant-loop-i
invariant-loop-i l = IsLinking l.links l.i l.fn.ids l.ids
