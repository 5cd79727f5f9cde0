use Rattle.std.proofs.Common.{◌≡◌, length}
use Rattle.std.specs.Vec.Iter.{into_iter_items, into_iter_len}
use Rattle.nb_store.proofs.LinkLaws.{IsPutting}
use Rattle.nb_store.proofs.links.put_links.Given as goal

abbrev pub invariant-loop-link : goal.invariant-loop-link
invariant-loop-link l = IsPutting l.fn.links (into_iter_items l.link-iterator) l.fn.ids l.ids × (into_iter_len l.link-iterator ≡ length (into_iter_items l.link-iterator))
