use Rattle.std.proofs.Common.{◌≡◌, take}
use Rattle.serde_json.specs.View.{members_view}
use Rattle.nb_envelope.specs.Written.{as_members, by_name}
use Rattle.nb_envelope.proofs.write.headers_value.Given as goal

abbrev pub invariant-loop-i : goal.invariant-loop-i
invariant-loop-i l = members_view l.members.entries ≡ as_members (by_name (take l.i l.headers))
