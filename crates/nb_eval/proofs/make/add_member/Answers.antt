use Rattle.std.proofs.Common.{refl}
use Rattle.serde_json.proofs.Views.{members_view-insert_entry}
use Rattle.nb_eval.proofs.make.add_member.Goals as goal

pub returns : goal.returns
returns c = rw (c.in_ok-insert.ensures.entries, members_view-insert_entry, c.into_string.ensures, c.data_of.ensures) refl
