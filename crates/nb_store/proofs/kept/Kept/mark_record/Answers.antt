use Rattle.std.proofs.Common.{◌≡◌, ◌∙◌, Some, ap, sym, subst}
use Rattle.std.specs.FinMap as map
use Rattle.nb_base.specs.declared.tables.Tables.{Tables}
use Rattle.nb_outbox.specs.Spelled.{sent_record, IsRecord}
use Rattle.nb_store.specs.Kept.{IsKept}
use Rattle.nb_store.proofs.BatchLaws.{clash, put_there}
use Rattle.nb_store.proofs.KeptLaws.{kept_marked}
use Rattle.nb_store.proofs.kept.Kept.mark_record.Goals as goal

pub invariant_of-self : goal.invariant_of-self
invariant_of-self c =
    let r = c.requires.0 in
    let at : map.get c.self.inside.tables.outbox c.args.id ≡ Some r = ap (λ (t : Tables). map.get t.outbox c.args.id) c.self.view_is ∙ c.requires.1 in
    let new : c.insert.new.self ≡ map.insert c.self.inside.tables.outbox c.args.id (sent_record r) =
    put_there c.self.inside.tables.outbox c.insert.new.self c.args.id c.args.row c.insert.result c.insert.ensures.ok c.insert.ensures.only_new (λ none. clash r (sym at ∙ none))
    ∙ ap (map.insert c.self.inside.tables.outbox c.args.id) c.requires.2 in
    subst (λ o. IsKept (record { sagas = c.self.inside.tables.sagas; rows = c.self.inside.tables.rows; outbox = o; commits = c.self.inside.tables.commits }) c.self.inside.ids) (sym new)
    (kept_marked c.self.inside.tables c.self.inside.ids c.args.id r c.self.invariant at (subst IsRecord c.requires.2 c.requires.3))
