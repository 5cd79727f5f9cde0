use Rattle.std.proofs.Common.{◌≡◌, ◌∙◌, ◌∷◌, [], ap, sym}
use Rattle.std.specs.Option.{option_copied}
use Rattle.nb_base.specs.declared.entry.OutboxRow.{OutboxRow}
use Rattle.nb_cells.specs.declared.change.Change.TheVariants.{Put}
use Rattle.nb_outbox.specs.Spelled.{spelled_record, sent_record}
use Rattle.nb_store.specs.Applied.{Leads}
use Rattle.nb_store.specs.Calls.{marked}
use Rattle.nb_store.proofs.CommitLaws.{mark_leads}
use Rattle.nb_store.proofs.KeptLaws.{inside, marked_again}
use Rattle.nb_store.proofs.store.Store.mark.Goals as goal

pub returns-then-row-clause-tables : goal.returns-then-row-clause-tables
returns-then-row-clause-tables g c = λ r at.
    let this : c.unwrap-row.result.now ≡ r = inside c.unwrap-row.result.now r (sym (ap option_copied c.unwrap-row.ensures) ∙ c.record.ensures.value ∙ at) in
    sym (marked_again c.args.self.now.tables c.args.id.now r c.record.ensures.sound at (ap (λ (x : OutboxRow). x.sent) (sym this) ∙ c.if-row.true))

pub returns-in-Ok-clause-applied : goal.returns-in-Ok-clause-applied
returns-in-Ok-clause-applied g c = λ r at pending.
    let this : c.unwrap-row.result.now ≡ r = inside c.unwrap-row.result.now r (sym (ap option_copied c.unwrap-row.ensures) ∙ c.record.ensures.value ∙ at) in
    let changes : c.in_ok-changes.changes ≡ Put 4 c.args.id.now (spelled_record (sent_record r)) ∷ [] = c.in_ok-changes.ensures.changes ∙ ap (λ x. Put 4 c.args.id.now (spelled_record (sent_record x)) ∷ []) this in
    let leads : Leads c.in_ok-changes.changes c.args.self.now.tables (marked c.args.self.now.tables c.args.id.now r) = rw changes (mark_leads c.args.id.now c.args.self.now.tables r) in
    c.in-Ok.ensures.applied _ _ leads

pub returns-clause-applied : goal.returns-clause-applied
returns-clause-applied g c = λ r at pending.
    let this : c.unwrap-row.result.now ≡ r = inside c.unwrap-row.result.now r (sym (ap option_copied c.unwrap-row.ensures) ∙ c.record.ensures.value ∙ at) in
    let changes : c.in_ok-changes.changes ≡ Put 4 c.args.id.now (spelled_record (sent_record r)) ∷ [] = c.in_ok-changes.ensures.changes ∙ ap (λ x. Put 4 c.args.id.now (spelled_record (sent_record x)) ∷ []) this in
    let leads : Leads c.in_ok-changes.changes c.args.self.now.tables (marked c.args.self.now.tables c.args.id.now r) = rw changes (mark_leads c.args.id.now c.args.self.now.tables r) in
    c.in-Err.ensures.applied _ _ leads
