-- In a drained state the records are sent.
use Rattle.std.proofs.Common.{◌≡◌, ◌⊎◌, ◌≤◌, ℕ, Bool, true, false, Some, None, Option, refl, ◌∙◌, ⊎_elim, arith, List}
use Rattle.std.specs.FinMap as map
use Rattle.nb_base.specs.declared.entry.OutboxRow.{OutboxRow}
use Rattle.nb_base.specs.declared.tables.Queued.{Queued}
use Rattle.nb_headers.specs.Reads.{id_of}
use Rattle.nb_core.proofs.Waiting.{WaitingAt}
use Rattle.nb_core.specs.Drained.{Drained}
use Rattle.nb_core.specs.History.{Run}
use Rattle.nb_core.specs.Outcome.{AreSent}
use Rattle.nb_core.specs.Pending.{Since, since_first, Leads}
use Rattle.nb_core.specs.RunFacts.{since_at_end}
use Rattle.nb_core.specs.State.{State, Constants}
use Rattle.nb_core.specs.Step.{Event}

sent_or : (r : OutboxRow) → (r.sent ≡ false → ⊥) → r.sent ≡ true
sent_or r f = go r.sent refl
  where
    go : (b : Bool) → r.sent ≡ b → r.sent ≡ true
    go true e = e
    go false e = absurd (f e)

module _ (c : Constants) (s : State) (until : ℕ) (d : Drained c s until) where
  none_ready : (t : Since) (id : List ℕ) (n : ℕ) → (o : Option ℕ) → o ≡ Some n → Leads c.settings t.entries s.post.entries id o → ⊥
  none_ready t id n (Some k) e l = d.empty k l.it l.there l.ready
  none_ready t id n None e l = cc

  none_waits : (t : Since) (id : List ℕ) (n : ℕ) (e : Queued) → (o : Option ℕ) → o ≡ None → Leads c.settings t.entries s.post.entries id o → map.get t.entries n ≡ Some e → e.queue ≡ c.settings.endpoint → id_of e.envelope ≡ id
      → (e.due ≡ None) ⊎ ((due : ℕ) × (e.due ≡ Some due) × (due ≤ until)) → ⊥
  none_waits t id n e (Some k) is l there own same due = cc
  none_waits t id n e None is l there own same due =
      let x = l n e there own same in
      let now = d.empty n x.it x.there in
      ⊎_elim
      (λ (as_then : x.it.due ≡ e.due). ⊎_elim
      (λ (none : e.due ≡ None). now (x.queue ∙ own, as_then ∙ none))
      (λ (some : (due : ℕ) × (e.due ≡ Some due) × (due ≤ until)). let late = d.later n x.it some.0 x.there (as_then ∙ some.1) in let early = some.2 in omega arith)
      due)
      (λ (none : x.it.due ≡ None). now (x.queue ∙ own, none))
      x.due

pub are_sent : {c : Constants} {s s' : State} {es : List Event} (run : Run c s es s') (until : ℕ) → WaitingAt c (since_at_end (since_first s) run) s' → Drained c s' until → AreSent run until
are_sent {c = c} {s = s} {s' = s'} run until h d =
    let t = since_at_end (since_first s) run in
    record {
      committed = λ id r n there by. sent_or r (λ no. none_ready c s' until d t id n (t.committed_by id) by (h.stay id r there no));
      older = λ id r n e there by was own same due. sent_or r (λ no. none_waits c s' until d t id n e (t.committed_by id) by (h.stay id r there no) was own same due);
    }
