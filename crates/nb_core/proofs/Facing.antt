-- The facts at the end of every legal run.
use Rattle.std.proofs.Common.{◌≡◌, ◌⊎◌, ℕ, Some, None, sym, ap, ◌∙◌, inl, inr, ⊎_elim, subst, List, []}
use Rattle.std.specs.FinMap as map
use Rattle.nb_base.specs.Meanings.{IsMeaning}
use Rattle.nb_base.specs.declared.tables.Queued.{Queued}
use Rattle.nb_headers.specs.Reads.{id_of, failed_queue}
use Rattle.nb_core.proofs.Copies.{error_apart}
use Rattle.nb_core.proofs.Earning.{Left, earning_at_first, earning_at_end, parent_failed}
use Rattle.nb_core.proofs.Held.{phase_empty}
use Rattle.nb_core.proofs.Placing.{Mark, settled, put_aside, First_marks, Marks_at_end, IsCopy, Elsewhere, PlacingAt, placing_at_first, placing_at_end, settled_is, aside_is, ready_no_copy}
use Rattle.nb_core.proofs.Placing as placing
use Rattle.nb_core.proofs.Putting.{Put, putting_at_first, putting_at_end}
use Rattle.nb_core.proofs.Recounting.{recounting_at_first, recounting_at_end}
use Rattle.nb_core.proofs.Serials.{kept_at_opening}
use Rattle.nb_core.proofs.Stating.{state_facts}
use Rattle.nb_core.proofs.Waiting.{waiting_at_first, waiting_at_end, forget}
use Rattle.nb_core.specs.Earned.{traced_at_first}
use Rattle.nb_core.specs.History.{Opening, Run, opened, commits, discards}
use Rattle.nb_core.specs.Legal.{IsSound}
use Rattle.nb_core.specs.Pending.{since_first}
use Rattle.nb_core.specs.Placed.{IsHandled, IsRecorded, IsDiscarded}
use Rattle.nb_core.specs.RunFacts.{Facts, MayGo, handled, recorded_before, discarded, copied, HasCopy, IsPutAside}
use Rattle.nb_core.specs.State.{State, Constants, number_of, IsReady, entry}
use Rattle.nb_core.specs.Step.{Event}

module _ {c : Constants} {s s' : State} {es : List Event} (run : Run c s es s') where
  -- a copy that was marked stands elsewhere
  copy_of : (n : ℕ) (id : List ℕ) (e : Queued) → entry s' n ≡ Some e → IsReady c.settings e → Elsewhere c.settings (Marks_at_end (First_marks s) run) s'.post.entries s'.back id → HasCopy run n id
  unfolding IsCopy
  copy_of n id e there ready x = record {
    number = x.number;
    other = λ same.
        let it_is : x.it ≡ e = (let z : Some x.it ≡ Some e = sym x.there ∙ ap (map.get s'.post.entries) same ∙ there in cc) in
        ready_no_copy c.settings (error_apart c.settings) e ready (subst (λ (y : Queued). IsCopy c.settings y.queue y.due y.envelope) it_is x.copy);
    it = x.it;
    there = x.there;
    id_is = x.id_is;
    put = ⊎_elim (λ (y : ⊥). absurd y) (λ (y : IsPutAside x.number run). y) (aside_is (First_marks s) run x.number x.aside);
    stands = ⊎_elim
        (λ (y : (x.it.queue ≡ c.settings.endpoint) × ((d : ℕ) × (x.it.due ≡ Some d))). inl y)
        (λ (y : (x.it.queue ≡ c.settings.error) × (x.it.due ≡ None) × (failed_queue x.it.envelope ≡ c.settings.endpoint)). inr (y.0, y.1, y.2, x.kept))
        x.copy;
  }

  may_go : (n : ℕ) (id : List ℕ) (e : Queued) → entry s' n ≡ Some e → IsReady c.settings e
      → Marks_at_end (First_marks s) run (settled id) ⊎ Elsewhere c.settings (Marks_at_end (First_marks s) run) s'.post.entries s'.back id → MayGo run n id
  may_go n id e there ready h = ⊎_elim
      (λ (k : Marks_at_end (First_marks s) run (settled id)). ⊎_elim
      (λ (r : IsRecorded s id). recorded_before r)
      (λ (x : IsHandled id (commits run) ⊎ IsDiscarded id (discards run)). ⊎_elim
      (λ (y : IsHandled id (commits run)). handled y)
      (λ (y : IsDiscarded id (discards run)). discarded y)
      x)
      (settled_is (First_marks s) run id k))
      (λ (x : Elsewhere c.settings (Marks_at_end (First_marks s) run) s'.post.entries s'.back id). copied (copy_of n id e there ready x))
      h

pub facts : {c : Constants} {o : Opening} {s' : State} {es : List Event} → IsMeaning c.meaning → IsSound c o → (run : Run c (opened o) es s') → Facts run
facts {c = c} {o = o} {s' = s'} means sound run =
    let s = opened o in
    let first = kept_at_opening c o sound in
    let no_back : (n : ℕ) → map.get s.back n ≡ None = λ n. map.get-empty _ n in
    let no_fails : (n : ℕ) → map.get s.fails n ≡ None = λ n. map.get-empty _ n in
    let all = state_facts means sound run in
    let marks = placing_at_first c s phase_empty no_back in
    let placed = placing_at_end (First_marks s) run first.below first.holding marks in
    let waits = waiting_at_end (since_first s) run (error_apart c.settings) first.below first.holding (forget c (First_marks s) s marks) (waiting_at_first c s phase_empty) in
    let earned = earning_at_end (traced_at_first s) run (error_apart c.settings) first.below first.holding (earning_at_first c s first.below phase_empty no_fails) in
    let puts = putting_at_end (λ w. []) run (putting_at_first s phase_empty) in
    let counted = recounting_at_end [] run first.below (recounting_at_first s no_fails) in
    record {
      looked = all.looked;
      sending = λ w n id ops k is. (all.sending w n id ops k is, subst (Put _) is (puts w));
      done = λ w n is.
          let f = subst (placing.Fits c.settings (Marks_at_end (First_marks s) run) s'.post.entries s'.back) is (placed.fits w) in
          let mine = all.holding.stands w n (ap number_of is) in
          let same : mine.it ≡ f.0 = (let z : Some mine.it ≡ Some f.0 = sym mine.there ∙ f.1 in cc) in
          (f.0, f.1, may_go run n (id_of f.0.envelope) f.0 f.1 (subst (IsReady c.settings) same mine.ready) f.2);
      holding = all.holding;
      calm = waits.calm;
      counts = counted.counts;
      free = all.free;
      leaving = λ w n queue due copy is.
          let l = subst (Left c.settings _ s'.post.entries) is (earned.left w) in
          record { attempt = l.x; last = l.last; given = l.gave };
      parents = λ n p e there own is. parent_failed (earned.ancestors n e there own) is;
      back = all.back;
    }
