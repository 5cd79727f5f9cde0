-- A Settle by which a message fails.
use Rattle.std.proofs.Common.{◌≡◌, ℕ, ◌+◌, ◌≤◌, ◌<◌, ◌^◌, List, [], ◌∷◌, ◌++◌, length, true, Some, None, Ok, refl, sym, ap, ◌∙◌, subst, arith, length-append}
use Rattle.std.specs.FinMap as map
use Rattle.nb_base.specs.Messages.{Message}
use Rattle.nb_base.specs.Orders.{ByNumber}
use Rattle.nb_base.specs.declared.plan.Outcome.{Outcome}
use Rattle.nb_base.specs.declared.settings.Settings.{Settings}
use Rattle.nb_base.specs.declared.tables.Discard.{Discard}
use Rattle.nb_base.specs.declared.tables.Queued.{Queued}
use Rattle.nb_core.specs.Calls.{FailsBy, Gives, Settles}
use Rattle.nb_core.specs.Changes.{put_phase}
use Rattle.nb_core.specs.Failing.{given_up, move_after, phase_after, failed}
use Rattle.nb_core.specs.Settling.{by_fault, by_conflict}
use Rattle.nb_core.specs.Standing.{entry, fails, fails_in, number_of, phase, phase_in, recorded}
use Rattle.nb_core.specs.Step.{Step, settle_fault, settle_conflict}
use Rattle.nb_core.specs.declared.call.Answer.TheVariants as answer
use Rattle.nb_core.specs.declared.call.Call.TheVariants as call
use Rattle.nb_core.specs.declared.event.Event.TheVariants.{Settle}
use Rattle.nb_core.specs.declared.phase.Phase.{Phase}
use Rattle.nb_core.specs.declared.state.State.{State}
use Rattle.nb_headers.specs.Reads.{id_of}
use Rattle.nb_hub.proofs.Holding.{AreApart, held_freed, held_phase}
use Rattle.nb_hub.proofs.Looks.{standing_here, its_seat}
use Rattle.nb_hub.proofs.Went.{kept}
use Rattle.nb_hub.specs.Failures.{listed, settled_as, AmountsTo, freed_by}
use Rattle.nb_hub.specs.Indexed.{IsIndexed}
use Rattle.nb_hub.specs.Kept.{AreHeld, Kept}
use Rattle.nb_hub.specs.Ledgers.{Past, past, pushed, state_at, constants_at, Comes}
use Rattle.nb_hub.specs.Settling.{FailsNow}
use Rattle.nb_hub.specs.declared.failing.Failure.{Failure}
use Rattle.nb_ready.specs.Seats.{Seats, HasA}
use Rattle.nb_recover.specs.declared.fail.Fail.{Fail}
use Rattle.nb_recover.specs.declared.moves.Move.{Move}
use Rattle.nb_recover.specs.declared.moves.Move.TheVariants as move

-- what the index holds after the failure: the entry is free where it is tried again at once, and else its phase names it
held_after : (ps : ByNumber Phase) (seats : Seats) (w n : ℕ) (settings : Settings) (moment : ℕ) (m : Message) (why : Fail) (v : Move) → number_of (phase_in ps w) ≡ Some n → AreApart ps → HasA (λ s. s.held) seats n
    → AreHeld ps seats → AreHeld (put_phase ps w (phase_after settings moment n m why v)) (freed_by v seats n)
held_after ps seats w n settings moment m why move.Again names apart has h = held_freed ps seats w n names apart has h
held_after ps seats w n settings moment m why (move.Later round delay) names apart has h = held_phase ps seats w (phase_after settings moment n m why (move.Later round delay)) names h
held_after ps seats w n settings moment m why move.Error names apart has h = held_phase ps seats w (phase_after settings moment n m why move.Error) names h
held_after ps seats w n settings moment m why move.Discard names apart has h = held_phase ps seats w (phase_after settings moment n m why move.Discard) names h

few_listed : (m : Message) (why : Fail) (v : Move) → length (given_up m why v) ≤ 1
few_listed m why move.Again = omega arith
few_listed m why (move.Later round delay) = omega arith
few_listed m why move.Error = omega arith
few_listed m why move.Discard = omega arith

pub some_same : {A : Type 0} {x y : A} → Some x ≡ Some y → x ≡ y
some_same e = cc

-- the same of the entry as it was found
abbrev pub fails_at : (p : Past) (w n : ℕ) (why : Fail) → FailsNow p w n why → (s : State) → s ≡ state_at p → (e : Queued) → entry s n ≡ Some e → FailsNow p w n why
fails_at p w n why f s state e there =
    let here : entry (state_at p) n ≡ Some e = ap (λ (z : State). entry z n) (sym state) ∙ there in
    let same : f.at.it ≡ e = some_same (sym f.at.there ∙ here) in
    record {
      reads = f.reads;
      at = record {
        begun = f.at.begun;
        worker = f.at.worker;
        it = e;
        looked = f.at.looked;
        there = here;
        new = subst (λ (z : Queued). recorded (state_at p) (id_of z.envelope) ≡ None) same f.at.new;
      };
      by = subst (λ (z : Queued). FailsBy (constants_at p) (state_at p) f.reads z.envelope why) same f.by;
    }

module _ (p : Past) (w n : ℕ) (why : Fail) (f : FailsNow p w n why) where
  pub begun_here : p ≡ past p.fixed p.events true
  begun_here = ap (past p.fixed p.events) f.at.begun.room

  pub fails_comes : Comes (past p.fixed p.events true) (Settle w) (failed (constants_at p) (state_at p) w n f.at.it.envelope why)
  fails_comes = record { room = refl; on = f.at.begun.on; worker = f.at.worker; turn = tt; step = by_way f.by }
    where
      by_way : {x : Fail} → FailsBy (constants_at p) (state_at p) f.reads f.at.it.envelope x → Step (constants_at p) (state_at p) (Settle w) (failed (constants_at p) (state_at p) w n f.at.it.envelope x)
      by_way (by_fault judged) = settle_fault f.at.looked f.at.there f.at.new judged
      by_way (by_conflict judged stale) = settle_conflict f.at.looked f.at.there f.at.new judged stale

  pub fails_gives : (o : Outcome) (v : Move) → v ≡ move_after (constants_at p).settings (fails (state_at p) n + 1) f.at.it.envelope why → Gives p.fixed p.events (call.Settle w o) (answer.Settled (Ok (settled_as why v))) (Settle w ∷ [])
  fails_gives o v is = (refl, record { number = n; reads = f.reads; it = f.at.it; looked = f.at.looked; there = f.at.there; holds = by_move v (sym is) })
    where
      by_move : (v : Move) → move_after (constants_at p).settings (fails (state_at p) n + 1) f.at.it.envelope why ≡ v → Settles (constants_at p) (state_at p) n f.reads f.at.it (settled_as why v)
      by_move move.Again at = (f.at.new, f.by, at)
      by_move (move.Later round delay) at = (round, delay, (f.at.new, f.by, at))
      by_move move.Error at = (f.at.new, f.by, at)
      by_move move.Discard at = (f.at.new, f.by, at)

  module _ (s : State) (own : List ℕ) (seats : Seats) (b q : ℕ) (k : Kept p s own seats b q) where
    pub few_fails : fails_in s.fails n ≤ 1001
    few_fails = subst (λ (z : State). fails z n ≤ 1001) (sym k.state) ((standing_here p s own seats b q k).can.few n)

    pub names_it : number_of (phase s w) ≡ Some n
    names_it = ap (λ (z : State). number_of (phase z w)) k.state ∙ ap number_of f.at.looked

    module _ (x : Failure) (a : AmountsTo (constants_at p).settings s.moment s.fails n f.at.it.envelope why x) where
      pub next_is : x.next ≡ move_after (constants_at p).settings (fails (state_at p) n + 1) f.at.it.envelope why
      next_is = a.next ∙ ap (λ (z : State). move_after (constants_at p).settings (fails z n + 1) f.at.it.envelope why) k.state

      module _ (phases : ByNumber Phase) (counts : ByNumber ℕ) (discarded : List Discard) (phased : phases ≡ put_phase s.phases w x.phase) (counted : counts ≡ map.insert s.fails n x.count) (noted : discarded ≡ s.discarded ++ listed x.given_up) where
        phases_are : phases ≡ put_phase s.phases w (phase_after (constants_at p).settings s.moment n f.at.it.envelope why x.next)
        phases_are = phased ∙ ap (put_phase s.phases w) a.phase

        discarded_are : discarded ≡ s.discarded ++ given_up f.at.it.envelope why x.next
        discarded_are = noted ∙ ap (λ (ds : List Discard). s.discarded ++ ds) a.given_up_is

        state_is : record s { phases = phases; fails = counts; discarded = discarded } ≡ failed (constants_at p) (state_at p) w n f.at.it.envelope why
        state_is =
            (λ i. record s {
              phases = (phases_are ∙ ap (λ (v : Move). put_phase s.phases w (phase_after (constants_at p).settings s.moment n f.at.it.envelope why v)) a.next) i;
              fails = (counted ∙ ap (map.insert s.fails n) a.count) i;
              discarded = (discarded_are ∙ ap (λ (v : Move). s.discarded ++ given_up f.at.it.envelope why v) a.next) i;
            })
            ∙ ap (λ (z : State). failed (constants_at p) z w n f.at.it.envelope why) k.state

        pub fails_kept : (p2 : Past) (seats' : Seats) → p2 ≡ pushed p (Settle w) → IsIndexed own s.post.entries seats → seats' ≡ freed_by x.next seats n → length s.discarded + 1 < 2 ^ 32
            → Kept p2 (record s { phases = phases; fails = counts; discarded = discarded }) own seats' b q
        fails_kept p2 seats' ends has freed short =
            kept p p p2 (Settle w) (failed (constants_at p) (state_at p) w n f.at.it.envelope why) begun_here ends k.legal fails_comes s (record s { phases = phases; fails = counts; discarded = discarded }) own own seats seats' b b q q k refl
            state_is refl
            (subst (λ (ps : ByNumber Phase). AreHeld ps seats') (sym phases_are) (subst (AreHeld (put_phase s.phases w (phase_after (constants_at p).settings s.moment n f.at.it.envelope why x.next))) (sym freed)
            (held_after s.phases seats w n (constants_at p).settings s.moment f.at.it.envelope why x.next names_it apart (its_seat p s own seats b q k w n names_it has) k.held)))
            (let long = length-append s.discarded (given_up f.at.it.envelope why x.next) in
            let few = few_listed f.at.it.envelope why x.next in
            subst (λ (ds : List Discard). length ds < 2 ^ 32) (sym discarded_are) (omega arith))
            (omega arith) (omega arith)
          where
            apart : AreApart s.phases
            apart = subst (λ (z : State). AreApart z.phases) (sym k.state) ((standing_here p s own seats b q k).facts.holding.apart)
