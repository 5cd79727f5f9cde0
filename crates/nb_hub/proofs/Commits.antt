-- A Settle that commits a plan.
use Rattle.std.proofs.Common.{◌≡◌, ◌≢◌, ℕ, ◌+◌, ◌≤◌, ◌<◌, List, [], ◌∷◌, true, Some, None, Result, Ok, refl, sym, ap, ◌∙◌, subst, arith}
use Rattle.std.specs.FinMap as map
use Rattle.std.specs.List.{AllByRecursion}
use Rattle.nb_base.specs.Messages.{Message}
use Rattle.nb_base.specs.Orders.{ByNumber}
use Rattle.nb_base.specs.Sound.{IsSoundTables, limit}
use Rattle.nb_base.specs.declared.entry.Op.{Op}
use Rattle.nb_base.specs.declared.plan.Outcome.{Outcome}
use Rattle.nb_base.specs.declared.plan.Plan.{Plan}
use Rattle.nb_base.specs.declared.plan.Verdict.TheVariants.{Done}
use Rattle.nb_base.specs.declared.tables.Queued.{Queued}
use Rattle.nb_base.specs.declared.tables.Tables.{Tables}
use Rattle.nb_cells.specs.Cells.{CellMap}
use Rattle.nb_core.specs.Calls.{Gives, IsSpent}
use Rattle.nb_core.specs.Changes.{put_phase}
use Rattle.nb_core.specs.Committed.{committed, commit_ops}
use Rattle.nb_core.specs.Standing.{entry, number_of, phase, recorded}
use Rattle.nb_core.specs.Step.{settle_commit}
use Rattle.nb_core.specs.declared.answers.Settled.TheVariants as settled
use Rattle.nb_core.specs.declared.call.Answer.TheVariants as answer
use Rattle.nb_core.specs.declared.call.Call.TheVariants as call
use Rattle.nb_core.specs.declared.event.Event.TheVariants.{Settle}
use Rattle.nb_core.specs.declared.phase.Phase.{Phase}
use Rattle.nb_core.specs.declared.phase.Phase.TheVariants.{Sending}
use Rattle.nb_core.specs.declared.state.State.{State}
use Rattle.nb_dispatch.specs.Dispatches.{CanDispatch}
use Rattle.nb_headers.specs.Reads.{id_of}
use Rattle.nb_hub.proofs.Histories.{goes_on, next_is, standing_of}
use Rattle.nb_hub.proofs.Holding.{held_phase}
use Rattle.nb_hub.proofs.Looks.{standing_here}
use Rattle.nb_hub.proofs.Went.{kept}
use Rattle.nb_hub.proofs.Written.{tables_after, places_apart}
use Rattle.nb_hub.specs.Kept.{AreHeld, Kept}
use Rattle.nb_hub.specs.Ledgers.{Past, past, pushed, state_at, constants_at, Comes}
use Rattle.nb_hub.specs.Settling.{CommitsNow}
use Rattle.nb_hub.specs.Stores.{MayCome}
use Rattle.nb_ready.specs.Seats.{Seats}
use Rattle.nb_store.specs.Applied.{Applied}
use Rattle.nb_store.specs.Calls as table
use Rattle.nb_store.specs.declared.fault.StoreFault.{StoreFault}

-- what was applied, said of equal tables
pub applied_here : {C T : Type 0} (honest : C → Type 0) (now images : C → CellMap → Type 0) (firm : C → Type 0) (old new : C) (before after before' after' : Tables) (r : Result T StoreFault)
    → before ≡ before' → after ≡ after' → Applied honest now images firm old new before after r → Applied honest now images firm old new before' after' r
applied_here honest now images firm old new before after before' after' r one two a =
    subst (λ (x : Tables). Applied honest now images firm old new before' x r) two (subst (λ (x : Tables). Applied honest now images firm old new x after r) one a)

-- the store of tables has the same word for the id of a message
same_id : (m : Message) → table.id_of m ≡ id_of m
unfolding id_of
same_id m = refl

pub some_same : {A : Type 0} {x y : A} → Some x ≡ Some y → x ≡ y
some_same e = cc

-- the same of the entry as it was found
abbrev pub commits_at : (p : Past) (w n : ℕ) (plan : Plan) → CommitsNow p w n plan → (s : State) → s ≡ state_at p → (e : Queued) → entry s n ≡ Some e → CommitsNow p w n plan
commits_at p w n plan x s state e there =
    let here : entry (state_at p) n ≡ Some e = ap (λ (z : State). entry z n) (sym state) ∙ there in
    let same : x.at.it ≡ e = some_same (sym x.at.there ∙ here) in
    record {
      reads = x.reads;
      at = record {
        begun = x.at.begun;
        worker = x.at.worker;
        it = e;
        looked = x.at.looked;
        there = here;
        new = subst (λ (z : Queued). recorded (state_at p) (id_of z.envelope) ≡ None) same x.at.new;
      };
      planned = subst (λ (z : Queued). (constants_at p).meaning.on_reads x.reads z.envelope (state_at p).moment ≡ Done plan) same x.planned;
      fresh = x.fresh;
    }

module _ (p : Past) (w n : ℕ) (plan : Plan) (x : CommitsNow p w n plan) where
  pub ready_here : p ≡ past p.fixed p.events true
  ready_here = ap (past p.fixed p.events) x.at.begun.room

  pub commit_comes : (state_at p).tables.commits < limit → Comes (past p.fixed p.events true) (Settle w) (committed (constants_at p) (state_at p) w n x.at.it.envelope plan)
  commit_comes room = record {
    room = refl;
    on = x.at.begun.on;
    worker = x.at.worker;
    turn = tt;
    step = settle_commit x.at.looked x.at.there x.at.new x.planned x.fresh room;
  }

  pub commit_gives : (o : Outcome) (number : ℕ) → (state_at p).tables.commits < limit → number ≡ (state_at p).tables.commits + 1 → Gives p.fixed p.events (call.Settle w o) (answer.Settled (Ok (settled.Committed number))) (Settle w ∷ [])
  commit_gives o number room is = (
    refl,
    record {
      number = n;
      reads = x.reads;
      it = x.at.it;
      looked = x.at.looked;
      there = x.at.there;
      holds = (record { new = x.at.new; plan = plan; planned = x.planned; fresh = x.fresh }, room, is);
    },
  )

  pub commit_may : (state_at p).tables.commits < limit → MayCome p.fixed (state_at p) (committed (constants_at p) (state_at p) w n x.at.it.envelope plan)
  commit_may room = let comes = commit_comes room in record { event = Settle w; worker = comes.worker; step = comes.step }

  module _ (s : State) (own : List ℕ) (seats : Seats) (b q : ℕ) (k : Kept p s own seats b q) where
    pub names_one : number_of (phase s w) ≡ Some n
    names_one = ap (λ (z : State). number_of (phase z w)) k.state ∙ ap number_of x.at.looked

    -- the plan can be sent
    pub can_send : AllByRecursion (CanDispatch p.fixed.settings) plan.intents
    can_send = (standing_here p s own seats b q k).can.can w n x.reads x.at.it plan x.at.looked x.at.there x.planned

    pub writes_apart : table.HaveApartPlaces plan.writes
    writes_apart =
        let y = (standing_here p s own seats b q k).can.shown w n x.reads x.at.it x.at.looked x.at.there in
        let is = sym (k.means.local y.tables y.sound y.fit x.at.it.envelope (state_at p).moment) ∙ ap (λ rs. (constants_at p).meaning.on_reads rs x.at.it.envelope (state_at p).moment) (sym y.shown) ∙ x.planned in
        places_apart plan.writes (k.means.plans y.tables y.sound y.fit x.at.it.envelope (state_at p).moment plan is).apart

    pub unrecorded : map.get s.tables.outbox (table.id_of x.at.it.envelope) ≡ None
    unrecorded = ap (map.get s.tables.outbox) (same_id x.at.it.envelope) ∙ ap (λ (z : State). recorded z (id_of x.at.it.envelope)) k.state ∙ x.at.new

    -- there is a number for it
    pub below : s.tables.commits ≢ limit → (state_at p).tables.commits < limit
    below other =
        let most = (standing_here p s own seats b q k).facts.tables.base.commits in
        let same : s.tables.commits ≡ (state_at p).tables.commits = ap (λ (z : State). z.tables.commits) k.state in
        omega arith

    pub commit_spent : (o : Outcome) → s.tables.commits ≡ limit → IsSpent (constants_at p) (state_at p) (call.Settle w o)
    commit_spent o full =
        let same : s.tables.commits ≡ (state_at p).tables.commits = ap (λ (z : State). z.tables.commits) k.state in (
          omega arith,
          record {
            number = n;
            reads = x.reads;
            it = x.at.it;
            looked = x.at.looked;
            there = x.at.there;
            holds = record { new = x.at.new; plan = plan; planned = x.planned; fresh = x.fresh };
          },
        )

    module _ (ops : List Op) (are : ops ≡ commit_ops (constants_at p) s x.at.it.envelope plan) where
      pub tables_are : table.committed p.fixed.settings.endpoint s.tables (table.id_of x.at.it.envelope) s.moment plan.writes ops ≡ (committed (constants_at p) (state_at p) w n x.at.it.envelope plan).tables
      tables_are =
          ap (λ (id : List ℕ). table.committed p.fixed.settings.endpoint s.tables id s.moment plan.writes ops) (same_id x.at.it.envelope)
          ∙ tables_after (constants_at p) s w n x.at.it.envelope plan ops are
          ∙ ap (λ (z : State). (committed (constants_at p) z w n x.at.it.envelope plan).tables) k.state

      pub sound_after : s.tables.commits ≢ limit → IsSoundTables (table.committed p.fixed.settings.endpoint s.tables (table.id_of x.at.it.envelope) s.moment plan.writes ops)
      sound_after other =
          let comes = commit_comes (below other) in
          let t = committed (constants_at p) (state_at p) w n x.at.it.envelope plan in
          let legal = goes_on (past p.fixed p.events true) (Settle w) t k.legal comes in
          let after = standing_of (pushed p (Settle w)) k.means legal in
          subst IsSoundTables (sym (tables_are ∙ ap (λ (z : State). z.tables) (next_is (past p.fixed p.events true) (Settle w) t k.legal comes))) after.facts.tables

      pub commit_kept : (p2 : Past) (phases : ByNumber Phase) (tables : Tables) (id : List ℕ) (c : ℕ) → (state_at p).tables.commits < limit → p2 ≡ pushed p (Settle w) → id ≡ id_of x.at.it.envelope
          → tables ≡ table.committed p.fixed.settings.endpoint s.tables (table.id_of x.at.it.envelope) s.moment plan.writes ops → phases ≡ put_phase s.phases w (Sending n id ops 0) → b ≤ c
          → Kept p2 (record s { tables = tables; phases = phases }) own seats c q
      commit_kept p2 phases tables id c room ends named written phased up =
          kept p p p2 (Settle w) (committed (constants_at p) (state_at p) w n x.at.it.envelope plan) ready_here ends k.legal (commit_comes room) s (record s { tables = tables; phases = phases }) own own seats seats b c q q k refl
          ((λ i. record (record s { tables = tables_is i }) { phases = phases_are i }) ∙ ap (λ (z : State). committed (constants_at p) z w n x.at.it.envelope plan) k.state) refl
          (subst (λ (ps : ByNumber Phase). AreHeld ps seats) (sym phased) (held_phase s.phases seats w (Sending n id ops 0) names_one k.held))
          k.short up (omega arith)
        where
          tables_is : tables ≡ (committed (constants_at p) s w n x.at.it.envelope plan).tables
          tables_is = written ∙ ap (λ (z : List ℕ). table.committed p.fixed.settings.endpoint s.tables z s.moment plan.writes ops) (same_id x.at.it.envelope) ∙ tables_after (constants_at p) s w n x.at.it.envelope plan ops are

          phases_are : phases ≡ put_phase s.phases w (Sending n (id_of x.at.it.envelope) (commit_ops (constants_at p) s x.at.it.envelope plan) 0)
          phases_are = phased ∙ (λ i. put_phase s.phases w (Sending n (named i) (are i) 0))
