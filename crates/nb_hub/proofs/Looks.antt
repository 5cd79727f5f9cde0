-- A worker's look at its message, and what is kept where its phase alone changes.
use Rattle.std.proofs.Common.{◌≡◌, ℕ, List, [], ◌∷◌, true, false, Option, Some, None, Ok, Bor, refl, sym, ap, ◌∙◌, subst, arith}
use Rattle.std.proofs.lemmas.Slice.Eq.{bytes_eq-Decides}
use Rattle.std.specs.FinMap as map
use Rattle.std.specs.Option.{option_copied, unwrap_or}
use Rattle.std.specs.Prelude.{IsSome}
use Rattle.nb_base.specs.Orders.{ByNumber}
use Rattle.nb_base.specs.Shown as show
use Rattle.nb_base.specs.declared.saga_row.Read.{Read}
use Rattle.nb_base.specs.declared.tables.Queued.{Queued}
use Rattle.nb_core.proofs.Held.{number_by}
use Rattle.nb_core.specs.Calls.{Gives, Ready}
use Rattle.nb_core.specs.Changes.{put_phase, at_phase}
use Rattle.nb_core.specs.Legal.{halted}
use Rattle.nb_core.specs.Past.{IsLegal}
use Rattle.nb_core.specs.Standing.{base, entry, number_of, phase, phase_in}
use Rattle.nb_core.specs.Step.{Step, look_known, look_new}
use Rattle.nb_core.specs.declared.answers.Look.TheVariants.{Fresh, Known as KnownIs}
use Rattle.nb_core.specs.declared.call.Answer.TheVariants as answer
use Rattle.nb_core.specs.declared.call.Call.TheVariants as call
use Rattle.nb_core.specs.declared.event.Event.{Event}
use Rattle.nb_core.specs.declared.event.Event.TheVariants.{Look}
use Rattle.nb_core.specs.declared.phase.Phase.{Phase}
use Rattle.nb_core.specs.declared.phase.Phase.TheVariants.{Idle, Held, Looked}
use Rattle.nb_core.specs.declared.state.State.{State}
use Rattle.nb_hub.proofs.Histories.{standing_of}
use Rattle.nb_hub.proofs.Holding.{held_phase}
use Rattle.nb_hub.proofs.Indexing.{is_seated}
use Rattle.nb_hub.proofs.Went.{kept}
use Rattle.nb_hub.specs.Indexed.{IsIndexed}
use Rattle.nb_hub.specs.Kept.{AreHeld, Kept, failing, seen}
use Rattle.nb_hub.specs.Ledgers.{Past, past, pushed, state_at, constants_at, Standing, Comes}
use Rattle.nb_hub.specs.Looking.{Recorded}
use Rattle.nb_hub.specs.declared.looking.Known.{Known}
use Rattle.nb_ready.specs.Seats.{Seats, HasA}

-- a worker whose phase names an entry is there
pub is_there : (ps : ByNumber Phase) (w n : ℕ) → number_of (phase_in ps w) ≡ Some n → IsSome (map.get ps w)
is_there ps w n names = go (map.get ps w) names
  where
    go : (o : Option Phase) → number_of (unwrap_or o Idle) ≡ Some n → IsSome o
    go None is = absurd cc
    go (Some x) is = refl

-- a value that was found
pub found_some : {A : Type 0} (o : Option (Bor A)) (x : A) → option_copied o ≡ Some x → IsSome o
found_some None x is = absurd cc
found_some (Some y) x is = refl

pub found_is : {A : Type 0} (o : Option (Bor A)) (y : Bor A) (x : A) → option_copied o ≡ Some x → o ≡ Some y → y.now ≡ x
found_is o y x is at = let same : Some y.now ≡ Some x = ap option_copied (sym at) ∙ is in cc

module _ (p : Past) (s : State) (own : List ℕ) (seats : Seats) (b q : ℕ) (k : Kept p s own seats b q) where
  pub standing_here : Standing p
  standing_here = standing_of p k.means k.legal

  -- the entry that a worker's phase names stands in the own queue
  pub its_entry : (w n : ℕ) → number_of (phase s w) ≡ Some n → (e : Queued) × (entry s n ≡ Some e) × (e.queue ≡ own)
  its_entry w n names =
      let x = standing_here.facts.holding.stands w n (ap (λ (z : State). number_of (phase z w)) (sym k.state) ∙ names) in
      (x.it, ap (λ (z : State). entry z n) k.state ∙ x.there, x.ready.0 ∙ sym k.own_is)

  -- and is held
  pub its_seat : (w n : ℕ) → number_of (phase s w) ≡ Some n → IsIndexed own s.post.entries seats → HasA (λ x. x.held) seats n
  its_seat w n names has =
      let e = its_entry w n names in
      let x = is_seated own s.post.entries seats n e.0 has e.1 ((bytes_eq-Decides e.0.queue own).1 e.2) in
      (x.0, x.1, (k.held n x.0 x.1).1 (w, names))

-- a worker's phase changed to one that names the same entry, and nothing else did
pub kept_phase : (p p1 p2 : Past) (e : Event) (w : ℕ) (x : Phase) → p1 ≡ past p.fixed p.events true → p2 ≡ pushed p1 e → IsLegal p.fixed p.events
    → Comes (past p.fixed p.events true) e (at_phase (state_at p) w x) → failing e ≡ None
    → (s : State) (phases : ByNumber Phase) (own : List ℕ) (seats : Seats) (b q : ℕ) → Kept p s own seats b q → phases ≡ put_phase s.phases w x → number_of (phase s w) ≡ number_of x
    → Kept p2 (record s { phases = phases }) own seats b q
kept_phase p p1 p2 e w x begun noted legal comes calm s phases own seats b q k made same =
    kept p p1 p2 e (at_phase (state_at p) w x) begun noted legal comes s (record s { phases = phases }) own own seats seats b b q q k calm
    (ap (λ (ps : ByNumber Phase). record s { phases = ps }) made ∙ ap (λ (z : State). at_phase z w x) k.state)
    refl
    (subst (λ (ps : ByNumber Phase). AreHeld ps seats) (sym made) (held_phase s.phases seats w x same k.held))
    k.short (omega arith) (omega arith)

module _ (p : Past) (s : State) (own : List ℕ) (seats : Seats) (b q : ℕ) (k : Kept p s own seats b q) (w n : ℕ) (e : Queued) (held : phase s w ≡ Held n) (there : entry s n ≡ Some e) where
  held_now : phase (state_at p) w ≡ Held n
  held_now = ap (λ (z : State). phase z w) (sym k.state) ∙ held

  there_now : entry (state_at p) n ≡ Some e
  there_now = ap (λ (z : State). entry z n) (sym k.state) ∙ there

  -- the message is recorded
  module _ (o : Option Known) (x : Known) (is : o ≡ Some x) (r : Recorded s.tables n e.envelope o) where
    known_now : Recorded (state_at p).tables n e.envelope (Some x)
    known_now = subst (λ (z : State). Recorded z.tables n e.envelope (Some x)) k.state (subst (Recorded s.tables n e.envelope) is r)

    pub known_comes : halted p.events ≡ false → Ready (call.Look w) (seen p) → Comes (past p.fixed p.events true) (Look w) (at_phase (state_at p) w x.phase)
    known_comes on ready = record {
      room = refl;
      on = on;
      worker = ready.0.0;
      turn = tt;
      step = subst (λ (z : Phase). Step (constants_at p) (state_at p) (Look w) (at_phase (state_at p) w z)) (sym known_now.2) (look_known held_now there_now known_now.1);
    }

    pub known_gives : Gives p.fixed p.events (call.Look w) (answer.Saw (Ok (KnownIs x.sent))) (Look w ∷ [])
    known_gives = (refl, record { number = n; it = e; held = held_now; there = there_now; holds = (known_now.0, known_now.1, sym known_now.3) })

    pub known_names : number_of (phase s w) ≡ number_of x.phase
    known_names = ap number_of held ∙ sym (ap number_of known_now.2 ∙ number_by known_now.0.sent n _ known_now.0.ops)

  -- it is new
  module _ (o : Option Known) (is : o ≡ None) (r : Recorded s.tables n e.envelope o) (reads : List Read) (are : reads ≡ show.seen (show.stored s.tables) (p.fixed.meaning.keys e.envelope)) where
    new_now : Recorded (state_at p).tables n e.envelope None
    new_now = subst (λ (z : State). Recorded z.tables n e.envelope None) k.state (subst (Recorded s.tables n e.envelope) is r)

    reads_now : reads ≡ show.seen (base (state_at p)) ((constants_at p).meaning.keys e.envelope)
    reads_now = are ∙ ap (λ (z : State). show.seen (base z) (p.fixed.meaning.keys e.envelope)) k.state

    pub new_comes : halted p.events ≡ false → Ready (call.Look w) (seen p) → Comes (past p.fixed p.events true) (Look w) (at_phase (state_at p) w (Looked n reads))
    new_comes on ready = record {
      room = refl;
      on = on;
      worker = ready.0.0;
      turn = tt;
      step = subst (λ (z : List Read). Step (constants_at p) (state_at p) (Look w) (at_phase (state_at p) w (Looked n z))) (sym reads_now) (look_new held_now there_now new_now);
    }

    pub new_gives : Gives p.fixed p.events (call.Look w) (answer.Saw (Ok (Fresh reads))) (Look w ∷ [])
    new_gives = (refl, record { number = n; it = e; held = held_now; there = there_now; holds = (new_now, reads_now) })
