-- A call that a store refused: its answer, and what is kept.
use Rattle.std.proofs.Common.{◌≡◌, ℕ, ◌≤◌, List, [], ◌∷◌, true, false, Some, Err, refl, sym, ap, ◌∙◌, subst}
use Rattle.nb_base.specs.Causes.{Rose}
use Rattle.nb_base.specs.Meanings.{Meaning}
use Rattle.nb_base.specs.declared.entry.Which.{Which}
use Rattle.nb_base.specs.declared.entry.Which.TheVariants.{Base, Post}
use Rattle.nb_cells.specs.Cells.{CellMap}
use Rattle.nb_core.specs.Calls.{Gives, Refuses, IsSpent, store_of}
use Rattle.nb_core.specs.Legal.{halted}
use Rattle.nb_core.specs.Past.{IsLegal, constants}
use Rattle.nb_core.specs.declared.event.Event.{Event}
use Rattle.nb_core.specs.declared.event.Event.TheVariants.{Halt}
use Rattle.nb_core.specs.declared.answers.DeskFault.{DeskFault}
use Rattle.nb_core.specs.declared.answers.DeskFault.TheVariants.{StoreFailed, PostFailed, Spent, NoMemory}
use Rattle.nb_core.specs.declared.call.Answer.{Answer}
use Rattle.nb_core.specs.declared.call.Call.{Call}
use Rattle.nb_core.specs.declared.state.State.{State}
use Rattle.nb_hub.proofs.Histories.{no_event, no_failure, failed_push}
use Rattle.nb_hub.proofs.Images.{base_halted, base_failed, base_refused, post_halted, post_failed, post_refused}
use Rattle.nb_hub.proofs.Went.{counts_later, halt_end, halt_makes, halt_kept}
use Rattle.nb_hub.specs.Kept.{Kept, Makes, failed_store}
use Rattle.nb_hub.specs.Ledgers.{Past, past, pushed, past_of, state_at}
use Rattle.nb_hub.specs.declared.ledger.Course.{Course}
use Rattle.nb_hub.specs.Stops.{IsPostStop, IsBaseStop}
use Rattle.nb_hub.specs.Stores.{MayCome, BaseStands, PostStands}
use Rattle.nb_queue.specs.Applied as queued
use Rattle.nb_queue.specs.declared.fault.PostFault.{PostFault}
use Rattle.nb_queue.specs.declared.fault.PostFault.TheVariants as post
use Rattle.nb_ready.specs.Seats.{Seats}
use Rattle.nb_store.specs.Applied as tabled
use Rattle.nb_store.specs.declared.fault.StoreFault.{StoreFault}
use Rattle.nb_store.specs.declared.fault.StoreFault.TheVariants as base

-- what a refused call on a store comes to, of the histories under a meaning
abbrev pub PostStop : PostFault → Past → Past → DeskFault → Type 0
PostStop post.Failed p q why = (why ≡ PostFailed) × (q ≡ pushed p (Halt Post))
PostStop (post.Damaged space key) p q why = ⊥
PostStop post.Spent p q why = (why ≡ Spent) × (q ≡ p)
PostStop post.NoMemory p q why = (why ≡ NoMemory) × (q ≡ p)

abbrev pub BaseStop : StoreFault → Past → Past → DeskFault → Type 0
BaseStop base.Failed p q why = (why ≡ StoreFailed) × (q ≡ pushed p (Halt Base))
BaseStop (base.Damaged space key) p q why = ⊥
BaseStop base.Spent p q why = (why ≡ Spent) × (q ≡ p)
BaseStop base.NoMemory p q why = (why ≡ NoMemory) × (q ≡ p)

pub post_stop : (meaning : Meaning) (c d : Course) (fault : PostFault) (why : DeskFault) → IsPostStop fault c d why → PostStop fault (past_of meaning c) (past_of meaning d) why
post_stop meaning c d post.Failed why s = (s.0, ap (past_of meaning) s.1)
post_stop meaning c d (post.Damaged space key) why s = absurd s
post_stop meaning c d post.Spent why s = (s.0, ap (past_of meaning) s.1)
post_stop meaning c d post.NoMemory why s = (s.0, ap (past_of meaning) s.1)

pub base_stop : (meaning : Meaning) (c d : Course) (fault : StoreFault) (why : DeskFault) → IsBaseStop fault c d why → BaseStop fault (past_of meaning c) (past_of meaning d) why
base_stop meaning c d base.Failed why s = (s.0, ap (past_of meaning) s.1)
base_stop meaning c d (base.Damaged space key) why s = absurd s
base_stop meaning c d base.Spent why s = (s.0, ap (past_of meaning) s.1)
base_stop meaning c d base.NoMemory why s = (s.0, ap (past_of meaning) s.1)

some_same : {A : Type 0} {x y : A} → Some x ≡ Some y → x ≡ y
some_same e = cc

-- the answer says why a call was refused
abbrev pub Says : Past → Call → (DeskFault → Answer) → Type 0
Says p x wrap = (why : DeskFault) (own : List Event) → Refuses p.fixed p.events x why own → Gives p.fixed p.events x (wrap why) own

module _ (p p1 p2 : Past) (begun : p1 ≡ past p.fixed p.events true) (legal : IsLegal p.fixed p.events) (on : halted p.events ≡ false) where
  -- the history is the same
  same_end : p2 ≡ p1 → p2 ≡ past p.fixed p.events true
  same_end is = is ∙ begun

  -- and the counts of faults may have risen
  kept_later : (s : State) (own : List ℕ) (seats : Seats) (b c q r : ℕ) → Kept p s own seats b q → b ≤ c → q ≤ r → p2 ≡ past p.fixed p.events true → Kept p2 s own seats c r
  kept_later s own seats b c q r k up over is =
      subst (λ (x : Past). Kept x s own seats c r) (sym is) (record { means = k.means; legal = k.legal; state = k.state; own_is = k.own_is; held = k.held; short = k.short; counted = counts_later p.fixed p.events b c q r up over on k.counted })

  -- the one that a Halt names has failed
  halted_by : (store other : Which) → p2 ≡ pushed p1 (Halt store) → failed_store p2.events ≡ Some other → store ≡ other
  halted_by store other stopped failed =
      some_same (sym (failed_push p.events (Halt store)) ∙ sym (ap (λ (y : Past). failed_store y.events) (halt_end p p1 p2 store begun stopped legal on)) ∙ failed)

  -- ---- the store of queues

  pub post_stop_makes : (fault : PostFault) (why : DeskFault) (x : Call) (wrap : DeskFault → Answer) → PostStop fault p1 p2 why → store_of x ≡ Some Post
      → (fault ≡ post.Spent → IsSpent (constants p.fixed) (state_at p) x) → Says p x wrap → Makes x (wrap why) p p2
  post_stop_makes post.Failed why x wrap stop writes spent says =
      subst (λ (y : DeskFault). Makes x (wrap y) p p2) (sym stop.0) (halt_makes p p1 p2 Post begun stop.1 legal on x (wrap PostFailed) (says PostFailed (Halt Post ∷ []) (refl, on, writes)))
  post_stop_makes (post.Damaged space key) why x wrap stop writes spent says = absurd stop
  post_stop_makes post.Spent why x wrap stop writes spent says =
      subst (λ (y : DeskFault). Makes x (wrap y) p p2) (sym stop.0) (no_event x (wrap Spent) p p2 true (same_end stop.1) legal (says Spent [] (refl, on, spent refl)))
  post_stop_makes post.NoMemory why x wrap stop writes spent says =
      subst (λ (y : DeskFault). Makes x (wrap y) p p2) (sym stop.0) (no_event x (wrap NoMemory) p p2 true (same_end stop.1) legal (says NoMemory [] (refl, on)))

  pub post_stop_kept : (fault : PostFault) (why : DeskFault) (s : State) (own : List ℕ) (seats : Seats) (b c q r : ℕ) → PostStop fault p1 p2 why → Kept p s own seats b q → b ≤ c → q ≤ r → (fault ≡ post.Failed → Rose q r) → Kept p2 s own seats c r
  post_stop_kept post.Failed why s own seats b c q r stop k up over rose =
      halt_kept p p1 p2 Post begun stop.1 legal on s own seats b c q r k up over (λ e. absurd cc) (λ e. rose refl)
  post_stop_kept (post.Damaged space key) why s own seats b c q r stop k up over rose = absurd stop
  post_stop_kept post.Spent why s own seats b c q r stop k up over rose = kept_later s own seats b c q r k up over (same_end stop.1)
  post_stop_kept post.NoMemory why s own seats b c q r stop k up over rose = kept_later s own seats b c q r k up over (same_end stop.1)

  pub post_stop_rose : (fault : PostFault) (why : DeskFault) (q r : ℕ) → PostStop fault p1 p2 why → (fault ≡ post.Failed → Rose q r) → failed_store p2.events ≡ Some Post → Rose q r
  post_stop_rose post.Failed why q r stop rose failed = rose refl
  post_stop_rose (post.Damaged space key) why q r stop rose failed = absurd stop
  post_stop_rose post.Spent why q r stop rose failed = no_failure p p2 true Post (same_end stop.1) on failed
  post_stop_rose post.NoMemory why q r stop rose failed = no_failure p p2 true Post (same_end stop.1) on failed

  pub post_stop_alone : {A : Type 0} (fault : PostFault) (why : DeskFault) → PostStop fault p1 p2 why → failed_store p2.events ≡ Some Base → A
  post_stop_alone post.Failed why stop failed = let other = halted_by Post Base stop.1 failed in absurd cc
  post_stop_alone (post.Damaged space key) why stop failed = absurd stop
  post_stop_alone post.Spent why stop failed = no_failure p p2 true Base (same_end stop.1) on failed
  post_stop_alone post.NoMemory why stop failed = no_failure p p2 true Base (same_end stop.1) on failed

  pub post_stop_base : {D : Type 0} (honest : D → Type 0) (now images : D → CellMap → Type 0) (firm : D → Type 0) (fault : PostFault) (why : DeskFault) (d : D) → PostStop fault p1 p2 why
      → BaseStands honest now images firm d p → BaseStands honest now images firm d p2
  post_stop_base honest now images firm post.Failed why d stop h =
      subst (BaseStands honest now images firm d) (sym (halt_end p p1 p2 Post begun stop.1 legal on)) (base_halted honest now images firm p d on h)
  post_stop_base honest now images firm (post.Damaged space key) why d stop h = absurd stop
  post_stop_base honest now images firm post.Spent why d stop h = subst (BaseStands honest now images firm d) (sym (same_end stop.1)) h
  post_stop_base honest now images firm post.NoMemory why d stop h = subst (BaseStands honest now images firm d) (sym (same_end stop.1)) h

  pub post_stop_post : {C T : Type 0} (honest : C → Type 0) (now images : C → CellMap → Type 0) (firm : C → Type 0) (fault : PostFault) (why : DeskFault) (c d : C) (t : State) → PostStop fault p1 p2 why
      → (fault ≡ post.Failed → MayCome p.fixed (state_at p) t) → t.tables ≡ (state_at p).tables
      → queued.Applied {T = T} honest now images firm c d (state_at p).post t.post (Err fault) → PostStands honest now images firm c p → PostStands honest now images firm d p2
  post_stop_post honest now images firm post.Failed why c d t stop may same applied h =
      subst (PostStands honest now images firm d) (sym (halt_end p p1 p2 Post begun stop.1 legal on)) (post_failed honest now images firm p t c d on (may refl) same applied h)
  post_stop_post honest now images firm (post.Damaged space key) why c d t stop may same applied h = absurd stop
  post_stop_post honest now images firm post.Spent why c d t stop may same applied h =
      subst (PostStands honest now images firm d) (sym (same_end stop.1)) (subst (λ (x : _). PostStands honest now images firm x p) (sym (applied.spent refl)) h)
  post_stop_post honest now images firm post.NoMemory why c d t stop may same applied h =
      subst (PostStands honest now images firm d) (sym (same_end stop.1)) (post_refused honest now images firm p c d t.post on applied h)

  -- ---- the store of tables

  pub base_stop_makes : (fault : StoreFault) (why : DeskFault) (x : Call) (wrap : DeskFault → Answer) → BaseStop fault p1 p2 why → store_of x ≡ Some Base
      → (fault ≡ base.Spent → IsSpent (constants p.fixed) (state_at p) x) → Says p x wrap → Makes x (wrap why) p p2
  base_stop_makes base.Failed why x wrap stop writes spent says =
      subst (λ (y : DeskFault). Makes x (wrap y) p p2) (sym stop.0) (halt_makes p p1 p2 Base begun stop.1 legal on x (wrap StoreFailed) (says StoreFailed (Halt Base ∷ []) (refl, on, writes)))
  base_stop_makes (base.Damaged space key) why x wrap stop writes spent says = absurd stop
  base_stop_makes base.Spent why x wrap stop writes spent says =
      subst (λ (y : DeskFault). Makes x (wrap y) p p2) (sym stop.0) (no_event x (wrap Spent) p p2 true (same_end stop.1) legal (says Spent [] (refl, on, spent refl)))
  base_stop_makes base.NoMemory why x wrap stop writes spent says =
      subst (λ (y : DeskFault). Makes x (wrap y) p p2) (sym stop.0) (no_event x (wrap NoMemory) p p2 true (same_end stop.1) legal (says NoMemory [] (refl, on)))

  pub base_stop_kept : (fault : StoreFault) (why : DeskFault) (s : State) (own : List ℕ) (seats : Seats) (b c q r : ℕ) → BaseStop fault p1 p2 why → Kept p s own seats b q → b ≤ c → q ≤ r → (fault ≡ base.Failed → Rose b c) → Kept p2 s own seats c r
  base_stop_kept base.Failed why s own seats b c q r stop k up over rose =
      halt_kept p p1 p2 Base begun stop.1 legal on s own seats b c q r k up over (λ e. rose refl) (λ e. absurd cc)
  base_stop_kept (base.Damaged space key) why s own seats b c q r stop k up over rose = absurd stop
  base_stop_kept base.Spent why s own seats b c q r stop k up over rose = kept_later s own seats b c q r k up over (same_end stop.1)
  base_stop_kept base.NoMemory why s own seats b c q r stop k up over rose = kept_later s own seats b c q r k up over (same_end stop.1)

  pub base_stop_rose : (fault : StoreFault) (why : DeskFault) (b c : ℕ) → BaseStop fault p1 p2 why → (fault ≡ base.Failed → Rose b c) → failed_store p2.events ≡ Some Base → Rose b c
  base_stop_rose base.Failed why b c stop rose failed = rose refl
  base_stop_rose (base.Damaged space key) why b c stop rose failed = absurd stop
  base_stop_rose base.Spent why b c stop rose failed = no_failure p p2 true Base (same_end stop.1) on failed
  base_stop_rose base.NoMemory why b c stop rose failed = no_failure p p2 true Base (same_end stop.1) on failed

  pub base_stop_alone : {A : Type 0} (fault : StoreFault) (why : DeskFault) → BaseStop fault p1 p2 why → failed_store p2.events ≡ Some Post → A
  base_stop_alone base.Failed why stop failed = let other = halted_by Base Post stop.1 failed in absurd cc
  base_stop_alone (base.Damaged space key) why stop failed = absurd stop
  base_stop_alone base.Spent why stop failed = no_failure p p2 true Post (same_end stop.1) on failed
  base_stop_alone base.NoMemory why stop failed = no_failure p p2 true Post (same_end stop.1) on failed

  pub base_stop_post : {D : Type 0} (honest : D → Type 0) (now images : D → CellMap → Type 0) (firm : D → Type 0) (fault : StoreFault) (why : DeskFault) (d : D) → BaseStop fault p1 p2 why
      → PostStands honest now images firm d p → PostStands honest now images firm d p2
  base_stop_post honest now images firm base.Failed why d stop h =
      subst (PostStands honest now images firm d) (sym (halt_end p p1 p2 Base begun stop.1 legal on)) (post_halted honest now images firm p d on h)
  base_stop_post honest now images firm (base.Damaged space key) why d stop h = absurd stop
  base_stop_post honest now images firm base.Spent why d stop h = subst (PostStands honest now images firm d) (sym (same_end stop.1)) h
  base_stop_post honest now images firm base.NoMemory why d stop h = subst (PostStands honest now images firm d) (sym (same_end stop.1)) h

  pub base_stop_base : {C T : Type 0} (honest : C → Type 0) (now images : C → CellMap → Type 0) (firm : C → Type 0) (fault : StoreFault) (why : DeskFault) (c d : C) (t : State) → BaseStop fault p1 p2 why
      → (fault ≡ base.Failed → MayCome p.fixed (state_at p) t) → t.post ≡ (state_at p).post
      → (fault ≡ base.Spent → d ≡ c) → tabled.Applied {T = T} honest now images firm c d (state_at p).tables t.tables (Err fault) → BaseStands honest now images firm c p → BaseStands honest now images firm d p2
  base_stop_base honest now images firm base.Failed why c d t stop may same spent applied h =
      subst (BaseStands honest now images firm d) (sym (halt_end p p1 p2 Base begun stop.1 legal on)) (base_failed honest now images firm p t c d on (may refl) same applied h)
  base_stop_base honest now images firm (base.Damaged space key) why c d t stop may same spent applied h = absurd stop
  base_stop_base honest now images firm base.Spent why c d t stop may same spent applied h =
      subst (BaseStands honest now images firm d) (sym (same_end stop.1)) (subst (λ (x : _). BaseStands honest now images firm x p) (sym (spent refl)) h)
  base_stop_base honest now images firm base.NoMemory why c d t stop may same spent applied h =
      subst (BaseStands honest now images firm d) (sym (same_end stop.1)) (base_refused honest now images firm p c d t.tables on applied h)
