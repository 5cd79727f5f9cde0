-- Calls as they end: refused before anything was done, without an event, with one, or by a store.
use Rattle.std.proofs.Common.{◌≡◌, ℕ, [], ◌∷◌, Bool, true, false, Some, None, Ok, Err, refl, sym, subst}
use Rattle.nb_base.specs.Causes.{Rose}
use Rattle.nb_base.specs.declared.entry.Which.TheVariants.{Base, Post}
use Rattle.nb_cells.specs.Cells.{CellMap}
use Rattle.nb_core.specs.Calls.{Gives, IsSpent, store_of}
use Rattle.nb_core.specs.Legal.{halted}
use Rattle.nb_core.specs.Past.{IsLegal, constants}
use Rattle.nb_core.specs.declared.answers.DeskFault.{DeskFault}
use Rattle.nb_core.specs.declared.answers.DeskFault.TheVariants.{StoreFailed, PostFailed, Spent, Halted, NoMemory}
use Rattle.nb_core.specs.declared.call.Answer.{Answer}
use Rattle.nb_core.specs.declared.call.Call.{Call}
use Rattle.nb_core.specs.declared.event.Event.{Event}
use Rattle.nb_core.specs.declared.state.State.{State}
use Rattle.nb_hub.proofs.Histories.{no_event, no_failure, no_failure_by}
use Rattle.nb_hub.proofs.Images.{base_stays, base_went, post_stays, post_went}
use Rattle.nb_hub.proofs.Stopped.{Says, PostStop, BaseStop, post_stop_makes, post_stop_base, post_stop_post, post_stop_rose, post_stop_alone, base_stop_makes, base_stop_base, base_stop_post, base_stop_rose, base_stop_alone}
use Rattle.nb_hub.proofs.Went.{at_end, makes}
use Rattle.nb_hub.specs.Kept.{failing}
use Rattle.nb_hub.specs.Ledgers.{Past, past, pushed, state_at, Begins, Comes}
use Rattle.nb_hub.specs.Served.{Served}
use Rattle.nb_hub.specs.Stores.{MayCome, BaseStands, PostStands}
use Rattle.nb_queue.specs.Applied as queued
use Rattle.nb_queue.specs.declared.fault.PostFault.{PostFault}
use Rattle.nb_queue.specs.declared.fault.PostFault.TheVariants as post
use Rattle.nb_store.specs.Applied as tabled
use Rattle.nb_store.specs.declared.fault.StoreFault.{StoreFault}
use Rattle.nb_store.specs.declared.fault.StoreFault.TheVariants as base

module _ {P D : Type 0} (bh : D → Type 0) (bn bi : D → CellMap → Type 0) (bf : D → Type 0) (bc : D → ℕ) (ph : P → Type 0) (pn pi : P → CellMap → Type 0) (pf : P → Type 0) (pc : P → ℕ) where
  -- ---- without an event

  pub served_quietly : (x : Call) (a : Answer) (p q : Past) (room : Bool) (d : D) (c : P) → q ≡ past p.fixed p.events room → IsLegal p.fixed p.events → Gives p.fixed p.events x a [] → Served bh bn bi bf bc ph pn pi pf pc x a p q d d c c
  served_quietly x a p q room d c is legal gives = record {
    call = no_event x a p q room is legal gives;
    base = λ h. subst (BaseStands bh bn bi bf d) (sym is) h;
    post = λ h. subst (PostStands ph pn pi pf c) (sym is) h;
    base_before = λ h. h;
    post_before = λ h. h;
    base_rose = λ on failed. no_failure p q room Base is on failed;
    post_rose = λ on failed. no_failure p q room Post is on failed;
  }

  pub served_refused : (x : Call) (wrap : DeskFault → Answer) (p q : Past) (room : Bool) (d : D) (c : P) (why : DeskFault) → q ≡ past p.fixed p.events room → IsLegal p.fixed p.events → Begins p.events (Err why) → Says p x wrap
      → Served bh bn bi bf bc ph pn pi pf pc x (wrap why) p q d d c c
  served_refused x wrap p q room d c StoreFailed is legal begins says = absurd begins
  served_refused x wrap p q room d c PostFailed is legal begins says = absurd begins
  served_refused x wrap p q room d c Spent is legal begins says = absurd begins
  served_refused x wrap p q room d c Halted is legal begins says = served_quietly x (wrap Halted) p q room d c is legal (says Halted [] (refl, begins))
  served_refused x wrap p q room d c NoMemory is legal begins says = served_quietly x (wrap NoMemory) p q room d c is legal (says NoMemory [] (refl, begins))

  -- ---- with an event

  module _ (x : Call) (a : Answer) (p p1 p2 : Past) (e : Event) (t : State) (begun : p1 ≡ past p.fixed p.events true) (noted : p2 ≡ pushed p1 e) (legal : IsLegal p.fixed p.events)
      (comes : Comes (past p.fixed p.events true) e t) (calm : failing e ≡ None) (gives : Gives p.fixed p.events x a (e ∷ [])) where
    base_on : (d : D) → t.tables ≡ (state_at p).tables → BaseStands bh bn bi bf d p → BaseStands bh bn bi bf d p2
    base_on d same h = subst (BaseStands bh bn bi bf d) (sym (at_end p p1 p2 e t begun noted legal comes)) (base_stays bh bn bi bf p e t d legal comes calm same h)

    post_on : (c : P) → t.post ≡ (state_at p).post → PostStands ph pn pi pf c p → PostStands ph pn pi pf c p2
    post_on c same h = subst (PostStands ph pn pi pf c) (sym (at_end p p1 p2 e t begun noted legal comes)) (post_stays ph pn pi pf p e t c legal comes calm same h)

    -- which makes no call of a store
    pub served_event : (d : D) (c : P) → t.tables ≡ (state_at p).tables → t.post ≡ (state_at p).post → Served bh bn bi bf bc ph pn pi pf pc x a p p2 d d c c
    served_event d c tables queues = record {
      call = makes p p1 p2 e t begun noted legal comes x a gives;
      base = base_on d tables;
      post = post_on c queues;
      base_before = λ h. h;
      post_before = λ h. h;
      base_rose = λ on failed. no_failure_by p p2 e Base (at_end p p1 p2 e t begun noted legal comes) calm failed;
      post_rose = λ on failed. no_failure_by p p2 e Post (at_end p p1 p2 e t begun noted legal comes) calm failed;
    }

    -- which makes one of the store of queues
    pub served_post : {T : Type 0} (d : D) (c c' : P) (r : T) → t.tables ≡ (state_at p).tables → queued.Applied ph pn pi pf c c' (state_at p).post t.post (Ok r) → Served bh bn bi bf bc ph pn pi pf pc x a p p2 d d c c'
    served_post d c c' r tables applied = record {
      call = makes p p1 p2 e t begun noted legal comes x a gives;
      base = base_on d tables;
      post = λ h. subst (PostStands ph pn pi pf c') (sym (at_end p p1 p2 e t begun noted legal comes)) (post_went ph pn pi pf p e t c c' r legal comes calm applied h);
      base_before = λ h. h;
      post_before = λ h. applied.honest_before h;
      base_rose = λ on failed. no_failure_by p p2 e Base (at_end p p1 p2 e t begun noted legal comes) calm failed;
      post_rose = λ on failed. no_failure_by p p2 e Post (at_end p p1 p2 e t begun noted legal comes) calm failed;
    }

    -- which makes one of the store of tables
    pub served_base : {T : Type 0} (d d' : D) (c : P) (r : T) → t.post ≡ (state_at p).post → tabled.Applied bh bn bi bf d d' (state_at p).tables t.tables (Ok r) → Served bh bn bi bf bc ph pn pi pf pc x a p p2 d d' c c
    served_base d d' c r queues applied = record {
      call = makes p p1 p2 e t begun noted legal comes x a gives;
      base = λ h. subst (BaseStands bh bn bi bf d') (sym (at_end p p1 p2 e t begun noted legal comes)) (base_went bh bn bi bf p e t d d' r legal comes calm applied h);
      post = post_on c queues;
      base_before = λ h. applied.honest_before h;
      post_before = λ h. h;
      base_rose = λ on failed. no_failure_by p p2 e Base (at_end p p1 p2 e t begun noted legal comes) calm failed;
      post_rose = λ on failed. no_failure_by p p2 e Post (at_end p p1 p2 e t begun noted legal comes) calm failed;
    }

  -- ---- refused by a store

  module _ (x : Call) (wrap : DeskFault → Answer) (p p1 p2 : Past) (begun : p1 ≡ past p.fixed p.events true) (legal : IsLegal p.fixed p.events) (on : halted p.events ≡ false) (says : Says p x wrap) (t : State) (why : DeskFault) where
    pub stopped_post : {T : Type 0} (fault : PostFault) (d : D) (c c' : P) → PostStop fault p1 p2 why → (fault ≡ post.Failed → Rose (pc c) (pc c')) → store_of x ≡ Some Post → (fault ≡ post.Spent → IsSpent (constants p.fixed) (state_at p) x)
        → (fault ≡ post.Failed → MayCome p.fixed (state_at p) t) → t.tables ≡ (state_at p).tables → queued.Applied {T = T} ph pn pi pf c c' (state_at p).post t.post (Err fault)
        → Served bh bn bi bf bc ph pn pi pf pc x (wrap why) p p2 d d c c'
    stopped_post fault d c c' stop rose writes spent may tables applied = record {
      call = post_stop_makes p p1 p2 begun legal on fault why x wrap stop writes spent says;
      base = post_stop_base p p1 p2 begun legal on bh bn bi bf fault why d stop;
      post = post_stop_post p p1 p2 begun legal on ph pn pi pf fault why c c' t stop may tables applied;
      base_before = λ h. h;
      post_before = λ h. applied.honest_before h;
      base_rose = λ alive failed. post_stop_alone p p1 p2 begun legal on fault why stop failed;
      post_rose = λ alive failed. post_stop_rose p p1 p2 begun legal on fault why (pc c) (pc c') stop rose failed;
    }

    pub stopped_base : {T : Type 0} (fault : StoreFault) (d d' : D) (c : P) → BaseStop fault p1 p2 why → (fault ≡ base.Failed → Rose (bc d) (bc d')) → store_of x ≡ Some Base → (fault ≡ base.Spent → IsSpent (constants p.fixed) (state_at p) x)
        → (fault ≡ base.Failed → MayCome p.fixed (state_at p) t) → t.post ≡ (state_at p).post → (fault ≡ base.Spent → d' ≡ d) → tabled.Applied {T = T} bh bn bi bf d d' (state_at p).tables t.tables (Err fault)
        → Served bh bn bi bf bc ph pn pi pf pc x (wrap why) p p2 d d' c c
    stopped_base fault d d' c stop rose writes spent may queues same applied = record {
      call = base_stop_makes p p1 p2 begun legal on fault why x wrap stop writes spent says;
      base = base_stop_base p p1 p2 begun legal on bh bn bi bf fault why d d' t stop may queues same applied;
      post = base_stop_post p p1 p2 begun legal on ph pn pi pf fault why c stop;
      base_before = λ h. applied.honest_before h;
      post_before = λ h. h;
      base_rose = λ alive failed. base_stop_rose p p1 p2 begun legal on fault why (bc d) (bc d') stop rose failed;
      post_rose = λ alive failed. base_stop_alone p p1 p2 begun legal on fault why stop failed;
    }
