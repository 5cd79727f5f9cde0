-- What is left of a hub at which a command was worked.
use Rattle.std.proofs.Common.{◌≡◌, ◌≢◌, ◌⊎◌, ⊎_elim, ℕ, ◌+◌, ◌<◌, ◌≤◌, List, [], ◌++◌, Bool, true, false, Option, Some, refl, sym, ap, ◌∙◌, subst, arith}
use Rattle.std.specs.Prelude.{Ok, Err, Result, IfErr}
use Rattle.nb_base.specs.Causes.{Rose}
use Rattle.nb_base.specs.Messages.{Message}
use Rattle.nb_base.specs.declared.entry.Which.{Which}
use Rattle.nb_base.specs.declared.entry.Which.TheVariants.{Base, Post}
use Rattle.nb_core.proofs.Held.{phase_empty}
use Rattle.nb_core.proofs.Pasts.{whole_owned}
use Rattle.nb_cells.specs.declared.cells.Cells.{Ghosts}
use Rattle.nb_core.specs.Calls.{View, OwnsAll, state_of, whole}
use Rattle.nb_core.specs.Legal.{halted}
use Rattle.nb_core.specs.Past.{Fixed, IsLegal, state_after}
use Rattle.nb_core.specs.State.{AllIdle}
use Rattle.nb_core.specs.declared.answers.DeskFault.{DeskFault}
use Rattle.nb_core.specs.declared.answers.DeskFault.TheVariants as desk
use Rattle.nb_core.specs.declared.event.Event.{Event}
use Rattle.nb_core.specs.declared.history.History.{History}
use Rattle.nb_core.specs.declared.history.Opening.{Opening}
use Rattle.nb_core.specs.declared.state.State.{State}
use Rattle.nb_endpoint.proofs.Ending.{met}
use Rattle.nb_endpoint.proofs.Leaving.{are_left}
use Rattle.nb_endpoint.proofs.Performing.{Over, begins, follows, state_is, works_fixed}
use Rattle.nb_endpoint.proofs.Showing.{Came, came, shows, through}
use Rattle.nb_endpoint.specs.Asked.{Asked}
use Rattle.nb_endpoint.specs.Faults.{IsMet, IsStatusOf, EndIs}
use Rattle.nb_endpoint.specs.Finishing.{IsNew, IsFinished}
use Rattle.nb_endpoint.specs.Follows.{Begins, Follows, constants_of, state_in, until_after, until_of}
use Rattle.nb_endpoint.specs.Left.{AreLeft}
use Rattle.nb_endpoint.specs.Stores.{DeskStands}
use Rattle.nb_endpoint.specs.Printing.{EndsAs, PrintIs, Stays}
use Rattle.nb_endpoint.specs.Prints.{Prints}
use Rattle.nb_endpoint.specs.Rows.{Shows, Risen, Counts, counts}
use Rattle.nb_endpoint.specs.Works.{Works, PlanIs, RunIs, IsUnbegun}
use Rattle.nb_endpoint.specs.declared.printing.Worked.{Worked}
use Rattle.nb_endpoint.specs.declared.status.Status.{Status}
use Rattle.nb_endpoint.specs.declared.status.Status.TheVariants.{Done, NotDrained, Words, Script, Settings, Input, ReadFault, WriteFault, BaseFault, PostFault, NoMemory, Damaged, Spent}
use Rattle.nb_endpoint.specs.declared.work.Task.{Task}
use Rattle.nb_hub.specs.Desks.{Started}
use Rattle.nb_hub.specs.Kept.{Counted, seen, failed_store}
use Rattle.nb_hub.specs.Ledgers.{Past, state_at}
use Rattle.nb_core.specs.Paced.{releasing}
use Rattle.nb_pump.specs.Drains.{DrainIs, IsSomeSpent, Standing}
use Rattle.nb_pump.specs.Leases.{stop_of}
use Rattle.nb_pump.specs.Plans.{Goes, NeedsEntry, loads_of}
use Rattle.nb_words.specs.declared.words.Command.{Command}
use Rattle.nb_words.specs.declared.words.Command.TheVariants as command
use Rattle.nb_words.specs.declared.words.Words.{Words as Said}

-- ---- a hub whose history has no event yet

pub standing_new : (f : Fixed) (es : List Event) → es ≡ [] → 0 < f.opening.workers → IsLegal f es → Standing (whole f es)
standing_new f es none some legal = record {
  owns = whole_owned f es;
  some = some;
  idle = subst (λ (xs : List Event). AllIdle (state_after f xs)) (sym none) phase_empty;
  legal = legal;
}

pub off_new : (es : List Event) → es ≡ [] → halted es ≡ false
off_new es none = ap halted none

pub moment_new : (f : Fixed) (es : List Event) (moment : ℕ) → es ≡ [] → f.opening.moment ≡ moment → (state_after f es).moment ≡ moment
moment_new f es moment none is = ap (λ (xs : List Event). (state_after f xs).moment) none ∙ is

-- ---- a fault is one that the events show

run_met : (messages : List Message) (until : ℕ) (r : Result Bool DeskFault) (v w : View) → OwnsAll v → halted v.events ≡ false → RunIs messages until r v w → IfErr r (λ f. IsMet f w.events)
run_met messages until (Ok b) v w all on x = tt
run_met messages until (Err f) v w all on x =
    ⊎_elim (λ (g : Goes (loads_of messages) (Err f) v w). met (NeedsEntry g.left (state_of w)) f v w (g.done ++ stop_of f) all g.made on g.end)
    (λ (y : (u : View) × Goes (loads_of messages) (Ok tt) v u × DrainIs until releasing (Err f) u w). met (IsSomeSpent w) f y.0 w y.2.own y.1.end.1.owns y.2.made y.1.end.2 y.2.end) x

plan_met : (plan : List Event) (r : Result Bool DeskFault) (v w : View) → OwnsAll v → halted v.events ≡ false → PlanIs plan r v w → IfErr r (λ f. IsMet f w.events)
plan_met plan (Ok b) v w all on x = tt
plan_met plan (Err f) v w all on x =
    ⊎_elim (λ (g : Goes plan (Err f) v w). met (NeedsEntry g.left (state_of w)) f v w (g.done ++ stop_of f) all g.made on g.end)
    (λ (u : IsUnbegun f v w). subst (λ (y : DeskFault). IsMet y w.events) (sym u.0) (subst (λ (y : View). halted y.events ≡ false) (sym u.1) u.2)) x

works_met : (c : Command) (messages : List Message) (until : ℕ) (r : Result Bool DeskFault) (v w : View) → OwnsAll v → halted v.events ≡ false → Works c messages until r v w → IfErr r (λ f. IsMet f w.events)
works_met command.Run messages until r v w all on x = run_met messages until r v w all on x
works_met command.Show messages until r v w all on x = plan_met _ r v w all on x
works_met command.Retry messages until r v w all on x = plan_met _ r v w all on x
works_met command.Purge messages until r v w all on x = plan_met _ r v w all on x
works_met command.Sample messages until r v w all on x = plan_met _ r v w all on x

pub history_met : (c : Command) (messages : List Message) (until : ℕ) (r : Result Bool DeskFault) (p q : Past) (es : List Event) → p.events ≡ [] → q.events ≡ es → Works c messages until r (seen p) (seen q) → IfErr r (λ f. IsMet f es)
history_met c messages until r p q es none same x =
    subst (λ (xs : List Event). IfErr r (λ f. IsMet f xs)) same (works_met c messages until r (seen p) (seen q) (whole_owned p.fixed p.events) (off_new p.events none) x)

-- ---- the counts

stays_risen : (ended status : Status) (c : Counts) → EndsAs ended → Stays ended status c.out_before c.out_after → Risen status c
stays_risen ended Done c e s = tt
stays_risen ended (NotDrained t) c e s = tt
stays_risen ended Words c e s = tt
stays_risen ended (Script line column kind) c e s = tt
stays_risen ended (Settings key kind) c e s = tt
stays_risen ended (Input line kind) c e s = tt
stays_risen ended (ReadFault source) c e s = tt
stays_risen ended WriteFault c e s = s
stays_risen ended BaseFault c e s = absurd (subst EndsAs (sym s) e)
stays_risen ended PostFault c e s = absurd (subst EndsAs (sym s) e)
stays_risen ended NoMemory c e s = tt
stays_risen ended (Damaged store space key) c e s = tt
stays_risen ended Spent c e s = tt

module _ (f : Fixed) (es : List Event) (b p o0 o1 : ℕ) (k : Counted f es b p) where
  risen_fault : (d : DeskFault) (status : Status) → IsMet d es → IsStatusOf d status → Risen status (counts f.base_faults b f.post_faults p o0 o1)
  risen_fault desk.StoreFailed status m s = subst (λ (x : Status). Risen x (counts f.base_faults b f.post_faults p o0 o1)) (sym s) (k.base_rose m)
  risen_fault desk.PostFailed status m s = subst (λ (x : Status). Risen x (counts f.base_faults b f.post_faults p o0 o1)) (sym s) (k.post_rose m)
  risen_fault desk.Spent status m s = subst (λ (x : Status). Risen x (counts f.base_faults b f.post_faults p o0 o1)) (sym s) tt
  risen_fault desk.Halted status m s = absurd m
  risen_fault desk.NoMemory status m s = subst (λ (x : Status). Risen x (counts f.base_faults b f.post_faults p o0 o1)) (sym s) tt

  risen_end : (r : Result Bool DeskFault) (turns : ℕ) (s : State) (x : Worked) (old new : Option (List ℕ)) → IfErr r (λ d. IsMet d es) → EndIs r turns es s x old new o0 o1
      → Risen x.status (counts f.base_faults b f.post_faults p o0 o1)
  risen_end (Ok true) turns s x old new m e = stays_risen Done x.status (counts f.base_faults b f.post_faults p o0 o1) tt e.stays
  risen_end (Ok false) turns s x old new m e = stays_risen (NotDrained turns) x.status (counts f.base_faults b f.post_faults p o0 o1) tt e.stays
  risen_end (Err d) turns s x old new m e = risen_fault d x.status m e.0

-- a count that rose since a start did so since before it
pub risen_before : (status : Status) (b0 b1 b2 p0 p1 p2 o0 o1 : ℕ) → b0 ≤ b1 → p0 ≤ p1 → Risen status (counts b1 b2 p1 p2 o0 o1) → Risen status (counts b0 b2 p0 p2 o0 o1)
risen_before Done b0 b1 b2 p0 p1 p2 o0 o1 b p r = r
risen_before (NotDrained t) b0 b1 b2 p0 p1 p2 o0 o1 b p r = r
risen_before Words b0 b1 b2 p0 p1 p2 o0 o1 b p r = r
risen_before (Script line column kind) b0 b1 b2 p0 p1 p2 o0 o1 b p r = r
risen_before (Settings key kind) b0 b1 b2 p0 p1 p2 o0 o1 b p r = r
risen_before (Input line kind) b0 b1 b2 p0 p1 p2 o0 o1 b p r = r
risen_before (ReadFault source) b0 b1 b2 p0 p1 p2 o0 o1 b p r = r
risen_before WriteFault b0 b1 b2 p0 p1 p2 o0 o1 b p r = r
risen_before BaseFault b0 b1 b2 p0 p1 p2 o0 o1 b p r = omega (arith, b, r)
risen_before PostFault b0 b1 b2 p0 p1 p2 o0 o1 b p r = omega (arith, p, r)
risen_before NoMemory b0 b1 b2 p0 p1 p2 o0 o1 b p r = r
risen_before (Damaged store space key) b0 b1 b2 p0 p1 p2 o0 o1 b p r = r
risen_before Spent b0 b1 b2 p0 p1 p2 o0 o1 b p r = r

-- ---- what is printed

fault_prints : (d : DeskFault) (s : State) (x : Worked) (old new : Option (List ℕ)) → IsStatusOf d x.status → (x.printed ≡ 0) × (new ≡ old) → Prints x.status s x.printed old new
fault_prints desk.StoreFailed s x old new is none = subst (λ (y : Status). Prints y s x.printed old new) (sym is) none
fault_prints desk.PostFailed s x old new is none = subst (λ (y : Status). Prints y s x.printed old new) (sym is) none
fault_prints desk.Spent s x old new is none = subst (λ (y : Status). Prints y s x.printed old new) (sym is) none
fault_prints desk.Halted s x old new is none = absurd is
fault_prints desk.NoMemory s x old new is none = subst (λ (y : Status). Prints y s x.printed old new) (sym is) none

prints_end : (r : Result Bool DeskFault) (turns : ℕ) (es : List Event) (s : State) (x : Worked) (old new : Option (List ℕ)) (o0 o1 : ℕ) → EndIs r turns es s x old new o0 o1 → Prints x.status s x.printed old new
prints_end (Ok true) turns es s x old new o0 o1 e = e.prints
prints_end (Ok false) turns es s x old new o0 o1 e = e.prints
prints_end (Err d) turns es s x old new o0 o1 e = fault_prints d s x old new e.0 (e.1, e.2)

-- ---- all of it

module _ (workers : ℕ) (a : Asked) (said : Said) (task : Task) (p q : Past) (h : History) (r : Result Bool DeskFault) (n : IsNew workers a said task (seen p))
    (works : Works said.command task.messages task.until r (seen p) (seen q)) (legal : IsLegal q.fixed q.events) (is : h ≡ record { opening = q.fixed.opening; events = q.events }) where
  same : q.fixed ≡ p.fixed
  same = works_fixed said.command task.messages task.until r (seen p) (seen q) works

  pub opening_is : p.fixed.opening ≡ h.opening
  opening_is = ap (λ (x : Fixed). x.opening) (sym same) ∙ ap (λ (x : History). x.opening) (sym is)

  over : Over workers a (seen p) (seen q) h
  over = record {
    none = n.none;
    events = ap (λ (x : History). x.events) (sym is);
    owns = whole_owned p.fixed p.events;
    same = same;
    constants_are = n.constants_are;
    turns = n.turns;
    opening = opening_is;
    moment = ap (λ (x : Opening). x.moment) (sym opening_is) ∙ n.moment;
    crew = ap (λ (x : Opening). x.workers) (sym opening_is) ∙ n.crew;
    legal = legal;
    some = n.some;
  }

  until_there : task.until ≡ until_of a h
  until_there = n.until_is ∙ ap (λ (moment : ℕ). until_after moment a.said) (sym over.moment)

  works_asked : Works a.said.command a.messages (until_of a h) r (seen p) (seen q)
  works_asked = subst (λ (x : Command × List Message × ℕ). Works x.0 x.1 x.2 r (seen p) (seen q)) (λ i. ((n.said_is i).command, n.messages_are i, until_there i)) works

  pub finished : (s : State) (x : Worked) (old new : Option (List ℕ)) (o0 o1 : ℕ) → s ≡ state_at q → EndIs r said.turns h.events s x old new o0 o1 → IsFinished workers a x h old new
  finished s x old new o0 o1 state_is_seen e =
      let ends : EndIs r a.said.turns h.events s x old new o0 o1 = subst (λ (y : Said). EndIs r y.turns h.events s x old new o0 o1) n.said_is e in
      let there : s ≡ state_in a h = state_is_seen ∙ state_is workers a (seen p) (seen q) h over in
      record {
        begins = begins workers a (seen p) (seen q) h over;
        follows = follows workers a (seen p) (seen q) h over a.said.command refl x.status r (through r a.said.turns h.events s x old new o0 o1 ends) n.built works_asked;
        shows = shows a h r s x old new o0 o1 (came workers a (seen p) (seen q) h over a.said.command refl r works_asked) ends;
        prints = subst (λ (y : State). Prints x.status y x.printed old new) there (prints_end r a.said.turns h.events s x old new o0 o1 ends);
      }

  -- the state that is handed out is that of the history
  pub state_there : (s : State) → s ≡ state_at q → s ≡ state_in a h
  state_there s is = is ∙ state_is workers a (seen p) (seen q) h over

  -- work that is done
  pub done_as : r ≡ Ok true → Begins workers a h × Follows a Done h × Shows a Done h
  done_as ok =
      (begins workers a (seen p) (seen q) h over, follows workers a (seen p) (seen q) h over a.said.command refl Done r (λ t. (true, ok)) n.built works_asked, subst (Came a h) ok (came workers a (seen p) (seen q) h over a.said.command refl r works_asked))

  module _ {P D : Type 0} (post : Ghosts P) (base : Ghosts D) (b : D) (t : P) where
    pub stores_left : (start : Started) → DeskStands post base start q b t → AreLeft post base start a h t b
    stores_left start k =
        let c = ap (λ (x : Fixed). Rattle.nb_core.specs.Past.constants x) same ∙ n.constants_are in
        let o = ap (λ (x : Fixed). x.opening) same ∙ opening_is in
        let s = state_is workers a (seen p) (seen q) h over in
        are_left post base a h q b t c o over.events s start k

-- the counts of a hub that was taken apart
pub risen_finish : (c : Command) (messages : List Message) (until : ℕ) (r : Result Bool DeskFault) (p q : Past) (h : History) (turns : ℕ) (s : State) (x : Worked) (old new : Option (List ℕ)) (b t o0 o1 : ℕ)
    → p.events ≡ [] → Works c messages until r (seen p) (seen q) → h ≡ record { opening = q.fixed.opening; events = q.events } → Counted q.fixed q.events b t → EndIs r turns h.events s x old new o0 o1
    → Risen x.status (counts p.fixed.base_faults b p.fixed.post_faults t o0 o1)
risen_finish c messages until r p q h turns s x old new b t o0 o1 none works is k e =
    let ends : EndIs r turns q.events s x old new o0 o1 = subst (λ (y : History). EndIs r turns y.events s x old new o0 o1) is e in
    let risen = risen_end q.fixed q.events b t o0 o1 k r turns s x old new (works_met c messages until r (seen p) (seen q) (whole_owned p.fixed p.events) (off_new p.events none) works) ends in
    subst (λ (y : Fixed). Risen x.status (counts y.base_faults b y.post_faults t o0 o1)) (works_fixed c messages until r (seen p) (seen q) works) risen
