-- What is kept of the workers, behind a call.
use Rattle.std.proofs.Common.{◌≡◌, ◌≢◌, ℕ, suc, ◌<◌, List, [], ◌∷◌, refl, sym, ap, ◌∙◌, subst, ⊎_elim, arith}
use Rattle.std.specs.Prelude.{All, Option, Some, None}
use Rattle.std.specs.FinMap as map
use Rattle.std.proofs.lemmas.Bool.Decides.{nat_tests}
use Rattle.std.proofs.lemmas.List.Elements.{All-cons, All-nil}
use Rattle.nb_base.proofs.Maps.{numbers, same_or_other, at_same, at_other, gone, kept}
use Rattle.nb_base.specs.Meanings.{Meaning, IsShown}
use Rattle.nb_base.specs.Orders.{ByNumber}
use Rattle.nb_base.specs.declared.entry.Which.TheVariants.{Base, Post}
use Rattle.nb_core.proofs.Pasts.{Leaves, leaves_all}
use Rattle.nb_core.specs.Calls.{View, Called, Foreign, OwnsAll, Owns, Refuses, state_of, times}
use Rattle.nb_core.specs.History.{Run}
use Rattle.nb_core.specs.Past.{Fixed, IsLegal, constants}
use Rattle.nb_core.specs.State.{number_of}
use Rattle.nb_core.specs.declared.answers.DeskFault.{DeskFault}
use Rattle.nb_core.specs.declared.answers.DeskFault.TheVariants.{StoreFailed, PostFailed, Spent, Halted, NoMemory}
use Rattle.nb_core.specs.declared.call.Answer.{Answer}
use Rattle.nb_core.specs.declared.call.Call.{Call}
use Rattle.nb_core.specs.declared.event.Event.{Event}
use Rattle.nb_core.specs.declared.event.Event.TheVariants.{Halt}
use Rattle.nb_core.specs.declared.state.State.{State}
use Rattle.nb_cells.specs.Mem.{Mem}
use Rattle.nb_eval.specs.Meanings.{meaning_of}
use Rattle.nb_hub.specs.Kept.{seen}
use Rattle.nb_hub.specs.Ledgers.{past_of}
use Rattle.nb_hub.specs.Stages.{Stage}
use Rattle.nb_script.specs.Tree.{script}
use Rattle.nb_schedule.specs.declared.lent.Lent.{Lent}
use Rattle.nb_pump.proofs.Releasing.{acts_here}
use Rattle.nb_pump.proofs.Views.{moved_as, owns_all_same, holding_of, ran}
use Rattle.nb_pump.specs.Made.{Moved}
use Rattle.nb_schedule.specs.Seats.{put_seat, IsAt, Staged}
use Rattle.nb_schedule.specs.declared.seat.Seat.{Seat}
use Rattle.nb_schedule.specs.declared.seat.Seat.TheVariants.{Held, Looked, Sending, Leaving, Done, Lost}

-- what the stage's hub shows
abbrev pub shown : Stage Lent Mem Mem → View
shown h = seen (past_of (meaning_of (script h.handlers.handlers.now.checked)) h.course)

-- the events are no worker's but another one's
abbrev pub Spares : ℕ → List Event → Type 0
Spares k own = All (Foreign (k ∷ [])) own

pub spares_none : (k : ℕ) → Spares k []
spares_none k = All-nil (Foreign (k ∷ []))

pub spares_one : (k : ℕ) (e : Event) → Foreign (k ∷ []) e → Spares k (e ∷ [])
spares_one k e foreign = All-cons (Foreign (k ∷ [])) e [] foreign (spares_none k)

pub times_other : (k w : ℕ) → k ≢ w → times w (k ∷ []) ≡ 0
times_other k w ne = grind (arith, nat_tests)

times_self : (k : ℕ) → 0 < times k (k ∷ [])
times_self k = grind (arith, nat_tests)

-- a refusal makes no event of a worker
pub spares_refused : (x : Call) (f : DeskFault) (fixed : Fixed) (es own : List Event) → Refuses fixed es x f own → (k : ℕ) → Spares k own
spares_refused x StoreFailed fixed es own r k = subst (Spares k) (sym r.0) (spares_one k (Halt Base) tt)
spares_refused x PostFailed fixed es own r k = subst (Spares k) (sym r.0) (spares_one k (Halt Post) tt)
spares_refused x Spent fixed es own r k = subst (Spares k) (sym r.0) (spares_none k)
spares_refused x Halted fixed es own r k = subst (Spares k) (sym r.0) (spares_none k)
spares_refused x NoMemory fixed es own r k = subst (Spares k) (sym r.0) (spares_none k)

-- such events leave a worker where it is
pub rest : {v u : View} {own : List Event} (m : Moved v own u) → OwnsAll v → IsLegal v.fixed v.events → (k : ℕ) → Spares k own → Leaves (state_of v) (state_of u) k
rest {v = v} {u = u} {own = own} m all legal k spares =
    let h = holding_of v.fixed v.events legal in
    leaves_all (k ∷ []) k (subst (λ (s : State). Run (constants v.fixed) s own (state_of u)) (acts_here m all) (ran m)) h.0 h.1 spares (times_self k)

pub still_at : (moment : ℕ) (v u : View) (k : ℕ) (o : Option Seat) → u.fixed ≡ v.fixed → Leaves (state_of v) (state_of u) k → IsAt moment v k o → IsAt moment u k o
still_at moment v u k None fixed l x = l.phase_is ∙ x
still_at moment v u k (Some (Held m)) fixed l x = record {
  number = x.number;
  it = x.it;
  held = l.phase_is ∙ x.held;
  there = l.entry_is x.number (ap number_of x.held) ∙ x.there;
  message_is = x.message_is;
}
still_at moment v u k (Some (Looked m reads)) fixed l x = (
  subst (λ (f : Fixed). IsShown f.meaning m reads) (sym fixed) x.0,
  record {
    number = x.1.number;
    it = x.1.it;
    looked = l.phase_is ∙ x.1.looked;
    there = l.entry_is x.1.number (ap number_of x.1.looked) ∙ x.1.there;
    verdict_is = (λ i. (fixed i).meaning.on_reads reads m moment) ∙ x.1.verdict_is ∙ (λ i. (sym fixed i).meaning.on_reads reads x.1.it.envelope (sym l.moment_is i));
  },
)
still_at moment v u k (Some Sending) fixed l x = (
  x.0,
  record { number = x.1.number; id = x.1.id; ops = x.1.ops; k = x.1.k; sending = l.phase_is ∙ x.1.sending; left_is = x.1.left_is },
)
still_at moment v u k (Some Leaving) fixed l x = (x.0, x.1, x.2, x.3, l.phase_is ∙ x.4)
still_at moment v u k (Some Done) fixed l x = (x.0, l.phase_is ∙ x.1)
still_at moment v u k (Some Lost) fixed l x = tt

-- ---- the seats after a change of one

put_same : (seats : ByNumber Seat) (w : ℕ) (o : Option Seat) → map.get (put_seat seats w o) w ≡ o
put_same seats w None = gone numbers seats w
put_same seats w (Some x) = at_same numbers seats w x

put_other : (seats : ByNumber Seat) (w : ℕ) (o : Option Seat) (k : ℕ) → k ≢ w → map.get (put_seat seats w o) k ≡ map.get seats k
put_other seats w None k ne = kept numbers seats w k ne
put_other seats w (Some x) k ne = at_other numbers seats w x k ne

each_seat : (moment : ℕ) (seats : ByNumber Seat) (w : ℕ) (o : Option Seat) (u : View) → ((k : ℕ) → k ≢ w → IsAt moment u k (map.get seats k)) → IsAt moment u w o → (k : ℕ) → IsAt moment u k (map.get (put_seat seats w o) k)
each_seat moment seats w o u others mine k =
    ⊎_elim
    (λ (same : k ≡ w). subst (λ (z : ℕ). IsAt moment u z (map.get (put_seat seats w o) z)) (sym same) (subst (IsAt moment u w) (sym (put_same seats w o)) mine))
    (λ (ne : k ≢ w). subst (IsAt moment u k) (sym (put_other seats w o k ne)) (others k ne))
    (same_or_other numbers k w)

module _ (meaning : Meaning) (workers moment : ℕ) (seats : ByNumber Seat) (v : View) (st : Staged meaning workers moment seats v) where
  -- a worker of the stage
  pub owned : (w : ℕ) → w < workers → Owns v w
  owned w lt = let own : w < v.fixed.opening.workers = subst (λ (n : ℕ). w < n) (sym st.workers_are) lt in (own, st.owns w own)

  -- what is kept of one worker is another thing
  pub placed : (w : ℕ) (o : Option Seat) → IsAt moment v w o → Staged meaning workers moment (put_seat seats w o) v
  placed w o is = record {
    owns = st.owns;
    legal = st.legal;
    meaning_is = st.meaning_is;
    workers_are = st.workers_are;
    now = st.now;
    at = each_seat moment seats w o v (λ k ne. st.at k) is;
  }

  module _ (u : View) (x : Call) (a : Answer) (c : Called x a v u) where
    abbrev m : Moved v c.own u
    m = moved_as c c.own refl

    leaves : (k : ℕ) → Spares k c.own → Leaves (state_of v) (state_of u) k
    leaves k spares = rest m st.owns st.legal k spares

    pub goes_on : (k : ℕ) → Spares k c.own → IsAt moment u k (map.get seats k)
    goes_on k spares = still_at moment v u k (map.get seats k) c.fixed (leaves k spares) (st.at k)

    kept_as : (seats' : ByNumber Seat) (k : ℕ) → Spares k c.own → ((k : ℕ) → IsAt moment u k (map.get seats' k)) → Staged meaning workers moment seats' u
    kept_as seats' k spares at = record {
      owns = owns_all_same v u c.workers c.fixed st.owns;
      legal = c.legal;
      meaning_is = ap (λ (f : Fixed). f.meaning) c.fixed ∙ st.meaning_is;
      workers_are = ap (λ (f : Fixed). f.opening.workers) c.fixed ∙ st.workers_are;
      now = (leaves k spares).moment_is ∙ st.now;
      at = at;
    }

    -- a call leaves all workers where they are
    pub unmoved : ((k : ℕ) → Spares k c.own) → Staged meaning workers moment seats u
    unmoved spares = kept_as seats 0 (spares 0) (λ k. goes_on k (spares k))

    -- a call of one worker, after which it is there
    pub seated : (w : ℕ) (o : Option Seat) → ((k : ℕ) → k ≢ w → Spares k c.own) → IsAt moment u w o → Staged meaning workers moment (put_seat seats w o) u
    seated w o spares is = kept_as (put_seat seats w o) (suc w) (spares (suc w) (λ e. absurd (omega arith))) (each_seat moment seats w o u (λ k ne. goes_on k (spares k ne)) is)

    -- and is still where it was
    pub remained : (w : ℕ) → ((k : ℕ) → k ≢ w → Spares k c.own) → IsAt moment u w (map.get seats w) → Staged meaning workers moment seats u
    remained w spares is = kept_as seats (suc w) (spares (suc w) (λ e. absurd (omega arith)))
        (λ k. ⊎_elim
        (λ (same : k ≡ w). subst (λ (z : ℕ). IsAt moment u z (map.get seats z)) (sym same) is)
        (λ (ne : k ≢ w). goes_on k (spares k ne))
        (same_or_other numbers k w))
