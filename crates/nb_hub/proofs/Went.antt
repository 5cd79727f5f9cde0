-- A call that made its event: its answer, and what is kept.
use Rattle.std.proofs.Common.{◌≡◌, ℕ, ◌≤◌, ◌<◌, ◌^◌, List, [], ◌∷◌, ◌++◌, length, Bool, true, false, Some, None, sym, ap, ◌∙◌, subst, arith}
use Rattle.nb_base.specs.Causes.{Rose}
use Rattle.nb_base.specs.declared.entry.Which.{Which}
use Rattle.nb_base.specs.declared.entry.Which.TheVariants.{Base, Post}
use Rattle.nb_core.specs.Calls.{Gives}
use Rattle.nb_core.specs.Legal.{halted}
use Rattle.nb_core.specs.Past.{Fixed, IsLegal}
use Rattle.nb_core.specs.declared.event.Event.{Event}
use Rattle.nb_core.specs.declared.event.Event.TheVariants.{Halt}
use Rattle.nb_core.specs.declared.call.Answer.{Answer}
use Rattle.nb_core.specs.declared.call.Call.{Call}
use Rattle.nb_core.specs.declared.state.State.{State}
use Rattle.nb_hub.proofs.Histories.{goes_on, next_is, halt_is, failed_push, none_failed, one_event}
use Rattle.nb_hub.specs.Kept.{Counted, Kept, AreHeld, Makes, failing}
use Rattle.nb_hub.specs.Ledgers.{Past, past, pushed, Comes}
use Rattle.nb_core.proofs.Pasts.{legal_halt}
use Rattle.nb_ready.specs.Seats.{Seats}

-- with room for an event or without
pub comes_at : (p q : Past) (e : Event) (t : State) → q ≡ past p.fixed p.events true → Comes (past p.fixed p.events true) e t → Comes q e t
comes_at p q e t is c = subst (λ (x : Past). Comes x e t) (sym is) c

pub kept_room : (p q : Past) (b : Bool) (s : State) (own : List ℕ) (seats : Seats) (base post : ℕ) → q ≡ past p.fixed p.events b → Kept p s own seats base post → Kept q s own seats base post
kept_room p q b s own seats base post is k =
    subst (λ (x : Past). Kept x s own seats base post) (sym is) (record { means = k.means; legal = k.legal; state = k.state; own_is = k.own_is; held = k.held; short = k.short; counted = k.counted })

-- the counts of faults may have risen
later_counts : (f : Fixed) (es : List Event) (e : Event) (b c q r : ℕ) → failing e ≡ None → b ≤ c → q ≤ r → Counted f es b q → Counted f (es ++ e ∷ []) c r
later_counts f es e b c q r calm up over k = record {
  base_later = let low = k.base_later in omega arith;
  post_later = let low = k.post_later in omega arith;
  base_rose = λ is. let none : None ≡ Some Base = sym (failed_push es e ∙ calm) ∙ is in absurd cc;
  post_rose = λ is. let none : None ≡ Some Post = sym (failed_push es e ∙ calm) ∙ is in absurd cc;
}

pub counts_later : (f : Fixed) (es : List Event) (b c q r : ℕ) → b ≤ c → q ≤ r → halted es ≡ false → Counted f es b q → Counted f es c r
counts_later f es b c q r up over on k = record {
  base_later = let low = k.base_later in omega arith;
  post_later = let low = k.post_later in omega arith;
  base_rose = λ is. let none : None ≡ Some Base = sym (none_failed es on) ∙ is in absurd cc;
  post_rose = λ is. let none : None ≡ Some Post = sym (none_failed es on) ∙ is in absurd cc;
}

-- of an event that came
module _ (p p1 p2 : Past) (e : Event) (t : State) (begun : p1 ≡ past p.fixed p.events true) (noted : p2 ≡ pushed p1 e) (legal : IsLegal p.fixed p.events) (comes : Comes (past p.fixed p.events true) e t) where
  pub at_end : p2 ≡ pushed p e
  at_end = noted ∙ ap (λ (x : Past). pushed x e) begun

  pub makes : (x : Call) (a : Answer) → Gives p.fixed p.events x a (e ∷ []) → Makes x a p p2
  makes x a gives = one_event x a p p2 e at_end (goes_on (past p.fixed p.events true) e t legal comes) gives

  pub kept : (s s' : State) (own own' : List ℕ) (seats seats' : Seats) (b c q r : ℕ) → Kept p s own seats b q → failing e ≡ None → s' ≡ t → own' ≡ own → AreHeld s'.phases seats' → length s'.discarded < 2 ^ 32
      → b ≤ c → q ≤ r → Kept p2 s' own' seats' c r
  kept s s' own own' seats seats' b c q r k calm is same held short up over =
      subst (λ (x : Past). Kept x s' own' seats' c r) (sym at_end) (record {
        means = k.means;
        legal = goes_on (past p.fixed p.events true) e t legal comes;
        state = is ∙ next_is (past p.fixed p.events true) e t legal comes;
        own_is = same ∙ k.own_is;
        held = held;
        short = short;
        counted = later_counts p.fixed p.events e b c q r calm up over k.counted;
      })

-- of a store that failed
module _ (p p1 p2 : Past) (store : Which) (begun : p1 ≡ past p.fixed p.events true) (stopped : p2 ≡ pushed p1 (Halt store)) (legal : IsLegal p.fixed p.events) (on : halted p.events ≡ false) where
  pub halt_end : p2 ≡ pushed p (Halt store)
  halt_end = stopped ∙ ap (λ (x : Past). pushed x (Halt store)) begun

  pub halt_makes : (x : Call) (a : Answer) → Gives p.fixed p.events x a (Halt store ∷ []) → Makes x a p p2
  halt_makes x a gives = one_event x a p p2 (Halt store) halt_end (legal_halt p.fixed p.events store legal on) gives

  pub halt_kept : (s : State) (own : List ℕ) (seats : Seats) (b c q r : ℕ) → Kept p s own seats b q → b ≤ c → q ≤ r → (store ≡ Base → Rose b c) → (store ≡ Post → Rose q r) → Kept p2 s own seats c r
  halt_kept s own seats b c q r k up over base_rose post_rose =
      subst (λ (x : Past). Kept x s own seats c r) (sym halt_end) (record {
        means = k.means;
        legal = legal_halt p.fixed p.events store legal on;
        state = k.state ∙ sym (halt_is p store);
        own_is = k.own_is;
        held = k.held;
        short = k.short;
        counted = record {
          base_later = let low = k.counted.base_later in omega arith;
          post_later = let low = k.counted.post_later in omega arith;
          base_rose = λ is. let rose = base_rose (named (sym (failed_push p.events (Halt store)) ∙ is)) in let low = k.counted.base_later in rises p.fixed.base_faults b c low rose;
          post_rose = λ is. let rose = post_rose (named (sym (failed_push p.events (Halt store)) ∙ is)) in let low = k.counted.post_later in rises p.fixed.post_faults q r low rose;
        };
      })
    where
      named : {a b : Which} → Some a ≡ Some b → a ≡ b
      named e = cc

      rises : (f x y : ℕ) → f ≤ x → Rose x y → Rose f y
      rises f x y low rose = omega (arith, low, rose)
