-- What is kept by a call that a store refused.
use Rattle.std.proofs.Common.{◌≡◌, ◌≢◌, ◌↔◌, ℕ, ◌^◌, List, true, false, Result, Ok, Err, refl, sym, ap, subst, arith}
use Rattle.nb_core.specs.Legal.{halted}
use Rattle.nb_core.specs.Past.{IsLegal}
use Rattle.nb_core.specs.declared.answers.DeskFault.{DeskFault}
use Rattle.nb_core.specs.declared.state.State.{State}
use Rattle.nb_hub.proofs.Stopped.{PostStop, BaseStop, post_stop_kept, base_stop_kept}
use Rattle.nb_hub.specs.Kept.{Kept}
use Rattle.nb_hub.specs.Ledgers.{Past, past}
use Rattle.nb_queue.specs.Applied as queued
use Rattle.nb_queue.specs.declared.fault.PostFault.{PostFault}
use Rattle.nb_queue.specs.declared.fault.PostFault.TheVariants as post
use Rattle.nb_ready.specs.Seats.{Seats}
use Rattle.nb_store.specs.Applied as tabled
use Rattle.nb_store.specs.declared.fault.StoreFault.{StoreFault}
use Rattle.nb_store.specs.declared.fault.StoreFault.TheVariants as base

-- a fault of a call without a new number is one of a call with one
pub fault_of_put : (f : PostFault) → queued.IsOfApply f → queued.IsOfPut f
fault_of_put post.Failed h = tt
fault_of_put (post.Damaged space key) h = absurd h
fault_of_put post.Spent h = tt
fault_of_put post.NoMemory h = tt

pub fault_of_commit : (f : StoreFault) → tabled.IsOfApply f → tabled.IsOfCommit f
fault_of_commit base.Failed h = tt
fault_of_commit (base.Damaged space key) h = absurd h
fault_of_commit base.Spent h = tt
fault_of_commit base.NoMemory h = tt

-- no number is spent by such a call
pub never_spent : {A : Type 0} (f : PostFault) → queued.IsOfApply f → f ≡ post.Spent → A
never_spent post.Failed h is = absurd cc
never_spent (post.Damaged space key) h is = absurd h
never_spent post.Spent h is = absurd h
never_spent post.NoMemory h is = absurd cc

pub never_spent_base : {A : Type 0} (f : StoreFault) → tabled.IsOfApply f → f ≡ base.Spent → A
never_spent_base base.Failed h is = absurd cc
never_spent_base (base.Damaged space key) h is = absurd h
never_spent_base base.Spent h is = absurd h
never_spent_base base.NoMemory h is = absurd cc

-- where a put was answered, or refused by a store that failed, a number was left
pub unspent_ok : {T : Type 0} (x : T) (next : ℕ) → ((let r : Result T PostFault = Ok x in r) ≡ Err post.Spent) ↔ (next ≡ 2 ^ 62) → next ≢ 2 ^ 62
unspent_ok x next spent is = let e = spent.1 is in absurd cc

pub unspent_failed : {T : Type 0} (f : PostFault) (next : ℕ) → ((let r : Result T PostFault = Err f in r) ≡ Err post.Spent) ↔ (next ≡ 2 ^ 62) → f ≡ post.Failed → next ≢ 2 ^ 62
unspent_failed f next spent failed is = let e = spent.1 is in absurd cc

-- the same is kept
pub kept_same : (p : Past) (s s' : State) (own own' : List ℕ) (seats seats' : Seats) (b q : ℕ) → Kept p s own seats b q → s' ≡ s → own' ≡ own → seats' ≡ seats → Kept p s' own' seats' b q
kept_same p s s' own own' seats seats' b q k state name index = subst (λ (x : State × List ℕ × Seats). Kept p x.0 x.1 x.2 b q) (λ i. (sym state i, sym name i, sym index i)) k

module _ (p p1 p2 : Past) (begun : p1 ≡ past p.fixed p.events true) (legal : IsLegal p.fixed p.events) (on : halted p.events ≡ false) where
  pub refused_post_kept : {T : Type 0} (fault : PostFault) (why : DeskFault) (s s' : State) (own own' : List ℕ) (seats seats' : Seats) (b q r : ℕ) → PostStop fault p1 p2 why → Kept p s own seats b q → queued.IsCounted {T = T} q r (Err fault)
      → s' ≡ s → own' ≡ own → seats' ≡ seats → Kept p2 s' own' seats' b r
  refused_post_kept fault why s s' own own' seats seats' b q r stop k cause state name index =
      kept_same p2 s s' own own' seats seats' b r
      (post_stop_kept p p1 p2 begun legal on fault why s own seats b b q r stop k (omega arith) cause.later (λ is. cause.failed (ap Err is))) state name index

  pub refused_base_kept : {T : Type 0} (fault : StoreFault) (why : DeskFault) (s s' : State) (own : List ℕ) (seats : Seats) (b c q : ℕ) → BaseStop fault p1 p2 why → Kept p s own seats b q → tabled.IsCounted {T = T} b c (Err fault)
      → s' ≡ s → Kept p2 s' own seats c q
  refused_base_kept fault why s s' own seats b c q stop k cause state =
      kept_same p2 s s' own own seats seats c q
      (base_stop_kept p p1 p2 begun legal on fault why s own seats b c q q stop k cause.later (omega arith) (λ is. cause.failed (ap Err is))) state refl refl
