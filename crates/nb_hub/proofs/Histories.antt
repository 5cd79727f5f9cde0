-- Histories that go on by one event.
use Rattle.std.proofs.Common.{◌≡◌, ℕ, ◌+◌, ◌<◌, ◌^◌, List, [], ◌∷◌, ◌++◌, length, Bool, true, false, true≢false, Option, Some, None, refl, sym, ap, ◌∙◌, subst, append-nil, length-append, arith}
use Rattle.nb_base.specs.Meanings.{IsMeaning}
use Rattle.nb_base.specs.declared.entry.Which.{Which}
use Rattle.nb_core.proofs.Judging.{can_settle}
use Rattle.nb_core.proofs.Pasts.{IsAllowed, allowed_take, legal_push, legal_halt, next_state, called_alone, halted_push, taken_push}
use Rattle.nb_core.proofs.Stating.{state_facts}
use Rattle.nb_core.specs.Calls.{Called, Gives, whole, View}
use Rattle.nb_core.specs.Legal.{halted, halted_after, is_halt}
use Rattle.nb_core.specs.Past.{IsLegal, takes, taken}
use Rattle.nb_core.specs.declared.event.Event.{Event}
use Rattle.nb_core.specs.declared.event.Event.TheVariants.{Load, Take, Look, Settle, Send, Mark, Aside, Remove, Tick, Release, Purge, PutBack, DropBack, Stop, Halt}
use Rattle.nb_core.specs.declared.call.Answer.{Answer}
use Rattle.nb_core.specs.declared.call.Call.{Call}
use Rattle.nb_core.specs.declared.state.State.{State}
use Rattle.nb_hub.specs.Kept.{Makes, failing, failed_after, failed_store}
use Rattle.nb_hub.specs.Ledgers.{Past, past, pushed, state_at, Keeps, Standing, Comes, HasTurn, IsQuiet}

pub standing_of : (p : Past) → IsMeaning p.fixed.meaning → IsLegal p.fixed p.events → Standing p
standing_of p means legal = record {
  means = means;
  legal = legal;
  facts = state_facts means legal.legal.sound legal.legal.run;
  can = can_settle means legal.legal.routes legal.legal.sound legal.legal.run;
}

allowed : (p : Past) (e : Event) → HasTurn p e → IsAllowed p.fixed.turns (takes p.events) e
unfolding IsAllowed
allowed p (Load m) h = tt
allowed p (Take w) h = h
allowed p (Look w) h = tt
allowed p (Settle w) h = tt
allowed p (Send w) h = tt
allowed p (Mark w) h = tt
allowed p (Aside w) h = tt
allowed p (Remove w) h = tt
allowed p (Tick to) h = tt
allowed p (Release n) h = tt
allowed p (Purge id) h = tt
allowed p (PutBack n) h = tt
allowed p (DropBack n) h = tt
allowed p (Stop moment) h = tt
allowed p (Halt store) h = tt

-- the history goes on by an event that may come
pub goes_on : (p : Past) (e : Event) (t : State) → IsLegal p.fixed p.events → Comes p e t → IsLegal p.fixed (p.events ++ e ∷ [])
goes_on p e t l c = legal_push p.fixed p.events e t l c.on c.worker (allowed p e c.turn) c.step

pub next_is : (p : Past) (e : Event) (t : State) → IsLegal p.fixed p.events → Comes p e t → t ≡ state_at (pushed p e)
next_is p e t l c = next_state p.fixed p.events e t l c.step

-- a Halt leaves the state as it is
pub halt_is : (p : Past) (store : Which) → state_at (pushed p (Halt store)) ≡ state_at p
halt_is p store = Rattle.nb_core.proofs.Pasts.state_push p.fixed p.events (Halt store)

pub failed_push : (es : List Event) (e : Event) → failed_store (es ++ e ∷ []) ≡ failing e
failed_push es e = more None es e
  where
    more : (o : Option Which) (xs : List Event) (e : Event) → failed_after o (xs ++ e ∷ []) ≡ failing e
    more o [] e = refl
    more o (x ∷ xs) e = more (failing x) xs e

-- where no Halt ends the events, none failed
pub none_failed : (es : List Event) → halted es ≡ false → failed_store es ≡ None
none_failed es off = more false None es (λ _. refl) off
  where
    last : (e : Event) → is_halt e ≡ false → failing e ≡ None
    last (Load m) h = refl
    last (Take w) h = refl
    last (Look w) h = refl
    last (Settle w) h = refl
    last (Send w) h = refl
    last (Mark w) h = refl
    last (Aside w) h = refl
    last (Remove w) h = refl
    last (Tick to) h = refl
    last (Release n) h = refl
    last (Purge id) h = refl
    last (PutBack n) h = refl
    last (DropBack n) h = refl
    last (Stop moment) h = refl
    last (Halt store) h = absurd cc

    more : (b : Bool) (o : Option Which) (xs : List Event) → (b ≡ false → o ≡ None) → halted_after b xs ≡ false → failed_after o xs ≡ None
    more b o [] none h = none h
    more b o (x ∷ xs) none h = more (is_halt x) (failing x) xs (last x) h

-- so none has after the same events, nor after one more that is no Halt
pub no_failure : {A : Type 0} (p q : Past) (room : Bool) (store : Which) → q ≡ past p.fixed p.events room → halted p.events ≡ false → failed_store q.events ≡ Some store → A
no_failure p q room store is on failed =
    let none : None ≡ Some store = sym (none_failed p.events on) ∙ sym (ap (λ (y : Past). failed_store y.events) is) ∙ failed in
    absurd cc

pub no_failure_by : {A : Type 0} (p q : Past) (e : Event) (store : Which) → q ≡ pushed p e → failing e ≡ None → failed_store q.events ≡ Some store → A
no_failure_by p q e store is calm failed =
    let none : None ≡ Some store = sym calm ∙ sym (failed_push p.events e) ∙ sym (ap (λ (y : Past). failed_store y.events) is) ∙ failed in
    absurd cc

quiet_on : (e : Event) → IsQuiet e → is_halt e ≡ false
quiet_on (Load m) q = refl
quiet_on (Take w) q = absurd q
quiet_on (Look w) q = refl
quiet_on (Settle w) q = refl
quiet_on (Send w) q = refl
quiet_on (Mark w) q = refl
quiet_on (Aside w) q = refl
quiet_on (Remove w) q = refl
quiet_on (Tick to) q = refl
quiet_on (Release n) q = refl
quiet_on (Purge id) q = refl
quiet_on (PutBack n) q = refl
quiet_on (DropBack n) q = refl
quiet_on (Stop moment) q = absurd q
quiet_on (Halt store) q = absurd q

quiet_takes : (m : ℕ) (e : Event) → IsQuiet e → taken m (e ∷ []) ≡ m
quiet_takes m (Load x) q = refl
quiet_takes m (Take w) q = absurd q
quiet_takes m (Look w) q = refl
quiet_takes m (Settle w) q = refl
quiet_takes m (Send w) q = refl
quiet_takes m (Mark w) q = refl
quiet_takes m (Aside w) q = refl
quiet_takes m (Remove w) q = refl
quiet_takes m (Tick to) q = refl
quiet_takes m (Release n) q = refl
quiet_takes m (Purge id) q = refl
quiet_takes m (PutBack n) q = refl
quiet_takes m (DropBack n) q = refl
quiet_takes m (Stop moment) q = absurd q
quiet_takes m (Halt store) q = absurd q

-- what is kept beside the events, after one more
pub keeps_quiet : (es : List Event) (count : ℕ) (off : Bool) (e : Event) → Keeps es count off → IsQuiet e → halted es ≡ false → length (es ++ e ∷ []) < 2 ^ 32 → Keeps (es ++ e ∷ []) count off
keeps_quiet es count off e k q on short = record {
  count_is = k.count_is ∙ sym (taken_push es e ∙ quiet_takes (takes es) e q);
  off_is = k.off_is ∙ on ∙ sym (halted_push es e ∙ quiet_on e q);
  short = short;
}

pub keeps_take : (es : List Event) (count : ℕ) (off : Bool) (w : ℕ) → Keeps es count off → halted es ≡ false → length (es ++ Take w ∷ []) < 2 ^ 32 → Keeps (es ++ Take w ∷ []) (count + 1) off
keeps_take es count off w k on short = record {
  count_is = ap (λ (n : ℕ). n + 1) k.count_is ∙ sym (taken_push es (Take w));
  off_is = k.off_is ∙ on ∙ sym (halted_push es (Take w));
  short = short;
}

pub keeps_halt : (es : List Event) (count : ℕ) (off : Bool) (store : Which) → Keeps es count off → length (es ++ Halt store ∷ []) < 2 ^ 32 → Keeps (es ++ Halt store ∷ []) count true
keeps_halt es count off store k short = record {
  count_is = k.count_is ∙ sym (taken_push es (Halt store));
  off_is = sym (halted_push es (Halt store));
  short = short;
}

pub one_longer : (es : List Event) (e : Event) → length es + 1 < 2 ^ 32 → length (es ++ e ∷ []) < 2 ^ 32
one_longer es e short = let n : length (es ++ e ∷ []) ≡ length es + 1 = length-append es (e ∷ []) in omega (arith, n, short)

-- the room is used
pub unroomed : {A : Type 0} → false ≡ true → A
unroomed e = absurd (true≢false (sym e))

-- ---- calls

-- a call that makes no event
pub no_event : (x : Call) (answer : Answer) (p q : Past) (b : Bool) → q ≡ past p.fixed p.events b → IsLegal p.fixed p.events → Gives p.fixed p.events x answer [] → Makes x answer p q
no_event x answer p q b is legal gives =
    let n : p.events ++ [] ≡ p.events = append-nil p.events in
    let k = called_alone x answer p.fixed p.events [] (subst (IsLegal p.fixed) (sym n) legal) gives in
    let P : View → Type 0 = Called x answer (whole p.fixed p.events) in
    subst P (ap (λ (l : List Event). whole p.fixed l) n ∙ sym (ap (λ (y : Past). whole y.fixed y.events) is)) k

-- a call that makes one
pub one_event : (x : Call) (answer : Answer) (p q : Past) (e : Event) → q ≡ pushed p e → IsLegal p.fixed (p.events ++ e ∷ []) → Gives p.fixed p.events x answer (e ∷ []) → Makes x answer p q
one_event x answer p q e is legal gives =
    let P : View → Type 0 = Called x answer (whole p.fixed p.events) in
    subst P (sym (ap (λ (y : Past). whole y.fixed y.events) is)) (called_alone x answer p.fixed p.events (e ∷ []) legal gives)
