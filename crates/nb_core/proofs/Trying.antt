-- Where the events that no worker makes are possible, and where not.
use Rattle.std.proofs.Common.{◌≡◌, ◌<◌, ◌≤◌, ℕ, Bool, true, false, true≢false, Some, None, Option, refl, sym, ap, ◌∙◌, subst, arith, List, [], ◌∷◌, Result, Ok, Err, ◌↔◌}
use Rattle.std.specs.Prelude.{IsTrue, IfOk, not, bytes_eq}
use Rattle.std.proofs.lemmas.Slice.Eq.{bytes_eq-Decides}
use Rattle.std.specs.Option.{unwrap_or, is_some}
use Rattle.std.specs.FinMap as map
use Rattle.std.specs.FinMap.{get-entries, entries_sorted}
use Rattle.nb_base.specs.Messages.{Message, IsMessage}
use Rattle.nb_base.specs.Sound.{limit}
use Rattle.nb_base.specs.declared.tables.Queued.{Queued}
use Rattle.nb_headers.specs.Faults.{stripped}
use Rattle.nb_headers.specs.Reads.{failed_queue}
use Rattle.nb_recover.specs.Copies.{return_copy, returned_to}
use Rattle.nb_recover.specs.declared.returned.Returned.{Returned}
use Rattle.nb_core.proofs.Firsts.{any_found, any_at}
use Rattle.nb_core.specs.After.{are_busy}
use Rattle.nb_core.specs.Ready.{CanRelease, CanPurge, CanReturn}
use Rattle.nb_core.specs.Tried.{IsImpossible, Releases, Returns}
use Rattle.nb_core.specs.State.{State, Constants, Phase, Idle, Held, Looked, Sending, Leaving, Done, phase, number_of, entry, AllIdle, HasRoom, put, removed}
use Rattle.nb_core.specs.Step.{Step, Load, Tick, Release, Purge, PutBack, DropBack, load, tick, release, purge, put_back, drop_back}

-- a test that fails
pub untrue : {P : Type 0} (b : Bool) → IsTrue b ↔ P → b ≡ false → P → ⊥
untrue b h is p = true≢false (sym (h.1 p) ∙ is)

pub if_ok : {T E : Type 0} (r : Result T E) (P Q : T → Type 0) → ((x : T) → P x → Q x) → IfOk r P → IfOk r Q
if_ok (Ok x) P Q f h = f x h
if_ok (Err e) P Q f h = tt

turned : (b : Bool) → not b ≡ false → b ≡ true
turned true e = refl
turned false e = absurd (true≢false e)

pub same_text : (a b : List ℕ) (r : Bool) → r ≡ not (bytes_eq a b) → r ≡ false → a ≡ b
same_text a b r is e = (bytes_eq-Decides a b).0 (turned (bytes_eq a b) (sym is ∙ e))

pub not_there : {A : Type 0} (o : Option A) (r : Bool) → r ≡ is_some o → r ≡ false → o ≡ None
not_there None r is e = refl
not_there (Some x) r is e = absurd (true≢false (sym is ∙ e))

some_same : {A : Type 0} {x y : A} → Some x ≡ Some y → x ≡ y
some_same e = cc

-- ---- whether all workers are idle

idle_is : (p : Phase) → is_some (number_of p) ≡ false → p ≡ Idle
idle_is Idle e = refl
idle_is (Held n) e = absurd (true≢false e)
idle_is (Looked n reads) e = absurd (true≢false e)
idle_is (Sending n id ops k) e = absurd (true≢false e)
idle_is (Leaving n queue due copy) e = absurd (true≢false e)
idle_is (Done n) e = absurd (true≢false e)

pub idle_of : (s : State) → are_busy s.phases ≡ false → AllIdle s
idle_of s e w = go (map.get s.phases w) refl
  where
    go : (o : Option Phase) → map.get s.phases w ≡ o → unwrap_or (map.get s.phases w) Idle ≡ Idle
    go None is = ap (λ o. unwrap_or o Idle) is
    go (Some p) is = ap (λ o. unwrap_or o Idle) is ∙ idle_is p (busy (is_some (number_of p)) refl)
      where
        busy : (b : Bool) → is_some (number_of p) ≡ b → is_some (number_of p) ≡ false
        busy true t = absurd (true≢false (sym (any_found (λ q. is_some (number_of q)) (map.entries s.phases) w p (sym (get-entries s.phases w) ∙ is) t) ∙ e))
        busy false t = t

pub not_idle : (s : State) → are_busy s.phases ≡ true → AllIdle s → ⊥
not_idle s e idle =
    let r = any_at (λ q. is_some (number_of q)) (map.entries s.phases) (entries_sorted s.phases) e in
    let at : phase s r.0 ≡ r.1 = ap (λ o. unwrap_or o Idle) (get-entries s.phases r.0 ∙ r.2) in
    true≢false (sym r.3 ∙ ap (λ p. is_some (number_of p)) (sym at ∙ idle r.0))

-- ---- what each event needs

load_needs : {c : Constants} {s : State} {m : Message} {t : State} → Step c s (Load m) t → HasRoom s
load_needs (load named room) = room

tick_needs : {c : Constants} {s : State} {to : ℕ} {t : State} → Step c s (Tick to) t → AllIdle s × (s.moment ≤ to)
tick_needs (tick idle later) = (idle, later)

release_needs : {c : Constants} {s : State} {n : ℕ} {t : State} → Step c s (Release n) t → AllIdle s × CanRelease s n
release_needs (release {due = due} {e = e} idle there is past) = (idle, (e, due, there, is, past))

purge_needs : {c : Constants} {s : State} {id : List ℕ} {t : State} → Step c s (Purge id) t → AllIdle s × CanPurge c s id
purge_needs (purge {r = r} idle known sent old) = (idle, (r, known, sent, old))

put_back_needs : {c : Constants} {s : State} {n : ℕ} {t : State} → Step c s (PutBack n) t → AllIdle s × CanReturn c s n × HasRoom s
put_back_needs (put_back {e = e} idle there error undelayed failed room) = (idle, (e, there, error, undelayed, failed), room)

drop_back_needs : {c : Constants} {s : State} {n : ℕ} {t : State} → Step c s (DropBack n) t → AllIdle s × (map.get s.back n ≡ Some tt)
drop_back_needs (drop_back idle back) = (idle, back)

-- ---- Load

pub load_made : (c : Constants) (s : State) (m : Message) (queue : List ℕ) (x : Message) (t : State) → IsMessage m → HasRoom s → queue ≡ c.settings.endpoint → x ≡ m → t ≡ put s queue None x → Step c s (Load m) t
load_made c s m queue x t named room q is made = subst (Step c s (Load m)) (sym (made ∙ (λ i. put s (q i) None (is i)))) (load named room)

pub load_not : (c : Constants) (s : State) (m : Message) → limit ≤ s.post.next → IsImpossible c s (Load m)
load_not c s m full t step = let room = load_needs step in absurd (omega arith)

-- ---- Tick

pub tick_made : (c : Constants) (s : State) (to : ℕ) → are_busy s.phases ≡ false → s.moment ≤ to → Step c s (Tick to) (record s { moment = to })
tick_made c s to idle later = tick (idle_of s idle) later

pub tick_not : (c : Constants) (s : State) (to : ℕ) (b : Bool) → are_busy s.phases ≡ b → (b ≡ false → to < s.moment) → IsImpossible c s (Tick to)
tick_not c s to true is early t step = not_idle s is (tick_needs step).0
tick_not c s to false is early t step = let l = (tick_needs step).1 in let e = early refl in absurd (omega arith)

-- ---- Release

pub release_made : (c : Constants) (s : State) (n : ℕ) (x : Queued) → are_busy s.phases ≡ false → Releases s n (Some x)
    → Step c s (Release n) (record s { post = record s.post { entries = map.insert s.post.entries n x } })
release_made c s n x idle r =
    subst (λ (y : Queued). Step c s (Release n) (record s { post = record s.post { entries = map.insert s.post.entries n y } })) (sym r.1)
    (release (idle_of s idle) r.0.2 r.0.3 r.0.4)

pub released_is : (s : State) (n : ℕ) (e x : Queued) (due : ℕ) → entry s n ≡ Some e → e.due ≡ Some due → due ≤ s.moment → x ≡ e → Releases s n (Some (record x { due = None }))
released_is s n e x due there is past same = ((e, due, there, is, past), ap (λ (y : Queued). record y { due = None }) same)

pub release_busy : (c : Constants) (s : State) (n : ℕ) → are_busy s.phases ≡ true → IsImpossible c s (Release n)
release_busy c s n busy t step = not_idle s busy (release_needs step).0

pub release_not : (c : Constants) (s : State) (n : ℕ) → Releases s n None → IsImpossible c s (Release n)
release_not c s n none t step = none (release_needs step).1

-- ---- Purge

pub purge_made : (c : Constants) (s : State) (id : List ℕ) → are_busy s.phases ≡ false → CanPurge c s id
    → Step c s (Purge id) (record s { tables = record s.tables { outbox = map.remove s.tables.outbox id } })
purge_made c s id idle can = purge (idle_of s idle) can.1 can.2 can.3

pub purge_busy : (c : Constants) (s : State) (id : List ℕ) → are_busy s.phases ≡ true → IsImpossible c s (Purge id)
purge_busy c s id busy t step = not_idle s busy (purge_needs step).0

pub purge_not : (c : Constants) (s : State) (id : List ℕ) → (CanPurge c s id → ⊥) → IsImpossible c s (Purge id)
purge_not c s id none t step = none (purge_needs step).1

-- ---- PutBack

pub put_back_made : (c : Constants) (s : State) (n : ℕ) (x : Returned) (t : State) → are_busy s.phases ≡ false → HasRoom s → Returns c s n (Some x) → t ≡ put s x.queue None x.envelope
    → Step c s (PutBack n) (record t { back = map.insert t.back n tt })
put_back_made c s n x t idle room r is =
    subst (λ (t : State). Step c s (PutBack n) (record t { back = map.insert t.back n tt })) (sym (is ∙ ap (λ (y : Returned). put s y.queue None y.envelope) r.1))
    (put_back (idle_of s idle) r.0.1 r.0.2 r.0.3 r.0.4 room)

pub returned_is : (c : Constants) (s : State) (n : ℕ) (e : Queued) (r : Option Returned) → entry s n ≡ Some e → e.queue ≡ c.settings.error → e.due ≡ None → r ≡ return_copy e.envelope → Returns c s n r
unfolding return_copy
returned_is c s n e r there error undelayed is = subst (Returns c s n) (sym is) (go (failed_queue e.envelope) refl)
  where
    go : (q : List ℕ) → failed_queue e.envelope ≡ q → Returns c s n (returned_to q e.envelope)
    go [] none = λ can. can.4 (ap (λ (y : Queued). failed_queue y.envelope) (some_same (sym can.1 ∙ there)) ∙ none)
    go (x ∷ xs) some = ((e, there, error, undelayed, λ none. absurd (let z : x ∷ xs ≡ [] = sym some ∙ none in cc)), λ i. record { queue = sym some i; envelope = stripped e.envelope })

pub put_back_busy : (c : Constants) (s : State) (n : ℕ) → are_busy s.phases ≡ true → IsImpossible c s (PutBack n)
put_back_busy c s n busy t step = not_idle s busy (put_back_needs step).0

pub put_back_full : (c : Constants) (s : State) (n : ℕ) → limit ≤ s.post.next → IsImpossible c s (PutBack n)
put_back_full c s n full t step = let room = (put_back_needs step).2 in absurd (omega arith)

pub put_back_not : (c : Constants) (s : State) (n : ℕ) → Returns c s n None → IsImpossible c s (PutBack n)
put_back_not c s n none t step = none (put_back_needs step).1

-- ---- DropBack

pub drop_back_made : (c : Constants) (s : State) (n : ℕ) (t : State) → are_busy s.phases ≡ false → map.get s.back n ≡ Some tt → t ≡ removed s n
    → Step c s (DropBack n) (record t { back = map.remove t.back n })
drop_back_made c s n t idle back is =
    subst (λ (t : State). Step c s (DropBack n) (record t { back = map.remove t.back n })) (sym is) (drop_back (idle_of s idle) back)

pub drop_back_busy : (c : Constants) (s : State) (n : ℕ) → are_busy s.phases ≡ true → IsImpossible c s (DropBack n)
drop_back_busy c s n busy t step = not_idle s busy (drop_back_needs step).0

pub drop_back_not : (c : Constants) (s : State) (n : ℕ) → map.get s.back n ≡ None → IsImpossible c s (DropBack n)
drop_back_not c s n none t step = let there = (drop_back_needs step).1 in absurd (cc)
