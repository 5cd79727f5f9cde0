-- Plans at a desk at rest, one event more at a time.
use Rattle.std.proofs.Common.{◌≡◌, ◌≢◌, inr, ℕ, ◌+◌, ◌≤◌, List, [], ◌∷◌, ◌++◌, false, Some, refl, sym, ap, ◌∙◌, subst, append_assoc, append-nil, length, take, drop, arith}
use Rattle.std.specs.Prelude.{Ok, Err, slice_get}
use Rattle.std.specs.FinMap as finmap
use Rattle.std.proofs.lemmas.List.{take-append-drop, take_all}
use Rattle.nb_base.proofs.ListLaws.{take_next}
use Rattle.nb_base.proofs.Maps.{numbers, names, at_same, at_other, kept}
use Rattle.nb_base.specs.Messages.{Message}
use Rattle.nb_base.specs.declared.tables.Queued.{Queued}
use Rattle.nb_core.proofs.Held.{BelowAt}
use Rattle.nb_core.proofs.Pasts.{halted_push, taken_push}
use Rattle.nb_core.specs.Calls.{View, Called, Ready, Refuses, IsSpent, OwnsAll, CanReturn, CanPurge, state_of}
use Rattle.nb_core.specs.Legal.{halted, is_halt}
use Rattle.nb_core.specs.Past.{Fixed, constants, takes}
use Rattle.nb_core.specs.State.{Constants, AllIdle, entry, recorded}
use Rattle.nb_core.specs.Step.{Step}
use Rattle.nb_core.specs.Step as step
use Rattle.nb_core.specs.declared.answers.DeskFault.{DeskFault}
use Rattle.nb_core.specs.declared.answers.DeskFault.TheVariants.{NoMemory}
use Rattle.nb_core.specs.declared.call.Answer.TheVariants as answer
use Rattle.nb_core.specs.declared.call.Call.{Call}
use Rattle.nb_core.specs.declared.call.Call.TheVariants as call
use Rattle.nb_core.specs.declared.event.Event.{Event}
use Rattle.nb_core.specs.declared.event.Event.TheVariants.{Load, Purge, PutBack, DropBack}
use Rattle.nb_core.specs.declared.state.State.{State}
use Rattle.nb_pump.specs.Drains.{Standing}
use Rattle.nb_pump.specs.Leases.{stop_of}
use Rattle.nb_pump.specs.Made.{Moved, Made}
use Rattle.nb_pump.specs.Plans.{Goes, NeedsEntry, StandOnce, CanReturnAll, CanPurgeAll, loads_of, returns_of, purges_of}
use Rattle.nb_pump.proofs.Following.{stopped, stopped_behind}
use Rattle.nb_pump.proofs.Releasing.{standing_on, step_here}
use Rattle.nb_pump.proofs.Views.{moved_as, made_append, made_one, made_kept, moved_none, moved_alone, holding_of}

-- ---- a plan so far

pub going_start : (v : View) → Standing v → halted v.events ≡ false → Goes [] (Ok tt) v v
going_start v st on = record { done = []; left = []; split = refl; made = moved_none v st.legal; some = tt; end = (refl, st, on, refl, refl) }

-- where all of it was made
made_all : (plan : List Event) (v u : View) → Goes plan (Ok tt) v u → Made v plan u
made_all plan v u g =
    let all : plan ≡ g.done ++ [] = g.split ∙ ap (λ (es : List Event). g.done ++ es) g.end.0 in
    subst (λ (es : List Event). Made v es u) (sym all) g.made

pub same_fixed : (plan : List Event) (v u : View) → Goes plan (Ok tt) v u → u.fixed ≡ v.fixed
same_fixed plan v u g = (made_kept v u plan (made_all plan v u g)).1

-- an event that is no Take and no Halt, after which every worker is idle still
pub record Rested (e : Event) (v w : View) : Type 0 where
  pub moved : Moved v (e ∷ []) w
  pub idle : AllIdle (state_of w)
  pub moment : (state_of w).moment ≡ (state_of v).moment
  pub quiet : is_halt e ≡ false
  pub takes_are : takes w.events ≡ takes v.events

pub going_more : (plan : List Event) (e : Event) (v u w : View) → Goes plan (Ok tt) v u → Rested e u w → Goes (plan ++ e ∷ []) (Ok tt) v w
going_more plan e v u w g r =
    let end = g.end in
    record {
      done = plan ++ e ∷ [];
      left = [];
      split = sym (append-nil (plan ++ e ∷ []));
      made = subst (λ (es : List Event). Made v es w) (sym (append-nil (plan ++ e ∷ []))) (made_append v u w plan (e ∷ []) (made_all plan v u g) (made_one u w e r.moved));
      some = tt;
      end = (
        refl,
        standing_on end.1 r.moved r.idle,
        ap (λ (es : List Event). halted es) (moved_alone u w (e ∷ []) end.1.owns r.moved) ∙ halted_push u.events e ∙ r.quiet,
        r.moment ∙ end.3,
        r.takes_are ∙ end.4,
      );
    }

some_left : (e : Event) (es : List Event) → e ∷ es ≢ []
some_left e es is = cc

pub going_refused : (plan : List Event) (e : Event) (rest whole : List Event) (x : Call) (f : DeskFault) (v u w : View) → whole ≡ plan ++ (e ∷ rest) → Goes plan (Ok tt) v u
    → (IsSpent (constants w.fixed) (state_of w) x → NeedsEntry (e ∷ rest) (state_of w)) → (c : Called x (answer.Plain (Err f)) u w) → Refuses u.fixed (u.events ++ c.others) x f c.own → Goes whole (Err f) v w
going_refused plan e rest whole x f v u w split g needs c r =
    let S : Type 0 = NeedsEntry (e ∷ rest) (state_of w) in
    let st = g.end.1 in
    let q = stopped S x (answer.Plain (Err f)) f u w c st.owns (λ m h. needs h) r in
    let before = made_all plan v u g in
    record {
      done = plan;
      left = e ∷ rest;
      split = split;
      made = made_append v u w plan (stop_of f) before q.0;
      some = some_left e rest;
      end = stopped_behind S f v u w plan (stop_of f) st.owns before (inr g.end.2) q.1;
    }

-- want of memory before a call
pub going_unasked : (plan : List Event) (e : Event) (rest whole : List Event) (v u : View) → whole ≡ plan ++ (e ∷ rest) → Goes plan (Ok tt) v u → Goes whole (Err NoMemory) v u
going_unasked plan e rest whole v u split g = record {
  done = plan;
  left = e ∷ rest;
  split = split;
  made = subst (λ (es : List Event). Made v es u) (sym (append-nil plan)) (made_all plan v u g);
  some = some_left e rest;
  end = g.end.2;
}

-- no Take comes with it
no_take : (v w : View) (e : Event) → OwnsAll v → Moved v (e ∷ []) w → takes (v.events ++ e ∷ []) ≡ takes v.events → takes w.events ≡ takes v.events
no_take v w e all m same = ap (λ (es : List Event). takes es) (moved_alone v w (e ∷ []) all m) ∙ same

-- ---- loads

loads_append : (xs ys : List Message) → loads_of (xs ++ ys) ≡ loads_of xs ++ loads_of ys
loads_append [] ys = refl
loads_append (x ∷ xs) ys = ap (λ (es : List Event). Load x ∷ es) (loads_append xs ys)

loads_split : (i : ℕ) (ms : List Message) → loads_of ms ≡ loads_of (take i ms) ++ loads_of (drop i ms)
loads_split i ms = ap (λ (xs : List Message). loads_of xs) (sym (take-append-drop i ms)) ∙ loads_append (take i ms) (drop i ms)

pub loads_next : (ms : List Message) (i : ℕ) (m : Message) → slice_get ms i ≡ Some m → loads_of (take (i + 1) ms) ≡ loads_of (take i ms) ++ Load m ∷ []
loads_next ms i m at = ap (λ (xs : List Message). loads_of xs) (take_next ms i m at) ∙ loads_append (take i ms) (m ∷ [])

-- what is left where the next message isn't loaded
loads_half : (ms : List Message) (i : ℕ) (m : Message) → slice_get ms i ≡ Some m → loads_of ms ≡ loads_of (take i ms) ++ (Load m ∷ loads_of (drop (i + 1) ms))
loads_half ms i m at =
    loads_split (i + 1) ms ∙ ap (λ (es : List Event). es ++ loads_of (drop (i + 1) ms)) (loads_next ms i m at)
    ∙ append_assoc (loads_of (take i ms)) (Load m ∷ []) (loads_of (drop (i + 1) ms))

load_keeps : {c : Constants} {m : Message} {s t : State} → Step c s (Load m) t → AllIdle s → AllIdle t × (t.moment ≡ s.moment)
load_keeps (step.load named room) idle = (idle, refl)

pub load_rests : (m : Message) (v w : View) → Standing v → Called (call.Load m) (answer.Plain (Ok tt)) v w → Rested (Load m) v w
load_rests m v w st c =
    let moved : Moved v (Load m ∷ []) w = moved_as c (Load m ∷ []) c.gives in
    let k = load_keeps (step_here moved st.owns) st.idle in
    record { moved = moved; idle = k.0; moment = k.1; quiet = refl; takes_are = no_take v w (Load m) st.owns moved (taken_push v.events (Load m)) }

pub loads_more : (ms : List Message) (i : ℕ) (m : Message) (v u w : View) → slice_get ms i ≡ Some m → Goes (loads_of (take i ms)) (Ok tt) v u
    → Called (call.Load m) (answer.Plain (Ok tt)) u w → Goes (loads_of (take (i + 1) ms)) (Ok tt) v w
loads_more ms i m v u w at g c =
    subst (λ (es : List Event). Goes es (Ok tt) v w) (sym (loads_next ms i m at))
    (going_more (loads_of (take i ms)) (Load m) v u w g (load_rests m u w g.end.1 c))

pub loads_done : (ms : List Message) (i : ℕ) (v u : View) → length ms ≤ i → Goes (loads_of (take i ms)) (Ok tt) v u → Goes (loads_of ms) (Ok tt) v u
loads_done ms i v u le g = subst (λ (xs : List Message). Goes (loads_of xs) (Ok tt) v u) (take_all i ms le) g

pub loads_refused : (ms : List Message) (i : ℕ) (m : Message) (f : DeskFault) (v u w : View) → slice_get ms i ≡ Some m → Goes (loads_of (take i ms)) (Ok tt) v u
    → Called (call.Load m) (answer.Plain (Err f)) u w → Goes (loads_of ms) (Err f) v w
loads_refused ms i m f v u w at g c = going_refused (loads_of (take i ms)) (Load m) (loads_of (drop (i + 1) ms)) (loads_of ms) (call.Load m) f v u w (loads_half ms i m at) g (λ h. (tt, h)) c c.gives

-- no memory for the copy of a message
pub loads_unasked : (ms : List Message) (i : ℕ) (m : Message) (v u : View) → slice_get ms i ≡ Some m → Goes (loads_of (take i ms)) (Ok tt) v u → Goes (loads_of ms) (Err NoMemory) v u
loads_unasked ms i m v u at g = going_unasked (loads_of (take i ms)) (Load m) (loads_of (drop (i + 1) ms)) (loads_of ms) v u (loads_half ms i m at) g

-- ---- returns

returns_append : (xs ys : List ℕ) → returns_of (xs ++ ys) ≡ returns_of xs ++ returns_of ys
returns_append [] ys = refl
returns_append (x ∷ xs) ys = ap (λ (es : List Event). PutBack x ∷ DropBack x ∷ es) (returns_append xs ys)

returns_split : (i : ℕ) (ns : List ℕ) → returns_of ns ≡ returns_of (take i ns) ++ returns_of (drop i ns)
returns_split i ns = ap (λ (xs : List ℕ). returns_of xs) (sym (take-append-drop i ns)) ∙ returns_append (take i ns) (drop i ns)

pub returns_next : (ns : List ℕ) (i n : ℕ) → slice_get ns i ≡ Some n → returns_of (take (i + 1) ns) ≡ (returns_of (take i ns) ++ PutBack n ∷ []) ++ DropBack n ∷ []
returns_next ns i n at =
    ap (λ (xs : List ℕ). returns_of xs) (take_next ns i n at) ∙ returns_append (take i ns) (n ∷ [])
    ∙ sym (append_assoc (returns_of (take i ns)) (PutBack n ∷ []) (DropBack n ∷ []))

-- what is left when an entry was put back, but isn't removed yet
returns_half : (ns : List ℕ) (i n : ℕ) → slice_get ns i ≡ Some n
    → returns_of ns ≡ (returns_of (take i ns) ++ PutBack n ∷ []) ++ (DropBack n ∷ returns_of (drop (i + 1) ns))
returns_half ns i n at =
    returns_split (i + 1) ns ∙ ap (λ (es : List Event). es ++ returns_of (drop (i + 1) ns)) (returns_next ns i n at)
    ∙ append_assoc (returns_of (take i ns) ++ PutBack n ∷ []) (DropBack n ∷ []) (returns_of (drop (i + 1) ns))

-- and when it isn't put back
returns_whole : (ns : List ℕ) (i n : ℕ) → slice_get ns i ≡ Some n → returns_of ns ≡ returns_of (take i ns) ++ (PutBack n ∷ DropBack n ∷ returns_of (drop (i + 1) ns))
returns_whole ns i n at = returns_half ns i n at ∙ append_assoc (returns_of (take i ns)) (PutBack n ∷ []) (DropBack n ∷ returns_of (drop (i + 1) ns))

-- what a PutBack and a DropBack keep of the other entries
record PutBackKeeps (n : ℕ) (s t : State) : Type 0 where
  idle : AllIdle t
  moment : t.moment ≡ s.moment
  noted : finmap.get t.back n ≡ Some tt
  others : (k : ℕ) (e : Queued) → entry s k ≡ Some e → entry t k ≡ Some e

put_back_keeps : {c : Constants} {n : ℕ} {s t : State} → Step c s (PutBack n) t → BelowAt s → PutBackKeeps n s t
put_back_keeps {n = n} {s = s} (step.put_back i there at_error none names room) below = record {
  idle = i;
  moment = refl;
  noted = at_same numbers s.back n tt;
  others = λ k e is. let lt = below.below k e is in at_other numbers s.post.entries s.post.next _ k (λ same. omega (arith, same, lt)) ∙ is;
}

record DropBackKeeps (n : ℕ) (s t : State) : Type 0 where
  idle : AllIdle t
  moment : t.moment ≡ s.moment
  others : (k : ℕ) → k ≢ n → entry t k ≡ entry s k

drop_back_keeps : {c : Constants} {n : ℕ} {s t : State} → Step c s (DropBack n) t → DropBackKeeps n s t
drop_back_keeps {n = n} {s = s} (step.drop_back i there) = record { idle = i; moment = refl; others = λ k ne. kept numbers s.post.entries n k ne }

put_back_at : (n : ℕ) (v w : View) → Standing v → Moved v (PutBack n ∷ []) w → PutBackKeeps n (state_of v) (state_of w)
put_back_at n v w st m = put_back_keeps (step_here m st.owns) (holding_of v.fixed v.events st.legal).0

pub put_back_rests : (n : ℕ) (v w : View) → Standing v → Called (call.PutBack n) (answer.Plain (Ok tt)) v w → Rested (PutBack n) v w
put_back_rests n v w st c =
    let moved : Moved v (PutBack n ∷ []) w = moved_as c (PutBack n ∷ []) c.gives in
    let k = put_back_at n v w st moved in
    record { moved = moved; idle = k.idle; moment = k.moment; quiet = refl; takes_are = no_take v w (PutBack n) st.owns moved (taken_push v.events (PutBack n)) }

pub drop_back_rests : (n : ℕ) (v w : View) → Standing v → Called (call.DropBack n) (answer.Plain (Ok tt)) v w → Rested (DropBack n) v w
drop_back_rests n v w st c =
    let moved : Moved v (DropBack n ∷ []) w = moved_as c (DropBack n ∷ []) c.gives in
    let k = drop_back_keeps (step_here moved st.owns) in
    record { moved = moved; idle = k.idle; moment = k.moment; quiet = refl; takes_are = no_take v w (DropBack n) st.owns moved (taken_push v.events (DropBack n)) }

pub may_put_back : (n : ℕ) (u : View) → Standing u → CanReturn (constants u.fixed) (state_of u) n → Ready (call.PutBack n) u
may_put_back n u st can = ((st.owns, st.idle), can)

pub may_drop_back : (n : ℕ) (u w : View) → Standing u → Standing w → Called (call.PutBack n) (answer.Plain (Ok tt)) u w → Ready (call.DropBack n) w
may_drop_back n u w st after c = ((after.owns, after.idle), (put_back_at n u w st (moved_as c (PutBack n ∷ []) c.gives)).noted)

-- the entries from a place on can be put back
abbrev pub CanFrom : ℕ → List ℕ → View → Type 0
CanFrom i ns u = (j n : ℕ) → i ≤ j → slice_get ns j ≡ Some n → CanReturn (constants u.fixed) (state_of u) n

can_still : (c : Constants) (s t : State) (n : ℕ) → ((e : Queued) → entry s n ≡ Some e → entry t n ≡ Some e) → CanReturn c s n → CanReturn c t n
can_still c s t n stays x = (x.0, stays x.0 x.1, x.2, x.3, x.4)

pub can_put_back : (i n : ℕ) (ns : List ℕ) (u w : View) → Standing u → Called (call.PutBack n) (answer.Plain (Ok tt)) u w → CanFrom i ns u → CanFrom i ns w
can_put_back i n ns u w st c can j k le at =
    let moved : Moved u (PutBack n ∷ []) w = moved_as c (PutBack n ∷ []) c.gives in
    subst (λ (f : Fixed). CanReturn (constants f) (state_of w) k) (sym moved.fixed)
    (can_still (constants u.fixed) (state_of u) (state_of w) k ((put_back_at n u w st moved).others k) (can j k le at))

pub can_drop_back : (i n : ℕ) (ns : List ℕ) (u w : View) → Standing u → StandOnce ns → slice_get ns i ≡ Some n → Called (call.DropBack n) (answer.Plain (Ok tt)) u w → CanFrom i ns u → CanFrom (i + 1) ns w
can_drop_back i n ns u w st once here c can j k le at =
    let moved : Moved u (DropBack n ∷ []) w = moved_as c (DropBack n ∷ []) c.gives in
    let keeps = drop_back_keeps (step_here moved st.owns) in
    let other : k ≢ n = λ same. let at_j = once i j n here (at ∙ ap Some same) in omega (arith, at_j, le) in
    subst (λ (f : Fixed). CanReturn (constants f) (state_of w) k) (sym moved.fixed)
    (can_still (constants u.fixed) (state_of u) (state_of w) k (λ e is. keeps.others k other ∙ is) (can j k (omega (arith, le)) at))

pub can_all : (ns : List ℕ) (v : View) → CanReturnAll v ns → CanFrom 0 ns v
can_all ns v can j n le at = can j n at

pub returns_can : (ns : List ℕ) (i n : ℕ) (v u : View) → slice_get ns i ≡ Some n → Goes (returns_of (take i ns)) (Ok tt) v u → CanFrom i ns u → Ready (call.PutBack n) u
returns_can ns i n v u at g can = may_put_back n u g.end.1 (can i n (omega arith) at)

-- the entry was put back
pub returns_put : (ns : List ℕ) (i n : ℕ) (v u x : View) → Goes (returns_of (take i ns)) (Ok tt) v u → Called (call.PutBack n) (answer.Plain (Ok tt)) u x
    → Goes (returns_of (take i ns) ++ PutBack n ∷ []) (Ok tt) v x
returns_put ns i n v u x g c = going_more (returns_of (take i ns)) (PutBack n) v u x g (put_back_rests n u x g.end.1 c)

pub returns_can_drop : (ns : List ℕ) (i n : ℕ) (v u x : View) → Goes (returns_of (take i ns)) (Ok tt) v u → Called (call.PutBack n) (answer.Plain (Ok tt)) u x → Ready (call.DropBack n) x
returns_can_drop ns i n v u x g c = may_drop_back n u x g.end.1 (returns_put ns i n v u x g c).end.1 c

-- and removed
pub returns_more : (ns : List ℕ) (i n : ℕ) (v u x w : View) → slice_get ns i ≡ Some n → Goes (returns_of (take i ns)) (Ok tt) v u
    → Called (call.PutBack n) (answer.Plain (Ok tt)) u x → Called (call.DropBack n) (answer.Plain (Ok tt)) x w → Goes (returns_of (take (i + 1) ns)) (Ok tt) v w
returns_more ns i n v u x w at g c d =
    let put = returns_put ns i n v u x g c in
    subst (λ (es : List Event). Goes es (Ok tt) v w) (sym (returns_next ns i n at))
    (going_more (returns_of (take i ns) ++ PutBack n ∷ []) (DropBack n) v x w put (drop_back_rests n x w put.end.1 d))

pub returns_can_on : (ns : List ℕ) (i n : ℕ) (v u x w : View) → StandOnce ns → slice_get ns i ≡ Some n → Goes (returns_of (take i ns)) (Ok tt) v u
    → Called (call.PutBack n) (answer.Plain (Ok tt)) u x → Called (call.DropBack n) (answer.Plain (Ok tt)) x w → CanFrom i ns u → CanFrom (i + 1) ns w
returns_can_on ns i n v u x w once at g c d can =
    can_drop_back i n ns x w (returns_put ns i n v u x g c).end.1 once at d (can_put_back i n ns u x g.end.1 c can)

pub returns_done : (ns : List ℕ) (i : ℕ) (v u : View) → length ns ≤ i → Goes (returns_of (take i ns)) (Ok tt) v u → Goes (returns_of ns) (Ok tt) v u
returns_done ns i v u le g = subst (λ (xs : List ℕ). Goes (returns_of xs) (Ok tt) v u) (take_all i ns le) g

pub returns_refused : (ns : List ℕ) (i n : ℕ) (f : DeskFault) (v u w : View) → slice_get ns i ≡ Some n → Goes (returns_of (take i ns)) (Ok tt) v u
    → Called (call.PutBack n) (answer.Plain (Err f)) u w → Goes (returns_of ns) (Err f) v w
returns_refused ns i n f v u w at g c =
    going_refused (returns_of (take i ns)) (PutBack n) (DropBack n ∷ returns_of (drop (i + 1) ns)) (returns_of ns) (call.PutBack n) f v u w (returns_whole ns i n at) g (λ h. (tt, h)) c c.gives

-- the entry was put back, and not removed
pub returns_kept : (ns : List ℕ) (i n : ℕ) (f : DeskFault) (v u x w : View) → slice_get ns i ≡ Some n → Goes (returns_of (take i ns)) (Ok tt) v u
    → Called (call.PutBack n) (answer.Plain (Ok tt)) u x → Called (call.DropBack n) (answer.Plain (Err f)) x w → Goes (returns_of ns) (Err f) v w
returns_kept ns i n f v u x w at g c d =
    going_refused (returns_of (take i ns) ++ PutBack n ∷ []) (DropBack n) (returns_of (drop (i + 1) ns)) (returns_of ns) (call.DropBack n) f v x w
    (returns_half ns i n at) (returns_put ns i n v u x g c) (λ h. absurd h) d d.gives

-- ---- purges

purges_append : (xs ys : List (List ℕ)) → purges_of (xs ++ ys) ≡ purges_of xs ++ purges_of ys
purges_append [] ys = refl
purges_append (x ∷ xs) ys = ap (λ (es : List Event). Purge x ∷ es) (purges_append xs ys)

purges_split : (i : ℕ) (ids : List (List ℕ)) → purges_of ids ≡ purges_of (take i ids) ++ purges_of (drop i ids)
purges_split i ids = ap (λ (xs : List (List ℕ)). purges_of xs) (sym (take-append-drop i ids)) ∙ purges_append (take i ids) (drop i ids)

pub purges_next : (ids : List (List ℕ)) (i : ℕ) (id : List ℕ) → slice_get ids i ≡ Some id → purges_of (take (i + 1) ids) ≡ purges_of (take i ids) ++ Purge id ∷ []
purges_next ids i id at = ap (λ (xs : List (List ℕ)). purges_of xs) (take_next ids i id at) ∙ purges_append (take i ids) (id ∷ [])

-- what is left where the next record isn't purged
purges_half : (ids : List (List ℕ)) (i : ℕ) (id : List ℕ) → slice_get ids i ≡ Some id → purges_of ids ≡ purges_of (take i ids) ++ (Purge id ∷ purges_of (drop (i + 1) ids))
purges_half ids i id at =
    purges_split (i + 1) ids ∙ ap (λ (es : List Event). es ++ purges_of (drop (i + 1) ids)) (purges_next ids i id at)
    ∙ append_assoc (purges_of (take i ids)) (Purge id ∷ []) (purges_of (drop (i + 1) ids))

-- what a Purge keeps of the other records
record PurgeKeeps (id : List ℕ) (s t : State) : Type 0 where
  idle : AllIdle t
  moment : t.moment ≡ s.moment
  others : (k : List ℕ) → k ≢ id → recorded t k ≡ recorded s k

purge_keeps : {c : Constants} {id : List ℕ} {s t : State} → Step c s (Purge id) t → PurgeKeeps id s t
purge_keeps {id = id} {s = s} (step.purge i there sent late) = record { idle = i; moment = refl; others = λ k ne. kept names s.tables.outbox id k ne }

pub purge_rests : (id : List ℕ) (v w : View) → Standing v → Called (call.Purge id) (answer.Plain (Ok tt)) v w → Rested (Purge id) v w
purge_rests id v w st c =
    let moved : Moved v (Purge id ∷ []) w = moved_as c (Purge id ∷ []) c.gives in
    let k = purge_keeps (step_here moved st.owns) in
    record { moved = moved; idle = k.idle; moment = k.moment; quiet = refl; takes_are = no_take v w (Purge id) st.owns moved (taken_push v.events (Purge id)) }

pub may_purge : (id : List ℕ) (u : View) → Standing u → CanPurge (constants u.fixed) (state_of u) id → Ready (call.Purge id) u
may_purge id u st can = ((st.owns, st.idle), can)

-- the records from a place on can be purged
abbrev pub CanPurgeFrom : ℕ → List (List ℕ) → View → Type 0
CanPurgeFrom i ids u = (j : ℕ) (id : List ℕ) → i ≤ j → slice_get ids j ≡ Some id → CanPurge (constants u.fixed) (state_of u) id

pub can_purge_on : (i : ℕ) (id : List ℕ) (ids : List (List ℕ)) (u w : View) → Standing u → StandOnce ids → slice_get ids i ≡ Some id → Called (call.Purge id) (answer.Plain (Ok tt)) u w
    → CanPurgeFrom i ids u → CanPurgeFrom (i + 1) ids w
can_purge_on i id ids u w st once here c can j k le at =
    let moved : Moved u (Purge id ∷ []) w = moved_as c (Purge id ∷ []) c.gives in
    let keeps = purge_keeps (step_here moved st.owns) in
    let other : k ≢ id = λ same. let at_j = once i j id here (at ∙ ap Some same) in omega (arith, at_j, le) in
    let x = can j k (omega (arith, le)) at in
    subst (λ (y : Fixed × ℕ). CanPurge (constants y.0) (state_of w) k) (λ i. ((sym moved.fixed) i, 0))
    (x.0, keeps.others k other ∙ x.1, x.2, subst (λ (m : ℕ). x.0.at + (constants u.fixed).settings.retention ≤ m) (sym keeps.moment) x.3)

pub can_purge_all : (ids : List (List ℕ)) (v : View) → CanPurgeAll v ids → CanPurgeFrom 0 ids v
can_purge_all ids v can j id le at = can j id at

pub purges_can : (ids : List (List ℕ)) (i : ℕ) (id : List ℕ) (v u : View) → slice_get ids i ≡ Some id → Goes (purges_of (take i ids)) (Ok tt) v u → CanPurgeFrom i ids u → Ready (call.Purge id) u
purges_can ids i id v u at g can = may_purge id u g.end.1 (can i id (omega arith) at)

pub purges_more : (ids : List (List ℕ)) (i : ℕ) (id : List ℕ) (v u w : View) → slice_get ids i ≡ Some id → Goes (purges_of (take i ids)) (Ok tt) v u
    → Called (call.Purge id) (answer.Plain (Ok tt)) u w → Goes (purges_of (take (i + 1) ids)) (Ok tt) v w
purges_more ids i id v u w at g c =
    subst (λ (es : List Event). Goes es (Ok tt) v w) (sym (purges_next ids i id at))
    (going_more (purges_of (take i ids)) (Purge id) v u w g (purge_rests id u w g.end.1 c))

pub purges_done : (ids : List (List ℕ)) (i : ℕ) (v u : View) → length ids ≤ i → Goes (purges_of (take i ids)) (Ok tt) v u → Goes (purges_of ids) (Ok tt) v u
purges_done ids i v u le g = subst (λ (xs : List (List ℕ)). Goes (purges_of xs) (Ok tt) v u) (take_all i ids le) g

pub purges_refused : (ids : List (List ℕ)) (i : ℕ) (id : List ℕ) (f : DeskFault) (v u w : View) → slice_get ids i ≡ Some id → Goes (purges_of (take i ids)) (Ok tt) v u
    → Called (call.Purge id) (answer.Plain (Err f)) u w → Goes (purges_of ids) (Err f) v w
purges_refused ids i id f v u w at g c = going_refused (purges_of (take i ids)) (Purge id) (purges_of (drop (i + 1) ids)) (purges_of ids) (call.Purge id) f v u w (purges_half ids i id at) g (λ h. absurd h) c c.gives
