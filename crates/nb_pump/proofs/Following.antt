-- What follows a Take: own events of the lease one after another, and how a refusal ends them.
use Rattle.std.proofs.Common.{◌≡◌, ◌⊎◌, ⊎_elim, ℕ, ◌+◌, ◌<◌, List, [], ◌∷◌, ◌++◌, length, true, false, refl, sym, ap, ◌∙◌, subst, append_assoc, append-nil, arith}
use Rattle.std.specs.Prelude.{All, Result, Ok, Err}
use Rattle.std.proofs.lemmas.List.Elements.{All-append, All-cons, All-nil}
use Rattle.nb_core.proofs.Held.{phase_same}
use Rattle.nb_core.proofs.Spending.{spent_send, spent_aside}
use Rattle.nb_base.specs.declared.entry.Which.TheVariants.{Base, Post}
use Rattle.nb_core.specs.Calls.{View, Called, Owns, OwnsAll, Ready, Refuses, IsSending, IsLeaving, IsSpent, state_of}
use Rattle.nb_core.specs.Legal.{halted}
use Rattle.nb_core.specs.Past.{Fixed, IsLegal, constants}
use Rattle.nb_core.specs.State.{Constants, phase}
use Rattle.nb_core.specs.declared.state.State.{State}
use Rattle.nb_core.specs.Step.{Step, send, mark, aside, remove}
use Rattle.nb_core.specs.declared.answers.DeskFault.{DeskFault}
use Rattle.nb_core.specs.declared.answers.DeskFault.TheVariants.{StoreFailed, PostFailed, Spent, Halted, NoMemory}
use Rattle.nb_core.specs.declared.call.Answer.{Answer}
use Rattle.nb_core.specs.declared.call.Answer.TheVariants as answer
use Rattle.nb_core.specs.declared.call.Call.{Call}
use Rattle.nb_core.specs.declared.call.Call.TheVariants as call
use Rattle.nb_core.specs.declared.event.Event.{Event}
use Rattle.nb_core.specs.declared.event.Event.TheVariants.{Send, Mark, Aside, Remove, Halt}
use Rattle.nb_core.specs.declared.phase.Phase.{Phase}
use Rattle.nb_core.specs.declared.phase.Phase.TheVariants.{Idle, Held, Looked, Sending, Leaving, Done}
use Rattle.nb_base.specs.declared.entry.Op.{Op}
use Rattle.nb_pump.specs.Leases.{IsOfLease, stop_of, IsCause, IsSpentAt, FollowEnd, Follows}
use Rattle.nb_pump.specs.Made.{Moved, Made}
use Rattle.nb_pump.specs.Stops.{StopsBy}
use Rattle.nb_pump.proofs.Views.{moved_as, owns_same, owns_first, made_alone, made_append, made_one, moved_none, stepped, stays, before, left, off_after}

one : (w : ℕ) (e : Event) → IsOfLease w e → All (IsOfLease w) (e ∷ [])
one w e of_lease = All-cons (IsOfLease w) e [] of_lease (All-nil (IsOfLease w))

-- ---- a refusal

pub stops : (x : Call) (f : DeskFault) (fixed : Fixed) (es own : List Event) → Refuses fixed es x f own → own ≡ stop_of f
stops x StoreFailed fixed es own r = r.0
stops x PostFailed fixed es own r = r.0
stops x Spent fixed es own r = r.0
stops x Halted fixed es own r = r.0
stops x NoMemory fixed es own r = r.0

made_stop : (f : DeskFault) (v u : View) → Moved v (stop_of f) u → Made v (stop_of f) u
made_stop StoreFailed v u m = (u, m, moved_none u m.legal)
made_stop PostFailed v u m = (u, m, moved_none u m.legal)
made_stop Spent v u m = m
made_stop Halted v u m = m
made_stop NoMemory v u m = m

-- what is said of the events seen by the call is said of those seen after it, where it made none
pub seen_after : (v u : View) (m : Moved v [] u) → u.events ≡ v.events ++ m.others
seen_after v u m = m.events ∙ append-nil (v.events ++ m.others)

-- what a call that was refused for a number says of it
abbrev pub Needs : Type 0 → Call → View → View → Type 0
Needs S x v u = Moved v [] u → IsSpent (constants u.fixed) (state_of u) x → S

causes : (S : Type 0) (x : Call) (f : DeskFault) (v u : View) (m : Moved v (stop_of f) u) → Needs S x v u → Refuses v.fixed (v.events ++ m.others) x f (stop_of f) → IsCause S f u
causes S x StoreFailed v u m needs r = (v.events ++ m.others, m.events)
causes S x PostFailed v u m needs r = (v.events ++ m.others, m.events)
causes S x Spent v u m needs r =
    let same = seen_after v u m in
    (ap (λ (es : List Event). halted es) same ∙ r.1, needs m (subst (λ (y : Fixed × State). IsSpent (constants y.0) y.1 x) (λ i. (sym m.fixed i, sym (stays m) i)) r.2))
causes S x Halted v u m needs r = ap (λ (es : List Event). halted es) (seen_after v u m) ∙ r.1
causes S x NoMemory v u m needs r = ap (λ (es : List Event). halted es) (seen_after v u m) ∙ r.1

pub refused : (S : Type 0) (x : Call) (a : Answer) (f : DeskFault) (v u : View) (c : Called x a v u) → Needs S x v u → Refuses v.fixed (v.events ++ c.others) x f c.own → Made v (stop_of f) u × IsCause S f u
refused S x a f v u c needs r =
    let is = stops x f v.fixed (v.events ++ c.others) c.own r in
    let m : Moved v (stop_of f) u = moved_as c (stop_of f) is in
    let r' : Refuses v.fixed (v.events ++ c.others) x f (stop_of f) = subst (λ (own : List Event). Refuses v.fixed (v.events ++ c.others) x f own) is r in
    (made_stop f v u m, causes S x f v u m needs r')

-- ---- a refusal of a caller who has every worker

stops_by : (S : Type 0) (x : Call) (f : DeskFault) (v u : View) (m : Moved v (stop_of f) u) → OwnsAll v → Needs S x v u → Refuses v.fixed (v.events ++ m.others) x f (stop_of f) → StopsBy S f v (stop_of f) u
stops_by S x StoreFailed v u m all needs r = ([], refl)
stops_by S x PostFailed v u m all needs r = ([], refl)
stops_by S x Spent v u m all needs r = causes S x Spent v u m needs r
stops_by S x Halted v u m all needs r =
    (refl, ap (λ (es : List Event). halted es) (sym (ap (λ (es : List Event). v.events ++ es) (m.alone all) ∙ append-nil v.events)) ∙ r.1)
stops_by S x NoMemory v u m all needs r = causes S x NoMemory v u m needs r

pub stopped : (S : Type 0) (x : Call) (a : Answer) (f : DeskFault) (v u : View) (c : Called x a v u) → OwnsAll v → Needs S x v u → Refuses v.fixed (v.events ++ c.others) x f c.own
    → Made v (stop_of f) u × StopsBy S f v (stop_of f) u
stopped S x a f v u c all needs r =
    let is = stops x f v.fixed (v.events ++ c.others) c.own r in
    let m : Moved v (stop_of f) u = moved_as c (stop_of f) is in
    let r' : Refuses v.fixed (v.events ++ c.others) x f (stop_of f) = subst (λ (own : List Event). Refuses v.fixed (v.events ++ c.others) x f own) is r in
    (made_stop f v u m, stops_by S x f v u m all needs r')

-- a question that was refused
pub stopped_asking : (S : Type 0) (x : Call) (a : Answer) (f : DeskFault) (v u : View) (c : Called x a v u) → OwnsAll v → Needs S x v u → Refuses v.fixed (v.events ++ c.others) x f c.own → c.own ≡ []
    → StopsBy S f v [] u
stopped_asking S x a f v u c all needs r none =
    subst (λ (own : List Event). StopsBy S f v own u) (sym (stops x f v.fixed (v.events ++ c.others) c.own r) ∙ none) (stopped S x a f v u c all needs r).1

-- the events so far, if there are any, end in no Halt
abbrev pub Calm : List Event → View → Type 0
Calm own u = (own ≡ []) ⊎ (halted u.events ≡ false)

pub stopped_behind : (S : Type 0) (f : DeskFault) (v u w : View) (xs ys : List Event) → OwnsAll u → Made v xs u → Calm xs u → StopsBy S f u ys w → StopsBy S f v (xs ++ ys) w
stopped_behind S StoreFailed v u w xs ys all m calm s = (xs ++ s.0, ap (λ (es : List Event). xs ++ es) s.1 ∙ sym (append_assoc xs s.0 (Halt Base ∷ [])))
stopped_behind S PostFailed v u w xs ys all m calm s = (xs ++ s.0, ap (λ (es : List Event). xs ++ es) s.1 ∙ sym (append_assoc xs s.0 (Halt Post ∷ [])))
stopped_behind S Spent v u w xs ys all m calm s = s
stopped_behind S Halted v u w xs ys all m calm s = ⊎_elim
    (λ (none : xs ≡ []).
    let alone : u.events ≡ v.events ++ [] = made_alone v u [] (owns_first v u xs m all) (subst (λ (es : List Event). Made v es u) none m) in
    (ap (λ (es : List Event). xs ++ es) s.0 ∙ append-nil xs ∙ none, ap (λ (es : List Event). halted es) (sym (alone ∙ append-nil v.events)) ∙ s.1))
    (λ (off : halted u.events ≡ false). let clash : true ≡ false = sym s.1 ∙ off in absurd (cc))
    calm
stopped_behind S NoMemory v u w xs ys all m calm s = s

-- behind those events with no event of its own
pub stopped_there : (S : Type 0) (f : DeskFault) (v u w : View) (xs : List Event) → OwnsAll u → Made v xs u → Calm xs u → StopsBy S f u [] w → StopsBy S f v xs w
stopped_there S f v u w xs all m calm s = subst (λ (es : List Event). StopsBy S f v es w) (append-nil xs) (stopped_behind S f v u w xs [] all m calm s)

pub stops_so : (S T : Type 0) (f : DeskFault) (v w : View) (own : List Event) → (S → T) → StopsBy S f v own w → StopsBy T f v own w
stops_so S T StoreFailed v w own so s = s
stops_so S T PostFailed v w own so s = s
stops_so S T Spent v w own so s = (s.0, so s.1)
stops_so S T Halted v w own so s = s
stops_so S T NoMemory v w own so s = s

-- a refusal with no event of the lease before it
pub breaks : (w : ℕ) (x : Call) (a : Answer) (f : DeskFault) (v u : View) (c : Called x a v u) → Needs (IsSpentAt w u) x v u → Refuses v.fixed (v.events ++ c.others) x f c.own → Follows w (Err f) v u
breaks w x a f v u c needs r = record { own = []; of_lease = All-nil (IsOfLease w); end = refused (IsSpentAt w u) x a f v u c needs r }

-- no number is needed
pub none : (S : Type 0) (x : Call) (v u : View) → (IsSpent (constants u.fixed) (state_of u) x → ⊥) → Needs S x v u
none S x v u never m h = absurd (never h)

-- ---- events of the lease, and what follows them

more_end : (w : ℕ) (r : Result (Unit {0}) DeskFault) (xs own : List Event) (v u t : View) → Made v xs u → FollowEnd w r own u t → FollowEnd w r (xs ++ own) v t
more_end w (Ok x) xs own v u t m e = (made_append v u t xs own m e.0, e.1, e.2)
more_end w (Err f) xs own v u t m e =
    (subst (λ (es : List Event). Made v es t) (sym (append_assoc xs own (stop_of f))) (made_append v u t xs (own ++ stop_of f) m e.0), e.1)

pub follows_more : (w : ℕ) (r : Result (Unit {0}) DeskFault) (xs : List Event) (v u t : View) → All (IsOfLease w) xs → Made v xs u → Follows w r u t → Follows w r v t
follows_more w r xs v u t of_lease m f = record {
  own = xs ++ f.own;
  of_lease = All-append (IsOfLease w) xs f.own of_lease f.of_lease;
  end = more_end w r xs f.own v u t m f.end;
}

pub follows_event : (w : ℕ) (r : Result (Unit {0}) DeskFault) (e : Event) (v u t : View) → IsOfLease w e → Moved v (e ∷ []) u → Follows w r u t → Follows w r v t
follows_event w r e v u t of_lease m f = follows_more w r (e ∷ []) v u t (one w e of_lease) (made_one v u e m) f

pub follows_silent : (w : ℕ) (r : Result (Unit {0}) DeskFault) (v u t : View) → Moved v [] u → Follows w r u t → Follows w r v t
follows_silent w r v u t m f = follows_more w r [] v u t (All-nil (IsOfLease w)) m f

-- nothing is left to do
pub follows_none : (w : ℕ) (v : View) → IsLegal v.fixed v.events → phase (state_of v) w ≡ Idle → halted v.events ≡ false → Follows w (Ok tt) v v
follows_none w v legal idle off = record { own = []; of_lease = All-nil (IsOfLease w); end = (moved_none v legal, idle, off) }

-- ---- the calls at the end of a lease

kept_owns : {v u : View} {own : List Event} (w : ℕ) → Moved v own u → Owns v w → Owns u w
kept_owns {v = v} {u = u} w m o = owns_same v u w m.workers m.fixed o

remove_idle : {c : Constants} {w : ℕ} {s t : State} → Step c s (Remove w) t → phase t w ≡ Idle
remove_idle {w = w} {s = s} (remove x) = phase_same s.phases w Idle

mark_done : {c : Constants} {w : ℕ} {s t : State} → Step c s (Mark w) t → (n : ℕ) × (phase t w ≡ Done n)
mark_done {w = w} {s = s} (mark {n = n} x y z) = (n, phase_same s.phases w (Done n))

aside_done : {c : Constants} {w : ℕ} {s t : State} → Step c s (Aside w) t → (n : ℕ) × (phase t w ≡ Done n)
aside_done {w = w} {s = s} (aside {n = n} x y) = (n, phase_same s.phases w (Done n))

pub finished : (w : ℕ) (v u : View) → Called (call.Remove w) (answer.Plain (Ok tt)) v u → Follows w (Ok tt) v u
finished w v u c =
    let m : Moved v (Remove w ∷ []) u = moved_as c (Remove w ∷ []) c.gives in
    follows_event w (Ok tt) (Remove w) v u u refl m (follows_none w u c.legal (remove_idle (stepped m)) (off_after m refl))

pub finish_refused : (w : ℕ) (f : DeskFault) (v u : View) → Called (call.Remove w) (answer.Plain (Err f)) v u → Follows w (Err f) v u
finish_refused w f v u c = breaks w (call.Remove w) (answer.Plain (Err f)) f v u c (none (IsSpentAt w u) (call.Remove w) v u (λ h. h)) c.gives

pub finish_is : (w : ℕ) (r : Result (Unit {0}) DeskFault) (v u : View) → Called (call.Remove w) (answer.Plain r) v u → Follows w r v u
finish_is w (Ok x) v u c = finished w v u c
finish_is w (Err f) v u c = finish_refused w f v u c

pub may_finish_marked : (w : ℕ) (v u : View) → Owns v w → Called (call.Mark w) (answer.Plain (Ok tt)) v u → Ready (call.Remove w) u
may_finish_marked w v u o c = let m : Moved v (Mark w ∷ []) u = moved_as c (Mark w ∷ []) c.gives in (kept_owns w m o, mark_done (stepped m))

pub marked : (w : ℕ) (r : Result (Unit {0}) DeskFault) (v u t : View) → Called (call.Mark w) (answer.Plain (Ok tt)) v u → Follows w r u t → Follows w r v t
marked w r v u t c f = follows_event w r (Mark w) v u t refl (moved_as c (Mark w ∷ []) c.gives) f

pub mark_refused : (w : ℕ) (f : DeskFault) (v u : View) → Called (call.Mark w) (answer.Plain (Err f)) v u → Follows w (Err f) v u
mark_refused w f v u c = breaks w (call.Mark w) (answer.Plain (Err f)) f v u c (none (IsSpentAt w u) (call.Mark w) v u (λ h. h)) c.gives

pub may_finish_aside : (w : ℕ) (v u : View) → Owns v w → Called (call.Aside w) (answer.Plain (Ok tt)) v u → Ready (call.Remove w) u
may_finish_aside w v u o c = let m : Moved v (Aside w ∷ []) u = moved_as c (Aside w ∷ []) c.gives in (kept_owns w m o, aside_done (stepped m))

pub put_then : (w : ℕ) (r : Result (Unit {0}) DeskFault) (v u t : View) → Called (call.Aside w) (answer.Plain (Ok tt)) v u → Follows w r u t → Follows w r v t
put_then w r v u t c f = follows_event w r (Aside w) v u t refl (moved_as c (Aside w ∷ []) c.gives) f

still_leaving : (w : ℕ) (v u : View) → Owns v w → IsLeaving (state_of v) w → Moved v [] u → IsLeaving (state_of u) w
still_leaving w v u o x m = (x.0, x.1, x.2, x.3, ap (λ (s : State). phase s w) (stays m) ∙ (left m w o).phase_is ∙ x.4)

pub aside_refused : (w : ℕ) (f : DeskFault) (v u : View) → Ready (call.Aside w) v → Called (call.Aside w) (answer.Plain (Err f)) v u → Follows w (Err f) v u
aside_refused w f v u ready c =
    breaks w (call.Aside w) (answer.Plain (Err f)) f v u c (λ m h. spent_aside (constants u.fixed) (state_of u) w (still_leaving w v u ready.0 ready.1 m) h) c.gives

-- ---- the batch

pub unsent_refused : (w : ℕ) (f : DeskFault) (v u : View) → Called (call.Unsent w) (answer.Unsent (Err f)) v u → Follows w (Err f) v u
unsent_refused w f v u c = breaks w (call.Unsent w) (answer.Unsent (Err f)) f v u c (none (IsSpentAt w u) (call.Unsent w) v u (λ h. h)) c.gives

-- some ops of the batch were sent, and so many are left
pub record Dispatching (w left : ℕ) (v u : View) : Type 0 where
  pub own : List Event
  pub of_lease : All (IsOfLease w) own
  pub made : Made v own u
  pub owns : Owns u w
  pub sending : IsSending (state_of u) w left

pub dispatch_start : (w left : ℕ) (v u : View) → Owns v w → Called (call.Unsent w) (answer.Unsent (Ok left)) v u → Dispatching w left v u
dispatch_start w left v u o c =
    let m : Moved v [] u = moved_as c [] c.gives.0 in
    record {
      own = [];
      of_lease = All-nil (IsOfLease w);
      made = m;
      owns = kept_owns w m o;
      sending = subst (λ (s : State). IsSending s w left) (sym (stays m)) c.gives.2;
    }

pub may_send : (w left : ℕ) (v u : View) → Dispatching w left v u → 0 < left → Ready (call.Send w) u
may_send w left v u d more = (d.owns, (left, more, d.sending))

pub may_mark : (w : ℕ) (v u : View) → Dispatching w 0 v u → Ready (call.Mark w) u
may_mark w v u d = (d.owns, d.sending)

-- one op less
send_less : {c : Constants} {w : ℕ} {s t : State} (left : ℕ) → Step c s (Send w) t → IsSending s w (left + 1) → IsSending t w left
send_less {w = w} {s = s} more (send {n = n} {k = k} {id = id} {ops = ops} x y z) is =
    let P : Phase → Type 0 = λ p. Matches p is.ops is.k in
    let same : Matches (Sending n id ops k) is.ops is.k = subst P (sym is.sending ∙ x) (refl, refl) in
    record {
      number = n;
      id = id;
      ops = ops;
      k = k + 1;
      sending = phase_same s.phases w (Sending n id ops (k + 1));
      left_is = (let e : (more + 1) + is.k ≡ length is.ops = is.left_is in let a : is.k ≡ k = sym same.1 in let b : length is.ops ≡ length ops = ap length (sym same.0) in omega arith);
    }
  where
    Matches : Phase → List Op → ℕ → Type 0
    Matches (Sending n id ops k) xs j = (ops ≡ xs) × (k ≡ j)
    Matches Idle xs j = ⊥
    Matches (Held n) xs j = ⊥
    Matches (Looked n reads) xs j = ⊥
    Matches (Leaving n queue due copy) xs j = ⊥
    Matches (Done n) xs j = ⊥

still_sending : {v u : View} {own : List Event} (m : Moved v own u) (w left : ℕ) → Owns v w → IsSending (state_of v) w left → IsSending (before m) w left
still_sending m w n o x = record { number = x.number; id = x.id; ops = x.ops; k = x.k; sending = (left m w o).phase_is ∙ x.sending; left_is = x.left_is }

pub dispatch_more : (w left : ℕ) (v u t : View) → Dispatching w (left + 1) v u → Called (call.Send w) (answer.Plain (Ok tt)) u t → Dispatching w left v t
dispatch_more w left v u t d c =
    let m : Moved u (Send w ∷ []) t = moved_as c (Send w ∷ []) c.gives in
    record {
      own = d.own ++ Send w ∷ [];
      of_lease = All-append (IsOfLease w) d.own (Send w ∷ []) d.of_lease (one w (Send w) refl);
      made = made_append v u t d.own (Send w ∷ []) d.made (made_one u t (Send w) m);
      owns = kept_owns w m d.owns;
      sending = send_less left (stepped m) (still_sending m w (left + 1) d.owns d.sending);
    }

pub dispatch_refused : (w left : ℕ) (f : DeskFault) (v u t : View) → 0 < left → Dispatching w left v u → Called (call.Send w) (answer.Plain (Err f)) u t → Follows w (Err f) v t
dispatch_refused w left f v u t more d c = follows_more w (Err f) d.own v u t d.of_lease d.made (breaks w (call.Send w) (answer.Plain (Err f)) f u t c needs c.gives)
  where
    needs : Needs (IsSpentAt w t) (call.Send w) u t
    needs m h = spent_send (constants t.fixed) (state_of t) w left more (subst (λ (s : State). IsSending s w left) (sym (stays m)) (still_sending m w left d.owns d.sending)) h

pub dispatched : (w left : ℕ) (r : Result (Unit {0}) DeskFault) (v u t : View) → Dispatching w left v u → Follows w r u t → Follows w r v t
dispatched w left r v u t d f = follows_more w r d.own v u t d.of_lease d.made f

pub dispatch_next : (w rest less : ℕ) (v u t : View) → rest ≡ less + 1 → Dispatching w rest v u → Called (call.Send w) (answer.Plain (Ok tt)) u t → Dispatching w less v t
dispatch_next w rest less v u t is d c = dispatch_more w less v u t (subst (λ (k : ℕ). Dispatching w k v u) is d) c

pub dispatch_end : (w rest : ℕ) (v u : View) → rest ≡ 0 → Dispatching w rest v u → Ready (call.Mark w) u
dispatch_end w rest v u is d = may_mark w v u (subst (λ (k : ℕ). Dispatching w k v u) is d)
