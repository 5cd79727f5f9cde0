-- With one worker a paced and drained history is determined by its opening, its Loads and the moment until which it goes.
use Rattle.std.proofs.Common.{◌≡◌, ◌≢◌, ◌⊎◌, ◌<◌, ◌≤◌, ℕ, max, false, true≢false, cond, refl, sym, ap, ◌∙◌, inl, inr, subst, arith, List, [], ◌∷◌, length}
use Rattle.std.specs.Prelude.{◌==◌}
use Rattle.std.specs.List.{AllByRecursion}
use Rattle.std.proofs.lemmas.Bool.{eq-eqb, ne_eqb}
use Rattle.std.proofs.lemmas.Option.{slice_get_within}
use Rattle.nb_core.proofs.Bridge.{step_after}
use Rattle.nb_core.specs.After.{after}
use Rattle.nb_core.specs.Drained.{Drained, IsNextDue}
use Rattle.nb_core.specs.History.{Run, ends, goes}
use Rattle.nb_core.specs.Legal.{IsOfWorker, is_halt}
use Rattle.nb_core.specs.Paced.{Mode, loading, releasing, working, Pace, ended, load, loaded, release, cut_off, released, work, tick, IsOfTurn, IsOwnEmpty, loads}
use Rattle.nb_core.specs.State.{State, Constants, Phase, Idle, Held, Looked, Sending, Leaving, Done, phase, AllIdle}
use Rattle.nb_core.specs.Step as steps
use Rattle.nb_core.specs.Step.{Event, Load, Take, Look, Settle, Send, Mark, Aside, Remove, Tick, Release, Purge, PutBack, DropBack, Stop, Halt, Step}

-- the next event of worker 0
turn_of : Phase → Event
turn_of Idle = Take 0
turn_of (Held n) = Look 0
turn_of (Looked n reads) = Settle 0
turn_of (Sending n id ops k) = cond (k == length ops) (Mark 0) (Send 0)
turn_of (Leaving n queue due copy) = Aside 0
turn_of (Done n) = Remove 0

zero_is : (w : ℕ) → w < 1 → w ≡ 0
zero_is w h = omega arith

turn_is : {c : Constants} {s t : State} {e : Event} → Step c s e t → IsOfTurn e → IsOfWorker 1 e → is_halt e ≡ false → e ≡ turn_of (phase s 0)
unfolding turn_of
turn_is (steps.load named room) turn one off = absurd turn
turn_is {s = s} (steps.take {w = w} idle least) turn one off = let z = zero_is w one in ap Take z ∙ ap turn_of (sym idle ∙ ap (phase s) z)
turn_is {s = s} (steps.look_known {w = w} held there known) turn one off = let z = zero_is w one in ap Look z ∙ ap turn_of (sym held ∙ ap (phase s) z)
turn_is {s = s} (steps.look_new {w = w} held there new) turn one off = let z = zero_is w one in ap Look z ∙ ap turn_of (sym held ∙ ap (phase s) z)
turn_is {s = s} (steps.settle_twin {w = w} looked there known) turn one off = let z = zero_is w one in ap Settle z ∙ ap turn_of (sym looked ∙ ap (phase s) z)
turn_is {s = s} (steps.settle_fault {w = w} looked there new judged) turn one off = let z = zero_is w one in ap Settle z ∙ ap turn_of (sym looked ∙ ap (phase s) z)
turn_is {s = s} (steps.settle_conflict {w = w} looked there new judged stale) turn one off = let z = zero_is w one in ap Settle z ∙ ap turn_of (sym looked ∙ ap (phase s) z)
turn_is {s = s} (steps.settle_commit {w = w} looked there new judged fresh room) turn one off = let z = zero_is w one in ap Settle z ∙ ap turn_of (sym looked ∙ ap (phase s) z)
turn_is {s = s} (steps.send {w = w} {k = k} {ops = ops} {op = op} is at room) turn one off =
    let z = zero_is w one in
    let within = slice_get_within ops k op at in
    let other : k ≢ length ops = λ e. omega arith in
    ap Send z ∙ ap (λ b. cond b (Mark 0) (Send 0)) (sym (ne_eqb k (length ops) other)) ∙ ap turn_of (sym is ∙ ap (phase s) z)
turn_is {s = s} (steps.mark {w = w} {k = k} {ops = ops} is all there) turn one off =
    let z = zero_is w one in
    ap Mark z ∙ ap (λ b. cond b (Mark 0) (Send 0)) (sym (eq-eqb k (length ops) all)) ∙ ap turn_of (sym is ∙ ap (phase s) z)
turn_is {s = s} (steps.aside {w = w} is room) turn one off = let z = zero_is w one in ap Aside z ∙ ap turn_of (sym is ∙ ap (phase s) z)
turn_is {s = s} (steps.remove {w = w} is) turn one off = let z = zero_is w one in ap Remove z ∙ ap turn_of (sym is ∙ ap (phase s) z)
turn_is (steps.tick idle later) turn one off = absurd turn
turn_is (steps.release idle there due past) turn one off = absurd turn
turn_is (steps.purge idle known sent old) turn one off = absurd turn
turn_is (steps.put_back idle there error free failed room) turn one off = absurd turn
turn_is (steps.drop_back idle back) turn one off = absurd turn
turn_is steps.stop turn one off = absurd turn
turn_is steps.halt turn one off = absurd (true≢false off)

-- where all are idle and the own queue is empty off worker has an event
no_turn : {c : Constants} {s t : State} {e : Event} → Step c s e t → IsOfTurn e → is_halt e ≡ false → AllIdle s → IsOwnEmpty c s → ⊥
no_turn (steps.load named room) turn off idle own = turn
no_turn (steps.take {n = n} i least) turn off idle own = own n least.free.it least.free.there least.free.ready
no_turn (steps.look_known {w = w} held there known) turn off idle own = let z = sym (idle w) ∙ held in cc
no_turn (steps.look_new {w = w} held there new) turn off idle own = let z = sym (idle w) ∙ held in cc
no_turn (steps.settle_twin {w = w} looked there known) turn off idle own = let z = sym (idle w) ∙ looked in cc
no_turn (steps.settle_fault {w = w} looked there new judged) turn off idle own = let z = sym (idle w) ∙ looked in cc
no_turn (steps.settle_conflict {w = w} looked there new judged stale) turn off idle own = let z = sym (idle w) ∙ looked in cc
no_turn (steps.settle_commit {w = w} looked there new judged fresh room) turn off idle own = let z = sym (idle w) ∙ looked in cc
no_turn (steps.send {w = w} is at room) turn off idle own = let z = sym (idle w) ∙ is in cc
no_turn (steps.mark {w = w} is all there) turn off idle own = let z = sym (idle w) ∙ is in cc
no_turn (steps.aside {w = w} is room) turn off idle own = let z = sym (idle w) ∙ is in cc
no_turn (steps.remove {w = w} is) turn off idle own = let z = sym (idle w) ∙ is in cc
no_turn (steps.tick i later) turn off idle own = turn
no_turn (steps.release i there due past) turn off idle own = turn
no_turn (steps.purge i known sent old) turn off idle own = turn
no_turn (steps.put_back i there error free failed room) turn off idle own = turn
no_turn (steps.drop_back i back) turn off idle own = turn
no_turn steps.stop turn off idle own = turn
no_turn steps.halt turn off idle own = true≢false off

tick_idle : {c : Constants} {s t : State} {to : ℕ} → Step c s (Tick to) t → AllIdle s
tick_idle (steps.tick idle later) = idle

-- what is due next is one
same_due : (s : State) (m n d e : ℕ) → IsNextDue s m d → IsNextDue s n e → (m ≡ n) × (d ≡ e)
same_due s m n d e a b = go (a.least n b.it e b.there b.due_is) (b.least m a.it d a.there a.due_is)
  where
    go : (d < e) ⊎ ((d ≡ e) × (m ≤ n)) → (e < d) ⊎ ((e ≡ d) × (n ≤ m)) → (m ≡ n) × (d ≡ e)
    go (inl x) (inl y) = absurd (omega arith)
    go (inl x) (inr y) = let z = y.0 in absurd (omega arith)
    go (inr x) (inl y) = let z = x.0 in absurd (omega arith)
    go (inr x) (inr y) = let p = x.1 in let q = y.1 in (omega arith, x.0)

-- the rest of a run, from the state that is computed
rest_of : {c : Constants} {s u : State} {e : Event} {es : List Event} → Run c s (e ∷ es) u → Run c (after c s e) es u
rest_of {c = c} {u = u} (goes {es = es} step rest) = subst (λ m. Run c m es u) (step_after step) rest

first_of : {c : Constants} {s u : State} {e : Event} {es : List Event} → Run c s (e ∷ es) u → (t : State) × Step c s e t
first_of (goes {mid = mid} step rest) = (mid, step)

at_end : {c : Constants} {s u : State} → Run c s [] u → s ≡ u
at_end ends = refl

unfoldable pub NoHalt : List Event → Type 0
NoHalt es = AllByRecursion (λ e. is_halt e ≡ false) es

unfoldable pub AllOne : List Event → Type 0
AllOne es = AllByRecursion (IsOfWorker 1) es

module _ (c : Constants) (until : ℕ) where
  no_loads : (m : Mode) (s : State) (es : List Event) → m ≢ loading → Pace c until m s es → loads es ≡ []
  no_loads m s [] other ended = refl
  no_loads loading s es other (load p) = absurd (other refl)
  no_loads loading s es other (loaded p) = absurd (other refl)
  no_loads releasing s (Release n ∷ es) other (release next due p) = no_loads releasing (after c s (Release n)) es (λ e. cc) p
  no_loads releasing s (Halt store ∷ []) other cut_off = refl
  no_loads releasing s es other (released a p) = no_loads working s es (λ e. cc) p
  no_loads working s (e ∷ es) other (work turn p) = skip e es turn (no_loads working (after c s e) es (λ z. cc) p)
    where
      skip : (e : Event) (es : List Event) → IsOfTurn e → loads es ≡ [] → loads (e ∷ es) ≡ []
      skip (Load m) es turn h = absurd turn
      skip (Take w) es turn h = h
      skip (Look w) es turn h = h
      skip (Settle w) es turn h = h
      skip (Send w) es turn h = h
      skip (Mark w) es turn h = h
      skip (Aside w) es turn h = h
      skip (Remove w) es turn h = h
      skip (Tick to) es turn h = absurd turn
      skip (Release n) es turn h = absurd turn
      skip (Purge id) es turn h = absurd turn
      skip (PutBack n) es turn h = absurd turn
      skip (DropBack n) es turn h = absurd turn
      skip (Stop moment) es turn h = absurd turn
      skip (Halt store) es turn h = h
  no_loads working s (Tick to ∷ es) other (tick own next due is p) = no_loads releasing (after c s (Tick to)) es (λ e. cc) p

  -- a drained state is the end
  drained_ends : (m : Mode) (s u : State) (es : List Event) → Drained c s until → s.moment ≤ until → Pace c until m s es → Run c s es u → NoHalt es → loads es ≡ [] → es ≡ []
  unfolding NoHalt
  drained_ends m s u [] d le ended run off none = refl
  drained_ends loading s u es d le (load p) run off none = absurd (cc)
  drained_ends loading s u es d le (loaded p) run off none = drained_ends releasing s u es d le p run off none
  drained_ends releasing s u (Release n ∷ es) d le (release {due = due} next past p) run off none =
      let late = d.later n next.it due next.there next.due_is in
      absurd (omega arith)
  drained_ends releasing s u (Halt store ∷ []) d le cut_off run off none = absurd (true≢false off.0)
  drained_ends releasing s u es d le (released a p) run off none = drained_ends working s u es d le p run off none
  drained_ends working s u (e ∷ es) d le (work turn p) run off none = absurd (no_turn (first_of run).1 turn off.0 d.idle d.empty)
  drained_ends working s u (Tick to ∷ es) d le (tick {n = n} {due = due} own next past is p) run off none =
      let late = d.later n next.it due next.there next.due_is in
      absurd (omega arith)

  -- a turn or a release leaves the moment
  turn_moment : {s t : State} {e : Event} → Step c s e t → IsOfTurn e → t.moment ≡ s.moment
  turn_moment (steps.load named room) turn = absurd turn
  turn_moment (steps.take i l) turn = refl
  turn_moment (steps.look_known x y z) turn = refl
  turn_moment (steps.look_new x y z) turn = refl
  turn_moment (steps.settle_twin x y z) turn = refl
  turn_moment (steps.settle_fault x y z j) turn = refl
  turn_moment (steps.settle_conflict x y z j r) turn = refl
  turn_moment (steps.settle_commit x y z j f r) turn = refl
  turn_moment (steps.send x y z) turn = refl
  turn_moment (steps.mark x y z) turn = refl
  turn_moment (steps.aside x y) turn = refl
  turn_moment (steps.remove x) turn = refl
  turn_moment (steps.tick i l) turn = absurd turn
  turn_moment (steps.release i x y z) turn = absurd turn
  turn_moment (steps.purge i x y z) turn = absurd turn
  turn_moment (steps.put_back i x y z f r) turn = absurd turn
  turn_moment (steps.drop_back i x) turn = absurd turn
  turn_moment steps.stop turn = absurd turn
  turn_moment steps.halt turn = refl

  release_moment : {s : State} {n : ℕ} {t : State} → Step c s (Release n) t → t.moment ≡ s.moment
  release_moment (steps.release i x y z) = refl

  -- the moment stays at most the one until which it goes
  on_time : {s t : State} {e : Event} → Step c s e t → t.moment ≡ s.moment → s.moment ≤ until → (after c s e).moment ≤ until
  on_time step same le = subst (λ (z : State). z.moment ≤ until) (step_after step) (subst (λ z. z ≤ until) (sym same) le)

  pub same : (m : Mode) (s u v : State) (xs ys : List Event) → s.moment ≤ until → Pace c until m s xs → Pace c until m s ys → Run c s xs u → Run c s ys v → AllOne xs → AllOne ys → NoHalt xs → NoHalt ys
      → Drained c u until → Drained c v until → loads xs ≡ loads ys → xs ≡ ys
  unfolding NoHalt AllOne
  same m s u v [] ys le ended q rx ry ox oy nx ny du dv l =
      sym (drained_ends m s v ys (subst (λ z. Drained c z until) (sym (at_end rx)) du) le q ry ny (sym l))
  same m s u v xs [] le p ended rx ry ox oy nx ny du dv l =
      drained_ends m s u xs (subst (λ z. Drained c z until) (sym (at_end ry)) dv) le p rx nx l
  same loading s u v (Load a ∷ xs) (Load b ∷ ys) le (load p) (load q) rx ry ox oy nx ny du dv l =
      let is : a ≡ b = cc in
      let more : loads xs ≡ loads ys = cc in
      let r = same loading (after c s (Load a)) u v xs ys le p (subst (λ z. Pace c until loading (after c s (Load z)) ys) (sym is) q) (rest_of rx) (subst (λ z. Run c (after c s (Load z)) ys v) (sym is) (rest_of ry)) ox.1 oy.1 nx.1 ny.1 du dv more in
      λ i. Load (is i) ∷ r i
  same loading s u v (Load a ∷ xs) ys le (load p) (loaded q) rx ry ox oy nx ny du dv l = absurd (let z = l ∙ no_loads releasing s ys (λ e. cc) q in cc)
  same loading s u v xs (Load b ∷ ys) le (loaded p) (load q) rx ry ox oy nx ny du dv l = absurd (let z = sym l ∙ no_loads releasing s xs (λ e. cc) p in cc)
  same loading s u v xs ys le (loaded p) (loaded q) rx ry ox oy nx ny du dv l = same releasing s u v xs ys le p q rx ry ox oy nx ny du dv l
  same releasing s u v (Release m ∷ xs) (Release n ∷ ys) le (release {due = d} a past p) (release {due = e} b past' q) rx ry ox oy nx ny du dv l =
      let is = (same_due s m n d e a b).0 in
      let f = first_of rx in
      let r = same releasing (after c s (Release m)) u v xs ys (on_time f.1 (release_moment f.1) le) p (subst (λ z. Pace c until releasing (after c s (Release z)) ys) (sym is) q) (rest_of rx) (subst (λ z. Run c (after c s (Release z)) ys v) (sym is) (rest_of ry)) ox.1 oy.1 nx.1 ny.1 du dv l in
      λ i. Release (is i) ∷ r i
  same releasing s u v (Release m ∷ xs) (Halt store ∷ []) le (release a past p) cut_off rx ry ox oy nx ny du dv l = absurd (true≢false ny.0)
  same releasing s u v (Release m ∷ xs) ys le (release {due = d} a past p) (released b q) rx ry ox oy nx ny du dv l = let z = b m a.it d a.there a.due_is in absurd (omega arith)
  same releasing s u v (Halt store ∷ []) ys le cut_off q rx ry ox oy nx ny du dv l = absurd (true≢false nx.0)
  same releasing s u v xs (Release n ∷ ys) le (released a p) (release {due = d} b past q) rx ry ox oy nx ny du dv l = let z = a n b.it d b.there b.due_is in absurd (omega arith)
  same releasing s u v xs (Halt store ∷ []) le (released a p) cut_off rx ry ox oy nx ny du dv l = absurd (true≢false ny.0)
  same releasing s u v xs ys le (released a p) (released b q) rx ry ox oy nx ny du dv l = same working s u v xs ys le p q rx ry ox oy nx ny du dv l
  same working s u v (x ∷ xs) (y ∷ ys) le (work tx p) (work ty q) rx ry ox oy nx ny du dv l =
      let f = first_of rx in
      let is : x ≡ y = turn_is f.1 tx ox.0 nx.0 ∙ sym (turn_is (first_of ry).1 ty oy.0 ny.0) in
      let r = same working (after c s x) u v xs ys (on_time f.1 (turn_moment f.1 tx) le) p (subst (λ z. Pace c until working (after c s z) ys) (sym is) q) (rest_of rx) (subst (λ z. Run c (after c s z) ys v) (sym is) (rest_of ry)) ox.1 oy.1 nx.1 ny.1 du dv
      (no_loads working (after c s x) xs (λ e. cc) p ∙ sym (no_loads working (after c s y) ys (λ e. cc) q)) in
      λ i. is i ∷ r i
  same working s u v (x ∷ xs) (Tick to ∷ ys) le (work tx p) (tick own next past is q) rx ry ox oy nx ny du dv l =
      absurd (no_turn (first_of rx).1 tx nx.0 (tick_idle (first_of ry).1) own)
  same working s u v (Tick to ∷ xs) (y ∷ ys) le (tick own next past is p) (work ty q) rx ry ox oy nx ny du dv l =
      absurd (no_turn (first_of ry).1 ty ny.0 (tick_idle (first_of rx).1) own)
  same working s u v (Tick m ∷ xs) (Tick n ∷ ys) le (tick {n = j} {due = d} own next past is p) (tick {n = k} {due = e} own' next' past' is' q) rx ry ox oy nx ny du dv l =
      let due_is = (same_due s j k d e next next').1 in
      let to_is : m ≡ n = is ∙ ap (max s.moment) due_is ∙ sym is' in
      let r = same releasing (after c s (Tick m)) u v xs ys (omega arith) p (subst (λ z. Pace c until releasing (after c s (Tick z)) ys) (sym to_is) q) (rest_of rx) (subst (λ z. Run c (after c s (Tick z)) ys v) (sym to_is) (rest_of ry)) ox.1 oy.1 nx.1 ny.1 du dv l in
      λ i. Tick (to_is i) ∷ r i
