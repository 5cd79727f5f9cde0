-- What a settlement rests on holds at the end of each legal run.
use Rattle.std.proofs.Common.{◌≡◌, ◌+◌, ℕ, Bool, true, false, Some, None, Option, refl, sym, ap, ◌∙◌, subst, arith, List, [], ◌∷◌}
use Rattle.std.specs.FinMap as map
use Rattle.std.specs.List.{AllByRecursion}
use Rattle.std.specs.Prelude.{is_some}
use Rattle.nb_base.proofs.Maps.{numbers, kept}
use Rattle.nb_base.specs.Meanings.{IsMeaning, IsShown}
use Rattle.nb_base.specs.Meanings.{CanGo as CanMean}
use Rattle.nb_base.specs.Messages.{Message}
use Rattle.nb_base.specs.Orders.{ByNumber}
use Rattle.nb_base.specs.declared.entry.Op.{Op}
use Rattle.nb_base.specs.declared.plan.FromSaga.{FromSaga}
use Rattle.nb_base.specs.declared.plan.Intent.{Intent}
use Rattle.nb_base.specs.declared.plan.Target.{Target}
use Rattle.nb_base.specs.declared.plan.Target.TheVariants as target
use Rattle.nb_base.specs.declared.tables.Queued.{Queued}
use Rattle.nb_headers.specs.Faults.{stripped}
use Rattle.nb_headers.specs.Reads.{id_of, failed_queue}
use Rattle.nb_recover.specs.declared.fail.Fail.{Fail}
use Rattle.nb_recover.specs.declared.fail.Fail.TheVariants.{Fault}
use Rattle.nb_recover.specs.declared.moves.Move.{Move}
use Rattle.nb_recover.specs.declared.moves.Move.TheVariants as move
use Rattle.nb_dispatch.specs.Dispatches.{CanGo, CanDispatch}
use Rattle.nb_core.proofs.Copies.{immediate_few}
use Rattle.nb_core.proofs.Held.{held_put, each_phase, phase_empty, HoldingAt, BelowAt}
use Rattle.nb_core.proofs.Looking.{Sound}
use Rattle.nb_core.proofs.Serials.{Kept, kept_on, kept_at_opening}
use Rattle.nb_core.proofs.Stating.{state_facts}
use Rattle.nb_core.specs.History.{Opening, Run, ends, goes, opened}
use Rattle.nb_core.specs.Legal.{HasRoutes, IsSound}
use Rattle.nb_core.specs.Stale.{conflict_on}
use Rattle.nb_core.specs.State.{State, Constants, Phase, Idle, Held, Looked, Sending, Leaving, Done, phase, phase_in, put_phase, number_of, phase_by, phase_after, base, fails, failed, move_after, commit_ops, entry}
use Rattle.nb_core.specs.Step.{Event, Step, load, take, look_known, look_new, settle_twin, settle_fault, settle_conflict, settle_commit, send, mark, aside, remove, tick, release, purge, put_back, drop_back, stop, halt}
use Rattle.nb_core.specs.Tried.{CanSettle}

some_same : {A : Type 0} {x y : A} → Some x ≡ Some y → x ≡ y
some_same e = cc

-- the reads of a `Looked` phase are what some sound tables showed at the keys of its entry's message
abbrev pub ShownWell : Constants → ByNumber Queued → Phase → Type 0
ShownWell c es Idle = Unit {0}
ShownWell c es (Held n) = Unit {0}
ShownWell c es (Looked n reads) = (e : Queued) × (map.get es n ≡ Some e) × IsShown c.meaning e.envelope reads
ShownWell c es (Sending n id ops k) = Unit {0}
ShownWell c es (Leaving n queue due copy) = Unit {0}
ShownWell c es (Done n) = Unit {0}

abbrev pub ShownAt : Constants → State → Type 0
ShownAt c s = (w : ℕ) → ShownWell c s.post.entries (phase s w)

shown_idle : (c : Constants) (es : ByNumber Queued) (p : Phase) → p ≡ Idle → ShownWell c es p
shown_idle c es p e = subst (ShownWell c es) (sym e) tt

shown_by : (c : Constants) (es : ByNumber Queued) (b : Bool) (n : ℕ) (id : List ℕ) (ops : List Op) → ShownWell c es (phase_by b n id ops)
shown_by c es true n id ops = tt
shown_by c es false n id ops = tt

shown_after : (c : Constants) (es : ByNumber Queued) (moment n : ℕ) (m : Message) (fail : Fail) (v : Move) → ShownWell c es (phase_after c.settings moment n m fail v)
shown_after c es moment n m fail move.Again = tt
shown_after c es moment n m fail (move.Later round delay) = tt
shown_after c es moment n m fail move.Error = tt
shown_after c es moment n m fail move.Discard = tt

-- other entries, where the entry that the phase names is the same
shown_more : (c : Constants) (es es' : ByNumber Queued) (p : Phase) → ((n : ℕ) → number_of p ≡ Some n → map.get es' n ≡ map.get es n) → ShownWell c es p → ShownWell c es' p
shown_more c es es' (Looked n reads) same h = (h.0, same n refl ∙ h.1, h.2)
shown_more c es es' Idle same h = tt
shown_more c es es' (Held n) same h = tt
shown_more c es es' (Sending n id ops k) same h = tt
shown_more c es es' (Leaving n queue due copy) same h = tt
shown_more c es es' (Done n) same h = tt

shown_kept : {c : Constants} {s s' : State} {e : Event} → Step c s e s' → BelowAt s → HoldingAt c s → Sound c (base s) → ShownAt c s → ShownAt c s'
shown_kept {c = c} {s = s} step b h ok l = go step
  where
    -- one phase changes
    one : (es : ByNumber Queued) (w : ℕ) (p : Phase) → ((u : ℕ) → ShownWell c es (phase s u)) → ShownWell c es p → (u : ℕ) → ShownWell c es (phase_in (put_phase s.phases w p) u)
    one es w p l mine = each_phase (λ _ q. ShownWell c es q) s.phases w p (λ u _. l u) mine

    -- an entry is put
    put_one : (e : Queued) → (u : ℕ) → ShownWell c (map.insert s.post.entries s.post.next e) (phase s u)
    put_one e u = shown_more c s.post.entries (map.insert s.post.entries s.post.next e) (phase s u) (held_put s.post.entries s.post.next e s.phases b h u) (l u)

    -- a failure
    failed_one : (w n : ℕ) (m : Message) (fail : Fail) → ShownAt c (failed c s w n m fail)
    failed_one w n m fail =
        let v = move_after c.settings (fails s n + 1) m fail in
        one s.post.entries w (phase_after c.settings s.moment n m fail v) l (shown_after c s.post.entries s.moment n m fail v)

    go : {s' : State} {e : Event} → Step c s e s' → ShownAt c s'
    go (load {m = m} named room) = put_one (record { queue = c.settings.endpoint; due = None; envelope = m })
    go (take {w = w} {n = n} i f) = one s.post.entries w (Held n) l tt
    go (look_known {w = w} {n = n} {e = e} {r = r} p there known) = one s.post.entries w (phase_by r.sent n (id_of e.envelope) r.ops) l (shown_by c s.post.entries r.sent n (id_of e.envelope) r.ops)
    go (look_new {w = w} {n = n} {e = m} p there new) =
        one s.post.entries w (Looked n _) l (m, there, record { tables = base s; sound = ok.sound; fit = ok.fit; shown = refl })
    go (settle_twin {w = w} {n = n} {e = e} {r = r} p there known) = one s.post.entries w (phase_by r.sent n (id_of e.envelope) r.ops) l (shown_by c s.post.entries r.sent n (id_of e.envelope) r.ops)
    go (settle_fault {w = w} {n = n} {e = e} {f = f} p there new verdict) = failed_one w n e.envelope (Fault f)
    go (settle_conflict {w = w} {n = n} {e = e} {r = r} p there new verdict d) = failed_one w n e.envelope (conflict_on (base s) r)
    go (settle_commit {w = w} {n = n} {e = e} {plan = plan} p there new verdict fresh room) = one s.post.entries w (Sending n (id_of e.envelope) (commit_ops c s e.envelope plan) 0) l tt
    go (send {w = w} {n = n} {k = k} {id = id} {ops = ops} {op = op} p at room) =
        let new : Queued = record { queue = op.queue; due = op.due; envelope = op.envelope } in
        one (map.insert s.post.entries s.post.next new) w (Sending n id ops (k + 1)) (put_one new) tt
    go (mark {w = w} {n = n} p k r) = one s.post.entries w (Done n) l tt
    go (aside {w = w} {n = n} {queue = queue} {due = due} {copy = copy} p room) =
        let new : Queued = record { queue = queue; due = due; envelope = copy } in
        one (map.insert s.post.entries s.post.next new) w (Done n) (put_one new) tt
    go (remove {w = w} {n = n} p) = each_phase (λ _ q. ShownWell c (map.remove s.post.entries n) q) s.phases w Idle
        (λ u ne. shown_more c s.post.entries (map.remove s.post.entries n) (phase s u)
        (λ m is. kept numbers s.post.entries n m (λ same. ne (h.apart u w n (is ∙ ap Some same) (ap number_of p)))) (l u))
        tt
    go (tick i t) = l
    go (release {n = n} {e = m} i e d t) = λ w. shown_idle c (map.insert s.post.entries n (record m { due = None })) (phase s w) (i w)
    go (purge i r t m) = l
    go (put_back {e = m} i e q d f room) = λ w. shown_idle c (map.insert s.post.entries s.post.next (record { queue = failed_queue m.envelope; due = None; envelope = stripped m.envelope })) (phase s w) (i w)
    go (drop_back {n = n} i b) = λ w. shown_idle c (map.remove s.post.entries n) (phase s w) (i w)
    go stop = λ w. shown_idle c s.post.entries (phase_in map.empty w) (phase_empty w)
    go halt = l

shown_at_end : {c : Constants} {s s' : State} {es : List Event} → IsMeaning c.meaning → Run c s es s' → Kept c s → ShownAt c s → ShownAt c s'
shown_at_end means ends f h = h
shown_at_end means (goes step rest) f h = shown_at_end means rest (kept_on means step f) (shown_kept step f.below f.holding f.sound h)

-- what a right plan sends can be sent
can_go : (c : Constants) → HasRoutes c → (name : List ℕ) (from : Option FromSaga) (to : Target) → CanMean c.meaning name (is_some from) to → CanGo c.settings name from to
can_go c routes name from target.Send can = ap is_some (routes name can).1
can_go c routes name from target.Local can = tt
can_go c routes name from target.Publish can = tt
can_go c routes name from (target.Reply to) can = can
can_go c routes name from (target.Originator to original) can = can
can_go c routes name from target.Timeout can = can

all_can : (c : Constants) → HasRoutes c → (xs : List Intent) → AllByRecursion (λ (x : Intent). CanMean c.meaning x.name (is_some x.from) x.target) xs → AllByRecursion (CanDispatch c.settings) xs
all_can c routes [] f = tt
all_can c routes (x ∷ xs) f = (can_go c routes x.name x.from x.target f.0, all_can c routes xs f.1)

pub can_settle : {c : Constants} {o : Opening} {s : State} {es : List Event} → IsMeaning c.meaning → HasRoutes c → IsSound c o → Run c (opened o) es s → CanSettle c s
can_settle {c = c} {o = o} {s = s} means routes sound run = record {
  few = λ n. let most = facts.counts n in let least = immediate_few c.settings in omega arith;
  shown = shown;
  can = λ w n reads e plan looked there done.
      let x = shown w n reads e looked there in
      let is = sym (means.local x.tables x.sound x.fit e.envelope s.moment) ∙ ap (λ rs. c.meaning.on_reads rs e.envelope s.moment) (sym x.shown) ∙ done in
      all_can c routes plan.intents (means.plans x.tables x.sound x.fit e.envelope s.moment plan is).targets;
}
  where
    facts : Rattle.nb_core.specs.Facts.StateFacts c s
    facts = state_facts means sound run

    at_end : ShownAt c s
    at_end = shown_at_end means run (kept_at_opening c o sound) (λ w. shown_idle c o.post.entries (phase_in map.empty w) (phase_empty w))

    shown : (w n : ℕ) (reads : List Rattle.nb_base.specs.declared.saga_row.Read.Read) (e : Queued) → phase s w ≡ Looked n reads → entry s n ≡ Some e → IsShown c.meaning e.envelope reads
    shown w n reads e looked there =
        let r = subst (ShownWell c s.post.entries) looked (at_end w) in
        subst (λ (x : Queued). IsShown c.meaning x.envelope reads) (some_same (sym r.1 ∙ there)) r.2
