use Rattle.std.proofs.Common.{ℕ, ◌<◌, ◌≤◌, true, false, Ok, Err, refl, sym, ap, ◌∙◌, subst, arith}
use Rattle.std.proofs.lemmas.Result.{err_from_is_err_and}
use Rattle.std.specs.FinMap as map
use Rattle.std.specs.Option.{option_copied}
use Rattle.nb_core.specs.Calls.{Ready}
use Rattle.nb_core.specs.Past.{takes}
use Rattle.nb_core.specs.declared.answers.DeskFault.TheVariants.{NoMemory}
use Rattle.nb_core.specs.declared.answers.Taken.TheVariants.{Got, Nothing, Limit}
use Rattle.nb_core.specs.declared.call.Answer.TheVariants as answer
use Rattle.nb_core.specs.declared.call.Call.TheVariants as call
use Rattle.nb_core.specs.declared.event.Event.TheVariants.{Take}
use Rattle.nb_core.specs.declared.phase.Phase.TheVariants.{Idle, Held}
use Rattle.nb_hub.proofs.Histories.{standing_of}
use Rattle.nb_hub.proofs.Leases.{least_is, none_is, then_at, has_turn, copied_some, is_held, held_with, held_now, take_comes, taken_is}
use Rattle.nb_hub.proofs.Refusals.{kept_same}
use Rattle.nb_hub.proofs.Serving.{served_refused, served_quietly}
use Rattle.nb_hub.proofs.Storing.{served_alone}
use Rattle.nb_hub.proofs.Went.{kept, kept_room}
use Rattle.nb_hub.specs.Kept.{seen}
use Rattle.nb_hub.specs.Ledgers.{past_of}
use Rattle.nb_hub.specs.declared.ledger.Course.{Course}
use Rattle.nb_queue.specs.declared.post.Post.{Post}
use Rattle.nb_hub.proofs.hub.Hub.make_take.Goals as goal

pub invariant_of-self : goal.invariant_of-self
invariant_of-self g c =
    let m = g.M.Handling.meaning c.self.inside.handlers in
    kept_room (past_of m c.self.inside.ledger) _ false _ _ _ _ _ (ap (past_of m) c.in_err-begin.ensures.room) c.self.invariant

pub returns-in_err-begin : goal.returns-in_err-begin
returns-in_err-begin g c =
    let e = err_from_is_err_and c.from_residual.result c.from_residual.ensures.1 in
    rw (e.1, e.2, sym c.self.view_is)
    (served_refused g.D.Cells.honest g.D.Cells.now g.D.Cells.images g.D.Cells.firm g.D.Cells.count g.P.Cells.honest g.P.Cells.now g.P.Cells.images g.P.Cells.firm g.P.Cells.count (call.Take c.args.w) (λ why. answer.Took (Err why)) _ _ false _ _ c.in_err-begin.field-0.0
    (ap (past_of (g.M.Handling.meaning c.self.inside.handlers)) c.in_err-begin.ensures.room) c.self.invariant.legal c.in_err-begin.ensures.begins (λ why own r. r))

-- no Take is left
pub invariant_of-self-then-is_spent : goal.invariant_of-self-then-is_spent
invariant_of-self-then-is_spent g c =
    let m = g.M.Handling.meaning c.self.inside.handlers in
    kept_room (past_of m c.self.inside.ledger) _ true _ _ _ _ _ (ap (past_of m) c.in_ok-begin.ensures.room) c.self.invariant

pub returns-then-is_spent : goal.returns-then-is_spent
returns-then-is_spent g c =
    let m = g.M.Handling.meaning c.self.inside.handlers in
    let spent = subst (λ (x : Course). x.turns ≤ takes x.events) c.in_ok-begin.ensures.room (c.is_spent.ensures.0 c.if-is_spent.true) in
    rw (sym c.self.view_is)
    (served_quietly g.D.Cells.honest g.D.Cells.now g.D.Cells.images g.D.Cells.firm g.D.Cells.count g.P.Cells.honest g.P.Cells.now g.P.Cells.images g.P.Cells.firm g.P.Cells.count (call.Take c.args.w) (answer.Took (Ok Limit)) (past_of m c.self.inside.ledger) _ true _ _
    (ap (past_of m) c.in_ok-begin.ensures.room) c.self.invariant.legal (refl, c.in_ok-begin.ensures.begins, spent))

-- no entry is free
pub invariant_of-self-in_default : goal.invariant_of-self-in_default
invariant_of-self-in_default g c =
    let m = g.M.Handling.meaning c.self.inside.handlers in
    kept_room (past_of m c.self.inside.ledger) _ true _ _ _ _ _ (ap (past_of m) c.in_ok-begin.ensures.room) c.self.invariant

pub returns-in_default : goal.returns-in_default
returns-in_default g c =
    let m = g.M.Handling.meaning c.self.inside.handlers in
    let p = past_of m c.self.inside.ledger in
    let turn = subst (λ (x : Course). takes x.events < x.turns) c.in_ok-begin.ensures.room (has_turn c.begin.new.self c.is_spent.result c.is_spent.ensures c.if-is_spent.false) in
    rw (sym c.self.view_is)
    (served_quietly g.D.Cells.honest g.D.Cells.now g.D.Cells.images g.D.Cells.firm g.D.Cells.count g.P.Cells.honest g.P.Cells.now g.P.Cells.images g.P.Cells.firm g.P.Cells.count (call.Take c.args.w) (answer.Took (Ok Nothing)) p _ true _ _
    (ap (past_of m) c.in_ok-begin.ensures.room) c.self.invariant.legal (refl, c.in_ok-begin.ensures.begins, turn, none_is p _ _ _ _ _ c.self.invariant c.least_free.ensures.indexed c.in_default.ensures.free))

-- the least free entry
pub unwrap-requires : goal.unwrap-requires
unwrap-requires g c =
    let p = past_of (g.M.Handling.meaning c.self.inside.handlers) c.self.inside.ledger in
    let k = c.self.invariant in
    let least = least_is p _ _ _ _ _ k c.least_free.ensures.indexed _ c.in-Some.ensures.free in
    copied_some c.entry.result least.free.it (c.entry.ensures ∙ least.free.there)

-- there was no memory
pub invariant_of-self-in_err-envelope : goal.invariant_of-self-in_err-envelope
invariant_of-self-in_err-envelope g c =
    let m = g.M.Handling.meaning c.self.inside.handlers in
    kept_room (past_of m c.self.inside.ledger) _ true _ _ _ _ _ (ap (past_of m) c.in_ok-begin.ensures.room) c.self.invariant

pub returns-in_err-envelope : goal.returns-in_err-envelope
returns-in_err-envelope g c =
    let e = err_from_is_err_and c.from_residual-in_err-envelope.result c.from_residual-in_err-envelope.ensures.1 in
    rw (e.1, e.2, sym c.self.view_is)
    (served_quietly g.D.Cells.honest g.D.Cells.now g.D.Cells.images g.D.Cells.firm g.D.Cells.count g.P.Cells.honest g.P.Cells.now g.P.Cells.images g.P.Cells.firm g.P.Cells.count (call.Take c.args.w) (answer.Took (Err NoMemory)) _ _ true _ _
    (ap (past_of (g.M.Handling.meaning c.self.inside.handlers)) c.in_ok-begin.ensures.room) c.self.invariant.legal (refl, c.in_ok-begin.ensures.begins))

pub invariant_of-self-in_err-insert : goal.invariant_of-self-in_err-insert
invariant_of-self-in_err-insert g c =
    let m = g.M.Handling.meaning c.self.inside.handlers in
    kept_same _ _ _ _ _ _ _ _ _ (kept_room (past_of m c.self.inside.ledger) _ true _ _ _ _ _ (ap (past_of m) c.in_ok-begin.ensures.room) c.self.invariant)
    (held_with _ _ _ _ _ _ _ _ _ _ refl c.in_err-insert.ensures.err refl) refl refl

pub returns-in_err-insert : goal.returns-in_err-insert
returns-in_err-insert g c =
    let e = err_from_is_err_and c.from_residual-in_err-insert.result c.from_residual-in_err-insert.ensures.1 in
    rw (e.1, e.2, sym c.self.view_is)
    (served_quietly g.D.Cells.honest g.D.Cells.now g.D.Cells.images g.D.Cells.firm g.D.Cells.count g.P.Cells.honest g.P.Cells.now g.P.Cells.images g.P.Cells.firm g.P.Cells.count (call.Take c.args.w) (answer.Took (Err NoMemory)) _ _ true _ _
    (ap (past_of (g.M.Handling.meaning c.self.inside.handlers)) c.in_ok-begin.ensures.room) c.self.invariant.legal (refl, c.in_ok-begin.ensures.begins))

pub hold-requires : goal.hold-requires
hold-requires g c = c.in-Some.ensures.free.0

pub note_take-requires-clause-turn : goal.note_take-requires-clause-turn
note_take-requires-clause-turn g c = has_turn c.begin.new.self c.is_spent.result c.is_spent.ensures c.if-is_spent.false

-- it is taken
pub invariant_of-self-2 : goal.invariant_of-self-2
invariant_of-self-2 g c =
    let m = g.M.Handling.meaning c.self.inside.handlers in
    let p = past_of m c.self.inside.ledger in
    let k = c.self.invariant in
    let st = standing_of p k.means k.legal in
    let n = c.in-Some.number in
    let ready = subst (λ v. Ready (call.Take c.args.w) (seen (past_of (g.M.Handling.meaning v.handlers) v.course))) (sym c.self.view_is) c.requires in
    let least = least_is p _ _ _ _ _ k c.least_free.ensures.indexed n c.in-Some.ensures.free in
    let turn = subst (λ (x : Course). takes x.events < x.turns) c.in_ok-begin.ensures.room (has_turn c.begin.new.self c.is_spent.result c.is_spent.ensures c.if-is_spent.false) in
    let comes = take_comes p _ k.state st c.args.w n c.in_ok-begin.ensures.begins ready turn least in
    let phases = c.in_ok-insert.ensures.ok ∙ ap (λ (v : ℕ). map.insert c.self.inside.phases v (Held n)) c.from.ensures ∙ is_held c.self.inside.phases c.args.w n in
    let count = ap (λ (x : Post g.row.P.Denot). g.P.Cells.count x.cells) c.hold.ensures.post in
    kept p _ _ (Take c.args.w) _ (ap (past_of m) c.in_ok-begin.ensures.room) (ap (past_of m) c.note_take.ensures) k.legal comes
    _ _ _ _ _ _ _ _ _ _ k refl (held_with _ _ _ _ _ _ _ _ _ _ (ap (λ (x : Post g.row.P.Denot). x.queues) c.hold.ensures.post) phases refl) c.hold.ensures.own
    (held_now _ _ _ _ c.args.w n (then_at p _ k.state st c.args.w Idle ready.1) c.in-Some.ensures.free.0 phases c.hold.ensures.ready k.held) k.short (omega arith) (omega (arith, count))

pub returns : goal.returns
returns g c =
    let m = g.M.Handling.meaning c.self.inside.handlers in
    let p = past_of m c.self.inside.ledger in
    let k = c.self.invariant in
    let st = standing_of p k.means k.legal in
    let n = c.in-Some.number in
    let ready = subst (λ v. Ready (call.Take c.args.w) (seen (past_of (g.M.Handling.meaning v.handlers) v.course))) (sym c.self.view_is) c.requires in
    let least = least_is p _ _ _ _ _ k c.least_free.ensures.indexed n c.in-Some.ensures.free in
    let turn = subst (λ (x : Course). takes x.events < x.turns) c.in_ok-begin.ensures.room (has_turn c.begin.new.self c.is_spent.result c.is_spent.ensures c.if-is_spent.false) in
    let comes = take_comes p _ k.state st c.args.w n c.in_ok-begin.ensures.begins ready turn least in
    let taken = taken_is p _ k.state st n c.unwrap.result.now c.in_ok-envelope.envelope least (sym c.entry.ensures ∙ ap option_copied c.unwrap.ensures) c.in_ok-envelope.ensures in
    let post = ap (λ (x : Post g.row.P.Denot). x.cells) c.hold.ensures.post in
    rw (sym c.self.view_is, post)
    (served_alone g.D.Cells.honest g.D.Cells.now g.D.Cells.images g.D.Cells.firm g.D.Cells.count g.P.Cells.honest g.P.Cells.now g.P.Cells.images g.P.Cells.firm g.P.Cells.count (call.Take c.args.w) (answer.Took (Ok (Got c.in_ok-envelope.envelope))) p _ _ _ _ (Take c.args.w) k.state
    (ap (past_of m) c.in_ok-begin.ensures.room) (ap (past_of m) c.note_take.ensures) k.legal comes refl (refl, turn, taken) _ _ refl refl)
