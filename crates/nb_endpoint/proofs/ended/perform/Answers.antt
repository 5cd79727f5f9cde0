use Rattle.std.proofs.Common.{sym, ap, subst, refl}
use Rattle.nb_endpoint.specs.Asked.{asked_by}
use Rattle.nb_endpoint.specs.Left.{RefusesBase, RefusesPost}
use Rattle.nb_endpoint.specs.declared.lent.Lent.{Lent}
use Rattle.nb_endpoint.specs.declared.status.Status.{Status}
use Rattle.nb_endpoint.proofs.Starting.{started_new, refused_base, refused_post}
use Rattle.nb_eval.specs.Meanings.{meaning_of}
use Rattle.nb_script.specs.Tree.{script}
use Rattle.nb_endpoint.proofs.ended.perform.Goals as goal

pub returns-in-Ok-clause-begins : goal.returns-in-Ok-clause-begins
returns-in-Ok-clause-begins g c =
    let k = c.in-Ok.hub.course in
    let new = started_new c.args.job (record { messages = c.args.job.messages; moment = c.args.job.moment; until = c.plus.result }) (meaning_of (script c.in-Ok.hub.handlers.handlers.now.checked)) k
    k.opening.tables k.opening.post (g.D.Cells.count c.in-Ok.hub.base) (g.P.Cells.count c.in-Ok.hub.post)
    (ap (λ (l : Lent). meaning_of (script l.handlers.now.checked)) c.in-Ok.ensures.handlers) c.in-Ok.ensures.course refl c.plus.ensures c.requires.some c.requires.built in
    (c.finish-worked.ensures.finished (asked_by c.args.job) new).begins

pub returns-in-Ok-clause-follows : goal.returns-in-Ok-clause-follows
returns-in-Ok-clause-follows g c =
    let k = c.in-Ok.hub.course in
    let new = started_new c.args.job (record { messages = c.args.job.messages; moment = c.args.job.moment; until = c.plus.result }) (meaning_of (script c.in-Ok.hub.handlers.handlers.now.checked)) k
    k.opening.tables k.opening.post (g.D.Cells.count c.in-Ok.hub.base) (g.P.Cells.count c.in-Ok.hub.post)
    (ap (λ (l : Lent). meaning_of (script l.handlers.now.checked)) c.in-Ok.ensures.handlers) c.in-Ok.ensures.course refl c.plus.ensures c.requires.some c.requires.built in
    (c.finish-worked.ensures.finished (asked_by c.args.job) new).follows

pub returns-in-Ok-clause-shows : goal.returns-in-Ok-clause-shows
returns-in-Ok-clause-shows g c =
    let k = c.in-Ok.hub.course in
    let new = started_new c.args.job (record { messages = c.args.job.messages; moment = c.args.job.moment; until = c.plus.result }) (meaning_of (script c.in-Ok.hub.handlers.handlers.now.checked)) k
    k.opening.tables k.opening.post (g.D.Cells.count c.in-Ok.hub.base) (g.P.Cells.count c.in-Ok.hub.post)
    (ap (λ (l : Lent). meaning_of (script l.handlers.now.checked)) c.in-Ok.ensures.handlers) c.in-Ok.ensures.course refl c.plus.ensures c.requires.some c.requires.built in
    (c.finish-worked.ensures.finished (asked_by c.args.job) new).shows

pub returns-in-Ok-clause-prints : goal.returns-in-Ok-clause-prints
returns-in-Ok-clause-prints g c =
    let k = c.in-Ok.hub.course in
    let new = started_new c.args.job (record { messages = c.args.job.messages; moment = c.args.job.moment; until = c.plus.result }) (meaning_of (script c.in-Ok.hub.handlers.handlers.now.checked)) k
    k.opening.tables k.opening.post (g.D.Cells.count c.in-Ok.hub.base) (g.P.Cells.count c.in-Ok.hub.post)
    (ap (λ (l : Lent). meaning_of (script l.handlers.now.checked)) c.in-Ok.ensures.handlers) c.in-Ok.ensures.course refl c.plus.ensures c.requires.some c.requires.built in
    (c.finish-worked.ensures.finished (asked_by c.args.job) new).prints

pub returns-clause-base_damage : goal.returns-clause-base_damage
returns-clause-base_damage g c = λ m none told.
    let meaning = meaning_of (script c.args.job.handlers.checked) in
    subst (λ (s : Status). RefusesBase meaning m s) (sym c.of_start.ensures) (refused_base meaning m c.in-Err.field-0.fault (c.in-Err.ensures.base_refused m told))

pub returns-clause-post_damage : goal.returns-clause-post_damage
returns-clause-post_damage g c = λ m none told.
    subst (λ (s : Status). RefusesPost m s) (sym c.of_start.ensures) (refused_post m c.in-Err.field-0.fault (c.in-Err.ensures.post_refused m told))
