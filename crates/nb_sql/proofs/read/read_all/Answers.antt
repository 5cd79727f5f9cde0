use Rattle.std.proofs.Common.{◌≡◌, rules, refl, subst, true, arith}
use Rattle.nb_sql.specs.Held.{Tells}
use Rattle.sqlite.specs.State.{HasCleanDisk}
use Rattle.sqlite.specs.Held.{state}
use Rattle.sqlite.specs.Values.{bound}
use Rattle.sqlite.proofs.StateLemmas.{survives_then}
use Rattle.sqlite.proofs.Callers.{survives_begin}
use Rattle.nb_sql.proofs.ReadLemmas.{told_after, query_keeps, query_reads}
use Rattle.nb_sql.proofs.read.read_all.Goals as goal

pub returns-clause-same : goal.returns-clause-same
returns-clause-same g c m clean tells =
    let old = c.args.conn.now in
    let last = state g.S.Store c.query_all.new.self.conn.now in
    let end = state g.S.Store c.drop-tx.new.self.0 in
    let begun = c.transaction-tx.ensures.begun in
    let same : c.drop-tx.new.self.0 ≡ c.conn-1.given.0 = search rules in
    let late : HasCleanDisk end = rw same clean in
    let early : HasCleanDisk last = omega (arith, c.drop-tx.ensures.survives.clean) in
    let kept = query_keeps (state g.S.Store (record old { in_transaction = true })) last c.args.sql.now (bound c.args.params.now) c.query_all.result refl (rw begun at (c.query_all.ensures.ok early)) (rw begun at (c.query_all.ensures.err early)) in
    let whole = survives_then (state g.S.Store old) last end _ _ (λ db. ⊥) (λ _ db none. none) (λ _ db none. none)
    (survives_begin g.S.Store old last _ (rw begun at c.query_all.ensures.survives)) c.drop-tx.ensures.survives in
    subst (λ h. Tells (state g.S.Store h) m) same (told_after (state g.S.Store old) last end m tells (record { was_open = kept.was_open; committed = kept.committed }) (c.drop-tx.ensures.undone late) whole late)

pub returns-clause-ok : goal.returns-clause-ok
returns-clause-ok g c m clean tells =
    let old = c.args.conn.now in
    let last = state g.S.Store c.query_all.new.self.conn.now in
    let end = state g.S.Store c.drop-tx.new.self.0 in
    let begun = c.transaction-tx.ensures.begun in
    let same : c.drop-tx.new.self.0 ≡ c.conn-1.given.0 = search rules in
    let late : HasCleanDisk end = rw same clean in
    let early : HasCleanDisk last = omega (arith, c.drop-tx.ensures.survives.clean) in
    query_reads (state g.S.Store (record old { in_transaction = true })) last c.args.sql.now (bound c.args.params.now) c.query_all.result refl c.requires.plain c.requires.unlisted (λ opened. (tells.ready opened).schema) (rw begun at (c.query_all.ensures.ok early))
