use Rattle.std.proofs.Common.{◌≡◌, inl, inr, rules, arith, sym, subst}
use Rattle.sqlite.specs.Tree.{Trees}
use Rattle.nb_cells.specs.Cells.{changed}
use Rattle.nb_sql.specs.Held.{Tells, IsImage}
use Rattle.sqlite.specs.State.{HasCleanDisk}
use Rattle.sqlite.specs.Held.{state}
use Rattle.sqlite.proofs.StateLemmas.{survives_then}
use Rattle.sqlite.proofs.Callers.{survives_begin}
use Rattle.nb_sql.proofs.ChangeLemmas.{sees_begun, told_committed, held_by}
use Rattle.nb_sql.specs.Laws.{shows_one}
use Rattle.nb_sql.proofs.ReadLemmas.{told_refused}
use Rattle.nb_sql.proofs.write.apply_all.Goals as goal

pub returns-in-Err-commit-clause-images : goal.returns-in-Err-commit-clause-images
returns-in-Err-commit-clause-images g c m n clean tells image =
    let old = c.args.conn.now in
    let last = state g.S.Store c.change_all.new.tx.conn.now in
    let exit = state g.S.Store c.commit.new.self.0 in
    let begun = c.transaction-tx.ensures.begun in
    let same : c.commit.new.self.0 ≡ c.conn-2-1.given.0 = search rules in
    let late : HasCleanDisk exit = rw same clean in
    let there : IsImage exit n = rw same image in
    let early : HasCleanDisk last = omega (arith, c.commit.ensures.survives.clean) in
    let sees = sees_begun g.S.Store g.met.S.Store.stays old m tells in
    let ended = c.in_default.ensures.ok m early (rw begun sees) in
    let opened = c.in_default.ensures.some m early (rw begun sees) c.requires.some in
    let whole = survives_then (state g.S.Store old) last exit _ _ (λ db. db ≡ last.now.trees) (λ _ db none. absurd none) (λ _ db is. is)
    (survives_begin g.S.Store old last _ (rw begun at c.change_all.ensures.survives)) c.commit.ensures.survives in
    elim (whole.crash late there.0 there.1) [
      | inl before ↦ inl (there.0, before, there.2)
      | inr new ↦ let seen = ended opened.0 in
          let held = held_by last.now there.0 (changed c.args.changes.now m) seen.schema seen.sound new seen.shows in
          inr (shows_one (there.0 0) n (changed c.args.changes.now m) (there.2 held.sound) held.shows)
    ]

pub returns-in-Err-clause-images : goal.returns-in-Err-clause-images
returns-in-Err-clause-images g c m n clean tells image =
    let old = c.args.conn.now in
    let last = state g.S.Store c.change_all.new.tx.conn.now in
    let exit = state g.S.Store c.drop-tx.new.self.0 in
    let begun = c.transaction-tx.ensures.begun in
    let same : c.drop-tx.new.self.0 ≡ c.conn-1.given.0 = search rules in
    let late : HasCleanDisk exit = rw same clean in
    let there : IsImage exit n = rw same image in
    let whole = survives_then (state g.S.Store old) last exit _ _ (λ db. ⊥) (λ _ db none. none) (λ _ db none. none)
    (survives_begin g.S.Store old last _ (rw begun at c.change_all.ensures.survives)) c.drop-tx.ensures.survives in
    elim (whole.crash late there.0 there.1) [
      | inl before ↦ inl (there.0, before, there.2)
      | inr none ↦ absurd none
    ]

pub returns-in-Ok-clause-ok : goal.returns-in-Ok-clause-ok
returns-in-Ok-clause-ok g c m clean tells =
    let old = c.args.conn.now in
    let last = state g.S.Store c.change_all.new.tx.conn.now in
    let end = c.commit.new.self.0 in
    let begun = c.transaction-tx.ensures.begun in
    let same : c.commit.new.self.0 ≡ c.conn-2-1.given.0 = search rules in
    let late : HasCleanDisk (state g.S.Store end) = rw same clean in
    let early : HasCleanDisk last = omega (arith, c.commit.ensures.survives.clean) in
    let sees = sees_begun g.S.Store g.met.S.Store.stays old m tells in
    let ended = c.in_default.ensures.ok m early (rw begun sees) in
    let shown = (c.in-Ok.ensures.ok late).1 in
    subst (λ h. Tells (state g.S.Store h) (changed c.args.changes.now m)) same (told_committed g.S.Store g.met.S.Store.settled last end (changed c.args.changes.now m) shown ended)

pub returns-in-Err-commit-clause-commit : goal.returns-in-Err-commit-clause-commit
returns-in-Err-commit-clause-commit g c m e clean tells is opened =
    let old = c.args.conn.now in
    let last = state g.S.Store c.change_all.new.tx.conn.now in
    let end = c.commit.new.self.0 in
    let begun = c.transaction-tx.ensures.begun in
    let same : c.commit.new.self.0 ≡ c.conn-2-1.given.0 = search rules in
    let late : HasCleanDisk (state g.S.Store end) = rw same clean in
    let early : HasCleanDisk last = omega (arith, c.commit.ensures.survives.clean) in
    let sees = sees_begun g.S.Store g.met.S.Store.stays old m tells in
    let running = c.in_default.ensures.some m early (rw begun sees) c.requires.some in
    let kept = rw begun at (c.change_all.ensures.kept early) in
    let told = told_refused g.S.Store g.met.S.Store.settled g.met.S.Store.stays old last end m c.in-Err-commit.error tells (record { was_open = kept.was_open; committed = kept.committed }) running.1 (c.in-Err-commit.ensures.err late) (rw same opened) in
    subst (λ h. Tells (state g.S.Store h) m) same told
