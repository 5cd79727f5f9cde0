use Rattle.std.proofs.Common.{inl, inr}
use Rattle.sqlite.specs.Held.{state}
use Rattle.std.proofs.lemmas.Bool.{cases_Bool}
use Rattle.nb_sql.proofs.ChangeLemmas.{keeps, erases, ended_keeps, ended_ok}
use Rattle.nb_sql.proofs.write.erase_one.Goals as goal

pub returns-clause-ok : goal.returns-clause-ok
returns-clause-ok g c m clean sees =
    let old = state g.S.Store c.args.tx.now.conn.now in
    let new = state g.S.Store c.execute.new.self.conn.now in
    elim (cases_Bool old.in_transaction) [
      | inl on ↦ let ran = rw (c.params-to_sql.ensures, c.params-to_sql-2.ensures, c.from.ensures) at (c.execute.ensures.runs clean on) in erases old new m c.args.space c.args.key.now c.execute.result sees ran
      | inr off ↦ ended_ok c.execute.result _ (c.execute.ensures.ended off).0
    ]

pub returns-clause-kept : goal.returns-clause-kept
returns-clause-kept g c clean =
    let old = state g.S.Store c.args.tx.now.conn.now in
    let new = state g.S.Store c.execute.new.self.conn.now in
    elim (cases_Bool old.in_transaction) [
      | inl on ↦ keeps old new _ _ c.execute.result (c.execute.ensures.runs clean on)
      | inr off ↦ ended_keeps g.S.Store c.args.tx.now.conn.now c.execute.new.self.conn.now (c.execute.ensures.ended off).1
    ]
