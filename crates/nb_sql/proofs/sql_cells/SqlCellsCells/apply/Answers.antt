use Rattle.std.proofs.Common.{rules, ◌≡◌, inl, inr, sym, subst, []}
use Rattle.nb_cells.specs.Cells.{AreAlike, changed}
use Rattle.nb_sql.specs.Laws.{shows_one}
use Rattle.nb_sql.proofs.sql_cells.SqlCellsCells.apply.Goals as goal

pub returns-then-is_empty-clause-ok_images : goal.returns-then-is_empty-clause-ok_images
returns-then-is_empty-clause-ok_images g c m n clean firm tells image =
    let none : c.args.changes.now ≡ [] = search rules in
    subst (λ cs. AreAlike n (changed cs m)) (sym none) (let held = tells.images image.0 image.1 in shows_one (image.0 0) n m (image.2 held.sound) held.shows)

pub returns-in-Ok-clause-ok_images : goal.returns-in-Ok-clause-ok_images
returns-in-Ok-clause-ok_images g c m n clean firm tells image =
    let new = rw c.as_slice.ensures at (c.in-Ok.ensures.ok m clean tells) in
    let held = new.images image.0 image.1 in
    shows_one (image.0 0) n (changed c.args.changes.now m) (image.2 held.sound) held.shows

pub returns-in-Err-Inside-clause-no_memory : goal.returns-in-Err-Inside-clause-no_memory
returns-in-Err-Inside-clause-no_memory g c m clean firm tells is =
    let same = c.refuse.ensures.same.0 in
    rw same (c.apply_all-applied.ensures.inside m c.in-Err-Inside.error (rw same at clean) tells (search rules))

pub returns-in-Err-Inside-clause-no_memory_images : goal.returns-in-Err-Inside-clause-no_memory_images
returns-in-Err-Inside-clause-no_memory_images g c n clean is image =
    let same = c.refuse.ensures.same.0 in
    c.apply_all-applied.ensures.inside_images n c.in-Err-Inside.error (rw same at clean) (search rules) (rw same at image)

pub returns-in-Err-Inside-clause-failed : goal.returns-in-Err-Inside-clause-failed
returns-in-Err-Inside-clause-failed g c m clean firm tells is late =
    let same = c.refuse.ensures.same.0 in
    rw same (c.apply_all-applied.ensures.inside m c.in-Err-Inside.error (rw same at clean) tells (search rules))

pub returns-in-Err-Inside-clause-failed_images : goal.returns-in-Err-Inside-clause-failed_images
returns-in-Err-Inside-clause-failed_images g c m n clean firm tells is image =
    let same = c.refuse.ensures.same.0 in
    inl (c.apply_all-applied.ensures.inside_images n c.in-Err-Inside.error (rw same at clean) (search rules) (rw same at image))

pub returns-in-Err-Commit-clause-failed : goal.returns-in-Err-Commit-clause-failed
returns-in-Err-Commit-clause-failed g c m clean firm tells is late =
    let same = c.doubt.ensures.same.0 in
    elim late [
      | inl settled ↦ absurd (let doubted = c.doubt.ensures.same.1 in cc)
      | inr lasting ↦ rw same (c.apply_all-applied.ensures.commit m c.in-Err-Commit.field-0-0 (rw same at clean) tells (search rules) (lasting c.apply_all-applied.new.conn.store))
    ]

pub returns-in-Err-Commit-clause-failed_images : goal.returns-in-Err-Commit-clause-failed_images
returns-in-Err-Commit-clause-failed_images g c m n clean firm tells is image =
    let same = c.doubt.ensures.same.0 in
    rw (c.in-Err-Commit.is, c.as_slice.ensures) at (c.apply_all-applied.ensures.images m n (rw same at clean) tells (rw same at image))
