-- Changes of cells, and the tables whose cells they change.
use Rattle.std.specs.Prelude.{◌≡◌, ◌==◌, ℕ, List, [], ◌∷◌, Bool, true, false, cond, bytes_eq, None, refl}
use Rattle.std.proofs.Common.{◌∙◌, ap, sym, subst, arith}
use Rattle.std.specs.List.{IsDistinct}
use Rattle.std.specs.FinMap as map
use Rattle.std.proofs.lemmas.List.Elements.{All-nil, All-cons}
use Rattle.nb_base.proofs.Maps.{names}
use Rattle.nb_base.specs.declared.tables.Tables.{Tables}
use Rattle.nb_cells.specs.Cells.{CellMap, IsSpace, AreInSpaces, AreDistinct, space_of, changed}
use Rattle.nb_cells.specs.declared.change.Change.{Change}
use Rattle.nb_cells.specs.declared.change.Change.TheVariants.{Erase}
use Rattle.nb_outbox.specs.Spelled.{spelled_record}
use Rattle.nb_saga_store.proofs.MapLaws.{IsAlone, spelled-remove}
use Rattle.nb_store.specs.Applied.{Leads}
use Rattle.nb_store.specs.Calls.{purged}
use Rattle.nb_store.specs.CellMaps.{cells}

pub one_in_space : (c : Change) → IsSpace (space_of c) → AreInSpaces (c ∷ [])
one_in_space c is = All-cons (λ c. IsSpace (space_of c)) c [] is (All-nil (λ c. IsSpace (space_of c)))

pub one_is_distinct : (c : Change) → AreDistinct (c ∷ [])
unfolding IsDistinct
one_is_distinct c = (tt, tt)

pub alone_id : {V : Type 0} (id : List ℕ) (es : List (List ℕ × V)) → IsAlone names (λ n. n) id es
alone_id id [] = tt
alone_id id (e ∷ es) = (λ same. same, alone_id id es)

-- ---- a record that goes

purge_at : (id : List ℕ) (t : Tables) (m : CellMap) (four : Bool) (space : ℕ) (key : List ℕ) → (space == 4) ≡ four → (four ≡ true → space ≡ 4) → m space key ≡ cells t space key
    → changed (Erase 4 id ∷ []) m space key ≡ cells (purged t id) space key
purge_at id t m true space key is at has =
    let here = at refl in
    subst (λ s. changed (Erase 4 id ∷ []) m s key ≡ cells (purged t id) s key) (sym here)
    (ap (cond (bytes_eq key id) None) (subst (λ s. m s key ≡ cells t s key) here has) ∙ sym (spelled-remove names (λ n. n) spelled_record t.outbox id (alone_id id (map.entries t.outbox)) key))
purge_at id t m false space key is at has = rw is (has ∙ rw is refl)

pub purge_leads : (id : List ℕ) (t : Tables) → Leads (Erase 4 id ∷ []) t (purged t id)
purge_leads id t m has space key is = purge_at id t m (space == 4) space key refl (four space) (has space key is)
  where
    four : (s : ℕ) → (s == 4) ≡ true → s ≡ 4
    four s e = grind (arith, e)
