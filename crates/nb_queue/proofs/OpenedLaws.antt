-- A post that was loaded from the cells of a store has these cells.
use Rattle.std.specs.Prelude.{◌≡◌, ◌≢◌, ◌⊎◌, ◌==◌, ℕ, ◌<◌, ◌≤◌, ◌^◌, List, [], ◌∷◌, Bool, true, false, cond, Contains, Option, Some, None, IsSome, option_map, refl}
use Rattle.std.proofs.Common.{◌∙◌, inl, inr, sym, ap, subst, arith, true≢false, eqb-true, eq-eqb}
use Rattle.std.proofs.lemmas.List.Elements.{All-contains, Contains-push_cases}
use Rattle.std.specs.FinMap as map
use Rattle.nb_base.specs.Orders.{ByNumber}
use Rattle.nb_base.specs.declared.tables.PostState.{PostState}
use Rattle.nb_base.specs.declared.tables.Queued.{Queued}
use Rattle.nb_cells.specs.Cells.{CellMap, IsSpace, Scans}
use Rattle.nb_cells.specs.declared.cell.Cell.{Cell}
use Rattle.nb_envelope.specs.Spelling.{spelled_u64}
use Rattle.nb_queue.specs.Maps.{number_of, entry_bytes, next_bytes, cells_of, HasCells}
use Rattle.nb_queue.specs.Opening.{TellsNext, AreLoaded, AreScans, IsOpened}
use Rattle.nb_queue.specs.Spelled.{spelled_entry, spelled_next}
use Rattle.nb_queue.specs.Stands.{IsPost}
use Rattle.nb_queue.proofs.CellLaws.{under}
use Rattle.nb_queue.proofs.FormatLaws.{number_of-spelled, spelled-number_of}
use Rattle.nb_queue.proofs.OpeningLaws.{nowhere}

pub post_opened : (p : PostState) (a b c d : List Cell) → IsOpened p a b c d → IsPost p
post_opened p a b c d opened = record {
  sound = record {
    from = range.0;
    to = range.1;
    entries = λ n e has.
        let cell = (opened.loaded.only n e has).2 in
        record { from = cell.from; below = cell.below; queue = cell.spelled.named; id = cell.spelled.envelope.message.id };
  };
  spelled = λ n e has. (opened.loaded.only n e has).2.spelled;
}
  where
    range : (1 ≤ p.next) × (p.next ≤ 2 ^ 62)
    range = elim opened.tells [
      | inl none ↦ let one = none.1 in (omega arith, omega arith)
      | inr some ↦ let from = some.2.from in let to = some.2.to in (omega arith, omega arith)
    ]

none_if : (o : Option (List ℕ)) → ((b : List ℕ) → o ≡ Some b → ⊥) → o ≡ None
none_if None h = refl
none_if (Some b) h = absurd (h b refl)

-- a space whose scan is empty has no cells
pub none_in : (m : CellMap) (space : ℕ) (cells : List Cell) → Scans m space cells → cells ≡ [] → (key : List ℕ) → m space key ≡ None
none_in m space cells scans none key = none_if (m space key) (λ b is. nowhere _ (subst (λ xs. Contains xs (record { space = space; key = key; bytes = b })) none (scans.complete key b is)))

-- what the map has where the scan has a cell
pub told_at : (m : CellMap) (space : ℕ) (cells : List Cell) → Scans m space cells → (c : Cell) → Contains cells c → m space c.key ≡ Some c.bytes
told_at m space cells scans c has = (All-contains (λ c. (c.space ≡ space) × (m space c.key ≡ Some c.bytes)) cells c scans.sound has).1

not_one : (n : ℕ) → 2 ≤ n → (n == 1) ≡ false
not_one n le = go (n == 1) refl
  where
    go : (b : Bool) → (n == 1) ≡ b → (n == 1) ≡ false
    go true e = absurd (let one = eqb-true n 1 e in omega arith)
    go false e = e

pub next_told : (m : CellMap) (next : ℕ) (cells : List Cell) → Scans m 1 cells → TellsNext cells next → (key : List ℕ) → m 1 key ≡ next_bytes next key
next_told m next cells scans (inl none) [] = none_in m 1 cells scans none.0 [] ∙ sym (ap (λ n. cond (n == 1) None (Some (spelled_next n))) none.1)
next_told m next cells scans (inl none) (b ∷ key) = none_in m 1 cells scans none.0 (b ∷ key)
next_told m next cells scans (inr some) [] =
    let has : Contains cells some.0 = subst (λ xs. Contains xs some.0) (sym some.1) (0, omega arith, refl) in
    ap (m 1) (sym some.2.key_is) ∙ told_at m 1 cells scans some.0 has ∙ ap Some some.2.bytes_are ∙ sym (ap (λ t. cond t None (Some (spelled_next next))) (not_one next some.2.from))
next_told m next cells scans (inr some) (b ∷ key) =
    none_if (m 1 (b ∷ key)) (λ bytes is.
    elim (Contains-push_cases [] some.0 _ (subst (λ xs. Contains xs (record { space = 1; key = b ∷ key; bytes = bytes })) some.1 (scans.complete (b ∷ key) bytes is))) [
      | inl none ↦ nowhere _ none
      | inr here ↦ let empty : b ∷ key ≡ [] = sym (ap (λ c. c.key) here) ∙ some.2.key_is in cc
    ])

pub absent : (o : Option (List ℕ)) (b : List ℕ) → o ≡ None → o ≡ Some b → ⊥
absent o b e f = cc

found : (o : Option Queued) → IsSome o → (e : Queued) × (o ≡ Some e)
found None h = absurd (true≢false (sym h))
found (Some e) h = (e, refl)

entries_told : (m : CellMap) (next : ℕ) (entries : ByNumber Queued) (cells : List Cell) → next ≤ 2 ^ 62 → Scans m 2 cells → AreLoaded next entries cells → (key : List ℕ) → m 2 key ≡ entry_bytes entries key
entries_told m next entries cells few scans loaded key = go (m 2 key) refl
  where
    -- the cell of the entry under a number
    there : (number : ℕ) (e : Queued) → map.get entries number ≡ Some e → (m 2 (spelled_u64 number) ≡ Some (spelled_entry e)) × (number < 2 ^ 64)
    there number e is =
        let cell = loaded.only number e is in
        let below = cell.2.below in
        (ap (m 2) (sym cell.2.key_is) ∙ told_at m 2 cells scans cell.0 cell.1 ∙ ap Some cell.2.bytes_are, omega arith)

    missing : (o : Option ℕ) → number_of key ≡ o → m 2 key ≡ None → (r : Option Queued) → (n : ℕ) → o ≡ Some n → map.get entries n ≡ r → None ≡ option_map spelled_entry r
    missing o spells none None n is at = refl
    missing o spells none (Some e) n is at = absurd (absent (m 2 key) (spelled_entry e) none (ap (m 2) (spelled-number_of key n (spells ∙ is)) ∙ (there n e at).0))

    spelled_by : (o : Option ℕ) → number_of key ≡ o → m 2 key ≡ None → None ≡ under entries o
    spelled_by None spells none = refl
    spelled_by (Some n) spells none = missing (Some n) spells none (map.get entries n) n refl refl

    go : (o : Option (List ℕ)) → m 2 key ≡ o → m 2 key ≡ entry_bytes entries key
    go None is = is ∙ spelled_by (number_of key) refl is
    go (Some b) is =
        let cell = loaded.each _ (scans.complete key b is) in
        let entry = found (map.get entries cell.0) cell.3 in
        let at = there cell.0 entry.0 entry.1 in
        let spells : key ≡ spelled_u64 cell.0 = cell.2.key_is in
        ap (m 2) spells ∙ at.0 ∙ sym (ap (λ k. under entries (number_of k)) spells ∙ ap (under entries) (number_of-spelled cell.0 at.1) ∙ ap (option_map spelled_entry) entry.1)

-- a space is one of the four, or none
by_space : (space : ℕ) → (space ≡ 1) ⊎ ((space ≡ 2) ⊎ ((space ≢ 1) × (space ≢ 2)))
by_space space = go (space == 1) (space == 2) refl refl
  where
    go : (a b : Bool) → (space == 1) ≡ a → (space == 2) ≡ b → (space ≡ 1) ⊎ ((space ≡ 2) ⊎ ((space ≢ 1) × (space ≢ 2)))
    go true b one two = inl (eqb-true space 1 one)
    go false true one two = inr (inl (eqb-true space 2 two))
    go false false one two = inr (inr ((λ e. true≢false (sym (eq-eqb space 1 e) ∙ one)), (λ e. true≢false (sym (eq-eqb space 2 e) ∙ two))))

three_or_four : (space : ℕ) → IsSpace space → space ≢ 1 → space ≢ 2 → (space ≡ 3) ⊎ (space ≡ 4)
three_or_four space is one two = go (space == 3) refl
  where
    go : (b : Bool) → (space == 3) ≡ b → (space ≡ 3) ⊎ (space ≡ 4)
    go true e = inl (eqb-true space 3 e)
    go false e = inr (let other : space ≢ 3 = λ x. true≢false (sym (eq-eqb space 3 x) ∙ e) in omega (arith, is.0, is.1))

no_space : (p : PostState) (space : ℕ) (key : List ℕ) → space ≢ 1 → space ≢ 2 → cells_of p space key ≡ None
no_space p space key one two = go (space == 1) (space == 2) refl refl
  where
    go : (a b : Bool) → (space == 1) ≡ a → (space == 2) ≡ b → cond (space == 1) (next_bytes p.next key) (cond (space == 2) (entry_bytes p.entries key) None) ≡ None
    go true b e f = absurd (one (eqb-true space 1 e))
    go false true e f = absurd (two (eqb-true space 2 f))
    go false false e f = rw (e, f) refl

pub opened_cells : (m : CellMap) (p : PostState) (a b c d : List Cell) → AreScans m a b c d → IsOpened p a b c d → HasCells m p
opened_cells m p a b c d scans opened space key is =
    elim (by_space space) [
      | inl one ↦ subst (λ s. m s key ≡ cells_of p s key) (sym one) (next_told m p.next a scans.first opened.tells key)
      | inr (inl two) ↦ subst (λ s. m s key ≡ cells_of p s key) (sym two) (entries_told m p.next p.entries b ((post_opened p a b c d opened).sound.to) scans.second opened.loaded key)
      | inr (inr other) ↦
          elim (three_or_four space is other.0 other.1) [
            | inl three ↦ subst (λ s. m s key ≡ None) (sym three) (none_in m 3 c scans.third_is opened.none_third key) ∙ sym (no_space p space key other.0 other.1)
            | inr four ↦ subst (λ s. m s key ≡ None) (sym four) (none_in m 4 d scans.fourth_is opened.none_fourth key) ∙ sym (no_space p space key other.0 other.1)
          ]
    ]
