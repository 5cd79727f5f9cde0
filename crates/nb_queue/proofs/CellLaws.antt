-- What changes of the post make of its cells.
use Rattle.std.specs.Prelude.{◌≡◌, ◌==◌, ℕ, ◌+◌, ◌<◌, ◌≤◌, List, [], ◌∷◌, Bool, true, false, cond, ◌&&◌, bytes_eq, Option, Some, None, option_map, refl}
use Rattle.std.proofs.Common.{◌∙◌, ◌⊎◌, inl, inr, sym, ap, subst, arith, true≢false, eqb-true}
use Rattle.std.specs.FinMap as map
use Rattle.std.specs.Cmp.Lexicographic.{bytes_decides}
use Rattle.nb_base.proofs.Maps.{numbers, at_same, at_other, gone, kept}
use Rattle.nb_base.specs.Orders.{ByNumber}
use Rattle.nb_base.specs.declared.tables.PostState.{PostState}
use Rattle.nb_base.specs.declared.tables.Queued.{Queued}
use Rattle.nb_cells.specs.Cells.{CellMap, changed, with_change, AreAlike}
use Rattle.nb_cells.specs.declared.change.Change.{Change}
use Rattle.nb_cells.specs.declared.change.Change.TheVariants.{Put, Erase}
use Rattle.nb_envelope.specs.Cells.{◌>>=◌}
use Rattle.nb_envelope.specs.Spelling.{spelled_u64}
use Rattle.nb_queue.specs.Spelled.{spelled_entry, spelled_next, IsNumber}
use Rattle.nb_queue.specs.Applied.{Leads}
use Rattle.nb_queue.specs.Maps.{number_of, entry_bytes, next_bytes, cells_of}
use Rattle.nb_queue.specs.Stands.{with_entry, without_entry, in_place}
use Rattle.nb_queue.specs.Changes.{change_of_entry, change_of_next, change_of_removal}
use Rattle.nb_queue.proofs.FormatLaws.{number_of-spelled, spelled-number_of}

-- maps that are alike are equal
same_cells : (m n : CellMap) → AreAlike m n → m ≡ n
same_cells m n alike = λ i space key. alike space key i

-- the bytes under a number that the key may spell
abbrev pub under : ByNumber Queued → Option ℕ → Option (List ℕ)
under entries o = o >>= λ n. option_map spelled_entry (map.get entries n)

same_key : (a b : List ℕ) → bytes_eq a b ≡ true → a ≡ b
same_key a b e = (bytes_decides a b).0 e

key_itself : (a : List ℕ) → bytes_eq a a ≡ true
key_itself a = (bytes_decides a a).1 refl

-- an entry that is put changes the bytes under its key alone
put_bytes : (entries : ByNumber Queued) (n : ℕ) (e : Queued) (key : List ℕ) → IsNumber n → entry_bytes (map.insert entries n e) key ≡ cond (bytes_eq key (spelled_u64 n)) (Some (spelled_entry e)) (entry_bytes entries key)
put_bytes entries n e key is = go (bytes_eq key (spelled_u64 n)) refl
  where
    others : (o : Option ℕ) → number_of key ≡ o → bytes_eq key (spelled_u64 n) ≡ false → under (map.insert entries n e) o ≡ under entries o
    others None spells differ = refl
    others (Some k) spells differ = ap (option_map spelled_entry) (at_other numbers entries n e k (λ same. true≢false (sym (key_itself (spelled_u64 n)) ∙ ap (λ x. bytes_eq x (spelled_u64 n)) (sym (spelled-number_of key k spells ∙ ap spelled_u64 same)) ∙ differ)))

    go : (b : Bool) → bytes_eq key (spelled_u64 n) ≡ b → entry_bytes (map.insert entries n e) key ≡ cond (bytes_eq key (spelled_u64 n)) (Some (spelled_entry e)) (entry_bytes entries key)
    go true same =
        ap (λ k. under (map.insert entries n e) (number_of k)) (same_key key (spelled_u64 n) same) ∙ ap (under (map.insert entries n e)) (number_of-spelled n is)
        ∙ ap (option_map spelled_entry) (at_same numbers entries n e) ∙ sym (ap (λ b. cond b (Some (spelled_entry e)) (entry_bytes entries key)) same)
    go false differ = others (number_of key) refl differ ∙ sym (ap (λ b. cond b (Some (spelled_entry e)) (entry_bytes entries key)) differ)

removed_bytes : (entries : ByNumber Queued) (n : ℕ) (key : List ℕ) → IsNumber n → entry_bytes (map.remove entries n) key ≡ cond (bytes_eq key (spelled_u64 n)) None (entry_bytes entries key)
removed_bytes entries n key is = go (bytes_eq key (spelled_u64 n)) refl
  where
    others : (o : Option ℕ) → number_of key ≡ o → bytes_eq key (spelled_u64 n) ≡ false → under (map.remove entries n) o ≡ under entries o
    others None spells differ = refl
    others (Some k) spells differ = ap (option_map spelled_entry) (kept numbers entries n k (λ same. true≢false (sym (key_itself (spelled_u64 n)) ∙ ap (λ x. bytes_eq x (spelled_u64 n)) (sym (spelled-number_of key k spells ∙ ap spelled_u64 same)) ∙ differ)))

    go : (b : Bool) → bytes_eq key (spelled_u64 n) ≡ b → entry_bytes (map.remove entries n) key ≡ cond (bytes_eq key (spelled_u64 n)) None (entry_bytes entries key)
    go true same =
        ap (λ k. under (map.remove entries n) (number_of k)) (same_key key (spelled_u64 n) same) ∙ ap (under (map.remove entries n)) (number_of-spelled n is)
        ∙ ap (option_map spelled_entry) (gone numbers entries n) ∙ sym (ap (λ b. cond b None (entry_bytes entries key)) same)
    go false differ = others (number_of key) refl differ ∙ sym (ap (λ b. cond b None (entry_bytes entries key)) differ)

next_put : (n m : ℕ) (key : List ℕ) → 1 ≤ n → cond (bytes_eq key []) (Some (spelled_next (n + 1))) (next_bytes m key) ≡ next_bytes (n + 1) key
next_put n m [] le = sym (ap (λ b. cond b None (Some (spelled_next (n + 1)))) (other (n + 1) (omega arith)))
  where
    other : (k : ℕ) → 1 < k → (k == 1) ≡ false
    other k lt = go (k == 1) refl
      where
        go : (b : Bool) → (k == 1) ≡ b → (k == 1) ≡ false
        go true e = absurd (let one = eqb-true k 1 e in omega arith)
        go false e = e
next_put n m (b ∷ key) le = refl

-- a space is the first, the second or another one
by_space : (space : ℕ) → (space ≡ 1) ⊎ ((space ≡ 2) ⊎ (((space == 1) ≡ false) × ((space == 2) ≡ false)))
by_space space = go (space == 1) (space == 2) refl refl
  where
    go : (a b : Bool) → (space == 1) ≡ a → (space == 2) ≡ b → (space ≡ 1) ⊎ ((space ≡ 2) ⊎ (((space == 1) ≡ false) × ((space == 2) ≡ false)))
    go true b one two = inl (eqb-true space 1 one)
    go false true one two = inr (inl (eqb-true space 2 two))
    go false false one two = inr (inr (one, two))

elsewhere : (a b x y : Bool) (o p q r s t : Option (List ℕ)) → a ≡ false → b ≡ false → cond (a && x) o (cond (b && y) p (cond a q (cond b r None))) ≡ cond a s (cond b t None)
elsewhere a b x y o p q r s t one two = rw (one, two) refl

-- a new entry and the next number are the cells of the post with that entry
pub changed-put : (p : PostState) (e : Queued) → IsNumber p.next → 1 ≤ p.next → changed (change_of_entry p.next e ∷ change_of_next (p.next + 1) ∷ []) (cells_of p) ≡ cells_of (with_entry p e)
changed-put p e is le = same_cells _ _ (λ space key.
    elim (by_space space) [
      | inl one ↦
          subst (λ s. changed (change_of_entry p.next e ∷ change_of_next (p.next + 1) ∷ []) (cells_of p) s key ≡ cells_of (with_entry p e) s key) (sym one) (next_put p.next p.next key le)
      | inr (inl two) ↦
          subst (λ s. changed (change_of_entry p.next e ∷ change_of_next (p.next + 1) ∷ []) (cells_of p) s key ≡ cells_of (with_entry p e) s key) (sym two) (sym (put_bytes p.entries p.next e key is))
      | inr (inr other) ↦ elsewhere (space == 1) (space == 2) (bytes_eq key []) (bytes_eq key (spelled_u64 p.next)) _ _ _ _ _ _ other.0 other.1
    ])

elsewhere_removed : (a b y : Bool) (p q r t : Option (List ℕ)) → a ≡ false → b ≡ false → cond (b && y) p (cond a q (cond b r None)) ≡ cond a q (cond b t None)
elsewhere_removed a b y p q r t one two = rw (one, two) refl

-- the cells of the post without an entry
pub changed-remove : (p : PostState) (number : ℕ) → IsNumber number → changed (change_of_removal number ∷ []) (cells_of p) ≡ cells_of (without_entry p number)
changed-remove p number is = same_cells _ _ (λ space key.
    elim (by_space space) [
      | inl one ↦ subst (λ s. changed (change_of_removal number ∷ []) (cells_of p) s key ≡ cells_of (without_entry p number) s key) (sym one) refl
      | inr (inl two) ↦
          subst (λ s. changed (change_of_removal number ∷ []) (cells_of p) s key ≡ cells_of (without_entry p number) s key) (sym two) (sym (removed_bytes p.entries number key is))
      | inr (inr other) ↦ elsewhere_removed (space == 1) (space == 2) (bytes_eq key (spelled_u64 number)) _ _ _ _ other.0 other.1
    ])

-- the cells of the post with another entry under a number
pub changed-in_place : (p : PostState) (number : ℕ) (e : Queued) → IsNumber number → changed (change_of_entry number e ∷ []) (cells_of p) ≡ cells_of (in_place p number e)
changed-in_place p number e is = same_cells _ _ (λ space key.
    elim (by_space space) [
      | inl one ↦ subst (λ s. changed (change_of_entry number e ∷ []) (cells_of p) s key ≡ cells_of (in_place p number e) s key) (sym one) refl
      | inr (inl two) ↦ subst (λ s. changed (change_of_entry number e ∷ []) (cells_of p) s key ≡ cells_of (in_place p number e) s key) (sym two) (sym (put_bytes p.entries number e key is))
      | inr (inr other) ↦ elsewhere_removed (space == 1) (space == 2) (bytes_eq key (spelled_u64 number)) _ _ _ _ other.0 other.1
    ])

-- changes make the same of two maps at a place where they have the same
changed_alike : (cs : List Change) (m n : CellMap) (space : ℕ) (key : List ℕ) → m space key ≡ n space key → changed cs m space key ≡ changed cs n space key
changed_alike [] m n space key same = same
changed_alike (Put s k bytes ∷ cs) m n space key same =
    changed_alike cs (with_change m (Put s k bytes)) (with_change n (Put s k bytes)) space key (ap (cond (space == s && bytes_eq key k) (Some bytes)) same)
changed_alike (Erase s k ∷ cs) m n space key same =
    changed_alike cs (with_change m (Erase s k)) (with_change n (Erase s k)) space key (ap (cond (space == s && bytes_eq key k) None) same)

-- what is said of the cells of a post is said of each map that has them
pub leads_from : (cs : List Change) (p q : PostState) → changed cs (cells_of p) ≡ cells_of q → Leads cs p q
leads_from cs p q law m has space key is = changed_alike cs m (cells_of p) space key (has space key is) ∙ ap (λ (f : CellMap). f space key) law
