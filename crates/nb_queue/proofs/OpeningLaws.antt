-- What the cells of a store are at its opening.
use Rattle.std.specs.Prelude.{◌≡◌, ◌⊎◌, ℕ, ◌+◌, ◌<◌, ◌≤◌, ◌^◌, List, [], ◌∷◌, ◌++◌, take, length, Contains, slice_get, Option, Some, None, IsSome, is_some, refl}
use Rattle.std.proofs.Common.{◌∙◌, inl, inr, sym, ap, subst, arith}
use Rattle.std.proofs.lemmas.List.Elements.{Contains-append_left, Contains-push, Contains-push_cases}
use Rattle.std.specs.declared.cmp.Ordering.TheVariants.{Less, Equal}
use Rattle.std.specs.List.Sorted.{IsStrictlySortedBy}
use Rattle.std.specs.FinMap as map
use Rattle.std.specs.Ordering.{nat_cmp}
use Rattle.std.specs.Cmp.Lexicographic.{slice_cmp}
use Rattle.nb_base.specs.Orders.{ByNumber}
use Rattle.nb_base.specs.declared.tables.Queued.{Queued}
use Rattle.nb_base.proofs.ListLaws.{take_next}
use Rattle.nb_base.proofs.Maps.{numbers, same_or_other, at_same, at_other}
use Rattle.nb_cells.specs.declared.cell.Cell.{Cell}
use Rattle.nb_envelope.specs.Cells.{u64_in, whole}
use Rattle.nb_envelope.specs.Formats.{IsFormat}
use Rattle.nb_envelope.specs.Spelling.{spelled_u64}
use Rattle.nb_envelope.proofs.FormatLaws.{format_u64, whole_again}
use Rattle.nb_queue.specs.Spelled.{spelled_entry, spelled_next, IsEntry, IsNumber}
use Rattle.nb_queue.specs.Read.{entry_in, next_in}
use Rattle.nb_queue.specs.Opening.{IsNextCell, IsCellOf, AreLoaded, IsRefusedFor, Ascend}
use Rattle.nb_queue.specs.declared.fault.PostFault.{PostFault}
use Rattle.nb_queue.specs.declared.fault.PostFault.TheVariants.{Damaged as DamagedPost, NoMemory as NoMemoryPost}
use Rattle.nb_queue.proofs.FormatLaws.{format_entry, format_next}

-- ---- one cell

differ : {A : Type 0} (o : Option A) (x : A) → o ≡ None → o ≡ Some x → ⊥
differ o x e f = cc

pub same : {A : Type 0} (o : Option A) (x y : A) → o ≡ Some x → o ≡ Some y → x ≡ y
same o x y e f = cc

-- what a whole reading says of a value's spelling
pub read_none : {A : Type 0} (Is : A → Type 0) (spelled : A → List ℕ) (read : List ℕ → Option (A × List ℕ)) → IsFormat Is spelled read → (bytes : List ℕ) (x : A) → whole read bytes ≡ None → Is x → bytes ≡ spelled x → ⊥
read_none Is spelled read format bytes x none is are = differ (whole read bytes) x none (ap (whole read) are ∙ whole_again Is spelled read x format is)

pub read_same : {A : Type 0} (Is : A → Type 0) (spelled : A → List ℕ) (read : List ℕ → Option (A × List ℕ)) → IsFormat Is spelled read → (bytes : List ℕ) (x y : A) → whole read bytes ≡ Some y → Is x → bytes ≡ spelled x → x ≡ y
read_same Is spelled read format bytes x y some is are = same (whole read bytes) x y (ap (whole read) are ∙ whole_again Is spelled read x format is) some

pub no_next : (key bytes : List ℕ) → whole next_in bytes ≡ None → (n : ℕ) → IsNextCell n key bytes → ⊥
no_next key bytes none n cell = let to = cell.to in read_none IsNumber spelled_next next_in format_next bytes n none (omega arith) cell.bytes_are

pub same_next : (key bytes : List ℕ) (n k : ℕ) → whole next_in bytes ≡ Some n → IsNextCell k key bytes → k ≡ n
same_next key bytes n k some cell = let to = cell.to in read_same IsNumber spelled_next next_in format_next bytes k n some (omega arith) cell.bytes_are

pub no_number : (next number : ℕ) (e : Queued) (key bytes : List ℕ) → next < 2 ^ 64 → whole u64_in key ≡ None → IsCellOf next number e key bytes → ⊥
no_number next number e key bytes fits none cell = let below = cell.below in read_none IsNumber spelled_u64 u64_in format_u64 key number none (omega arith) cell.key_is

pub same_number : (next number n : ℕ) (e : Queued) (key bytes : List ℕ) → next < 2 ^ 64 → whole u64_in key ≡ Some n → IsCellOf next number e key bytes → number ≡ n
same_number next number n e key bytes fits some cell = let below = cell.below in read_same IsNumber spelled_u64 u64_in format_u64 key number n some (omega arith) cell.key_is

pub no_entry : (next number : ℕ) (e : Queued) (key bytes : List ℕ) → whole entry_in bytes ≡ None → IsCellOf next number e key bytes → ⊥
no_entry next number e key bytes none cell = read_none IsEntry spelled_entry entry_in format_entry bytes e none cell.spelled cell.bytes_are

-- ---- lists

-- the refusal of the cell at a place
pub refused_at : (P : Cell → Type 0) (space : ℕ) (cells : List Cell) (i : ℕ) (c : Cell) (f : PostFault) → (f ≡ NoMemoryPost) ⊎ (f ≡ DamagedPost space c.key) → slice_get cells i ≡ Some c → (P c → ⊥) → ((d : Cell) → Contains (take i cells) d → P d)
    → IsRefusedFor P space cells f
refused_at P space cells i c f (inl none) at bad good = subst (IsRefusedFor P space cells) (sym none) tt
refused_at P space cells i c f (inr is) at bad good = subst (IsRefusedFor P space cells) (sym is) (refl, (i, c, at, refl, bad, good))

pub nowhere : (c : Cell) → Contains [] c → ⊥
nowhere c has = let lt = has.1 in omega arith

pub loaded_none : (next : ℕ) (entries : ByNumber Queued) → entries ≡ map.empty → AreLoaded next entries []
loaded_none next entries is = record {
  each = λ c has. absurd (nowhere c has);
  only = λ number e has. absurd (differ (map.get entries number) e (ap (λ m. map.get m number) is ∙ map.get-empty nat_cmp number) has);
}

pub loaded_more : (next : ℕ) (entries new : ByNumber Queued) (cells : List Cell) (i : ℕ) (c : Cell) (number : ℕ) (e : Queued) → slice_get cells i ≡ Some c → IsCellOf next number e c.key c.bytes → new ≡ map.insert entries number e
    → AreLoaded next entries (take i cells) → AreLoaded next new (take (i + 1) cells)
loaded_more next entries new cells i c number e at cell is loaded =
    let more = take_next cells i c at in
    subst (AreLoaded next new) (sym more) (subst (λ m. AreLoaded next m (take i cells ++ c ∷ [])) (sym is) (record {
      each = λ d has.
          elim (Contains-push_cases (take i cells) c d has) [
            | inl before ↦ let was = loaded.each d before in (was.0, was.1, was.2, kept_some was.0 was.3)
            | inr here ↦ (number, e, subst (λ x. IsCellOf next number e x.key x.bytes) here cell, ap is_some (at_same numbers entries number e))
          ];
      only = λ n x has.
          elim (same_or_other numbers n number) [
            | inl equal ↦
                let this : e ≡ x = same (map.get (map.insert entries number e) number) e x (at_same numbers entries number e) (subst (λ k. map.get (map.insert entries number e) k ≡ Some x) equal has) in
                (c, Contains-push (take i cells) c, subst (λ y. IsCellOf next n y c.key c.bytes) this (subst (λ k. IsCellOf next k e c.key c.bytes) (sym equal) cell))
            | inr other ↦
                let was = loaded.only n x (sym (at_other numbers entries number e n other) ∙ has) in
                (was.0, Contains-append_left (take i cells) (c ∷ []) was.0 was.1, was.2)
          ];
    }))
  where
    kept_some : (q : ℕ) → IsSome (map.get entries q) → IsSome (map.get (map.insert entries number e) q)
    kept_some q has =
        elim (same_or_other numbers q number) [
          | inl equal ↦ ap is_some (ap (map.get (map.insert entries number e)) equal ∙ at_same numbers entries number e)
          | inr other ↦ ap is_some (at_other numbers entries number e q other) ∙ has
        ]

-- a list of one cell
pub one_cell : (cells : List Cell) (c : Cell) → slice_get cells 0 ≡ Some c → length cells ≤ 1 → cells ≡ c ∷ []
one_cell [] c at few = absurd (cc)
one_cell (x ∷ []) c at few = let e : x ≡ c = cc in ap (λ y. y ∷ []) e
one_cell (x ∷ y ∷ cells) c at few = absurd (omega arith)

pub first_only : (cells : List Cell) (a d : Cell) → slice_get cells 0 ≡ Some a → Contains (take 1 cells) d → a ≡ d
first_only cells a d at has = elim (Contains-push_cases [] a d (subst (λ xs. Contains xs d) (take_next cells 0 a at) has)) [ inl none ↦ absurd (nowhere d none) | inr here ↦ here ]

-- two cells of a list that ascends don't both have the empty key
pub two_empty : (cells : List Cell) (a b : Cell) → slice_get cells 0 ≡ Some a → slice_get cells 1 ≡ Some b → Ascend cells → a.key ≡ [] → b.key ≡ [] → ⊥
unfolding IsStrictlySortedBy
two_empty [] a b at to ascend x y = cc
two_empty (c ∷ []) a b at to ascend x y = cc
two_empty (c ∷ d ∷ cells) a b at to ascend x y =
    let e : c ≡ a = cc in
    let f : d ≡ b = cc in
    let less = ascend.0.0 in
    let tied : slice_cmp nat_cmp c.key d.key ≡ Equal = ap (slice_cmp nat_cmp c.key) (ap (λ z. z.key) f ∙ y) ∙ ap (λ k. slice_cmp nat_cmp k []) (ap (λ z. z.key) e ∙ x) in
    let clash : Less ≡ Equal = sym less ∙ tied in cc
