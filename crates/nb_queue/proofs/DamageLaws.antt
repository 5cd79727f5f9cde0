-- A refused start names the least cell that is no cell of a post.
use Rattle.std.specs.Prelude.{◌≡◌, ◌≢◌, ◌⊎◌, ℕ, zero, suc, ◌<◌, List, [], ◌∷◌, take, map as map_list, Contains, slice_get, Some, refl}
use Rattle.std.proofs.Common.{◌∙◌, inl, inr, sym, ap, subst, arith}
use Rattle.std.proofs.lemmas.List.Elements.{Contains-append_cases, Contains-append_left, Contains-append_right, Contains-push_cases, Contains-push}
use Rattle.std.specs.declared.cmp.Ordering.TheVariants.{Less, Equal}
use Rattle.std.specs.List.{AllByRecursion}
use Rattle.std.specs.List.Sorted.{IsStrictlySortedBy}
use Rattle.std.specs.Ordering.{nat_cmp}
use Rattle.std.specs.Cmp.{tied_itself}
use Rattle.std.specs.Cmp.Lexicographic.{slice_cmp, nat_list_cmp_total}
use Rattle.nb_base.specs.Orders.{ByNumber}
use Rattle.nb_base.proofs.Maps.{numbers, same_or_other}
use Rattle.nb_base.specs.declared.tables.Queued.{Queued}
use Rattle.nb_cells.specs.Cells.{CellMap, IsSpace, Scans}
use Rattle.nb_cells.specs.declared.cell.Cell.{Cell}
use Rattle.nb_envelope.specs.Cells.{whole}
use Rattle.nb_envelope.proofs.FormatLaws.{whole_again}
use Rattle.nb_queue.specs.Damage.{IsGood, HasNext, IsLeastDamage, IsFound}
use Rattle.nb_queue.specs.Opening.{IsNextCell, IsCellOf, IsSomeNext, IsSomeEntry, TellsNext, AreLoaded, AreScans, IsFirstBad, IsRefusedFor, IsRefusal, Ascend}
use Rattle.nb_queue.specs.Read.{next_in}
use Rattle.nb_queue.specs.Spelled.{spelled_next, IsNumber}
use Rattle.nb_queue.specs.declared.fault.PostFault.{PostFault}
use Rattle.nb_queue.specs.declared.fault.PostFault.TheVariants.{Failed, Damaged, Spent, NoMemory}
use Rattle.nb_queue.proofs.FormatLaws.{format_next}
use Rattle.nb_queue.proofs.OpeningLaws.{nowhere, same, read_same}
use Rattle.nb_queue.proofs.OpenedLaws.{told_at, none_in, absent}

-- ---- cells of a list whose keys ascend

clash : (a b : List ℕ) → slice_cmp nat_cmp a b ≡ Less → slice_cmp nat_cmp b a ≡ Less → ⊥
clash a b x y = let less = nat_list_cmp_total.trans a b a x y in let e : Less ≡ Equal = sym less ∙ tied_itself nat_list_cmp_total a in cc

head_is : (c d : Cell) → Contains (c ∷ []) d → c ≡ d
head_is c d has = elim (Contains-push_cases [] c d has) [ inl none ↦ absurd (nowhere d none) | inr here ↦ here ]

later_key : (x : List ℕ) (cells : List Cell) (d : Cell) → AllByRecursion (λ y. slice_cmp nat_cmp x y ≡ Less) (map_list (λ c. c.key) cells) → Contains cells d → slice_cmp nat_cmp x d.key ≡ Less
later_key x [] d all has = absurd (nowhere d has)
later_key x (c ∷ cells) d all has =
    elim (Contains-append_cases (c ∷ []) cells d has) [
      | inl here ↦ subst (λ e. slice_cmp nat_cmp x e.key ≡ Less) (head_is c d here) all.0
      | inr later ↦ later_key x cells d all.1 later
    ]

at_zero : (c d : Cell) (cells : List Cell) → slice_get (c ∷ cells) 0 ≡ Some d → c ≡ d
at_zero c d cells at = cc

-- a cell before the one at a place is among those up to the place
before_in_take : (cells : List Cell) (i : ℕ) (c d : Cell) → Ascend cells → slice_get cells i ≡ Some c → Contains cells d → slice_cmp nat_cmp d.key c.key ≡ Less → Contains (take i cells) d
unfolding IsStrictlySortedBy
before_in_take [] i c d ascend at has less = absurd (nowhere d has)
before_in_take (x ∷ cells) zero c d ascend at has less =
    let first = at_zero x c cells at in
    elim (Contains-append_cases (x ∷ []) cells d has) [
      | inl here ↦
          let same_cell = sym first ∙ head_is x d here in
          absurd (clash d.key c.key less (subst (λ e. slice_cmp nat_cmp e.key d.key ≡ Less) (sym same_cell) (subst (λ e. slice_cmp nat_cmp d.key e.key ≡ Less) same_cell less)))
      | inr later ↦ absurd (clash d.key c.key less (subst (λ e. slice_cmp nat_cmp e.key d.key ≡ Less) first (later_key x.key cells d ascend.0 later)))
    ]
before_in_take (x ∷ cells) (suc i) c d ascend at has less =
    elim (Contains-append_cases (x ∷ []) cells d has) [
      | inl here ↦ Contains-append_left (x ∷ []) (take i cells) d here
      | inr later ↦ Contains-append_right (x ∷ []) (take i cells) d (before_in_take cells i c d ascend.1 at later less)
    ]

contains_at : (cells : List Cell) (i : ℕ) (c : Cell) → slice_get cells i ≡ Some c → Contains cells c
contains_at [] i c at = absurd (cc)
contains_at (x ∷ cells) zero c at = subst (λ y. Contains (y ∷ cells) c) (sym (at_zero x c cells at)) (Contains-append_left (c ∷ []) cells c (Contains-push [] c))
contains_at (x ∷ cells) (suc i) c at = Contains-append_right (x ∷ []) cells c (contains_at cells i c at)

-- ---- the next number

next_unique : (m : CellMap) (n next : ℕ) (cells : List Cell) → Scans m 1 cells → TellsNext cells n → HasNext m next → next ≡ n
next_unique m n next cells scans (inl none) (inl has) = has.1 ∙ sym none.1
next_unique m n next cells scans (inl none) (inr has) = absurd (absent (m 1 []) has.0 (none_in m 1 cells scans none.0 []) has.1)
next_unique m n next cells scans (inr some) has = go has
  where
    there : m 1 [] ≡ Some (spelled_next n)
    there =
        let has : Contains cells some.0 = subst (λ xs. Contains xs some.0) (sym some.1) (Contains-push [] some.0) in
        ap (m 1) (sym some.2.key_is) ∙ told_at m 1 cells scans some.0 has ∙ ap Some some.2.bytes_are

    go : HasNext m next → next ≡ n
    go (inl has) = absurd (absent (m 1 []) (spelled_next n) has.0 there)
    go (inr has) =
        let bytes : has.0 ≡ spelled_next n = same (m 1 []) has.0 (spelled_next n) has.1 there in
        let to = some.2.to in
        let to' = has.2.to in
        read_same IsNumber spelled_next next_in format_next has.0 next n (ap (whole next_in) bytes ∙ whole_again IsNumber spelled_next next_in n format_next (omega arith)) (omega arith) has.2.bytes_are

good_next : (m : CellMap) (n : ℕ) (key bytes : List ℕ) → m 1 key ≡ Some bytes → IsNextCell n key bytes → (next : ℕ) → HasNext m next → IsGood next 1 key bytes
good_next m n key bytes told cell next (inl has) = absurd (absent (m 1 []) bytes has.0 (ap (m 1) (sym cell.key_is) ∙ told))
good_next m n key bytes told cell next (inr has) =
    let equal : has.0 ≡ bytes = same (m 1 []) has.0 bytes has.1 (ap (m 1) (sym cell.key_is) ∙ told) in
    inl (refl, subst (λ k. IsNextCell next k bytes) (sym cell.key_is) (subst (IsNextCell next []) equal has.2))

good_first : (m : CellMap) (n : ℕ) (cells : List Cell) → Scans m 1 cells → TellsNext cells n → (key bytes : List ℕ) (next : ℕ) → m 1 key ≡ Some bytes → HasNext m next → IsGood next 1 key bytes
good_first m n cells scans (inl none) key bytes next told has = absurd (absent (m 1 key) bytes (none_in m 1 cells scans none.0 key) told)
good_first m n cells scans (inr some) key bytes next told has =
    let d : Cell = record { space = 1; key = key; bytes = bytes } in
    let is = head_is some.0 d (subst (λ xs. Contains xs d) some.1 (scans.complete key bytes told)) in
    good_next m n key bytes told (subst (λ (c : Cell). IsNextCell n c.key c.bytes) is some.2) next has

good_second : (m : CellMap) (n : ℕ) (es : ByNumber Queued) (first cells : List Cell) → Scans m 1 first → TellsNext first n → Scans m 2 cells → AreLoaded n es cells → (key bytes : List ℕ) (next : ℕ) → m 2 key ≡ Some bytes → HasNext m next → IsGood next 2 key bytes
good_second m n es first cells scans tells second loaded key bytes next told has =
    let cell = loaded.each _ (second.complete key bytes told) in
    let unique = next_unique m n next first scans tells has in
    inr (refl, (cell.0, cell.1, subst (λ k. IsCellOf k cell.0 cell.1 key bytes) (sym unique) cell.2))

-- ---- the least damage

damage_in : (m : CellMap) (space : ℕ) (P : Cell → Type 0) (cells : List Cell) (key : List ℕ) → Scans m space cells → IsFirstBad P cells key
    → ((c : Cell) (next : ℕ) → HasNext m next → IsGood next space c.key c.bytes → P c)
    → ((d : Cell) (next : ℕ) → m space d.key ≡ Some d.bytes → P d → HasNext m next → IsGood next space d.key d.bytes)
    → ((s : ℕ) (k b : List ℕ) (next : ℕ) → IsSpace s → s < space → m s k ≡ Some b → HasNext m next → IsGood next s k b) → IsLeastDamage m space key
damage_in m space P cells key scans r is_bad is_good lower = record {
  bad = (r.1.bytes, subst (λ k. m space k ≡ Some r.1.bytes) r.3 (told_at m space cells scans r.1 (contains_at cells r.0 r.1 r.2)), λ next has good. r.4 (is_bad r.1 next has (subst (λ k. IsGood next space k r.1.bytes) (sym r.3) good)));
  least = λ s k b next in_space told before has.
      elim before [
        | inl lt ↦ lower s k b next in_space lt told has
        | inr here ↦
            let told_here : m space k ≡ Some b = subst (λ x. m x k ≡ Some b) here.0 told in
            let d : Cell = record { space = space; key = k; bytes = b } in
            let taken = before_in_take cells r.0 r.1 d scans.ascending r.2 (scans.complete k b told_here) (subst (λ x. slice_cmp nat_cmp k x ≡ Less) (sym r.3) here.1) in
            subst (λ x. IsGood next x k b) (sym here.0) (is_good d next told_here (r.5 d taken) has)
      ];
}

found_for : (m : CellMap) (P : Cell → Type 0) (space : ℕ) (cells : List Cell) (f : PostFault) → IsRefusedFor P space cells f → ((key : List ℕ) → IsFirstBad P cells key → IsLeastDamage m space key) → IsFound m f
found_for m P space cells Failed r h = absurd r
found_for m P space cells (Damaged s key) r h = subst (λ x. IsLeastDamage m x key) (sym r.0) (h key r.1)
found_for m P space cells Spent r h = absurd r
found_for m P space cells NoMemory r h = tt

abbrev never : Cell → Type 0
never c = ⊥

no_good : (next space : ℕ) (key bytes : List ℕ) → 2 < space → IsGood next space key bytes → ⊥
no_good next space key bytes lt (inl one) = let e = one.0 in omega arith
no_good next space key bytes lt (inr two) = let e = two.0 in omega arith

below_third : (m : CellMap) (n : ℕ) (es : ByNumber Queued) (first second : List Cell) → Scans m 1 first → TellsNext first n → Scans m 2 second → AreLoaded n es second
    → (s : ℕ) (k b : List ℕ) (next : ℕ) → IsSpace s → (s ≡ 1) ⊎ (s ≡ 2) → m s k ≡ Some b → HasNext m next → IsGood next s k b
below_third m n es first second scans tells seconds loaded s k b next in_space (inl one) told has =
    subst (λ x. IsGood next x k b) (sym one) (good_first m n first scans tells k b next (subst (λ x. m x k ≡ Some b) one told) has)
below_third m n es first second scans tells seconds loaded s k b next in_space (inr two) told has =
    subst (λ x. IsGood next x k b) (sym two) (good_second m n es first second scans tells seconds loaded k b next (subst (λ x. m x k ≡ Some b) two told) has)

-- what was refused of the scans is the least damage of the map
pub found_damage : (m : CellMap) (a b c d : List Cell) (f : PostFault) → AreScans m a b c d → IsRefusal a b c d f → IsFound m f
found_damage m a b c d f scans (inl first) =
    found_for m IsSomeNext 1 a f first (λ key r. damage_in m 1 IsSomeNext a key scans.first r
    (λ x next has good. elim good [ inl one ↦ (next, one.1) | inr two ↦ absurd (let e = two.0 in omega arith) ])
    (λ x next told is has. good_next m is.0 x.key x.bytes told is.1 next has)
    (λ s k bytes next in_space lt told has. absurd (let low = in_space.0 in omega arith)))
found_damage m a b c d f scans (inr (n, tells, inl second)) =
    found_for m (IsSomeEntry n) 2 b f second (λ key r. damage_in m 2 (IsSomeEntry n) b key scans.second r
    (λ x next has good.
    elim good [
      | inl one ↦ absurd (let e = one.0 in omega arith)
      | inr two ↦ (two.1.0, two.1.1, subst (λ k. IsCellOf k two.1.0 two.1.1 x.key x.bytes) (next_unique m n next a scans.first tells has) two.1.2)
    ])
    (λ x next told is has. inr (refl, (is.0, is.1, subst (λ k. IsCellOf k is.0 is.1 x.key x.bytes) (sym (next_unique m n next a scans.first tells has)) is.2)))
    (λ s k bytes next in_space lt told has.
    let one : s ≡ 1 = (let low = in_space.0 in omega arith) in
    subst (λ x. IsGood next x k bytes) (sym one) (good_first m n a scans.first tells k bytes next (subst (λ x. m x k ≡ Some bytes) one told) has)))
found_damage m a b c d f scans (inr (n, tells, inr (es, loaded, inl third))) =
    found_for m never 3 c f third (λ key r. damage_in m 3 never c key scans.third_is r
    (λ x next has good. no_good next 3 x.key x.bytes (omega arith) good) (λ x next told is has. absurd is)
    (λ s k bytes next in_space lt told has. below_third m n es a b scans.first tells scans.second loaded s k bytes next in_space (one_or_two s in_space lt) told has))
  where
    one_or_two : (s : ℕ) → IsSpace s → s < 3 → (s ≡ 1) ⊎ (s ≡ 2)
    one_or_two s in_space lt = elim (split s) [ inl one ↦ inl one | inr other ↦ inr (let low = in_space.0 in omega arith) ]
      where
        split : (s : ℕ) → (s ≡ 1) ⊎ (s ≢ 1)
        split s = same_or_other numbers s 1
found_damage m a b c d f scans (inr (n, tells, inr (es, loaded, inr (none, fourth)))) =
    found_for m never 4 d f fourth (λ key r. damage_in m 4 never d key scans.fourth_is r
    (λ x next has good. no_good next 4 x.key x.bytes (omega arith) good) (λ x next told is has. absurd is)
    (λ s k bytes next in_space lt told has.
    elim (same_or_other numbers s 3) [
      | inl three ↦ absurd (absent (m 3 k) bytes (none_in m 3 c scans.third_is none k) (subst (λ x. m x k ≡ Some bytes) three told))
      | inr other ↦
          elim (same_or_other numbers s 1) [
            | inl one ↦ below_third m n es a b scans.first tells scans.second loaded s k bytes next in_space (inl one) told has
            | inr others ↦ below_third m n es a b scans.first tells scans.second loaded s k bytes next in_space (inr (let low = in_space.0 in omega arith)) told has
          ]
    ]))
