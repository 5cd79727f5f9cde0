-- What a stop leaves of two files.
use Rattle.std.specs.Prelude.{Bool}
use Rattle.std.proofs.Common.{◌≡◌, ◌⊎◌, ◌==◌, ◌&&◌, inl, inr, ℕ, pos, negsuc, List, [], ◌∷◌, Option, Some, None, IsTrue, refl, sym, subst, ◌∙◌, ap, true, false, if◌then◌else◌}
use Rattle.std.proofs.Math.Logic.{∥∥₁_map}
use Rattle.std.proofs.lemmas.Bool.{cases_Bool, and_parts, and_from, both_ways}
use Rattle.std.proofs.lemmas.Slice.Eq.{bytes_eq-Decides}
use Rattle.std.specs.Str.{bytes_eq}
use base.Stored.{Gv, gnil, gnum, gcons, num}
use Rattle.sqlite.specs.Order.{Row, column}
use Rattle.sqlite.specs.Recovery.{Image}
use Rattle.sqlite.specs.Tree.{Trees}
use Rattle.sqlite.specs.Schema.{Schema}
use Rattle.sqlite.specs.Files.{HoldsDatabase}
use Rattle.sqlite.specs.Held.{AreDatabases}
use Rattle.sqlite.proofs.Theorems.{opens_again}
use Rattle.sqlite_catalog.specs.Listing.{IsSound}
use Rattle.sqlite_disk.specs.declared.Disk as disk
use Rattle.sqlite_rules.specs.Lists.{Has}
use Rattle.sqlite_schema.specs.contracts.schema.Schema.{the_row}
use Rattle.sqlite_store.specs.FileStore as files
use Rattle.sqlite_trees.specs.View.{IsShaped}
use Rattle.sqlite_trees.specs.declared.store.Shape.TheVariants.{Table}
use Rattle.sqlite_value.specs.declared.value.Value.{Value}
use Rattle.sqlite_value.specs.declared.value.Value.TheVariants.{Null, Int, Real, Text, Blob}
use Rattle.sqlite.specs.declared.FileStore.{FileStore}
use Rattle.nb_cells.specs.Cells.{CellMap}
use Rattle.nb_sql.specs.Held.{Shows, IsCell}
use Rattle.nb_sql.specs.Files.{HoldsCells}
use Rattle.nb_sql.specs.Statements.{cells_schema}
use Rattle.nb_sql.proofs.ChangeLemmas.{IsAt, one_at, nat_eq-Decides}
use Rattle.nb_sql.proofs.FileLemmas.{one_schema, held_shaped}

-- ---- whether two schemas are the same

abbrev left_of : Gv → Gv
left_of gnil = gnil
left_of (gnum n) = gnil
left_of (gcons a b) = a

abbrev right_of : Gv → Gv
right_of gnil = gnil
right_of (gnum n) = gnil
right_of (gcons a b) = b

abbrev kind_of : Gv → ℕ
kind_of gnil = 0
kind_of (gnum n) = 1
kind_of (gcons a b) = 2

abbrev SameOrNot : {A : Type 0} → A → A → Type 0
SameOrNot a b = (a ≡ b) ⊎ (a ≡ b → ⊥)

nats_same : (m n : ℕ) → SameOrNot m n
nats_same m n = elim (cases_Bool (m == n)) [ inl is ↦ inl ((nat_eq-Decides m n).0 is) | inr not ↦ inr (λ same. both_ways _ not ((nat_eq-Decides m n).1 same)) ]

codes_same : (a b : Gv) → SameOrNot a b
codes_same gnil gnil = inl refl
codes_same gnil (gnum n) = inr (λ e. absurd (let k : 0 ≡ 1 = ap kind_of e in cc))
codes_same gnil (gcons a b) = inr (λ e. absurd (let k : 0 ≡ 2 = ap kind_of e in cc))
codes_same (gnum n) gnil = inr (λ e. absurd (let k : 1 ≡ 0 = ap kind_of e in cc))
codes_same (gnum m) (gnum n) = elim (nats_same m n) [ inl is ↦ inl (ap gnum is) | inr not ↦ inr (λ e. not (ap num e)) ]
codes_same (gnum n) (gcons a b) = inr (λ e. absurd (let k : 1 ≡ 2 = ap kind_of e in cc))
codes_same (gcons a b) gnil = inr (λ e. absurd (let k : 2 ≡ 0 = ap kind_of e in cc))
codes_same (gcons a b) (gnum n) = inr (λ e. absurd (let k : 2 ≡ 1 = ap kind_of e in cc))
codes_same (gcons a b) (gcons c d) = elim (codes_same a c) [
  | inl first ↦ elim (codes_same b d) [ inl second ↦ inl (ap (λ x. gcons x b) first ∙ ap (gcons c) second) | inr not ↦ inr (λ e. not (ap right_of e)) ]
  | inr not ↦ inr (λ e. not (ap left_of e))
]

schemas_same : (s t : Schema) → SameOrNot s t
schemas_same s t = elim (codes_same (the_row.coded.code s) (the_row.coded.code t)) [
  | inl is ↦ inl (the_row.coded.inj s t is)
  | inr not ↦ inr (λ e. not (ap the_row.coded.code e))
]

-- ---- the map that a table shows

abbrev is_space : ℕ → Value → Bool
is_space space (Int (pos n)) = n == space
is_space space (Int (negsuc n)) = false
is_space space Null = false
is_space space (Real x) = false
is_space space (Text t) = false
is_space space (Blob b) = false

abbrev is_key : List ℕ → Value → Bool
is_key key (Blob b) = bytes_eq b key
is_key key (Int n) = false
is_key key Null = false
is_key key (Real x) = false
is_key key (Text t) = false

abbrev bytes_in : Value → Option (List ℕ)
bytes_in (Blob b) = Some b
bytes_in (Int n) = None
bytes_in Null = None
bytes_in (Real x) = None
bytes_in (Text t) = None

space_is : (space : ℕ) (v : Value) → is_space space v ≡ true → v ≡ Int (pos space)
space_is space (Int (pos n)) h = ap (λ k. Int (pos k)) ((nat_eq-Decides n space).0 h)
space_is space (Int (negsuc n)) h = absurd cc
space_is space Null h = absurd cc
space_is space (Real x) h = absurd cc
space_is space (Text t) h = absurd cc
space_is space (Blob b) h = absurd cc

key_is : (key : List ℕ) (v : Value) → is_key key v ≡ true → v ≡ Blob key
key_is key (Blob b) h = ap Blob ((bytes_eq-Decides b key).0 h)
key_is key (Int n) h = absurd cc
key_is key Null h = absurd cc
key_is key (Real x) h = absurd cc
key_is key (Text t) h = absurd cc

bytes_are : (v : Value) (bytes : List ℕ) → bytes_in v ≡ Some bytes → v ≡ Blob bytes
bytes_are (Blob b) bytes h = let same : b ≡ bytes = cc in ap Blob same
bytes_are (Int n) bytes h = absurd cc
bytes_are Null bytes h = absurd cc
bytes_are (Real x) bytes h = absurd cc
bytes_are (Text t) bytes h = absurd cc

abbrev is_at : ℕ → List ℕ → Row → Bool
is_at space key r = is_space space (column r 1) && is_key key (column r 2)

at_of : (space : ℕ) (key : List ℕ) (r : Row) → is_at space key r ≡ true → IsAt space key r
at_of space key r h = let parts = and_parts _ _ h in (space_is space (column r 1) parts.0, key_is key (column r 2) parts.1)

of_at : (space : ℕ) (key : List ℕ) (r : Row) → IsAt space key r → is_at space key r ≡ true
of_at space key r at =
    and_from _ _ (ap (is_space space) at.0 ∙ (nat_eq-Decides space space).1 refl) (ap (is_key key) at.1 ∙ (bytes_eq-Decides key key).1 refl)

abbrev map_in : List Row → CellMap
map_in [] space key = None
map_in (r ∷ rows) space key = if is_at space key r then bytes_in (column r 3) else map_in rows space key

abbrev IsOneEach : List Row → Type 0
IsOneEach rows = (space : ℕ) (key : List ℕ) (a b : Row) → Has rows a → Has rows b → IsAt space key a → IsAt space key b → a ≡ b

map_sound : (rows : List Row) → IsOneEach rows → (r : Row) (space : ℕ) (key bytes : List ℕ) → Has rows r → IsCell space key bytes r → map_in rows space key ≡ Some bytes
map_sound [] one r space key bytes has cell = absurd has
map_sound (x ∷ rows) one r space key bytes has cell = elim (cases_Bool (is_at space key x)) [
  | inl is ↦
      let same = one space key x r (inl refl) has (at_of space key x is) (cell.space_is, cell.key_is) in
      rw is (ap (λ (y : Row). bytes_in (column y 3)) same ∙ ap bytes_in cell.bytes_is)
  | inr not ↦ elim has [
    | inl same ↦ absurd (both_ways _ not (of_at space key x (ap (λ (y : Row). column y 1) (sym same) ∙ cell.space_is, ap (λ (y : Row). column y 2) (sym same) ∙ cell.key_is)))
    | inr rest ↦ rw not (map_sound rows (λ s k a b h g. one s k a b (inr h) (inr g)) r space key bytes rest cell)
  ]
]

map_complete : (rows : List Row) (space : ℕ) (key bytes : List ℕ) → map_in rows space key ≡ Some bytes → (r : Row) × Has rows r × IsCell space key bytes r
map_complete [] space key bytes is = absurd cc
map_complete (x ∷ rows) space key bytes is = elim (cases_Bool (is_at space key x)) [
  | inl here ↦ let at = at_of space key x here in (x, inl refl, record { space_is = at.0; key_is = at.1; bytes_is = bytes_are (column x 3) bytes (rw here at is) })
  | inr not ↦ let it = map_complete rows space key bytes (rw not at is) in (it.0, inr it.1, it.2)
]

-- a table in which no place comes twice shows a map
shows_some : (rows : List Row) → IsOneEach rows → Shows rows (map_in rows)
shows_some rows one = record { sound = map_sound rows one; complete = map_complete rows }

-- ---- what a stop leaves

module _ {D : Type 0} {g : disk.Ghosts D} (it old : FileStore D g) (was : (db : Trees) → files.recovers it db → files.recovers old db) where
  abbrev MayFind : CellMap → Type 0
  MayFind m = (db : Trees) × files.recovers old db × (IsSound cells_schema db → Shows (db 0) m)

  -- where not every map may be found, the files hold one that may be found
  pub holds_one : IsTrue (files.view it).is_numbered → AreDatabases (files.recovers it) → (image : Image) → (files.state it).may_leave image → (p : CellMap) → (MayFind p → ⊥) → ∥ ((m : CellMap) × MayFind m × HoldsCells image m) ∥₁
  holds_one numbered sound image may p never = ∥∥₁_map (opens_again it numbered sound image may) (λ (left : (db : Trees) × files.recovers it db × HoldsDatabase image db).
      let db = left.0 in
      let schema = sound db left.1 in
      let before = was db left.1 in
      elim (schemas_same schema.0 cells_schema) as (λ _. (m : CellMap) × MayFind m × HoldsCells image m) [
        | inl is ↦
            let obeys = subst (λ s. IsSound s db) is schema.1 in
            let shaped : IsShaped Table (db 0) = held_shaped image db left.2 obeys in
            let shows = shows_some (db 0) (one_at (record { schema = cells_schema; trees = db }) refl obeys shaped) in
            (map_in (db 0), (db, before, λ _. shows), record { db = db; holds = left.2; sound = obeys; shows = shows })
        | inr not ↦ absurd (never (db, before, λ held. absurd (not (one_schema db schema.0 held schema.1))))
      ])
