-- When a row stands at a place, and what a table keeps without some rows.
use Rattle.std.proofs.Common.{◌≡◌, inl, inr, List, ℕ, ℤ, pos, [], ◌∷◌, drop, Bool, true, false, not, cond, Some, refl, sym, ap, ◌∙◌, ◌||◌, arith}
use Rattle.std.specs.List.{list_all}
use Rattle.std.specs.Ordering.{is_eq, is_ne, int_cmp}
use Rattle.std.specs.declared.cmp.Ordering.{Ordering}
use Rattle.std.specs.declared.cmp.Ordering.TheVariants.{Less, Equal, Greater}
use Rattle.std.proofs.lemmas.Bool.{and_parts, and_from, not-true}
use Rattle.std.proofs.lemmas.Map.Text.{is_eq-slice_cmp}
use Rattle.std.proofs.lemmas.Slice.Eq.{bytes_eq-Decides}
use Rattle.sqlite.specs.declared.types.Value.{Value}
use Rattle.sqlite.specs.declared.types.Value.TheVariants.{Null, Int, Real, Text, Blob}
use Rattle.sqlite.specs.Order.{Row, column, value_cmp}
use Rattle.sqlite.specs.Term.{holds}
use Rattle.sqlite.specs.Ops.{binary, is_true}
use Rattle.sqlite.specs.Collation.TheVariants.{Binary}
use Rattle.sqlite_sql.specs.declared.ops.BinaryOp.TheVariants.{Compare}
use Rattle.sqlite_sql.specs.declared.ops.CompareOp.TheVariants.{Eq}
use Rattle.sqlite.specs.Kind.TheVariants.{Integer, Blob as OfBlob}
use Rattle.sqlite_schema.specs.Rules.{is_of, are_typed}
use Rattle.std.specs.Str.{bytes_eq}
use Rattle.std.proofs.lemmas.Cmp.{tied_itself}
use Rattle.std.proofs.lemmas.Int.{ints}
use Rattle.std.proofs.lemmas.Bool.Decides.{nat_tests}
use Rattle.sqlite.specs.Ops.{from_truth, unary}
use Rattle.sqlite.specs.Cast.{cast}
use Rattle.sqlite_schema.specs.Rules.{differ, agree}
use Rattle.sqlite_value.specs.Keys.{first_key}
use Rattle.sqlite_rules.specs.Keys.{conflicts}
use Rattle.sqlite_value.proofs.OrderLemmas.{value_cmp_total, value_cmp-Int, value_cmp-Blob}
use Rattle.sqlite_rules.specs.Lists.{Has}
use Rattle.sqlite_rules.specs.Edit.{without_all, id_in}
use Rattle.sqlite_rules.proofs.ListLemmas.{has_filtered}
use Rattle.sqlite_rules.proofs.TableLemmas.{without_all_has}
use Rattle.sqlite_trees.specs.Tree.{rowid, has_rowid, without_rowid}
use Rattle.sqlite_trees.specs.View.{is_int, IsShaped}
use Rattle.sqlite_trees.specs.declared.store.Shape.TheVariants.{Table}
use Rattle.sqlite_trees.proofs.TreeLemmas.{IsShaped-filter}
use Rattle.nb_sql.specs.Meaning.{at_place}
use Rattle.nb_sql.specs.Statements.{cells_table, cells_schema}

int_eq_is : (m n : ℤ) → is_eq (int_cmp m n) ≡ true → m ≡ n
int_eq_is m n h = grind (arith, ints, nat_tests)

truth_of : (b : Bool) → is_true (from_truth (Some b)) ≡ true → b ≡ true
truth_of true h = refl
truth_of false h = absurd cc

same_bytes : (a b : List ℕ) → bytes_eq a b ≡ true → a ≡ b
same_bytes a b h = (bytes_eq-Decides a b).0 h

pub tied_blobs : (a b : List ℕ) → is_eq (value_cmp (Blob a) (Blob b)) ≡ true → a ≡ b
tied_blobs a b h = same_bytes a b (sym (is_eq-slice_cmp a b) ∙ ap is_eq (sym (value_cmp-Blob a b)) ∙ h)

pub equal_int : (v : Value) (n : ℤ) → is_of Integer v ≡ true → is_true (binary (Compare Eq Binary) v (Int n)) ≡ true → v ≡ Int n
unfolding binary
equal_int Null n typed h = absurd cc
equal_int (Int m) n typed h = ap Int (int_eq_is m n (ap is_eq (sym (value_cmp-Int m n)) ∙ truth_of _ h))
equal_int (Real x) n typed h = absurd cc
equal_int (Text t) n typed h = absurd cc
equal_int (Blob b) n typed h = absurd cc

pub equal_blob : (v : Value) (key : List ℕ) → is_of OfBlob v ≡ true → is_true (binary (Compare Eq Binary) v (Blob key)) ≡ true → v ≡ Blob key
unfolding binary
equal_blob Null key typed h = absurd cc
equal_blob (Int m) key typed h = absurd cc
equal_blob (Real x) key typed h = absurd cc
equal_blob (Text t) key typed h = absurd cc
equal_blob (Blob b) key typed h = ap Blob (same_bytes b key (sym (is_eq-slice_cmp b key) ∙ ap is_eq (sym (value_cmp-Blob b key)) ∙ truth_of _ h))

pub int_equal : (n : ℤ) → is_true (binary (Compare Eq Binary) (Int n) (Int n)) ≡ true
unfolding binary
int_equal n = rw (tied_itself value_cmp_total (Int n)) refl

pub blob_equal : (key : List ℕ) → is_true (binary (Compare Eq Binary) (Blob key) (Blob key)) ≡ true
unfolding binary
blob_equal key = rw (tied_itself value_cmp_total (Blob key)) refl

pub typed_row : (r : Row) → are_typed cells_table.key 0 cells_table.columns (drop 1 r) ≡ true → (is_of Integer (column r 1) ≡ true) × (is_of OfBlob (column r 2) ≡ true) × (is_of OfBlob (column r 3) ≡ true)
typed_row [] h = (refl, refl, refl)
typed_row (i ∷ []) h = (refl, refl, refl)
typed_row (i ∷ a ∷ []) h = ((and_parts _ _ h).0, refl, refl)
typed_row (i ∷ a ∷ b ∷ []) h = ((and_parts _ _ h).0, (and_parts _ _ (and_parts _ _ h).1).0, refl)
typed_row (i ∷ a ∷ b ∷ c ∷ more) h = ((and_parts _ _ h).0, (and_parts _ _ (and_parts _ _ h).1).0, (and_parts _ _ (and_parts _ _ (and_parts _ _ h).1).1).0)

-- the rows at the place are those that the texts name
pub placed : (space : ℕ) (key : List ℕ) (more : Row) (r : Row) → is_of Integer (column r 1) ≡ true → is_of OfBlob (column r 2) ≡ true
    → list_all (holds ((Int (pos space) ∷ Blob key ∷ more) ∷ r ∷ [])) at_place ≡ true → (column r 1 ≡ Int (pos space)) × (column r 2 ≡ Blob key)
placed space key more r a b h = let parts = and_parts _ _ h in (equal_int (column r 1) (pos space) a parts.0, equal_blob (column r 2) key b (and_parts _ _ parts.1).0)

pub place_holds : (space : ℕ) (key : List ℕ) (more : Row) (r : Row) → column r 1 ≡ Int (pos space) → column r 2 ≡ Blob key → list_all (holds ((Int (pos space) ∷ Blob key ∷ more) ∷ r ∷ [])) at_place ≡ true
place_holds space key more r a b = rw (a, b) (and_from _ _ (int_equal (pos space)) (and_from _ _ (blob_equal key) refl))

-- no row that is left has a rowid that is gone
pub left_lacks : (ids : List ℤ) (rows : List Row) (x : Row) → Has (without_all rows ids) x → (id : ℤ) → Has ids id → has_rowid id x ≡ false
left_lacks [] rows x h id none = absurd none
left_lacks (i ∷ ids) rows x h id (inl same) = rw same (not-true _ (has_filtered (λ y. not (has_rowid i y)) rows x (without_all_has ids (without_rowid i rows) x h)).1)
left_lacks (i ∷ ids) rows x h id (inr later) = left_lacks ids (without_rowid i rows) x h id later

own_rowid : (v : Value) → is_int v ≡ true → is_eq (value_cmp v (Int (id_in v))) ≡ true
own_rowid Null h = absurd cc
own_rowid (Int n) h = rw (tied_itself value_cmp_total (Int n)) refl
own_rowid (Real x) h = absurd cc
own_rowid (Text t) h = absurd cc
own_rowid (Blob b) h = absurd cc

pub has_own_rowid : (r : Row) → is_int (rowid r) ≡ true → has_rowid (id_in (rowid r)) r ≡ true
has_own_rowid r h = own_rowid (rowid r) h

pub shaped_without : (ids : List ℤ) (rows : List Row) → IsShaped Table rows → IsShaped Table (without_all rows ids)
shaped_without [] rows h = h
shaped_without (id ∷ ids) rows h = shaped_without ids (without_rowid id rows) (IsShaped-filter Table (λ y. not (has_rowid id y)) rows h)

pub int_same : (m n : ℕ) → Int (pos m) ≡ Int (pos n) → m ≡ n
int_same m n h = cc

pub blob_same : (a b : List ℕ) → Blob a ≡ Blob b → a ≡ b
blob_same a b h = cc

either : (b : Bool) (x : Value) → cond b x x ≡ x
either true x = refl
either false x = refl

pub cast_int : (n : ℤ) → cast Integer (Int n) ≡ Int n
unfolding unary
cast_int n = either _ (Int n)

untrue : (o : Ordering) → is_true (from_truth (Some (is_ne o))) ≡ false → o ≡ Equal
untrue Less h = absurd cc
untrue Equal h = refl
untrue Greater h = absurd cc

differ_ints : (m n : ℤ) → differ (Int m) (Int n) ≡ false → value_cmp (Int m) (Int n) ≡ Equal
unfolding binary
differ_ints m n h = untrue (value_cmp (Int m) (Int n)) h

pub int_of : (v : Value) → is_int v ≡ true → (n : ℤ) × (v ≡ Int n)
int_of Null h = absurd cc
int_of (Int n) h = (n, refl)
int_of (Real x) h = absurd cc
int_of (Text t) h = absurd cc
int_of (Blob b) h = absurd cc

pub not_apart : (a b : Value) → is_int a ≡ true → is_int b ≡ true → differ a b ≡ false → value_cmp a b ≡ Equal
not_apart a b p q h = let m = int_of a p in let n = int_of b q in rw (m.1, n.1) (differ_ints m.0 n.0 (rw (m.1, n.1) at h))

pub equal_tied : (a : Value) (n : ℤ) → is_int a ≡ true → is_true (binary (Compare Eq Binary) a (Int n)) ≡ true → a ≡ Int n
equal_tied a n p h = let m = int_of a p in m.1 ∙ equal_int (Int m.0) n refl (rw m.1 at h)

pub cast_null : cast Integer Null ≡ Null
unfolding unary
cast_null = either _ Null

or_none : (b : Bool) → (b || false) ≡ true → b ≡ true
or_none true h = refl
or_none false h = h

or_some : (b : Bool) → b ≡ true → (b || false) ≡ true
or_some b h = rw h refl

pub agree_at : (space : ℕ) (key : List ℕ) (a b : Row) → column a 1 ≡ Int (pos space) → column a 2 ≡ Blob key → column b 1 ≡ Int (pos space) → column b 2 ≡ Blob key → agree (record { digits = 0 }) (1 ∷ 2 ∷ []) a (1 ∷ 2 ∷ []) b ≡ true
unfolding first_key
agree_at space key a b p q r s = rw (p, q, r, s) (and_from _ _ (int_equal (pos space)) (and_from _ _ (blob_equal key) refl))

pub agreed : (space : ℕ) (key : List ℕ) (a b : Row) → is_of Integer (column a 1) ≡ true → is_of OfBlob (column a 2) ≡ true → column b 1 ≡ Int (pos space) → column b 2 ≡ Blob key → agree (record { digits = 0 }) (1 ∷ 2 ∷ []) a (1 ∷ 2 ∷ []) b ≡ true
    → (column a 1 ≡ Int (pos space)) × (column a 2 ≡ Blob key)
unfolding first_key
agreed space key a b p q r s h = let parts = and_parts _ _ (rw (r, s) at h) in (equal_int (column a 1) (pos space) p parts.0, equal_blob (column a 2) key q (and_parts _ _ parts.1).0)

-- a row meets the key of a new row where it stands at its place
pub conflict : (a b : Row) → agree (record { digits = 0 }) (1 ∷ 2 ∷ []) a (1 ∷ 2 ∷ []) b ≡ true → conflicts (Some (1 ∷ 2 ∷ [])) cells_schema.indexes cells_table b a ≡ true
conflict a b h = or_some _ h

pub conflicted : (a b : Row) → conflicts (Some (1 ∷ 2 ∷ [])) cells_schema.indexes cells_table b a ≡ true → agree (record { digits = 0 }) (1 ∷ 2 ∷ []) a (1 ∷ 2 ∷ []) b ≡ true
conflicted a b h = or_none _ h

pub int_meets : (a b : Value) (n : ℤ) → a ≡ Int n → b ≡ Int n → is_true (binary (Compare Eq Binary) a b) ≡ true
int_meets a b n p q = rw (p, q) (int_equal n)
