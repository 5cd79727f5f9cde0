-- The plans of a checked script keep sound tables sound.
use Rattle.std.proofs.Common.{◌≡◌, ◌≢◌, ◌≤◌, ◌<◌, ◌+◌, ℕ, ℤ, pos, refl, sym, ap, ◌∙◌, subst, List, [], ◌∷◌, ◌++◌, length, Bool, true, false, ◌&&◌, Option, Some, None, cond, true≢false, arith}
use Rattle.std.specs.Prelude.{negsuc, int_le, nat_le, nat_abs, map as map_list}
use Rattle.std.proofs.lemmas.Bool.{leb-true, le-leb}
use Rattle.std.specs.List.{AllByRecursion, IsDistinct}
use Rattle.std.specs.FinMap as map
use Rattle.std.specs.Str.{bytes_eq}
use Rattle.nb_base.specs.Meanings.{Meaning, AllFit, saga_at, row_at, place_of, block_of, IsApart, AreApart, IsPutRight, IsRightWrite}
use Rattle.nb_base.specs.Shown.{Stored, saga_seen, shown, with_id}
use Rattle.nb_base.specs.Sound.{CanCorrelate, HaveDistinctNames}
use Rattle.nb_base.specs.declared.plan.SagaRef.{SagaRef}
use Rattle.nb_base.specs.declared.plan.SagaRef.TheVariants as saga_ref
use Rattle.nb_base.specs.declared.plan.Write.{Write}
use Rattle.nb_base.specs.declared.plan.Write.TheVariants as write
use Rattle.nb_base.specs.declared.saga_key.SagaKey.{SagaKey}
use Rattle.nb_base.specs.declared.saga_row.SagaRow.{SagaRow}
use Rattle.nb_base.specs.declared.saga_row.Seen.{Seen}
use Rattle.nb_base.specs.declared.saga_row.Seen.TheVariants.{Absent, Saga as SagaSeen, Row as RowSeen}
use Rattle.nb_base.specs.declared.value.Field.{Field}
use Rattle.nb_base.specs.declared.value.Key.{Key}
use Rattle.nb_base.specs.declared.value.Key.TheVariants as key
use Rattle.nb_base.specs.declared.value.Value.{Value}
use Rattle.nb_base.specs.declared.value.Value.TheVariants.{Int, Text, Bool as Truth}
use Rattle.nb_script.specs.declared.item.FieldKind.{FieldKind}
use Rattle.nb_script.specs.declared.item.FieldKind.TheVariants as kind
use Rattle.nb_check.specs.Fits.{kind_of, is_there, is_field, fits_fields, fits, fits_if, saga_named}
use Rattle.nb_check.specs.Kinds.{is_kind}
use Rattle.nb_check.specs.declared.types.Declared.{Declared}
use Rattle.nb_check.specs.declared.types.SagaType.{SagaType}
use Rattle.nb_check.specs.declared.types.StateField.{StateField}
use Rattle.nb_eval.specs.declared.scene.Instance.{Instance}
use Rattle.nb_eval.specs.declared.scene.Touched.{Touched}
use Rattle.nb_eval.specs.Blocks.{put_saga, completed_write, instance_write}
use Rattle.nb_eval.specs.Meanings.{FitsLook}
use Rattle.nb_eval.specs.Verdicts.{row_write, row_writes}
use Rattle.nb_eval.proofs.Steps.{all-both}
use Rattle.nb_eval.proofs.SameKeys.{bytes-refl}
use Rattle.nb_eval.proofs.Sights.{declared}
use Rattle.nb_eval.proofs.Kept.{AreOnce}
use Rattle.nb_eval.proofs.CheckedBlocks.{state_declared, state_names, IsGoodField, IsGoodType}
use Rattle.nb_eval.proofs.ByIds.{found_by_id}

-- ---- sagas that are shown

saga-there-is : (o : Option SagaRow) (row : SagaRow) → saga_seen o ≡ SagaSeen row → o ≡ Some row
saga-there-is None row e = absurd (cc)
saga-there-is (Some r) row e = cc

pub corr-shown : (t : Stored) (saga : List ℕ) (corr : Value) (row : SagaRow) → shown t (key.ByCorr saga corr) ≡ SagaSeen row → map.get t.sagas (record { saga = saga; corr = corr }) ≡ Some row
corr-shown t saga corr row e = saga-there-is (map.get t.sagas (record { saga = saga; corr = corr })) row e

pub id-shown : (t : Stored) (saga id : List ℕ) (row : SagaRow) → shown t (key.ById saga id) ≡ SagaSeen row → (p : SagaKey) × (map.get t.sagas p ≡ Some row) × (p.saga ≡ saga) × (row.id ≡ id)
id-shown t saga id row e = found_by_id t.sagas saga id row (saga-there-is (with_id saga id (map.entries t.sagas)) row e)

-- tables whose sagas fit show sagas that fit
pub fits-look : (meaning : Meaning) (types : List SagaType) (t : Stored) → ((saga : List ℕ) (row : SagaRow) → meaning.fits saga row ≡ true → fits types saga row ≡ true) → AllFit meaning t → FitsLook types (shown t)
fits-look meaning types t same fit = record {
  by_corr = λ saga corr row e. same saga row (fit (record { saga = saga; corr = corr }) row (corr-shown t saga corr row e));
  by_id = λ saga id row e.
      let p = id-shown t saga id row e in
      subst (λ n. fits types n row ≡ true) p.2 (same p.0.saga row (fit p.0 row p.1));
}

-- ---- written rows fit

head-is : (a b : Declared) (xs ys : List Declared) → a ∷ xs ≡ b ∷ ys → a ≡ b
head-is a b xs ys e = cc

tail-is : (a b : Declared) (xs ys : List Declared) → a ∷ xs ≡ b ∷ ys → xs ≡ ys
tail-is a b xs ys e = cc

first-is : (f : StateField) (fs : List StateField) (v : Field) (vs : List Field) → declared (v ∷ vs) ≡ state_declared (f ∷ fs) → ◌≡◌ {A = Declared} (record { name = v.name; kind = kind_of v.value }) (record { name = f.name; kind = f.kind })
first-is f fs v vs e = head-is (record { name = v.name; kind = kind_of v.value }) (record { name = f.name; kind = f.kind }) (declared vs) (state_declared fs) e

rest-is : (f : StateField) (fs : List StateField) (v : Field) (vs : List Field) → declared (v ∷ vs) ≡ state_declared (f ∷ fs) → declared vs ≡ state_declared fs
rest-is f fs v vs e = tail-is (record { name = v.name; kind = kind_of v.value }) (record { name = f.name; kind = f.kind }) (declared vs) (state_declared fs) e

names-of-declared : (fs : List StateField) (vs : List Field) → declared vs ≡ state_declared fs → map_list (λ (f : Field). f.name) vs ≡ state_names fs
names-of-declared [] [] e = refl
names-of-declared [] (v ∷ vs) e = absurd (cc)
names-of-declared (f ∷ fs) [] e = absurd (cc)
names-of-declared (f ∷ fs) (v ∷ vs) e =
    let first : v.name ≡ f.name = ap (λ (d : Declared). d.name) (first-is f fs v vs e) in
    let rest : declared vs ≡ state_declared fs = rest-is f fs v vs e in
    ap (λ n. n ∷ map_list (λ (f : Field). f.name) vs) first ∙ ap (λ ns. f.name ∷ ns) (names-of-declared fs vs rest)

pub distinct-names : (t : SagaType) (vs : List Field) → IsGoodType t → declared vs ≡ state_declared t.fields → HaveDistinctNames vs
distinct-names t vs good e = subst (λ ns. IsDistinct bytes_eq ns) (sym (names-of-declared t.fields vs e)) good.distinct

-- ---- a list of writes with one more

append-nil : {X : Type 0} (xs : List X) → xs ≡ xs ++ []
append-nil [] = refl
append-nil (x ∷ xs) = ap (λ ys. x ∷ ys) (append-nil xs)

abbrev pub MetSagas : Type 0
MetSagas = List (List ℕ)

-- a change of a saga that none of these is, made by an earlier block
pub record IsPast (block : ℕ) (sagas : MetSagas) (x : Write) : Type 0 where
  pub place : SagaKey
  pub stands : place_of x ≡ saga_at place
  pub other : AllByRecursion (λ n. n ≢ place.saga) sagas
  pub earlier : (b : ℕ) → block_of x ≡ Some b → b < block

later : (block : ℕ) (sagas : MetSagas) (ws : List Write) → AllByRecursion (IsPast block sagas) ws → AllByRecursion (IsPast (block + 1) sagas) ws
later block sagas [] h = tt
later block sagas (w ∷ ws) h = (record { place = h.0.place; stands = h.0.stands; other = h.0.other; earlier = λ b e. let l = h.0.earlier b e in omega (arith, l) }, later block sagas ws h.1)

fewer : (block : ℕ) (n : List ℕ) (sagas : MetSagas) (ws : List Write) → AllByRecursion (IsPast block (n ∷ sagas)) ws → AllByRecursion (IsPast block sagas) ws
fewer block n sagas [] h = tt
fewer block n sagas (w ∷ ws) h = (record { place = h.0.place; stands = h.0.stands; other = h.0.other.1; earlier = h.0.earlier }, fewer block n sagas ws h.1)

saga-at-is : (p q : SagaKey) → saga_at p ≡ saga_at q → p ≡ q
saga-at-is p q e = cc

-- a change of this saga by this block is apart from those before
apart-from : (block : ℕ) (n : List ℕ) (sagas : MetSagas) (x : Write) (p : SagaKey) → place_of x ≡ saga_at p → p.saga ≡ n → ((b : ℕ) → block_of x ≡ Some b → b ≡ block) → (w : Write) → IsPast block (n ∷ sagas) w → IsApart w x
apart-from block n sagas x p stands is mine w h = (
  λ e. h.other.0 (sym is ∙ ap (λ (k : SagaKey). k.saga) (saga-at-is p h.place (sym stands ∙ sym e ∙ h.stands))),
  λ b made again. let l = h.earlier b made in let s = mine b again in omega (arith, l, s),
)

all-apart : (block : ℕ) (n : List ℕ) (sagas : MetSagas) (x : Write) (p : SagaKey) → place_of x ≡ saga_at p → p.saga ≡ n → ((b : ℕ) → block_of x ≡ Some b → b ≡ block) → (ws : List Write) → AllByRecursion (IsPast block (n ∷ sagas)) ws
    → AreApart ws → AreApart (ws ++ x ∷ [])
all-apart block n sagas x p stands is mine [] h apart = (tt, tt)
all-apart block n sagas x p stands is mine (w ∷ ws) h apart =
    (all-both (IsApart w) ws (x ∷ []) apart.0 (apart-from block n sagas x p stands is mine w h.0, tt), all-apart block n sagas x p stands is mine ws h.1 apart.1)

-- ---- rows

abbrev IsRow : List ℕ → Write → Type 0
IsRow n x = (place_of x ≡ row_at n) × (block_of x ≡ None)

is-row : (n : List ℕ) (v : Option ℤ) (s : Seen) → AllByRecursion (IsRow n) (row_write n v s)
is-row n (Some k) s = ((refl, refl), tt)
is-row n None Absent = tt
is-row n None (SagaSeen row) = tt
is-row n None (RowSeen version value) = ((refl, refl), tt)

row-at-is : (a b : List ℕ) → row_at a ≡ row_at b → a ≡ b
row-at-is a b e = cc

none-some : (b : ℕ) → None ≡ Some b → ⊥
none-some b e = cc

row-saga : (n : List ℕ) (p : SagaKey) → saga_at p ≡ row_at n → ⊥
row-saga n p e = cc

rows-apart : (name other : List ℕ) → name ≢ other → (x y : Write) → IsRow name x → IsRow other y → IsApart x y
rows-apart name other differ x y p q = (λ e. differ (row-at-is name other (sym p.0 ∙ e ∙ q.0)), λ b made again. none-some b (sym q.1 ∙ again))

from-rows : (name other : List ℕ) → name ≢ other → (x : Write) → IsRow name x → (ys : List Write) → AllByRecursion (IsRow other) ys → AllByRecursion (IsApart x) ys
from-rows name other differ x p [] q = tt
from-rows name other differ x p (y ∷ ys) q = (rows-apart name other differ x y p q.0, from-rows name other differ x p ys q.1)

from-later : (look : Key → Seen) (name : List ℕ) (x : Write) → IsRow name x → (ts : List Touched) → AllByRecursion (λ (u : Touched). name ≢ u.name) ts → AllByRecursion (IsApart x) (row_writes look ts)
from-later look name x p [] h = tt
from-later look name x p (t ∷ ts) h =
    all-both (IsApart x) (row_write t.name t.value (look (key.Row t.name))) (row_writes look ts)
    (from-rows name t.name h.0 x p (row_write t.name t.value (look (key.Row t.name))) (is-row t.name t.value (look (key.Row t.name)))) (from-later look name x p ts h.1)

add-rows : (look : Key → Seen) (name : List ℕ) (xs : List Write) (ts : List Touched) → AllByRecursion (IsRow name) xs → length xs ≤ 1 → AllByRecursion (λ (u : Touched). name ≢ u.name) ts → AreApart (row_writes look ts)
    → AreApart (xs ++ row_writes look ts)
add-rows look name [] ts p few h apart = apart
add-rows look name (x ∷ []) ts p few h apart = (from-later look name x p.0 ts h, apart)
add-rows look name (x ∷ y ∷ xs) ts p few h apart = absurd (omega (arith, few))

one-row : (n : List ℕ) (v : Option ℤ) (s : Seen) → length (row_write n v s) ≤ 1
one-row n (Some k) s = omega arith
one-row n None Absent = omega arith
one-row n None (SagaSeen row) = omega arith
one-row n None (RowSeen version value) = omega arith

pub row-writes-apart : (look : Key → Seen) (ts : List Touched) → AreOnce ts → AreApart (row_writes look ts)
row-writes-apart look [] h = tt
row-writes-apart look (t ∷ ts) h =
    add-rows look t.name (row_write t.name t.value (look (key.Row t.name))) ts (is-row t.name t.value (look (key.Row t.name))) (one-row t.name t.value (look (key.Row t.name))) h.0 (row-writes-apart look ts h.1)

saga-row : (block : ℕ) (sagas : MetSagas) (w : Write) → IsPast block sagas w → (n : List ℕ) (x : Write) → IsRow n x → IsApart w x
saga-row block sagas w h n x p = (λ e. row-saga n h.place (sym h.stands ∙ e ∙ p.0), λ b made again. none-some b (sym p.1 ∙ again))

saga-rows : (block : ℕ) (sagas : MetSagas) (w : Write) → IsPast block sagas w → (n : List ℕ) (xs : List Write) → AllByRecursion (IsRow n) xs → AllByRecursion (IsApart w) xs
saga-rows block sagas w h n [] p = tt
saga-rows block sagas w h n (x ∷ xs) p = (saga-row block sagas w h n x p.0, saga-rows block sagas w h n xs p.1)

saga-all : (look : Key → Seen) (block : ℕ) (sagas : MetSagas) (w : Write) → IsPast block sagas w → (ts : List Touched) → AllByRecursion (IsApart w) (row_writes look ts)
saga-all look block sagas w h [] = tt
saga-all look block sagas w h (t ∷ ts) =
    all-both (IsApart w) (row_write t.name t.value (look (key.Row t.name))) (row_writes look ts)
    (saga-rows block sagas w h t.name (row_write t.name t.value (look (key.Row t.name))) (is-row t.name t.value (look (key.Row t.name)))) (saga-all look block sagas w h ts)

-- the changes of sagas, and then those of rows
pub plan-apart : (look : Key → Seen) (block : ℕ) (sagas : MetSagas) (ws : List Write) (ts : List Touched) → AllByRecursion (IsPast block sagas) ws → AreApart ws → AreOnce ts → AreApart (ws ++ row_writes look ts)
plan-apart look block sagas [] ts p apart once = row-writes-apart look ts once
plan-apart look block sagas (w ∷ ws) ts p apart once =
    (all-both (IsApart w) ws (row_writes look ts) apart.0 (saga-all look block sagas w p.0 ts), plan-apart look block sagas ws ts p.1 apart.1 once)

rows-right : (meaning : Meaning) (t : Stored) (n : List ℕ) (v : Option ℤ) (s : Seen) → AllByRecursion (IsRightWrite meaning t) (row_write n v s)
rows-right meaning t n (Some k) s = (tt, tt)
rows-right meaning t n None Absent = tt
rows-right meaning t n None (SagaSeen row) = tt
rows-right meaning t n None (RowSeen version value) = (tt, tt)

pub row-writes-right : (meaning : Meaning) (t : Stored) (look : Key → Seen) (ts : List Touched) → AllByRecursion (IsRightWrite meaning t) (row_writes look ts)
row-writes-right meaning t look [] = tt
row-writes-right meaning t look (x ∷ ts) =
    all-both (IsRightWrite meaning t) (row_write x.name x.value (look (key.Row x.name))) (row_writes look ts) (rows-right meaning t x.name x.value (look (key.Row x.name))) (row-writes-right meaning t look ts)

-- ---- the change of a saga

abbrev pub IsMadeBy : ℕ → SagaRef → Type 0
IsMadeBy block (saga_ref.New b) = b ≡ block
IsMadeBy block (saga_ref.Stored id) = Unit {0}

-- what is known of the saga on which a block worked, at the block's end
pub record IsOfType (t : Stored) (y : SagaType) (block : ℕ) (j : Instance) : Type 0 where
  pub name : j.saga ≡ y.name
  pub revision : j.revision ≡ nat_abs y.revision
  pub corr : kind_of j.corr ≡ y.correlation.kind
  pub fields : declared j.fields ≡ state_declared y.fields
  pub place : IsPutRight t (record { saga = j.saga; corr = j.corr }) j.which
  pub made : IsMadeBy block j.which

some-nat : (a b : ℕ) → Some a ≡ Some b → a ≡ b
some-nat a b e = cc

made-put : (block : ℕ) (w : SagaRef) (saga : List ℕ) (corr : Value) (revision : ℕ) (originator original : List ℕ) (fields : List Field) → IsMadeBy block w → (b : ℕ) → block_of (write.SagaPut saga corr revision w originator original fields) ≡ Some b → b ≡ block
made-put block (saga_ref.New c) saga corr revision originator original fields h b e = sym (some-nat c b e) ∙ h
made-put block (saga_ref.Stored id) saga corr revision originator original fields h b e = absurd (none-some b e)

can-correlate : (v : Value) (k : FieldKind) → kind_of v ≡ k → is_kind k kind.Bool ≡ false → CanCorrelate v
can-correlate (Int n) k is h = tt
can-correlate (Text x) k is h = tt
can-correlate (Truth b) k is h = true≢false (subst (λ k. is_kind k kind.Bool ≡ false) (sym is) h)

from-one : (r : ℤ) → int_le (pos 1) r ≡ true → (r ≡ pos (nat_abs r)) × (1 ≤ nat_abs r)
from-one (pos n) h = (refl, leb-true 1 n h)
from-one (negsuc n) h = absurd (cc)

kind-refl : (k : FieldKind) → is_kind k k ≡ true
kind-refl kind.Int = refl
kind-refl kind.Text = refl
kind-refl kind.Bool = refl

both-true : (a b : Bool) → a ≡ true → b ≡ true → a && b ≡ true
both-true a b p q = rw p q

all-true : (a b c d : Bool) → a ≡ true → b ≡ true → c ≡ true → d ≡ true → (a && b && c && d) ≡ true
all-true a b c d p q r s = rw (p, q, r) s

fits-again : (r : ℤ) (n : ℕ) (fs : List StateField) (vs : List Field) → r ≡ pos n → AllByRecursion (IsGoodField r) fs → declared vs ≡ state_declared fs → fits_fields n fs vs ≡ true
fits-again r n [] [] is h e = refl
fits-again r n [] (v ∷ vs) is h e = absurd (cc)
fits-again r n (f ∷ fs) [] is h e = absurd (cc)
fits-again r n (f ∷ fs) (v ∷ vs) is h e =
    let name : v.name ≡ f.name = ap (λ (d : Declared). d.name) (first-is f fs v vs e) in
    let its_kind : kind_of v.value ≡ f.kind = ap (λ (d : Declared). d.kind) (first-is f fs v vs e) in
    let rest : declared vs ≡ state_declared fs = rest-is f fs v vs e in
    let there : is_there n f ≡ true = subst (λ z. int_le f.since z ≡ true) is h.0.0 in
    let names : bytes_eq f.name v.name ≡ true = subst (λ x. bytes_eq f.name x ≡ true) (sym name) (bytes-refl f.name) in
    let kinds : is_kind (kind_of v.value) f.kind ≡ true = subst (λ k. is_kind k f.kind ≡ true) (sym its_kind) (kind-refl f.kind) in
    ap (λ b. cond b (is_field f v && fits_fields n fs vs) (fits_fields n fs (v ∷ vs))) there
    ∙ both-true (is_field f v) (fits_fields n fs vs) (both-true (bytes_eq f.name v.name) _ names kinds) (fits-again r n fs vs is h.1 rest)

fits-written : (types : List SagaType) (t : Stored) (y : SagaType) (block : ℕ) (j : Instance) → IsGoodType y → saga_named y.name types ≡ Some y → IsOfType t y block j → (id : List ℕ) (version : ℕ)
    → fits types j.saga (record { corr = j.corr; id = id; version = version; revision = j.revision; originator = j.originator; original = j.original; fields = j.fields }) ≡ true
fits-written types t y block j good named is id version =
    let row : SagaRow = record { corr = j.corr; id = id; version = version; revision = j.revision; originator = j.originator; original = j.original; fields = j.fields } in
    let r = from-one y.revision good.revision in
    let low : nat_le 1 j.revision ≡ true = subst (λ n. nat_le 1 n ≡ true) (sym is.revision) (le-leb 1 (nat_abs y.revision) r.1) in
    let high : int_le (pos j.revision) y.revision ≡ true = subst (λ n. int_le (pos n) y.revision ≡ true) (sym is.revision) (subst (λ z. int_le (pos (nat_abs y.revision)) z ≡ true) (sym r.0) (le-leb (nat_abs y.revision) (nat_abs y.revision) (omega arith))) in
    let kinds : is_kind (kind_of j.corr) y.correlation.kind ≡ true = subst (λ k. is_kind k y.correlation.kind ≡ true) (sym is.corr) (kind-refl y.correlation.kind) in
    let fields : fits_fields j.revision y.fields j.fields ≡ true = fits-again y.revision j.revision y.fields j.fields (r.0 ∙ ap pos (sym is.revision)) good.fields is.fields in
    ap (λ o. fits_if o row) (ap (λ n. saga_named n types) is.name ∙ named) ∙ all-true (nat_le 1 j.revision) (int_le (pos j.revision) y.revision) (is_kind (kind_of j.corr) y.correlation.kind) (fits_fields j.revision y.fields j.fields) low high kinds fields

module _ (meaning : Meaning) (types : List SagaType) (t : Stored) (same : (saga : List ℕ) (row : SagaRow) → fits types saga row ≡ true → meaning.fits saga row ≡ true) where
  right-put : (y : SagaType) (block : ℕ) (j : Instance) → IsGoodType y → saga_named y.name types ≡ Some y → IsOfType t y block j → IsRightWrite meaning t (put_saga j)
  right-put y block j good named is = (
    can-correlate j.corr y.correlation.kind is.corr good.corr,
    subst (λ n. 1 ≤ n) (sym is.revision) (from-one y.revision good.revision).1,
    distinct-names y j.fields good is.fields,
    is.place,
    λ id version. same j.saga (record { corr = j.corr; id = id; version = version; revision = j.revision; originator = j.originator; original = j.original; fields = j.fields }) (fits-written types t y block j good named is id version),
  )

  -- what holds of the changes of sagas before the block at this place, of sagas that the blocks met from here on don't name
  pub record AreRight (block : ℕ) (sagas : MetSagas) (ws : List Write) : Type 0 where
    pub apart : AreApart ws
    pub right : AllByRecursion (IsRightWrite meaning t) ws
    pub past : AllByRecursion (IsPast block sagas) ws

  one-more : (y : SagaType) (block : ℕ) (sagas : MetSagas) (ws : List Write) (x : Write) (p : SagaKey) → place_of x ≡ saga_at p → p.saga ≡ y.name → ((b : ℕ) → block_of x ≡ Some b → b ≡ block) → IsRightWrite meaning t x
      → AllByRecursion (λ n. n ≢ y.name) sagas → AreRight block (y.name ∷ sagas) ws → AreRight (block + 1) sagas (ws ++ x ∷ [])
  one-more y block sagas ws x p stands is mine right others h = record {
    apart = all-apart block y.name sagas x p stands is mine ws h.past h.apart;
    right = all-both (IsRightWrite meaning t) ws (x ∷ []) h.right (right, tt);
    past = all-both (IsPast (block + 1) sagas) ws (x ∷ []) (later block sagas ws (fewer block y.name sagas ws h.past))
        (record { place = p; stands = stands; other = subst (λ s. AllByRecursion (λ n. n ≢ s) sagas) (sym is) others; earlier = λ b e. let s = mine b e in omega (arith, s) }, tt);
  }

  none-more : (y : SagaType) (block : ℕ) (sagas : MetSagas) (ws : List Write) → AreRight block (y.name ∷ sagas) ws → AreRight (block + 1) sagas (ws ++ [])
  none-more y block sagas ws h = subst (λ ws. AreRight (block + 1) sagas ws) (append-nil ws)
      (record { apart = h.apart; right = h.right; past = later block sagas ws (fewer block y.name sagas ws h.past) })

  pub none-changed : (block : ℕ) (sagas : MetSagas) (ws : List Write) → AreRight block sagas ws → AreRight (block + 1) sagas (ws ++ [])
  none-changed block sagas ws h = subst (λ ws. AreRight (block + 1) sagas ws) (append-nil ws) (record { apart = h.apart; right = h.right; past = later block sagas ws h.past })

  pub one-less : (block : ℕ) (n : List ℕ) (sagas : MetSagas) (ws : List Write) → AreRight block (n ∷ sagas) ws → AreRight (block + 1) sagas ws
  one-less block n sagas ws h = record { apart = h.apart; right = h.right; past = later block sagas ws (fewer block n sagas ws h.past) }

  -- the change of the saga at the end of its block
  pub ended-right : (y : SagaType) (block : ℕ) (sagas : MetSagas) (ws : List Write) (j : Instance) → IsGoodType y → saga_named y.name types ≡ Some y → IsOfType t y block j → AllByRecursion (λ n. n ≢ y.name) sagas
      → AreRight block (y.name ∷ sagas) ws → AreRight (block + 1) sagas (ws ++ instance_write j)
  ended-right y block sagas ws j good named is others h =
      elim j.completed as (λ b. AreRight (block + 1) sagas (ws ++ cond b (completed_write j.which j) (put_saga j ∷ []))) [
        | true ↦ gone j.which
        | false ↦ one-more y block sagas ws (put_saga j) (record { saga = j.saga; corr = j.corr }) refl is.name (made-put block j.which j.saga j.corr j.revision j.originator j.original j.fields is.made) (right-put y block j good named is) others h
      ]
    where
      gone : (w : SagaRef) → AreRight (block + 1) sagas (ws ++ completed_write w j)
      gone (saga_ref.New b) = none-more y block sagas ws h
      gone (saga_ref.Stored id) = one-more y block sagas ws (write.SagaErase j.saga j.corr) (record { saga = j.saga; corr = j.corr }) refl is.name (λ b e. absurd (none-some b e)) tt others h
