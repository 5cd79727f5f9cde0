-- What is in sight, by what is there, and answers that are no wrong kind.
use Rattle.std.proofs.Common.{◌≡◌, ℕ, refl, sym, subst, List, [], ◌∷◌, Bool, true, false, Option, Some, None, Ok, Err, cond, true≢false}
use Rattle.std.specs.Str.{bytes_eq}
use Rattle.nb_base.specs.declared.value.Field.{Field}
use Rattle.nb_base.specs.declared.value.Value.{Value}
use Rattle.nb_base.specs.declared.value.Value.TheVariants.{Int, Text, Bool as Truth}
use Rattle.nb_script.specs.declared.item.FieldKind.{FieldKind}
use Rattle.nb_script.specs.declared.item.FieldKind.TheVariants as kind
use Rattle.nb_check.specs.Breaches.{unless_some}
use Rattle.nb_check.specs.Fits.{kind_of}
use Rattle.nb_check.specs.Keys.{value_in}
use Rattle.nb_check.specs.Kinds.{is_kind, kind_in, local_in, known, unless_kind}
use Rattle.nb_check.specs.declared.breach.CheckKind.{CheckKind}
use Rattle.nb_check.specs.declared.breach.CheckKind.TheVariants.{WrongType}
use Rattle.nb_check.specs.declared.sight.Local.{Local}
use Rattle.nb_check.specs.declared.sight.SagaSight.{SagaSight}
use Rattle.nb_check.specs.declared.sight.Sight.{Sight}
use Rattle.nb_check.specs.declared.types.Declared.{Declared}
use Rattle.nb_eval.specs.declared.scene.Instance.{Instance}
use Rattle.nb_eval.specs.declared.scene.State.{State}
use Rattle.nb_eval.specs.declared.stop.Stop.{Stop}
use Rattle.nb_eval.specs.declared.stop.Stop.TheVariants as stop
use Rattle.nb_eval.specs.Values.{Answer, ◌>>=◌, found}
use Rattle.nb_eval.specs.Worlds.{World, all_fields}
use Rattle.nb_eval.proofs.Steps.{is-true}

-- ---- what is in sight

abbrev pub declared : List Field → List Declared
declared [] = []
declared (f ∷ fs) = record { name = f.name; kind = kind_of f.value } ∷ declared fs

abbrev pub locals : List Field → List Local
locals [] = []
locals (f ∷ fs) = record { name = f.name; kind = Some (kind_of f.value) } ∷ locals fs

abbrev pub instance_sight : List (List ℕ) → Instance → SagaSight
instance_sight ts i = record { correlation = i.property; fields = declared (all_fields i); timeouts = ts }

abbrev pub saga_sight_of : List (List ℕ) → Option Instance → Option SagaSight
saga_sight_of ts None = None
saga_sight_of ts (Some i) = Some (instance_sight ts i)

-- the kinds of what is there
abbrev pub sight_of : World → List (List ℕ) → State → Sight
sight_of w ts s = record { message = Some (declared w.fields); saga = saga_sight_of ts s.saga; names = locals s.names }

-- ---- answers

abbrev pub IsFault : Stop → Type 0
IsFault (stop.Passed l) = Unit {0}
IsFault (stop.Refused r name text) = Unit {0}
IsFault stop.Wrong = ⊥
IsFault stop.NoMemory = ⊥

-- what is wanted, or a fault of the script
abbrev pub Good : {A : Type 0} → (A → Type 0) → Answer A → Type 0
Good Q (Ok a) = Q a
Good Q (Err e) = IsFault e

-- a value of this kind, or a fault
abbrev pub HasKind : Option FieldKind → Answer Value → Type 0
HasKind k = Good (λ v. k ≡ Some (kind_of v))

abbrev pub Fine : {A : Type 0} → Answer A → Type 0
Fine = Good (λ a. Unit {0})

pub good-bind : {A B : Type 0} (P : A → Type 0) (Q : B → Type 0) (x : Answer A) (f : A → Answer B) → Good P x → ((a : A) → P a → Good Q (f a)) → Good Q (x >>= f)
good-bind P Q (Ok a) f p h = h a p
good-bind P Q (Err e) f p h = p

-- ---- kinds

pub kind-is : (j k : FieldKind) → is_kind j k ≡ true → j ≡ k
kind-is kind.Int kind.Int h = refl
kind-is kind.Text kind.Text h = refl
kind-is kind.Bool kind.Bool h = refl
kind-is kind.Int kind.Text h = absurd (true≢false (sym h))
kind-is kind.Int kind.Bool h = absurd (true≢false (sym h))
kind-is kind.Text kind.Int h = absurd (true≢false (sym h))
kind-is kind.Text kind.Bool h = absurd (true≢false (sym h))
kind-is kind.Bool kind.Int h = absurd (true≢false (sym h))
kind-is kind.Bool kind.Text h = absurd (true≢false (sym h))

-- the kind of what may be there
abbrev pub kind_if : Option Value → Option FieldKind
kind_if None = None
kind_if (Some v) = Some (kind_of v)

abbrev pub local_if : Option Value → Option (Option FieldKind)
local_if None = None
local_if (Some v) = Some (Some (kind_of v))

pub kind-declared : (name : List ℕ) (fs : List Field) → kind_in name (declared fs) ≡ kind_if (value_in name fs)
kind-declared name [] = refl
kind-declared name (f ∷ fs) =
    elim (bytes_eq f.name name) as (λ b. cond b (Some (kind_of f.value)) (kind_in name (declared fs)) ≡ kind_if (cond b (Some f.value) (value_in name fs)))
    [ true ↦ refl | false ↦ kind-declared name fs ]

pub local-declared : (name : List ℕ) (fs : List Field) → local_in name (locals fs) ≡ local_if (value_in name fs)
local-declared name [] = refl
local-declared name (f ∷ fs) =
    elim (bytes_eq f.name name) as (λ b. cond b (Some (Some (kind_of f.value))) (local_in name (locals fs)) ≡ local_if (cond b (Some f.value) (value_in name fs)))
    [ true ↦ refl | false ↦ local-declared name fs ]

known-if : (o : Option Value) (at : ℕ) (rule : CheckKind) → unless_some (kind_if o) at rule ≡ [] → HasKind (kind_if o) (found o)
known-if None at rule h = absurd (cc)
known-if (Some v) at rule h = refl

-- a field that is known has a value of its kind
pub known-field : (name : List ℕ) (fs : List Field) (at : ℕ) (rule : CheckKind) → unless_some (kind_in name (declared fs)) at rule ≡ [] → HasKind (kind_in name (declared fs)) (found (value_in name fs))
known-field name fs at rule h =
    subst (λ k. unless_some k at rule ≡ [] → HasKind k (found (value_in name fs))) (sym (kind-declared name fs)) (known-if (value_in name fs) at rule) h

local-known : (o : Option Value) (at : ℕ) (rule : CheckKind) → unless_some (local_if o) at rule ≡ [] → HasKind (known (local_if o)) (found o)
local-known None at rule h = absurd (cc)
local-known (Some v) at rule h = refl

pub known-local : (name : List ℕ) (fs : List Field) (at : ℕ) (rule : CheckKind) → unless_some (local_in name (locals fs)) at rule ≡ [] → HasKind (known (local_in name (locals fs))) (found (value_in name fs))
known-local name fs at rule h =
    subst (λ k. unless_some k at rule ≡ [] → HasKind (known k) (found (value_in name fs))) (sym (local-declared name fs)) (local-known (value_in name fs) at rule) h

-- a value has the kind that is wanted
pub wanted : (k : FieldKind) (o : Option FieldKind) (at : ℕ) (v : Value) → unless_kind k o at ≡ [] → o ≡ Some (kind_of v) → is_kind (kind_of v) k ≡ true
wanted k o at v h e = is-true (is_kind (kind_of v) k) at WrongType (subst (λ o. unless_kind k o at ≡ []) e h)

pub value-int : (v : Value) → is_kind (kind_of v) kind.Int ≡ true → (n : _) × (v ≡ Int n)
value-int (Int n) h = (n, refl)
value-int (Text t) h = absurd (true≢false (sym h))
value-int (Truth b) h = absurd (true≢false (sym h))

pub value-text : (v : Value) → is_kind (kind_of v) kind.Text ≡ true → (t : List ℕ) × (v ≡ Text t)
value-text (Int n) h = absurd (true≢false (sym h))
value-text (Text t) h = (t, refl)
value-text (Truth b) h = absurd (true≢false (sym h))

pub value-truth : (v : Value) → is_kind (kind_of v) kind.Bool ≡ true → (b : Bool) × (v ≡ Truth b)
value-truth (Int n) h = absurd (true≢false (sym h))
value-truth (Text t) h = absurd (true≢false (sym h))
value-truth (Truth b) h = (b, refl)
