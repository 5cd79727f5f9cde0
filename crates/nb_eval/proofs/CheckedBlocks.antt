-- What the rules say of the blocks and the sagas of a script that breaks none.
use Rattle.std.proofs.Common.{◌≡◌, ◌<◌, ℕ, zero, suc, length, get_or, arith, ℤ, pos, refl, sym, ap, ◌∙◌, subst, List, [], ◌∷◌, Bool, true, false, not, Option, Some, None, cond, true≢false}
use Rattle.std.specs.Prelude.{int_le, map as map_list}
use Rattle.std.specs.List.{AllByRecursion, IsDistinct}
use Rattle.std.specs.Str.{bytes_eq}
use Rattle.std.specs.Cmp.Lexicographic.{bytes_decides}
use Rattle.nb_script.specs.declared.expr.TypeName.{TypeName}
use Rattle.nb_script.specs.declared.item.FieldKind.{FieldKind}
use Rattle.nb_script.specs.declared.item.FieldKind.TheVariants as kind
use Rattle.nb_script.specs.declared.item.Literal.{Literal}
use Rattle.nb_script.specs.declared.item.Literal.TheVariants as literal
use Rattle.nb_script.specs.declared.item.Revision.{Revision}
use Rattle.nb_script.specs.declared.item.SagaField.{SagaField}
use Rattle.nb_script.specs.declared.item.Since.{Since}
use Rattle.nb_script.specs.declared.item.Item.{Item}
use Rattle.nb_script.specs.Tree.{item, script}
use Rattle.nb_script.specs.Grammar.{Braces, PartTerm, ByField, ById, SagaTerm, ItemTerm, Message, Handler, Saga}
use Rattle.nb_check.specs.Blocks.{Role, Handles, Finds, Answers, BlockTerm, handler_block, part_block, part_blocks, blocks}
use Rattle.nb_check.specs.Breaches.{unless_true, again, twice}
use Rattle.nb_check.specs.Declarations.{type_text, field_of, default_of, literal_value, since_of, first_value, state_fields, revision_of, saga_type, sagas, messages}
use Rattle.nb_check.specs.Fits.{kind_of, saga_named}
use Rattle.nb_check.specs.Kinds.{is_kind, kind_in}
use Rattle.nb_check.specs.Rules.{placed_messages, placed_sagas, placed_field, placed_state, correlation_faults, lies_in, revision_faults, literal_kind, literal_place, since_faults, state_faults, state_kinds, saga_sight, sight, block_faults, found_by, by_faults, part_faults, parts_faults, declared_faults, placed_parts, placed_timeouts, saga_faults, item_faults, items_faults, script_faults}
use Rattle.nb_check.specs.Statements.{fields_of, unless_known, braces_faults}
use Rattle.nb_check.specs.declared.breach.CheckKind.{CheckKind}
use Rattle.nb_check.specs.declared.breach.CheckKind.TheVariants.{MessageTwice, SagaTwice, FieldTwice, PartTwice, BadCorrelation, BadRevision, WrongType}
use Rattle.nb_check.specs.declared.breach.Placed.{Placed}
use Rattle.nb_check.specs.declared.sight.SagaSight.{SagaSight}
use Rattle.nb_check.specs.declared.types.Declared.{Declared}
use Rattle.nb_check.specs.declared.types.MessageType.{MessageType}
use Rattle.nb_check.specs.declared.types.SagaType.{SagaType}
use Rattle.nb_check.specs.declared.types.StateField.{StateField}
use Rattle.nb_eval.specs.Blocks.{IsDeclared}
use Rattle.nb_eval.proofs.Steps.{left-nil, right-nil, and-left, and-right, is-true, all-both}
use Rattle.nb_eval.proofs.SameKeys.{bytes-is, bytes-refl}
use Rattle.nb_eval.proofs.Sights.{kind-is}

-- ---- names that differ

not-true : (b : Bool) → not b ≡ true → b ≡ false
not-true true h = absurd (true≢false (sym h))
not-true false h = refl

pub others-differ : (rule : CheckKind) (name : List ℕ) (ps : List Placed) → again rule name ps ≡ [] → AllByRecursion (λ (p : Placed). bytes_eq p.name name ≡ false) ps
others-differ rule name [] h = tt
others-differ rule name (p ∷ ps) h = (
  not-true (bytes_eq p.name name) (is-true (not (bytes_eq p.name name)) p.at rule (left-nil (unless_true (not (bytes_eq p.name name)) p.at rule) _ h)),
  others-differ rule name ps (right-nil (unless_true (not (bytes_eq p.name name)) p.at rule) _ h),
)

pub not-both : (a b : List ℕ) → bytes_eq a b ≡ false → bytes_eq b a ≡ false
not-both a b h =
    (elim (bytes_eq b a) as (λ t. bytes_eq b a ≡ t → t ≡ false) [
      | true ↦ λ e. absurd (true≢false (sym ((bytes_decides a b).1 (sym (bytes-is b a e))) ∙ h))
      | false ↦ λ e. refl
    ]) refl

-- ---- sagas are declared

lift-declared : (s : SagaTerm) (ts : List SagaType) (items : List ItemTerm) → AllByRecursion (λ (p : Placed). bytes_eq p.name s.name ≡ false) (placed_sagas items) → AllByRecursion (IsDeclared ts) items
    → AllByRecursion (IsDeclared (saga_type s ∷ ts)) items
lift-declared s ts [] h k = tt
lift-declared s ts (Message at n o fs c ∷ items) h k = (tt, lift-declared s ts items h k.1)
lift-declared s ts (Handler at n b ∷ items) h k = (tt, lift-declared s ts items h k.1)
lift-declared s ts (Saga r ∷ items) h k =
    (ap (λ b. cond b (Some (saga_type s)) (saga_named r.name ts)) (not-both r.name s.name h.0) ∙ k.0, lift-declared s ts items h.1 k.1)

pub all-declared : (items : List ItemTerm) → twice SagaTwice (placed_sagas items) ≡ [] → AllByRecursion (IsDeclared (sagas items)) items
all-declared [] h = tt
all-declared (Message at n o fs c ∷ items) h = (tt, all-declared items h)
all-declared (Handler at n b ∷ items) h = (tt, all-declared items h)
all-declared (Saga s ∷ items) h = (
  ap (λ b. cond b (Some (saga_type s)) (saga_named s.name (sagas items))) (bytes-refl s.name),
  lift-declared s (sagas items) items (others-differ SagaTwice s.name (placed_sagas items) (left-nil (again SagaTwice s.name (placed_sagas items)) _ h))
      (all-declared items (right-nil (again SagaTwice s.name (placed_sagas items)) _ h)),
)

-- ---- types of sagas

abbrev pub state_declared : List StateField → List Declared
state_declared [] = []
state_declared (f ∷ fs) = record { name = f.name; kind = f.kind } ∷ state_declared fs

abbrev pub state_names : List StateField → List (List ℕ)
state_names [] = []
state_names (f ∷ fs) = f.name ∷ state_names fs

abbrev pub type_sight : SagaType → SagaSight
type_sight t = record { correlation = t.correlation.name; fields = t.correlation ∷ state_declared t.fields; timeouts = t.timeouts }

-- what the rules say of a field
abbrev pub IsGoodField : ℤ → StateField → Type 0
IsGoodField revision f = (int_le f.since revision ≡ true) × (kind_of f.first ≡ f.kind)

pub record IsGoodType (t : SagaType) : Type 0 where
  pub corr : is_kind t.correlation.kind kind.Bool ≡ false
  pub revision : int_le (pos 1) t.revision ≡ true
  pub fields : AllByRecursion (IsGoodField t.revision) t.fields
  pub distinct : IsDistinct bytes_eq (state_names t.fields)

kinds-declared : (fs : List SagaField) → state_kinds fs ≡ state_declared (state_fields fs)
kinds-declared [] = refl
kinds-declared (f ∷ fs) = ap (λ ds. field_of f.field ∷ ds) (kinds-declared fs)

pub same-sight : (s : SagaTerm) → saga_sight s ≡ type_sight (saga_type s)
same-sight s = ap (λ ds. record { correlation = s.correlation.name; fields = field_of s.correlation ∷ ds; timeouts = (saga_type s).timeouts }) (kinds-declared s.fields)

literal-kind : (l : Literal) → kind_of (literal_value l) ≡ literal_kind l
literal-kind (literal.Number minus_at at n) = refl
literal-kind (literal.Quoted at t) = refl
literal-kind (literal.Truth at b) = refl

default-kind : (k : FieldKind) → kind_of (default_of k) ≡ k
default-kind kind.Int = refl
default-kind kind.Text = refl
default-kind kind.Bool = refl

good-since : (revision : ℤ) (k : FieldKind) (o : Option Since) → int_le (pos 1) revision ≡ true → since_faults revision k o ≡ [] → (int_le (since_of o) revision ≡ true) × (kind_of (first_value k o) ≡ k)
good-since revision k None low h = (low, default-kind k)
good-since revision k (Some s) low h =
    let inside = is-true (lies_in (pos 2) revision s.revision) s.number_at BadRevision (left-nil (unless_true (lies_in (pos 2) revision s.revision) s.number_at BadRevision) _ h) in
    let same = is-true (is_kind (literal_kind s.literal) k) (literal_place s.literal) WrongType (right-nil (unless_true (lies_in (pos 2) revision s.revision) s.number_at BadRevision) _ h) in
    (and-right (int_le (pos 2) s.revision) _ inside, literal-kind s.literal ∙ kind-is (literal_kind s.literal) k same)

good-fields : (revision : ℤ) (fs : List SagaField) → int_le (pos 1) revision ≡ true → state_faults revision fs ≡ [] → AllByRecursion (IsGoodField revision) (state_fields fs)
good-fields revision [] low h = tt
good-fields revision (f ∷ fs) low h =
    (good-since revision f.field.kind f.since low (left-nil (since_faults revision f.field.kind f.since) _ h), good-fields revision fs low (right-nil (since_faults revision f.field.kind f.since) _ h))

names-apart : (name : List ℕ) (fs : List SagaField) → AllByRecursion (λ (p : Placed). bytes_eq p.name name ≡ false) (placed_state fs) → AllByRecursion (λ n. bytes_eq name n ≡ false) (state_names (state_fields fs))
names-apart name [] h = tt
names-apart name (f ∷ fs) h = (not-both f.field.name name h.0, names-apart name fs h.1)

distinct-names : (fs : List SagaField) → twice FieldTwice (placed_state fs) ≡ [] → IsDistinct bytes_eq (state_names (state_fields fs))
unfolding IsDistinct
distinct-names [] h = tt
distinct-names (f ∷ fs) h = (
  names-apart f.field.name fs (others-differ FieldTwice f.field.name (placed_state fs) (left-nil (again FieldTwice f.field.name (placed_state fs)) _ h)),
  distinct-names fs (right-nil (again FieldTwice f.field.name (placed_state fs)) _ h),
)

low-revision : (o : Option Revision) → revision_faults o ≡ [] → int_le (pos 1) (revision_of o) ≡ true
low-revision None h = refl
low-revision (Some r) h = and-left (int_le (pos 1) r.number) _ (is-true (lies_in (pos 1) (pos 1000) r.number) r.number_at BadRevision h)

pub good-type : (s : SagaTerm) → declared_faults s ≡ [] → IsGoodType (saga_type s)
good-type s h =
    let twice_part = left-nil (twice FieldTwice (placed_field s.correlation ∷ placed_state s.fields)) _ h in
    let rest = right-nil (twice FieldTwice (placed_field s.correlation ∷ placed_state s.fields)) _ h in
    let corr_part = left-nil (correlation_faults s.correlation) _ rest in
    let rest2 = right-nil (correlation_faults s.correlation) _ rest in
    let low = low-revision s.revision (left-nil (revision_faults s.revision) _ rest2) in
    record {
      corr = not-true (is_kind s.correlation.kind kind.Bool) (is-true (not (is_kind s.correlation.kind kind.Bool)) s.correlation.at BadCorrelation corr_part);
      revision = low;
      fields = good-fields (revision_of s.revision) s.fields low (right-nil (revision_faults s.revision) _ rest2);
      distinct = distinct-names s.fields (right-nil (again FieldTwice s.correlation.name (placed_state s.fields)) _ twice_part);
    }

-- ---- blocks

abbrev pub sight_if : Option SagaType → Option SagaSight
sight_if None = None
sight_if (Some t) = Some (type_sight t)

abbrev pub role_sight : List SagaType → Role → Option SagaSight
role_sight types Handles = None
role_sight types (Finds f saga field) = sight_if (saga_named saga types)
role_sight types (Answers a saga) = sight_if (saga_named saga types)

abbrev pub IsTyped : List SagaType → List ℕ → (SagaType → Type 0) → Type 0
IsTyped types saga P = (t : SagaType) × (saga_named saga types ≡ Some t) × IsGoodType t × P t

-- the saga is declared, and the property by which it is found has the kind of the correlation property
abbrev pub IsGoodRole : List SagaType → List Declared → Role → Type 0
IsGoodRole types ds Handles = Unit {0}
IsGoodRole types ds (Finds f saga field) = IsTyped types saga (λ t. kind_in field ds ≡ Some t.correlation.kind)
IsGoodRole types ds (Answers a saga) = IsTyped types saga (λ t. Unit {0})

pub record IsGoodBlock (ms : List MessageType) (types : List SagaType) (b : BlockTerm) : Type 0 where
  pub declared : List Declared
  pub known : fields_of b.name ms ≡ Some declared
  pub role : IsGoodRole types declared b.role
  pub body : braces_faults ms b.body (sight (Some declared) (role_sight types b.role)) ≡ []

known-fields : (o : Option (List Declared)) (at : ℕ) → unless_known o at ≡ [] → (ds : List Declared) × (o ≡ Some ds)
known-fields None at h = absurd (cc)
known-fields (Some ds) at h = (ds, refl)

found-kind : (o : Option FieldKind) (at : ℕ) (corr : FieldKind) → found_by o at corr ≡ [] → o ≡ Some corr
found-kind None at corr h = absurd (cc)
found-kind (Some k) at corr h = ap Some (kind-is k corr (is-true (is_kind k corr) at WrongType h))

module _ (ms : List MessageType) (types : List SagaType) where
  good-body : (n : TypeName) (o : Option SagaSight) (b : Braces) → block_faults ms n o b ≡ [] → (ds : List Declared) × (fields_of (type_text n) ms ≡ Some ds) × (braces_faults ms b (sight (Some ds) o) ≡ [])
  good-body n o b h =
      let k = known-fields (fields_of (type_text n) ms) n.at (left-nil (unless_known (fields_of (type_text n) ms) n.at) _ h) in
      (k.0, k.1, subst (λ ds. braces_faults ms b (sight ds o) ≡ []) k.1 (right-nil (unless_known (fields_of (type_text n) ms) n.at) _ h))

  good-handler : (n : TypeName) (b : Braces) → block_faults ms n None b ≡ [] → IsGoodBlock ms types (handler_block n b)
  good-handler n b h = let k = good-body n None b h in record { declared = k.0; known = k.1; role = tt; body = k.2 }

  module _ (s : SagaTerm) (is : saga_named s.name types ≡ Some (saga_type s)) (good : IsGoodType (saga_type s)) where
    sight-is : Some (saga_sight s) ≡ sight_if (saga_named s.name types)
    sight-is = ap Some (same-sight s) ∙ ap sight_if (sym is)

    in-sight : (b : Braces) (ds : List Declared) → braces_faults ms b (sight (Some ds) (Some (saga_sight s))) ≡ [] → braces_faults ms b (sight (Some ds) (sight_if (saga_named s.name types))) ≡ []
    in-sight b ds h = subst (λ o. braces_faults ms b (sight (Some ds) o) ≡ []) sight-is h

    good-part : (p : PartTerm) → part_faults ms (saga_sight s) s.correlation.kind p ≡ [] → IsGoodBlock ms types (part_block s.name p)
    good-part (ByField at f n q u field b) h =
        let k = good-body n (Some (saga_sight s)) b (right-nil (by_faults (fields_of (type_text n) ms) field u s.correlation.kind) _ h) in
        let by = subst (λ ds. by_faults ds field u s.correlation.kind ≡ []) k.1 (left-nil (by_faults (fields_of (type_text n) ms) field u s.correlation.kind) _ h) in
        record { declared = k.0; known = k.1; role = (saga_type s, is, good, found-kind (kind_in field k.0) u s.correlation.kind by); body = in-sight b k.0 k.2 }
    good-part (ById at a n b) h =
        let k = good-body n (Some (saga_sight s)) b h in
        record { declared = k.0; known = k.1; role = (saga_type s, is, good, tt); body = in-sight b k.0 k.2 }

    good-parts : (ps : List PartTerm) → parts_faults ms (saga_sight s) s.correlation.kind ps ≡ [] → AllByRecursion (IsGoodBlock ms types) (part_blocks s.name ps)
    good-parts [] h = tt
    good-parts (p ∷ ps) h =
        (good-part p (left-nil (part_faults ms (saga_sight s) s.correlation.kind p) _ h), good-parts ps (right-nil (part_faults ms (saga_sight s) s.correlation.kind p) _ h))

  good-items : (items : List ItemTerm) → AllByRecursion (IsDeclared types) items → items_faults ms items ≡ [] → AllByRecursion (IsGoodBlock ms types) (blocks items)
  good-items [] d h = tt
  good-items (Message at n o fs c ∷ items) d h = good-items items d.1 (right-nil (item_faults ms (Message at n o fs c)) _ h)
  good-items (Handler at n b ∷ items) d h =
      (good-handler n b (left-nil (item_faults ms (Handler at n b)) _ h), good-items items d.1 (right-nil (item_faults ms (Handler at n b)) _ h))
  good-items (Saga s ∷ items) d h =
      let all = left-nil (saga_faults ms s) _ h in
      let rest = right-nil (declared_faults s) _ all in
      let rest2 = right-nil (twice PartTwice (placed_parts s.parts)) _ rest in
      all-both (IsGoodBlock ms types) (part_blocks s.name s.parts) (blocks items)
      (good-parts s d.0 (good-type s (left-nil (declared_faults s) _ all)) s.parts (right-nil (twice PartTwice (placed_timeouts s.parts)) _ rest2))
      (good-items items d.1 (right-nil (saga_faults ms s) _ h))

-- the blocks of a script that breaks no rule
pub good-blocks : (items : List ItemTerm) → script_faults items ≡ [] → AllByRecursion (IsGoodBlock (messages items) (sagas items)) (blocks items)
good-blocks items h =
    let rest = right-nil (twice MessageTwice (placed_messages items)) _ h in
    good-items (messages items) (sagas items) items (all-declared items (left-nil (twice SagaTwice (placed_sagas items)) _ rest)) (right-nil (twice SagaTwice (placed_sagas items)) _ rest)

all-at : (P : ItemTerm → Type 0) (items : List Item) (i : ℕ) (x : Item) → AllByRecursion P (map_list item items) → i < length items → x ≡ get_or items i x → P (item x)
all-at P [] i x all h e = absurd (omega arith)
all-at P (y ∷ ys) zero x all h e = subst (λ z. P (item z)) (sym e) all.0
all-at P (y ∷ ys) (suc i) x all h e = all-at P ys i x all.1 (omega arith) e

-- an item of a script that breaks no rule is declared
pub declared_at : (items : List Item) (i : ℕ) (x : Item) → script_faults (script items) ≡ [] → i < length items → x ≡ get_or items i x → IsDeclared (sagas (script items)) (item x)
declared_at items i x rules h e =
    let rest = right-nil (twice MessageTwice (placed_messages (script items))) _ rules in
    all-at (IsDeclared (sagas (script items))) items i x (all-declared (script items) (left-nil (twice SagaTwice (placed_sagas (script items))) _ rest)) h e
