-- A checked expression never meets a value of a wrong kind.
use Rattle.std.proofs.Common.{◌≡◌, ℕ, ℤ, neg_ℤ, ◌+ℤ◌, refl, sym, ap, ◌∙◌, subst, List, [], ◌++◌, length, nat_lt, Bool, true, false, not, ◌&&◌, is_some, Option, Some, None, Ok, Err, cond, true≢false}
use Rattle.std.specs.Prelude.{◌-ℤ◌, ◌*ℤ◌}
use Rattle.std.specs.Ordering.{is_lt, is_le, is_gt, is_ge}
use Rattle.std.specs.declared.cmp.Ordering.{Ordering}
use Rattle.nb_base.specs.declared.value.Value.{Value}
use Rattle.nb_base.specs.declared.value.Value.TheVariants.{Int, Text, Bool as Truth}
use Rattle.nb_script.specs.declared.expr.Binary.{Binary}
use Rattle.nb_script.specs.declared.expr.Binary.TheVariants as op
use Rattle.nb_script.specs.declared.expr.Constant.{Constant as ConstantWord}
use Rattle.nb_script.specs.declared.expr.Constant.TheVariants as word
use Rattle.nb_script.specs.declared.expr.Function.{Function}
use Rattle.nb_script.specs.declared.expr.Function.TheVariants as function
use Rattle.nb_script.specs.declared.expr.Holder.TheVariants as holder
use Rattle.nb_script.specs.declared.expr.Unary.{Unary}
use Rattle.nb_script.specs.declared.expr.Unary.TheVariants as unary_op
use Rattle.nb_script.specs.declared.item.FieldKind.{FieldKind}
use Rattle.nb_script.specs.declared.item.FieldKind.TheVariants as kind
use Rattle.nb_script.specs.Grammar.{Term, Number, Quoted, Constant, Field, Name, Call, Paren, Prefix, Infix}
use Rattle.nb_check.specs.Breaches.{unless_true, unless_some}
use Rattle.nb_check.specs.Fits.{kind_of}
use Rattle.nb_check.specs.Keys.{is_join}
use Rattle.nb_check.specs.Kinds as kinds
use Rattle.nb_check.specs.Kinds.{is_kind, kind_in, wants, both, unless_kind, unless_same, unless_text, ordered, is_text, made_by, taken_by, operands, prefix_kind, constant_kind, call_kind, judgement, first_place, is_id, is_text_function, is_message_field, piece_kind, name_faults, argument_faults, faults}
use Rattle.nb_check.specs.declared.breach.CheckKind.TheVariants.{UnknownField, UnknownName, RowName, WrongType}
use Rattle.nb_check.specs.declared.sight.Judgement.{Judgement}
use Rattle.nb_eval.specs.declared.scene.Instance.{Instance}
use Rattle.nb_eval.specs.declared.scene.State.{State}
use Rattle.nb_eval.specs.declared.stop.Stop.TheVariants as stop
use Rattle.nb_eval.specs.declared.stop.Limit.TheVariants.{Overflow, TooLong}
use Rattle.nb_eval.specs.Values as values
use Rattle.nb_eval.specs.Values.{Answer, ◌>>=◌, found, fits, in_range, short, number, arithmetic, joined, same, order, compared, applied, right_of, decided, binary, unary, shown, measured}
use Rattle.nb_eval.specs.Worlds.{World, row_now, all_fields, saga_value}
use Rattle.nb_eval.specs.Expressions.{constant_value, row_name, number_or_zero, call_value, value_of}
use Rattle.nb_eval.proofs.Steps.{left-nil, right-nil, and-left, is-true}
use Rattle.nb_eval.proofs.Names.{is-join}
use Rattle.nb_eval.proofs.Sights.{sight_of, saga_sight_of, HasKind, Fine, good-bind, kind-is, known-field, known-local, wanted, value-int, value-text, value-truth, declared}

-- ---- limits

in_range-fine : (n : ℤ) → HasKind (Some kind.Int) (number (in_range n))
in_range-fine n = elim (fits n) as (λ b. HasKind (Some kind.Int) (number (cond b (Ok n) (Err (stop.Passed Overflow))))) [ true ↦ refl | false ↦ tt ]

pub short-fine : (t : List ℕ) → Fine (short t)
short-fine t = elim (nat_lt 65536 (length t)) as (λ b. Fine (cond {A = Answer (List ℕ)} b (Err (stop.Passed TooLong)) (Ok t))) [ true ↦ tt | false ↦ tt ]

-- ---- operators

both-left : (k : FieldKind) (a b : Judgement) → both k a b ≡ [] → wants k a ≡ []
both-left k a b h = left-nil (wants k a) _ h

both-right : (k : FieldKind) (a b : Judgement) → both k a b ≡ [] → wants k b ≡ []
both-right k a b h = right-nil (wants k a) _ h

arithmetic-good : (f : ℤ → ℤ → ℤ) (a b : Judgement) (x y : Answer Value) → both kind.Int a b ≡ [] → HasKind a.kind x → HasKind b.kind y → HasKind (Some kind.Int) (x >>= λ v. y >>= λ w. arithmetic f v w)
arithmetic-good f a b (Err e) y h p q = p
arithmetic-good f a b (Ok v) (Err e) h p q = q
arithmetic-good f a b (Ok v) (Ok w) h p q =
    let m = value-int v (wanted kind.Int a.kind a.at v (both-left kind.Int a b h) p) in
    let n = value-int w (wanted kind.Int b.kind b.at w (both-right kind.Int a b h) q) in
    subst (λ v. HasKind (Some kind.Int) (arithmetic f v w)) (sym m.1) (subst (λ w. HasKind (Some kind.Int) (arithmetic f (Int m.0) w)) (sym n.1) (in_range-fine (f m.0 n.0)))

join-good : (a b : Judgement) (x y : Answer Value) → both kind.Text a b ≡ [] → HasKind a.kind x → HasKind b.kind y → HasKind (Some kind.Text) (x >>= λ v. y >>= λ w. joined v w)
join-good a b (Err e) y h p q = p
join-good a b (Ok v) (Err e) h p q = q
join-good a b (Ok v) (Ok w) h p q =
    let s = value-text v (wanted kind.Text a.kind a.at v (both-left kind.Text a b h) p) in
    let t = value-text w (wanted kind.Text b.kind b.at w (both-right kind.Text a b h) q) in
    subst (λ v. HasKind (Some kind.Text) (joined v w)) (sym s.1)
    (subst (λ w. HasKind (Some kind.Text) (joined (Text s.0) w)) (sym t.1)
    (good-bind (λ u. Unit {0}) (λ v. Some kind.Text ≡ Some (kind_of v)) (short (s.0 ++ t.0)) (λ u. Ok (Text u)) (short-fine (s.0 ++ t.0)) (λ u k. refl)))

same-fine : (v w : Value) → is_kind (kind_of w) (kind_of v) ≡ true → Fine (same v w)
same-fine (Int m) (Int n) h = tt
same-fine (Text s) (Text t) h = tt
same-fine (Truth b) (Truth c) h = tt
same-fine (Int m) (Text t) h = absurd (true≢false (sym h))
same-fine (Int m) (Truth c) h = absurd (true≢false (sym h))
same-fine (Text s) (Int n) h = absurd (true≢false (sym h))
same-fine (Text s) (Truth c) h = absurd (true≢false (sym h))
same-fine (Truth b) (Int n) h = absurd (true≢false (sym h))
same-fine (Truth b) (Text t) h = absurd (true≢false (sym h))

same-good : (f : Bool → Bool) (a b : Judgement) (x y : Answer Value) → unless_same a.kind b ≡ [] → HasKind a.kind x → HasKind b.kind y → HasKind (Some kind.Bool) (x >>= λ v. y >>= λ w. same v w >>= λ c. Ok (Truth (f c)))
same-good f a b (Err e) y h p q = p
same-good f a b (Ok v) (Err e) h p q = q
same-good f a b (Ok v) (Ok w) h p q =
    good-bind (λ c. Unit {0}) (λ v. Some kind.Bool ≡ Some (kind_of v)) (same v w) (λ c. Ok (Truth (f c)))
    (same-fine v w (wanted (kind_of v) b.kind b.at w (subst (λ k. unless_same k b ≡ []) p h) q)) (λ c u. refl)

order-fine : (m n : ℕ) (v w : Value) → ordered (record { at = m; kind = Some (kind_of v) }) (record { at = n; kind = Some (kind_of w) }) ≡ [] → Fine (order v w)
order-fine m n (Int i) (Int j) h = tt
order-fine m n (Text s) (Text t) h = tt
order-fine m n (Int i) (Text t) h = absurd (cc)
order-fine m n (Int i) (Truth c) h = absurd (cc)
order-fine m n (Text s) (Int j) h = absurd (cc)
order-fine m n (Text s) (Truth c) h = absurd (cc)
order-fine m n (Truth b) (Int j) h = absurd (cc)
order-fine m n (Truth b) (Text t) h = absurd (cc)
order-fine m n (Truth b) (Truth c) h = absurd (cc)

order-good : (f : Ordering → Bool) (a b : Judgement) (x y : Answer Value) → ordered a b ≡ [] → HasKind a.kind x → HasKind b.kind y → HasKind (Some kind.Bool) (x >>= λ v. y >>= λ w. compared f v w)
order-good f a b (Err e) y h p q = p
order-good f a b (Ok v) (Err e) h p q = q
order-good f a b (Ok v) (Ok w) h p q =
    let left : ordered (record { at = a.at; kind = Some (kind_of v) }) b ≡ [] = subst (λ k. ordered (record { at = a.at; kind = k }) b ≡ []) p h in
    let both_sides : ordered (record { at = a.at; kind = Some (kind_of v) }) (record { at = b.at; kind = Some (kind_of w) }) ≡ [] = subst (λ k. ordered (record { at = a.at; kind = Some (kind_of v) }) (record { at = b.at; kind = k }) ≡ []) q left in
    good-bind (λ o. Unit {0}) (λ v. Some kind.Bool ≡ Some (kind_of v)) (order v w) (λ o. Ok (Truth (f o))) (order-fine a.at b.at v w both_sides) (λ o u. refl)

truth-good : (b : Judgement) (y : Answer Value) → wants kind.Bool b ≡ [] → HasKind b.kind y → HasKind (Some kind.Bool) (y >>= values.truth >>= λ c. Ok (Truth c))
truth-good b (Err e) h q = q
truth-good b (Ok w) h q =
    let c = value-truth w (wanted kind.Bool b.kind b.at w h q) in
    subst (λ w. HasKind (Some kind.Bool) (values.truth w >>= λ c. Ok (Truth c))) (sym c.1) refl

right-good : (conjunction left : Bool) (b : Judgement) (y : Answer Value) → wants kind.Bool b ≡ [] → HasKind b.kind y → HasKind (Some kind.Bool) (right_of conjunction left y)
right-good true true b y h q = truth-good b y h q
right-good true false b y h q = refl
right-good false true b y h q = refl
right-good false false b y h q = truth-good b y h q

decided-good : (conjunction : Bool) (a b : Judgement) (x y : Answer Value) → both kind.Bool a b ≡ [] → HasKind a.kind x → HasKind b.kind y → HasKind (Some kind.Bool) (decided conjunction x y)
decided-good conjunction a b (Err e) y h p q = p
decided-good conjunction a b (Ok v) y h p q =
    let c = value-truth v (wanted kind.Bool a.kind a.at v (both-left kind.Bool a b h) p) in
    subst (λ v. HasKind (Some kind.Bool) (decided conjunction (Ok v) y)) (sym c.1) (right-good conjunction c.0 b y (both-right kind.Bool a b h) q)

binary-good : (o : Binary) (a b : Judgement) (x y : Answer Value) → operands (taken_by o) a b ≡ [] → HasKind a.kind x → HasKind b.kind y → HasKind (Some (made_by o)) (binary o x y)
binary-good op.Times a b x y h p q = arithmetic-good (λ m n. m *ℤ n) a b x y h p q
binary-good op.Plus a b x y h p q = arithmetic-good (λ m n. m +ℤ n) a b x y h p q
binary-good op.Minus a b x y h p q = arithmetic-good (λ m n. m -ℤ n) a b x y h p q
binary-good op.Join a b x y h p q = join-good a b x y h p q
binary-good op.Equal a b x y h p q = same-good (λ c. c) a b x y h p q
binary-good op.Unequal a b x y h p q = same-good not a b x y h p q
binary-good op.Less a b x y h p q = order-good is_lt a b x y h p q
binary-good op.LessOrEqual a b x y h p q = order-good is_le a b x y h p q
binary-good op.Greater a b x y h p q = order-good is_gt a b x y h p q
binary-good op.GreaterOrEqual a b x y h p q = order-good is_ge a b x y h p q
binary-good op.And a b x y h p q = decided-good true a b x y h p q
binary-good op.Or a b x y h p q = decided-good false a b x y h p q

unary-good : (o : Unary) (a : Judgement) (v : Value) → wants (prefix_kind o) a ≡ [] → a.kind ≡ Some (kind_of v) → HasKind (Some (prefix_kind o)) (unary o v)
unary-good unary_op.Negative a v h p =
    let m = value-int v (wanted kind.Int a.kind a.at v h p) in
    subst (λ v. HasKind (Some kind.Int) (unary unary_op.Negative v)) (sym m.1) (in_range-fine (neg_ℤ m.0))
unary-good unary_op.Not a v h p =
    let c = value-truth v (wanted kind.Bool a.kind a.at v h p) in
    subst (λ v. HasKind (Some kind.Bool) (unary unary_op.Not v)) (sym c.1) refl

-- ---- functions

pub named-fine : (v : Value) → Some kind.Text ≡ Some (kind_of v) → Fine (row_name v)
named-fine (Int n) e = absurd (cc)
named-fine (Text t) e = short-fine t
named-fine (Truth b) e = absurd (cc)

shown-good : (a : Judgement) (v : Value) → unless_text a ≡ [] → a.kind ≡ Some (kind_of v) → HasKind (Some kind.Text) (shown v)
shown-good a (Int n) h p = refl
shown-good a (Text t) h p = absurd (true≢false (sym (is-true (not (is_text (Some kind.Text))) a.at WrongType (subst (λ k. unless_true (not (is_text k)) a.at WrongType ≡ []) p h))))
shown-good a (Truth b) h p = refl

measured-good : (a : Judgement) (v : Value) → wants kind.Text a ≡ [] → a.kind ≡ Some (kind_of v) → HasKind (Some kind.Int) (measured v)
measured-good a v h p =
    let t = value-text v (wanted kind.Text a.kind a.at v h p) in
    subst (λ v. HasKind (Some kind.Int) (measured v)) (sym t.1) refl

text-function : (f : Function) → is_text_function f ≡ true → f ≡ function.Text
text-function function.Row h = absurd (true≢false (sym h))
text-function function.Has h = absurd (true≢false (sym h))
text-function function.Text h = refl
text-function function.Len h = absurd (true≢false (sym h))

piece-text : (k : Option FieldKind) (q at : ℕ) → unless_some k q UnknownField ≡ [] → piece_kind k at ≡ [] → k ≡ Some kind.Text
piece-text None q at h p = absurd (cc)
piece-text (Some k) q at h p = ap Some (kind-is k kind.Text (is-true (is_kind k kind.Text) at RowName p))

constant-text : (c : ConstantWord) → is_id c ≡ true → Some (constant_kind c) ≡ Some kind.Text
constant-text word.True h = absurd (true≢false (sym h))
constant-text word.False h = absurd (true≢false (sym h))
constant-text word.Retries h = absurd (true≢false (sym h))
constant-text word.Now h = absurd (true≢false (sym h))
constant-text word.Sent h = absurd (true≢false (sym h))
constant-text word.Id h = refl

-- a row's name is a text
pub name-text : (e : Term) (w : World) (ts : List (List ℕ)) (s : State) → faults e (sight_of w ts s) ≡ [] → name_faults e (sight_of w ts s) ≡ [] → kinds.kind e (sight_of w ts s) ≡ Some kind.Text
name-text (Number at n) w ts s h p = absurd (cc)
name-text (Quoted at t) w ts s h p = refl
name-text (Constant at c) w ts s h p = constant-text c (is-true (is_id c) at RowName p)
name-text (Field at holder.Message d q f) w ts s h p = piece-text (kind_in f (declared w.fields)) q at h p
name-text (Field at holder.Saga d q f) w ts s h p = absurd (cc)
name-text (Name at x) w ts s h p = absurd (cc)
name-text (Call at f o a c) w ts s h p = ap (λ f. Some (call_kind f)) (text-function f (and-left (is_text_function f) _ (is-true (is_text_function f && is_message_field a) at RowName p)))
name-text (Paren o a c) w ts s h p = name-text a w ts s h p
name-text (Prefix at op a) w ts s h p = absurd (cc)
name-text (Infix a at o b) w ts s h p =
    let rest = right-nil (name_faults a (sight_of w ts s)) _ p in
    ap (λ o. Some (made_by o)) (is-join o (is-true (is_join o) at RowName (left-nil (unless_true (is_join o) at RowName) _ rest)))

call-good : (f : Function) (a : Term) (w : World) (ts : List (List ℕ)) (s : State) → faults a (sight_of w ts s) ≡ [] → argument_faults f a (sight_of w ts s) ≡ [] → (v : Value) → kinds.kind a (sight_of w ts s) ≡ Some (kind_of v)
    → HasKind (Some (call_kind f)) (call_value f w s v)
call-good function.Row a w ts s h p v k =
    good-bind (λ name. Unit {0}) (λ v. Some kind.Int ≡ Some (kind_of v)) (row_name v) (λ name. Ok (Int (number_or_zero name w s))) (named-fine v (sym (name-text a w ts s h p) ∙ k)) (λ name u. refl)
call-good function.Has a w ts s h p v k =
    good-bind (λ name. Unit {0}) (λ v. Some kind.Bool ≡ Some (kind_of v)) (row_name v) (λ name. Ok (Truth (is_some (row_now name w s)))) (named-fine v (sym (name-text a w ts s h p) ∙ k)) (λ name u. refl)
call-good function.Text a w ts s h p v k = shown-good (judgement a (sight_of w ts s)) v p k
call-good function.Len a w ts s h p v k = measured-good (judgement a (sight_of w ts s)) v p k

-- ---- expressions

constant-good : (c : ConstantWord) (w : World) → Some (constant_kind c) ≡ Some (kind_of (constant_value c w))
constant-good word.True w = refl
constant-good word.False w = refl
constant-good word.Retries w = refl
constant-good word.Now w = refl
constant-good word.Sent w = refl
constant-good word.Id w = refl

saga-good : (o : Option Instance) (ts : List (List ℕ)) (at q : ℕ) (f : List ℕ) → kinds.saga_field_faults at q f (saga_sight_of ts o) ≡ [] → HasKind (kinds.saga_kind f (saga_sight_of ts o)) (found (saga_value f o))
saga-good None ts at q f h = absurd (cc)
saga-good (Some i) ts at q f h = known-field f (all_fields i) q UnknownField h

pub sound : (e : Term) (w : World) (ts : List (List ℕ)) (s : State) → faults e (sight_of w ts s) ≡ [] → HasKind (kinds.kind e (sight_of w ts s)) (value_of e w s)
sound (Number at n) w ts s h = refl
sound (Quoted at t) w ts s h = refl
sound (Constant at c) w ts s h = constant-good c w
sound (Field at holder.Message d q f) w ts s h = known-field f w.fields q UnknownField h
sound (Field at holder.Saga d q f) w ts s h = saga-good s.saga ts at q f h
sound (Name at x) w ts s h = known-local x s.names at UnknownName h
sound (Call at f o a c) w ts s h =
    let g = sight_of w ts s in
    let fine : faults a g ≡ [] = left-nil (faults a g) _ h in
    good-bind (λ v. kinds.kind a g ≡ Some (kind_of v)) (λ v. Some (call_kind f) ≡ Some (kind_of v)) (value_of a w s) (call_value f w s) (sound a w ts s fine)
    (λ v k. call-good f a w ts s fine (right-nil (faults a g) _ h) v k)
sound (Paren o a c) w ts s h = sound a w ts s h
sound (Prefix at o a) w ts s h =
    let g = sight_of w ts s in
    good-bind (λ v. kinds.kind a g ≡ Some (kind_of v)) (λ v. Some (prefix_kind o) ≡ Some (kind_of v)) (value_of a w s) (unary o) (sound a w ts s (left-nil (faults a g) _ h))
    (λ v k. unary-good o (judgement a g) v (right-nil (faults a g) _ h) k)
sound (Infix a at o b) w ts s h =
    let g = sight_of w ts s in
    let parts : faults a g ++ faults b g ≡ [] = left-nil (faults a g ++ faults b g) _ h in
    binary-good o (judgement a g) (judgement b g) (value_of a w s) (value_of b w s) (right-nil (faults a g ++ faults b g) _ h) (sound a w ts s (left-nil (faults a g) _ parts)) (sound b w ts s (right-nil (faults a g) _ parts))
