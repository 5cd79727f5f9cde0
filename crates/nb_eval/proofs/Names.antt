-- A row's name that the checker takes is said by the message alone.
use Rattle.std.proofs.Common.{◌≡◌, ℕ, refl, sym, ap, ◌∙◌, subst, List, [], ◌∷◌, ◌++◌, length, nat_lt, true, false, ◌&&◌, Option, Some, None, option_and_then, Ok, Err, cond, true≢false}
use Rattle.nb_base.specs.declared.value.Key.{Key}
use Rattle.nb_base.specs.declared.value.Key.TheVariants as key
use Rattle.nb_base.specs.declared.value.Value.{Value}
use Rattle.nb_base.specs.declared.value.Value.TheVariants.{Int, Text, Bool as Truth}
use Rattle.nb_script.specs.declared.expr.Binary.{Binary}
use Rattle.nb_script.specs.declared.expr.Binary.TheVariants as binary
use Rattle.nb_script.specs.declared.expr.Constant.{Constant as ConstantWord}
use Rattle.nb_script.specs.declared.expr.Constant.TheVariants as word
use Rattle.nb_script.specs.declared.expr.Function.{Function}
use Rattle.nb_script.specs.declared.expr.Function.TheVariants as function
use Rattle.nb_script.specs.declared.expr.Holder.TheVariants as holder
use Rattle.nb_script.specs.Grammar.{Term, Number, Quoted, Constant, Field, Name, Call, Paren, Prefix, Infix}
use Rattle.nb_check.specs.Breaches.{unless_true}
use Rattle.nb_check.specs.Keys as keys
use Rattle.nb_check.specs.Keys.{text_in, is_join, static_text, message_value, constant_text, call_text, key_if_short, key_of, row_key}
use Rattle.nb_check.specs.Kinds.{name_faults, is_id, is_text_function, is_message_field}
use Rattle.nb_check.specs.declared.breach.CheckKind.TheVariants.{RowName}
use Rattle.nb_check.specs.declared.known.Known.{Known}
use Rattle.nb_check.specs.declared.sight.Sight.{Sight}
use Rattle.nb_eval.specs.declared.scene.State.{State}
use Rattle.nb_eval.specs.declared.stop.Stop.TheVariants as stop
use Rattle.nb_eval.specs.declared.stop.Limit.TheVariants.{TooLong}
use Rattle.nb_eval.specs.Values.{Answer, ◌>>=◌, found, short, both, shown}
use Rattle.nb_eval.specs.Worlds.{World}
use Rattle.nb_eval.specs.Expressions.{constant_value, row_name, value_of}
use Rattle.nb_eval.proofs.Steps.{left-nil, right-nil, is-true, bind-ok}

-- what is known of the message before anything is read
abbrev pub known_of : World → Known
known_of w = record { id = w.id; fields = w.fields }

pub is-join : (op : Binary) → is_join op ≡ true → op ≡ binary.Join
is-join binary.Times h = absurd (true≢false (sym h))
is-join binary.Plus h = absurd (true≢false (sym h))
is-join binary.Minus h = absurd (true≢false (sym h))
is-join binary.Join h = refl
is-join binary.Equal h = absurd (true≢false (sym h))
is-join binary.Unequal h = absurd (true≢false (sym h))
is-join binary.Less h = absurd (true≢false (sym h))
is-join binary.LessOrEqual h = absurd (true≢false (sym h))
is-join binary.Greater h = absurd (true≢false (sym h))
is-join binary.GreaterOrEqual h = absurd (true≢false (sym h))
is-join binary.And h = absurd (true≢false (sym h))
is-join binary.Or h = absurd (true≢false (sym h))

short-text : (u t : List ℕ) → (short u >>= λ x. Ok (Text x)) ≡ Ok (Text t) → u ≡ t
short-text u t e =
    (elim (nat_lt 65536 (length u)) as (λ b. (cond b (Err (stop.Passed TooLong)) (Ok u) >>= λ x. Ok (Text x)) ≡ Ok (Text t) → u ≡ t) [
      | true ↦ λ e. absurd (cc)
      | false ↦ λ e. cc
    ]) e

-- a text that was joined is that of the parts
join-parts : (x y : Answer Value) (t : List ℕ) → both binary.Join x y ≡ Ok (Text t) → (u : List ℕ) × (v : List ℕ) × (x ≡ Ok (Text u)) × (y ≡ Ok (Text v)) × (u ++ v ≡ t)
join-parts (Err e) y t h = absurd (cc)
join-parts (Ok v) (Err e) t h = absurd (cc)
join-parts (Ok (Int n)) (Ok w) t h = absurd (cc)
join-parts (Ok (Truth n)) (Ok w) t h = absurd (cc)
join-parts (Ok (Text u)) (Ok (Int n)) t h = absurd (cc)
join-parts (Ok (Text u)) (Ok (Truth b)) t h = absurd (cc)
join-parts (Ok (Text u)) (Ok (Text v)) t h = (u, v, refl, refl, short-text (u ++ v) t h)

field-static : (o : Option Value) (t : List ℕ) → found o ≡ Ok (Text t) → option_and_then text_in o ≡ Some t
field-static None t e = absurd (cc)
field-static (Some (Int n)) t e = absurd (cc)
field-static (Some (Text u)) t e = cc
field-static (Some (Truth b)) t e = absurd (cc)

shown-static : (o : Option Value) (t : List ℕ) → (found o >>= shown) ≡ Ok (Text t) → option_and_then keys.shown o ≡ Some t
shown-static None t e = absurd (cc)
shown-static (Some (Int n)) t e = cc
shown-static (Some (Text u)) t e = absurd (cc)
shown-static (Some (Truth b)) t e = cc

constant-static : (c : ConstantWord) (w : World) (t : List ℕ) → is_id c ≡ true → found (Some (constant_value c w)) ≡ Ok (Text t) → constant_text c (known_of w) ≡ Some t
constant-static word.True w t h e = absurd (true≢false (sym h))
constant-static word.False w t h e = absurd (true≢false (sym h))
constant-static word.Retries w t h e = absurd (true≢false (sym h))
constant-static word.Now w t h e = absurd (true≢false (sym h))
constant-static word.Sent w t h e = absurd (true≢false (sym h))
constant-static word.Id w t h e = cc

-- a field of the message has the value that the message gives
message-found : (a : Term) (w : World) (s : State) → is_message_field a ≡ true → value_of a w s ≡ found (message_value a (known_of w))
message-found (Number at n) w s h = absurd (true≢false (sym h))
message-found (Quoted at t) w s h = absurd (true≢false (sym h))
message-found (Constant at c) w s h = absurd (true≢false (sym h))
message-found (Field at holder.Message d q f) w s h = refl
message-found (Field at holder.Saga d q f) w s h = absurd (true≢false (sym h))
message-found (Name at x) w s h = absurd (true≢false (sym h))
message-found (Call at f o a c) w s h = absurd (true≢false (sym h))
message-found (Paren o a c) w s h = message-found a w s h
message-found (Prefix at op a) w s h = absurd (true≢false (sym h))
message-found (Infix a at op b) w s h = absurd (true≢false (sym h))

call-static : (f : Function) (at o c : ℕ) (a : Term) (w : World) (s : State) (t : List ℕ) → is_text_function f && is_message_field a ≡ true → value_of (Call at f o a c) w s ≡ Ok (Text t)
    → call_text f (message_value a (known_of w)) ≡ Some t
call-static function.Row at o c a w s t h e = absurd (true≢false (sym h))
call-static function.Has at o c a w s t h e = absurd (true≢false (sym h))
call-static function.Text at o c a w s t h e =
    shown-static (message_value a (known_of w)) t (subst (λ x. (x >>= shown) ≡ Ok (Text t)) (message-found a w s h) e)
call-static function.Len at o c a w s t h e = absurd (true≢false (sym h))

-- the text of an expression that may name a row is what the message says
pub name-static : (e : Term) (g : Sight) → name_faults e g ≡ [] → (w : World) (s : State) (t : List ℕ) → value_of e w s ≡ Ok (Text t) → static_text e (known_of w) ≡ Some t
name-static (Number at n) g h w s t v = absurd (cc)
name-static (Quoted at x) g h w s t v = cc
name-static (Constant at c) g h w s t v = constant-static c w t (is-true (is_id c) at RowName h) v
name-static (Field at holder.Message d q f) g h w s t v = field-static (keys.value_in f w.fields) t v
name-static (Field at holder.Saga d q f) g h w s t v = absurd (cc)
name-static (Name at x) g h w s t v = absurd (cc)
name-static (Call at f o a c) g h w s t v = call-static f at o c a w s t (is-true (is_text_function f && is_message_field a) at RowName h) v
name-static (Paren o a c) g h w s t v = name-static a g h w s t v
name-static (Prefix at op a) g h w s t v = absurd (cc)
name-static (Infix a at op b) g h w s t v =
    let rest = right-nil (name_faults a g) _ h in
    let is : op ≡ binary.Join = is-join op (is-true (is_join op) at RowName (left-nil (unless_true (is_join op) at RowName) _ rest)) in
    let parts = join-parts (value_of a w s) (value_of b w s) t (subst (λ op. value_of (Infix a at op b) w s ≡ Ok (Text t)) is v) in
    let left : static_text a (known_of w) ≡ Some parts.0 = name-static a g (left-nil (name_faults a g) _ h) w s parts.0 parts.2 in
    let right : static_text b (known_of w) ≡ Some parts.1 = name-static b g (right-nil (unless_true (is_join op) at RowName) _ rest) w s parts.1 parts.3 in
    subst (λ op. static_text (Infix a at op b) (known_of w) ≡ Some t) (sym is)
    (ap (λ x. keys.joined x (static_text b (known_of w))) left ∙ ap (λ y. keys.joined (Some parts.0) y) right ∙ ap Some parts.4)

short-key : (t name : List ℕ) → short t ≡ Ok name → key_if_short t ≡ key.Row name ∷ []
short-key t name e =
    (elim (nat_lt 65536 (length t)) as (λ b. cond {A = Answer (List ℕ)} b (Err (stop.Passed TooLong)) (Ok t) ≡ Ok name → cond {A = List Key} b [] (key.Row t ∷ []) ≡ key.Row name ∷ []) [
      | true ↦ λ e. absurd (cc)
      | false ↦ λ e. cc
    ]) e

text-key : (v : Value) (o : Option (List ℕ)) (name : List ℕ) → ((t : List ℕ) → v ≡ Text t → o ≡ Some t) → row_name v ≡ Ok name → key_of o ≡ key.Row name ∷ []
text-key (Int n) o name is e = absurd (cc)
text-key (Text t) o name is e = ap key_of (is t refl) ∙ short-key t name e
text-key (Truth b) o name is e = absurd (cc)

-- the key of a row that is named
pub named-key : (a : Term) (g : Sight) → name_faults a g ≡ [] → (w : World) (s : State) (name : List ℕ) → (value_of a w s >>= row_name) ≡ Ok name → row_key a (known_of w) ≡ key.Row name ∷ []
named-key a g h w s name e =
    let b = bind-ok (value_of a w s) row_name name e in
    text-key b.0 (static_text a (known_of w)) name (λ t is. name-static a g h w s t (b.1 ∙ ap Ok is)) b.2
