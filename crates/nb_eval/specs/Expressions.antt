-- The value of an expression.
use Rattle.std.specs.Prelude.{ℕ, ℤ, pos, List, Bool, true, false, unwrap_or, is_some, Ok}
use Rattle.nb_base.specs.declared.value.Value.{Value}
use Rattle.nb_base.specs.declared.value.Value.TheVariants.{Int, Text, Bool as Truth}
use Rattle.nb_check.specs.Keys.{value_in}
use Rattle.nb_script.specs.declared.expr.Constant.{Constant as ConstantWord}
use Rattle.nb_script.specs.declared.expr.Constant.TheVariants as word
use Rattle.nb_script.specs.declared.expr.Function.{Function}
use Rattle.nb_script.specs.declared.expr.Function.TheVariants as function
use Rattle.nb_script.specs.declared.expr.Holder.{Holder}
use Rattle.nb_script.specs.declared.expr.Holder.TheVariants as holder
use Rattle.nb_script.specs.Grammar.{Term, Number, Quoted, Constant, Field, Name, Call, Paren, Prefix, Infix, RowTerm}
use Rattle.nb_eval.specs.declared.scene.State.{State}
use Rattle.nb_eval.specs.Values.{Answer, ◌>>=◌, found, whole, text, truth, short, binary, unary, shown, measured}
use Rattle.nb_eval.specs.Worlds.{World, row_now, saga_value, seconds_or_minus_one}

abbrev pub constant_value : ConstantWord → World → Value
constant_value word.True w = Truth true
constant_value word.False w = Truth false
constant_value word.Retries w = Int (pos w.round)
constant_value word.Now w = Int (pos w.moment)
constant_value word.Sent w = Int (seconds_or_minus_one w.sent)
constant_value word.Id w = Text w.id

abbrev pub field_value : Holder → List ℕ → World → State → Answer Value
field_value holder.Message f w s = found (value_in f w.fields)
field_value holder.Saga f w s = found (saga_value f s.saga)

-- A row's name counts as the result of a `++`, where it is used.
abbrev pub row_name : Value → Answer (List ℕ)
row_name v = text v >>= short

abbrev pub number_or_zero : List ℕ → World → State → ℤ
number_or_zero name w s = unwrap_or (row_now name w s) (pos 0)

abbrev pub call_value : Function → World → State → Value → Answer Value
call_value function.Row w s v = row_name v >>= λ name. Ok (Int (number_or_zero name w s))
call_value function.Has w s v = row_name v >>= λ name. Ok (Truth (is_some (row_now name w s)))
call_value function.Text w s v = shown v
call_value function.Len w s v = measured v

abbrev pub value_of : Term → World → State → Answer Value
value_of (Number at n) w s = Ok (Int n)
value_of (Quoted at t) w s = Ok (Text t)
value_of (Constant at c) w s = Ok (constant_value c w)
value_of (Field at h d q f) w s = field_value h f w s
value_of (Name at x) w s = found (value_in x s.names)
value_of (Call at f o a c) w s = value_of a w s >>= λ v. call_value f w s v
value_of (Paren o a c) w s = value_of a w s
value_of (Prefix at op a) w s = value_of a w s >>= λ v. unary op v
value_of (Infix a at op b) w s = binary op (value_of a w s) (value_of b w s)

-- ---- values of a kind

abbrev pub whole_of : Term → World → State → Answer ℤ
whole_of e w s = value_of e w s >>= whole

abbrev pub text_of : Term → World → State → Answer (List ℕ)
text_of e w s = value_of e w s >>= text

abbrev pub truth_of : Term → World → State → Answer Bool
truth_of e w s = value_of e w s >>= truth

-- the name of the row that a statement changes
abbrev pub row_at : RowTerm → World → State → Answer (List ℕ)
row_at r w s = value_of r.name w s >>= row_name
