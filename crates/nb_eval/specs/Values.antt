-- Values, and what the operators make of them, or why the message stops.
use Rattle.std.specs.Prelude.{◌≡◌, ℕ, ℤ, pos, negsuc, neg_ℤ, ◌+ℤ◌, ◌-ℤ◌, ◌*ℤ◌, ◌^◌, nat_lt, List, ◌++◌, length, codes, Bool, true, false, not, bytes_eq, if◌then◌else◌, Option, Some, None, Result, Ok, Err}
use Rattle.std.specs.Fmt.{signed_decimal}
use Rattle.std.specs.Ordering.{nat_cmp, int_cmp, int_eq, is_lt, is_le, is_gt, is_ge}
use Rattle.std.specs.declared.cmp.Ordering.{Ordering}
use Rattle.std.specs.Cmp.Lexicographic.{slice_cmp}
use Rattle.nb_base.specs.declared.value.Value.{Value}
use Rattle.nb_base.specs.declared.value.Value.TheVariants.{Int, Text, Bool as Truth}
use Rattle.nb_script.specs.declared.expr.Binary.{Binary}
use Rattle.nb_script.specs.declared.expr.Binary.TheVariants.{Times, Plus, Minus, Join, Equal, Unequal, Less, LessOrEqual, Greater, GreaterOrEqual, And, Or}
use Rattle.nb_script.specs.declared.expr.Unary.{Unary}
use Rattle.nb_script.specs.declared.expr.Unary.TheVariants.{Negative, Not}
use Rattle.nb_eval.specs.declared.stop.Stop.{Stop}
use Rattle.nb_eval.specs.declared.stop.Stop.TheVariants as stop
use Rattle.nb_eval.specs.declared.stop.Limit.TheVariants.{Overflow, TooLong}

-- a value, or why the message stops
abbrev pub Answer : Type 0 → Type 0
Answer A = Result A Stop

infixl 10 ◌>>=◌
abbrev pub ◌>>=◌ : {A B : Type 0} → Answer A → (A → Answer B) → Answer B
(Ok x) >>= f = f x
(Err e) >>= f = Err e

-- What a call returned is what is meant, unless memory ran out.
abbrev pub Stops : {A : Type 0} → Stop → Answer A → Type 0
Stops (stop.Passed l) meant = meant ≡ Err (stop.Passed l)
Stops (stop.Refused r name text) meant = meant ≡ Err (stop.Refused r name text)
Stops stop.Wrong meant = meant ≡ Err stop.Wrong
Stops stop.NoMemory meant = Unit {0}

abbrev pub Gives : {A : Type 0} → Answer A → Answer A → Type 0
Gives (Ok x) meant = meant ≡ Ok x
Gives (Err e) meant = Stops e meant

-- ---- values of a kind

abbrev pub whole : Value → Answer ℤ
whole (Int n) = Ok n
whole (Text t) = Err stop.Wrong
whole (Truth b) = Err stop.Wrong

abbrev pub text : Value → Answer (List ℕ)
text (Int n) = Err stop.Wrong
text (Text t) = Ok t
text (Truth b) = Err stop.Wrong

abbrev pub truth : Value → Answer Bool
truth (Int n) = Err stop.Wrong
truth (Text t) = Err stop.Wrong
truth (Truth b) = Ok b

abbrev pub found : {A : Type 0} → Option A → Answer A
found None = Err stop.Wrong
found (Some v) = Ok v

-- ---- limits

abbrev pub fits : ℤ → Bool
fits (pos n) = nat_lt n (2 ^ 63)
fits (negsuc n) = nat_lt n (2 ^ 63)

-- a number of 64 bits
abbrev pub in_range : ℤ → Answer ℤ
in_range n = if fits n then Ok n else Err (stop.Passed Overflow)

-- a text of at most 65536 bytes
abbrev pub short : List ℕ → Answer (List ℕ)
short t = if nat_lt 65536 (length t) then Err (stop.Passed TooLong) else Ok t

-- ---- operators

abbrev pub number : Answer ℤ → Answer Value
number n = n >>= λ k. Ok (Int k)

abbrev pub arithmetic : (ℤ → ℤ → ℤ) → Value → Value → Answer Value
arithmetic op v w = whole v >>= λ m. whole w >>= λ n. number (in_range (op m n))

abbrev pub joined : Value → Value → Answer Value
joined v w = text v >>= λ a. text w >>= λ b. short (a ++ b) >>= λ t. Ok (Text t)

-- whether two values of one kind are the same
abbrev pub same : Value → Value → Answer Bool
same (Int m) (Int n) = Ok (int_eq m n)
same (Text a) (Text b) = Ok (bytes_eq a b)
same (Truth b) (Truth c) = Ok (if b then c else not c)
same (Int m) (Text b) = Err stop.Wrong
same (Int m) (Truth c) = Err stop.Wrong
same (Text a) (Int n) = Err stop.Wrong
same (Text a) (Truth c) = Err stop.Wrong
same (Truth b) (Int n) = Err stop.Wrong
same (Truth b) (Text t) = Err stop.Wrong

-- two numbers, or two texts by their bytes
abbrev pub order : Value → Value → Answer Ordering
order (Int m) (Int n) = Ok (int_cmp m n)
order (Text a) (Text b) = Ok (slice_cmp nat_cmp a b)
order (Int m) (Text b) = Err stop.Wrong
order (Int m) (Truth c) = Err stop.Wrong
order (Text a) (Int n) = Err stop.Wrong
order (Text a) (Truth c) = Err stop.Wrong
order (Truth b) v = Err stop.Wrong

abbrev pub compared : (Ordering → Bool) → Value → Value → Answer Value
compared test v w = order v w >>= λ o. Ok (Truth (test o))

-- an operator with two operands that are both evaluated
abbrev pub applied : Binary → Value → Value → Answer Value
applied Times v w = arithmetic (λ m n. m *ℤ n) v w
applied Plus v w = arithmetic (λ m n. m +ℤ n) v w
applied Minus v w = arithmetic (λ m n. m -ℤ n) v w
applied Join v w = joined v w
applied Equal v w = same v w >>= λ b. Ok (Truth b)
applied Unequal v w = same v w >>= λ b. Ok (Truth (not b))
applied Less v w = compared is_lt v w
applied LessOrEqual v w = compared is_le v w
applied Greater v w = compared is_gt v w
applied GreaterOrEqual v w = compared is_ge v w
applied And v w = truth v >>= λ b. truth w >>= λ c. Ok (Truth (if b then c else false))
applied Or v w = truth v >>= λ b. truth w >>= λ c. Ok (Truth (if b then true else c))

-- the value of the right side, where the left side doesn't decide
abbrev pub right_of : Bool → Bool → Answer Value → Answer Value
right_of true true right = right >>= truth >>= λ b. Ok (Truth b)
right_of true false right = Ok (Truth false)
right_of false true right = Ok (Truth true)
right_of false false right = right >>= truth >>= λ b. Ok (Truth b)

-- the left side decides, or else the right side does
abbrev pub decided : Bool → Answer Value → Answer Value → Answer Value
decided conjunction left right = left >>= truth >>= λ b. right_of conjunction b right

abbrev pub both : Binary → Answer Value → Answer Value → Answer Value
both op left right = left >>= λ v. right >>= λ w. applied op v w

-- The left side is evaluated first. The right side of `&&` and `||` is left out where the left one decides.
abbrev pub binary : Binary → Answer Value → Answer Value → Answer Value
binary Times left right = both Times left right
binary Plus left right = both Plus left right
binary Minus left right = both Minus left right
binary Join left right = both Join left right
binary Equal left right = both Equal left right
binary Unequal left right = both Unequal left right
binary Less left right = both Less left right
binary LessOrEqual left right = both LessOrEqual left right
binary Greater left right = both Greater left right
binary GreaterOrEqual left right = both GreaterOrEqual left right
binary And left right = decided true left right
binary Or left right = decided false left right

-- an operator in front of its operand
abbrev pub unary : Unary → Value → Answer Value
unary Negative v = whole v >>= λ n. number (in_range (neg_ℤ n))
unary Not v = truth v >>= λ b. Ok (Truth (not b))

-- ---- functions

abbrev pub spelled : Bool → List ℕ
spelled b = if b then codes "true" else codes "false"

-- a number in decimal digits, or `true` or `false`
abbrev pub shown : Value → Answer Value
shown (Int n) = Ok (Text (signed_decimal n))
shown (Text t) = Err stop.Wrong
shown (Truth b) = Ok (Text (spelled b))

-- the number of bytes
abbrev pub measured : Value → Answer Value
measured v = text v >>= λ t. Ok (Int (pos (length t)))
