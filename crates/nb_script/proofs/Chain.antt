-- What follows a left operand, turn by turn.
use Rattle.std.proofs.Common.{◌≡◌, ℕ, zero, suc, ◌+◌, ◌-◌, ◌<◌, Some, None, Ok, Err, refl, ap, sym, ◌∙◌, arith}
use Rattle.nb_script.specs.declared.expr.Binary.{Binary}
use Rattle.nb_script.specs.declared.fault.Fault.{Fault}
use Rattle.nb_script.specs.declared.fault.Fault.TheVariants.{Expected}
use Rattle.nb_script.specs.declared.fault.Halt.{Halt}
use Rattle.nb_script.specs.declared.fault.Halt.TheVariants.{Memory, Stopped}
use Rattle.nb_script.specs.Grammar.{Term, Infix}
use Rattle.nb_script.specs.Spelling.{is_zero, binary_symbol, operators}
use Rattle.nb_script.specs.Reading.{Source, Outcome, Parser, ret, and_then, take, want_symbol, operator, turn, joined, chain, once, climb}
use Rattle.nb_script.specs.Tree.{Fails}

right_goes : (r : Outcome Term) (e : Term) (p : ℕ) (op : Binary) (g : Source) (again : Term → Parser Term)
    → and_then r (λ r m. again (Infix e p op r) g m) ≡ and_then (and_then r (λ r m. Ok (Infix e p op r, m))) (λ x m. again x g m)
right_goes (Ok p) e q op g again = refl
right_goes (Err x) e q op g again = refl

left_goes : (r : Outcome ℕ) (next : Parser Term) (e : Term) (op : Binary) (g : Source) (again : Term → Parser Term)
    → and_then r (λ p m. and_then (next g m) (λ r m. again (Infix e p op r) g m)) ≡ and_then (and_then r (λ p m. and_then (next g m) (λ r m. Ok (Infix e p op r, m)))) (λ x m. again x g m)
left_goes (Ok p) next e op g again = right_goes (next g p.1) e p.0 op g again
left_goes (Err x) next e op g again = refl

-- one operator and its right operand, and then the others
pub turn_joined : (next : ℕ → Parser Term) (left : ℕ) (e : Term) (again : Term → Parser Term) (op : Binary) (g : Source) (k : ℕ)
    → turn next left e again (Some op) g k ≡ and_then (joined (left - operators e) next e op g k) (λ x m. again x g m)
turn_joined next left e again op g k = left_goes (take (is_zero (left - operators e)) (want_symbol (binary_symbol op)) g k) (next (left - operators e - 1)) e op g again

pub chain_ends : (turns n : ℕ) (next : ℕ → Parser Term) (left : ℕ) (e : Term) (g : Source) (k : ℕ) → 0 < turns → operator n (g k) ≡ None → chain turns n next left e g k ≡ Ok (e, k)
unfolding chain
chain_ends zero n next left e g k some none = absurd (omega arith)
chain_ends (suc turns) n next left e g k some none = ap (λ o. turn next left e (chain turns n next left) o g k) none

chain_goes : (turns n : ℕ) (next : ℕ → Parser Term) (left : ℕ) (e : Term) (op : Binary) (g : Source) (k : ℕ) → operator n (g k) ≡ Some op
    → chain (suc turns) n next left e g k ≡ and_then (joined (left - operators e) next e op g k) (λ x m. chain turns n next left x g m)
unfolding chain
chain_goes turns n next left e op g k seen = ap (λ o. turn next left e (chain turns n next left) o g k) seen ∙ turn_joined next left e (chain turns n next left) op g k

pub chain_turn : (turns i n : ℕ) (next : ℕ → Parser Term) (left : ℕ) (e : Term) (op : Binary) (g : Source) (k : ℕ) → i < turns → operator n (g k) ≡ Some op
    → chain (turns - i) n next left e g k ≡ and_then (joined (left - operators e) next e op g k) (λ x m. chain (turns - (i + 1)) n next left x g m)
chain_turn turns i n next left e op g k lt seen =
    let same : turns - i ≡ suc (turns - (i + 1)) = omega arith in
    ap (λ t. chain t n next left e g k) same ∙ chain_goes (turns - (i + 1)) n next left e op g k seen

pub chain_over : (turns n : ℕ) (next : ℕ → Parser Term) (left : ℕ) (e : Term) (g : Source) (k : ℕ) → turns ≡ 0 → chain turns n next left e g k ≡ Err (Expected, k)
unfolding chain
chain_over zero n next left e g k over = refl
chain_over (suc turns) n next left e g k over = absurd (omega arith)

-- one comparison, behind its left side
pub comparison : (first : ℕ → Parser Term) (left : ℕ) (e : Term) (op : Binary) (g : Source) (k m n : ℕ) → climb 2 first left g k ≡ Ok (e, m) → operator 3 (g m) ≡ Some op → n ≡ left - operators e → climb 3 first left g k ≡ joined n (climb 2 first) e op g m
unfolding climb once
comparison first left e op g k m n read seen same =
    ap (λ r. and_then r (λ e m. once 3 (climb 2 first) left e g m)) read ∙ ap (λ o. turn (climb 2 first) left e ret o g m) seen ∙ ap (λ i. joined i (climb 2 first) e op g m) (sym same)

-- a fault is passed on
pub passes_on : {A B : Type 0} (e : Halt) (read : Outcome A) (whole : Outcome B) → ((f : Fault × ℕ) → read ≡ Err f → whole ≡ Err f) → Fails e read → Fails e whole
passes_on Memory read whole on f = tt
passes_on (Stopped f k) read whole on stopped = on (f, k) stopped
