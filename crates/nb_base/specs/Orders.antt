-- The orders of names, of values and of the places of sagas.
use Rattle.std.specs.Prelude.{ℕ, List}
use Rattle.std.specs.declared.cmp.Ordering.{Ordering}
use Rattle.std.specs.Ordering.{nat_cmp}
use Rattle.std.specs.Cmp.Lexicographic.{slice_cmp}
use Rattle.std.specs.FinMap.{FinMap}
use Rattle.nb_base.specs.declared.value.Value.{Value}
use Rattle.nb_base.specs.declared.value.Key.{Key}
use Rattle.nb_base.specs.declared.saga_key.SagaKey.{SagaKey}
use Rattle.nb_base.specs.contracts.value.ValueOrd.TheImpl as value_order
use Rattle.nb_base.specs.contracts.value.KeyOrd.TheImpl as key_order
use Rattle.nb_base.specs.contracts.saga_key.SagaKeyOrd.TheImpl as saga_key_order

-- texts by their bytes
abbrev pub name_cmp : List ℕ → List ℕ → Ordering
name_cmp = slice_cmp nat_cmp

-- numbers before texts before truth values
abbrev pub value_cmp : Value → Value → Ordering
value_cmp = (value_order.cmp-value).it

-- sagas by correlation value before sagas by id before rows
abbrev pub key_cmp : Key → Key → Ordering
key_cmp = (key_order.cmp-value).it

-- by the saga's type, and then by the value
abbrev pub saga_key_cmp : SagaKey → SagaKey → Ordering
saga_key_cmp = (saga_key_order.cmp-value).it

-- finite maps from numbers, from names, and from the places of sagas
abbrev pub ByNumber : Type 0 → Type 0
ByNumber V = FinMap nat_cmp V

abbrev pub ByName : Type 0 → Type 0
ByName V = FinMap name_cmp V

abbrev pub BySaga : Type 0 → Type 0
BySaga V = FinMap saga_key_cmp V
