-- How a loop over the items of an array goes.
use Rattle.std.proofs.Common.{◌≡◌, ℕ, List, ◌++◌}
use Rattle.toml.specs.View.{items_view}
use Rattle.toml.specs.declared.value.Value.{Value}
use Rattle.nb_settings.specs.Faults.{are_texts}
use Rattle.nb_settings.specs.Values.{texts_of}

-- The items so far are these texts; whether all are texts rests with the rest.
pub record Left (all : List Value) (texts : List (List ℕ)) (rest : List Value) : Type 0 where
  pub texts_left : texts_of (items_view all) ≡ texts ++ texts_of (items_view rest)
  pub kinds_left : are_texts (items_view all) ≡ are_texts (items_view rest)
