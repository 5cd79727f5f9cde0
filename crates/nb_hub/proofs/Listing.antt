-- What passes a test is listed, one more at a time.
use Rattle.std.specs.Prelude.{◌≡◌, List, [], ◌∷◌, ◌++◌, Option, None, Some, refl}
use Rattle.std.proofs.Common.{◌∙◌, ap}
use Rattle.std.proofs.lemmas.List.Elements.{filter_map-append}
use Rattle.std.specs.List.{filter_map, cons_option}
use Rattle.std.specs.Option.{option_to_list}

module _ {A B : Type 0} (listed : A → Option B) where
  adds : (e : A) → filter_map listed (e ∷ []) ≡ option_to_list (listed e)
  adds e = elim (listed e) as (λ o. cons_option o [] ≡ option_to_list o) [ None ↦ refl | Some entry ↦ refl ]

  pub one_listed : (es : List A) (e : A) → filter_map listed (es ++ e ∷ []) ≡ filter_map listed es ++ option_to_list (listed e)
  one_listed es e = filter_map-append listed es (e ∷ []) ∙ ap (λ list. filter_map listed es ++ list) (adds e)
