-- Entries that are listed, one more at a time.
use Rattle.std.specs.Prelude.{◌≡◌, ℕ, List, [], ◌∷◌, ◌++◌, Option, None, Some, refl}
use Rattle.std.proofs.Common.{◌∙◌, ap}
use Rattle.std.proofs.lemmas.List.Elements.{filter_map-append}
use Rattle.std.specs.List.{filter_map, cons_option}
use Rattle.std.specs.Option.{option_to_list}
use Rattle.nb_base.specs.declared.entry.Entry.{Entry}
use Rattle.nb_base.specs.declared.tables.Queued.{Queued}

module _ (listed : ℕ × Queued → Option Entry) where
  adds : (e : ℕ × Queued) → filter_map listed (e ∷ []) ≡ option_to_list (listed e)
  adds e = elim (listed e) as (λ o. cons_option o [] ≡ option_to_list o) [ None ↦ refl | Some entry ↦ refl ]

  pub one_listed : (es : List (ℕ × Queued)) (e : ℕ × Queued) → filter_map listed (es ++ e ∷ []) ≡ filter_map listed es ++ option_to_list (listed e)
  one_listed es e = filter_map-append listed es (e ∷ []) ∙ ap (λ list. filter_map listed es ++ list) (adds e)
