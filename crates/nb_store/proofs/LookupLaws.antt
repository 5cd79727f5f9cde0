-- The records that may go, one more at a time.
use Rattle.std.specs.Prelude.{◌≡◌, ℕ, List, [], ◌∷◌, ◌++◌, None, Some, refl}
use Rattle.std.proofs.Common.{◌∙◌, ap}
use Rattle.std.proofs.lemmas.List.Elements.{filter_map-append}
use Rattle.std.specs.List.{filter_map, cons_option}
use Rattle.std.specs.Option.{option_to_list}
use Rattle.nb_base.specs.declared.entry.OutboxRow.{OutboxRow}
use Rattle.nb_store.specs.Lookups.{going}

adds : (retention moment : ℕ) (e : List ℕ × OutboxRow) → filter_map (going retention moment) (e ∷ []) ≡ option_to_list (going retention moment e)
adds retention moment e = elim (going retention moment e) as (λ o. cons_option o [] ≡ option_to_list o) [ None ↦ refl | Some id ↦ refl ]

pub going_next : (retention moment : ℕ) (es : List (List ℕ × OutboxRow)) (e : List ℕ × OutboxRow)
    → filter_map (going retention moment) (es ++ e ∷ []) ≡ filter_map (going retention moment) es ++ option_to_list (going retention moment e)
going_next retention moment es e =
    filter_map-append (going retention moment) es (e ∷ []) ∙ ap (λ (list : List (List ℕ)). filter_map (going retention moment) es ++ list) (adds retention moment e)
