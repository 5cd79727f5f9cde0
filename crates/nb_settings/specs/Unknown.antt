-- Keys that mean nothing.
use Rattle.std.specs.Prelude.{◌≡◌, ℕ, List, [], ◌∷◌, ◌++◌, Bool, true, false, MatchOption, bytes_eq, if◌then◌else◌, Option, Some, None, codes}
use Rattle.std.specs.List.{AllByRecursion, list_any}
use Rattle.toml.specs.Data.{Data, Members, no_members, member, get}
use Rattle.nb_base.specs.SettingsRules.{is_before}
use Rattle.nb_settings.specs.Values.{members_of}
use Rattle.nb_settings.specs.declared.group.Group.{Group}
use Rattle.nb_settings.specs.declared.group.Group.TheVariants.{Top, Recoverability, Outbox}

-- whether a key of the group means something
abbrev pub knows : Group → List ℕ → Bool
knows Top key =
    list_any (bytes_eq key) (codes "endpoint" ∷ codes "error" ∷ codes "recoverability" ∷ codes "outbox"
    ∷ codes "routes" ∷ codes "subscribers" ∷ codes "policies" ∷ [])
knows Recoverability key = list_any (bytes_eq key) (codes "immediate" ∷ codes "delayed" ∷ codes "increase" ∷ [])
knows Outbox key = list_any (bytes_eq key) (codes "retention" ∷ [])

-- what stands before a key of the group where the whole key is written
abbrev pub prefix_of : Group → List ℕ
prefix_of Top = []
prefix_of Recoverability = codes "recoverability."
prefix_of Outbox = codes "outbox."

-- the keys of the group that mean nothing, each written whole
abbrev pub others_in : Group → Members → List (List ℕ)
others_in group no_members = []
others_in group (member key value rest) =
    if knows group key then others_in group rest else (prefix_of group ++ key) ∷ others_in group rest

-- all keys that mean nothing
abbrev pub others_of : Data → List (List ℕ)
others_of root =
    others_in Top (members_of (Some root)) ++ others_in Recoverability (members_of (get (codes "recoverability") root))
    ++ others_in Outbox (members_of (get (codes "outbox") root))

-- the lesser of two keys, by their bytes
abbrev pub lesser : Option (List ℕ) → List ℕ → List ℕ
lesser None key = key
lesser (Some best) key = if is_before key best then key else best

-- the least of one key, where there is one, and of others
abbrev pub least_with : Option (List ℕ) → List (List ℕ) → Option (List ℕ)
least_with best [] = best
least_with best (key ∷ keys) = least_with (Some (lesser best key)) keys

abbrev pub least : List (List ℕ) → Option (List ℕ)
least keys = least_with None keys

-- the key is one of the keys, and none of them comes before it
pub record IsLeastOf (keys : List (List ℕ)) (key : List ℕ) : Type 0 where
  pub among : list_any (bytes_eq key) keys ≡ true
  pub first : AllByRecursion (λ other. is_before other key ≡ false) keys

-- the least of some keys; of none there is none
abbrev pub FindsLeast : Type 0
FindsLeast = (keys : List (List ℕ)) → MatchOption (least keys) (keys ≡ []) (IsLeastOf keys)
