-- How a loop over the members of a table goes.
use Rattle.std.proofs.Common.{◌≡◌, ◌∙◌, List, [], ◌∷◌, ◌++◌, String, Global, refl, ap, sym, append_assoc}
use Rattle.toml.specs.Data.{Members}
use Rattle.toml.specs.View.{members_view}
use Rattle.toml.specs.declared.value.Value.{Value}
use Rattle.nb_settings.specs.Files.{IsFirst}
use Rattle.nb_settings.specs.declared.refusal.SettingsFault.{SettingsFault}
use Rattle.nb_settings.specs.declared.refusal.SettingsRefusal.{SettingsRefusal}
use Rattle.nb_settings.specs.declared.refusal.SettingsRefusal.TheVariants.{Fault, NoMemory}

abbrev pub Entry : Type 0
Entry = String Global × Value

-- Nothing is at fault so far: the table has the faults of the rest, and it means what was made so far and what the rest means.
pub record Goes {X : Type 0} (faults : Members → List SettingsFault) (meant : Members → List X) (all : List Entry) (made : List X) (rest : List Entry) : Type 0 where
  pub faults_left : faults (members_view all) ≡ faults (members_view rest)
  pub meant_left : meant (members_view all) ≡ made ++ meant (members_view rest)

pub Goes-start : {X : Type 0} (faults : Members → List SettingsFault) (meant : Members → List X) (all rest : List Entry) (made : List X)
    → rest ≡ all → made ≡ [] → Goes faults meant all made rest
Goes-start faults meant all rest made is none = rw (is, none) (record { faults_left = refl; meant_left = refl })

pub Goes-next : {X : Type 0} (faults : Members → List SettingsFault) (meant : Members → List X) (all before rest : List Entry) (made more : List X) (here : List SettingsFault) (one : X)
    → here ≡ [] → more ≡ made ++ one ∷ []
    → faults (members_view before) ≡ here ++ faults (members_view rest)
    → meant (members_view before) ≡ one ∷ meant (members_view rest)
    → Goes faults meant all made before → Goes faults meant all more rest
Goes-next faults meant all before rest made more here one right added step made_here goes = record {
  faults_left = goes.faults_left ∙ step ∙ ap (λ fs. fs ++ faults (members_view rest)) right;
  meant_left = goes.meant_left ∙ ap (λ xs. made ++ xs) made_here ∙ rw added (sym (append_assoc made (one ∷ []) (meant (members_view rest))));
}

-- the first of more, where there is a first
pub IsFirst-here : (refusal : SettingsRefusal) (here rest : List SettingsFault) → IsFirst here refusal → IsFirst (here ++ rest) refusal
IsFirst-here NoMemory here rest is = tt
IsFirst-here (Fault fault) [] rest is = cc
IsFirst-here (Fault fault) (f ∷ fs) rest is = is

-- the first of more, where nothing is at fault before
pub IsFirst-after : (refusal : SettingsRefusal) (before here : List SettingsFault) → before ≡ [] → IsFirst here refusal → IsFirst (before ++ here) refusal
IsFirst-after refusal before here none is = rw none is

pub Goes-fails : {X : Type 0} (refusal : SettingsRefusal) (faults : Members → List SettingsFault) (meant : Members → List X) (all before rest : List Entry) (made : List X) (here : List SettingsFault)
    → IsFirst here refusal
    → faults (members_view before) ≡ here ++ faults (members_view rest)
    → Goes faults meant all made before → IsFirst (faults (members_view all)) refusal
Goes-fails refusal faults meant all before rest made here is step goes = rw (goes.faults_left, step) (IsFirst-here refusal here (faults (members_view rest)) is)

-- a part of nothing
pub nothing-both : (a b : List SettingsFault) → a ++ b ≡ [] → (a ≡ []) × (b ≡ [])
nothing-both [] b none = (refl, none)
nothing-both (f ∷ fs) b none = cc
