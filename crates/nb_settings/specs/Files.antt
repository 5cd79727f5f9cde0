-- What the bytes of a settings file say, over what `toml` reads.
use Rattle.std.specs.Prelude.{◌≡◌, ℕ, List, [], ◌∷◌, length, nat_lt, if◌then◌else◌, Option, Some, None, Result, Ok, Err, unwrap_or}
use Rattle.std.specs.Str.{is_utf8}
use Rattle.toml.specs.Data.{Data, table, Members, no_members}
use Rattle.toml.specs.Parse.{parse_document}
use Rattle.nb_base.specs.declared.settings.Settings.{Settings}
use Rattle.nb_settings.specs.Faults as table_of
use Rattle.nb_settings.specs.Faults.{bad}
use Rattle.nb_settings.specs.Values.{AreSettingsOf}
use Rattle.nb_settings.specs.declared.refusal.SettingsFault.{SettingsFault}
use Rattle.nb_settings.specs.declared.refusal.SettingsKind.TheVariants.{NotToml}
use Rattle.nb_settings.specs.declared.refusal.SettingsRefusal.{SettingsRefusal}
use Rattle.nb_settings.specs.declared.refusal.SettingsRefusal.TheVariants.{Fault, NoMemory}

-- what `toml` reads of the bytes: nothing where they are no UTF-8
abbrev pub toml_of : List ℕ → Option Members
toml_of bytes = if is_utf8 bytes then parse_document bytes else None

abbrev pub document_faults : Option Members → List SettingsFault
document_faults None = bad [] NotToml
document_faults (Some members) = table_of.faults_of (table members)

-- all that is at fault in a file
abbrev pub faults_of : List ℕ → List SettingsFault
faults_of bytes = if nat_lt 1048576 (length bytes) then bad [] NotToml else document_faults (toml_of bytes)

-- the table of a file, empty where there is none
abbrev pub root_of : List ℕ → Data
root_of bytes = table (unwrap_or (toml_of bytes) no_members)

abbrev pub first : List SettingsFault → Option SettingsFault
first [] = None
first (fault ∷ faults) = Some fault

-- the refusal names the first fault; there may have been no memory
abbrev pub IsFirst : List SettingsFault → SettingsRefusal → Type 0
IsFirst faults (Fault fault) = first faults ≡ Some fault
IsFirst faults NoMemory = Unit {0}

-- what was meant, where nothing is at fault, and else the first fault
abbrev pub Reads : {X : Type 0} → Result X SettingsRefusal → List SettingsFault → X → Type 0
Reads (Ok x) faults meant = (faults ≡ []) × (x ≡ meant)
Reads (Err refusal) faults meant = IsFirst faults refusal

-- the settings that a table says, where nothing is at fault, and else the first fault
abbrev pub ReadsSettings : Result Settings SettingsRefusal → List SettingsFault → Data → Type 0
ReadsSettings (Ok settings) faults root = (faults ≡ []) × AreSettingsOf root settings
ReadsSettings (Err refusal) faults root = IsFirst faults refusal
