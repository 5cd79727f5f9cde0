-- What is read of a settings file.
use Rattle.std.specs.Prelude.{◌≡◌, ℕ, List, [], Some, Result, Ok, Err}
use Rattle.nb_base.specs.declared.settings.Settings.{Settings}
use Rattle.nb_check.specs.Sends.{sends}
use Rattle.nb_endpoint.specs.declared.status.Status.{Status}
use Rattle.nb_endpoint.specs.declared.status.Status.TheVariants as status
use Rattle.nb_script.specs.Grammar.{ItemTerm}
use Rattle.nb_settings.specs.Files.{first, root_of}
use Rattle.nb_settings.specs.Missing.{AreRouted, faults_for}
use Rattle.nb_settings.specs.Values.{AreSettingsOf}

-- the bytes are these settings for the script: nothing is at fault in them, and each message that is sent has a route
pub record AreSettings (bytes : List ℕ) (items : List ItemTerm) (settings : Settings) : Type 0 where
  pub faultless : faults_for bytes (sends items) ≡ []
  pub values : AreSettingsOf (root_of bytes) settings
  pub routed : AreRouted settings.routes (sends items)

abbrev pub Configures : List ℕ → List ItemTerm → Result Settings Status → Type 0
Configures bytes items (Ok settings) = AreSettings bytes items settings
Configures bytes items (Err (status.Settings key kind)) = first (faults_for bytes (sends items)) ≡ Some (record { key = key; kind = kind })
Configures bytes items (Err status.NoMemory) = Unit {0}
Configures bytes items (Err _) = ⊥
