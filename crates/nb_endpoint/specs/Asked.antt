-- What the words, the clock and the sources ask for.
use Rattle.std.specs.Prelude.{◌≡◌, ◌≢◌, ℕ, List, [], Option, Some, None, Result, Ok, Err}
use Rattle.nb_base.specs.Messages.{Message}
use Rattle.nb_base.specs.Told.{IsTold}
use Rattle.nb_base.specs.declared.settings.Settings.{Settings as SettingsOf}
use Rattle.nb_check.specs.Sends.{sends}
use Rattle.nb_endpoint.specs.Configured.{AreSettings}
use Rattle.nb_endpoint.specs.Lines.{Loads}
use Rattle.nb_endpoint.specs.Scripts.{IsScript, IsMistake}
use Rattle.nb_endpoint.specs.Sources.{Flow, Flows, IsRead, HasFailed, most_text, most_input}
use Rattle.nb_endpoint.specs.declared.job.Job.{Job}
use Rattle.nb_endpoint.specs.declared.job.Bodies.{Bodies}
use Rattle.nb_endpoint.specs.declared.status.Input.{Input as Origin}
use Rattle.nb_endpoint.specs.declared.status.Input.TheVariants as origin
use Rattle.nb_endpoint.specs.declared.status.Status.{Status}
use Rattle.nb_endpoint.specs.declared.status.Status.TheVariants.{Script, Settings, Input, ReadFault, NoMemory}
use Rattle.nb_envelope.specs.Inputs.{messages_of}
use Rattle.nb_script.specs.Grammar.{ItemTerm}
use Rattle.nb_script.specs.Tree.{script}
use Rattle.nb_settings.specs.Files.{first}
use Rattle.nb_settings.specs.Missing.{faults_for}
use Rattle.nb_words.specs.Cli.{words_of}
use Rattle.nb_words.specs.declared.words.Command.{Command}
use Rattle.nb_words.specs.declared.words.Command.TheVariants.{Run, Show, Retry, Purge, Sample}
use Rattle.nb_words.specs.declared.words.Words.{Words as Said}

-- the command with its options, its moment, the script, the settings and the messages to be loaded
pub record Asked : Type 0 where
  pub said : Said
  pub moment : ℕ
  pub items : List ItemTerm
  pub settings : SettingsOf
  pub messages : List Message

-- the moment that the words give, or else the one that the clock was to answer, where it told that
abbrev pub IsMoment : Option ℕ → Option ℕ → ℕ → Type 0
IsMoment (Some at) told moment = moment ≡ at
IsMoment None told moment = IsTold told moment

-- the source is a well-typed script with these items
abbrev pub ScriptIs : Flow → List ItemTerm → Type 0
ScriptIs f items = (bytes : List ℕ) × IsRead most_text f bytes × IsScript bytes items

-- the source is these settings for the script
abbrev pub SettingsAre : Flow → List ItemTerm → SettingsOf → Type 0
SettingsAre f items settings = (bytes : List ℕ) × IsRead most_text f bytes × AreSettings bytes items settings

-- a run loads the messages of the lines of its input, and every other command none
abbrev pub MessagesAre : Command → Flow → List Message → Type 0
MessagesAre Run f messages = (bytes : List ℕ) × IsRead most_input f bytes × (messages_of bytes ≡ Ok messages)
MessagesAre Show f messages = messages ≡ []
MessagesAre Retry f messages = messages ≡ []
MessagesAre Purge f messages = messages ≡ []
MessagesAre Sample f messages = messages ≡ []

-- it is what the words, the clock, the script, the settings and the lines ask for
pub record IsAsked (words : List (List ℕ)) (clock : Option ℕ) (f : Flows) (a : Asked) : Type 0 where
  pub said_is : words_of words ≡ Some a.said
  pub stores : a.said.command ≢ Sample
  pub moment_is : IsMoment a.said.at clock a.moment
  pub script_is : ScriptIs f.script a.items
  pub settings_are : SettingsAre f.settings a.items a.settings
  pub messages_are : MessagesAre a.said.command f.lines a.messages

-- ---- what is read and checked before a store is touched

abbrev pub asked_by : Job → Asked
asked_by job = record { said = job.said; moment = job.moment; items = script job.handlers.checked; settings = job.settings; messages = job.messages }

-- the source that failed; lines are read for a run alone
abbrev pub FailedAt : Command → Origin → Flows → Type 0
FailedAt command origin.Script f = HasFailed f.script
FailedAt command origin.Settings f = HasFailed f.settings
FailedAt command origin.Lines f = (command ≡ Run) × HasFailed f.lines

-- the bytes of the lines, where they are read
abbrev pub LinesAre : Command → Flow → Option (List ℕ) → Type 0
LinesAre Run f o = (bytes : List ℕ) × (o ≡ Some bytes) × IsRead most_input f bytes
LinesAre Show f o = o ≡ None
LinesAre Retry f o = o ≡ None
LinesAre Purge f o = o ≡ None
LinesAre Sample f o = o ≡ None

abbrev pub ReadsLines : Command → Flow → Result (Option (List ℕ)) Status → Type 0
ReadsLines command f (Ok o) = LinesAre command f o
ReadsLines command f (Err (ReadFault source)) = (source ≡ origin.Lines) × (command ≡ Run) × HasFailed f
ReadsLines command f (Err NoMemory) = Unit {0}
ReadsLines command f (Err _) = ⊥

-- the messages of the lines, or the first bad one
abbrev pub LoadsFor : Option (List ℕ) → Result (List Message) Status → Type 0
LoadsFor None r = r ≡ Ok []
LoadsFor (Some bytes) r = Loads bytes r

-- all sources that the command reads were read, and these are their bytes
pub record AreRead (command : Command) (f : Flows) (b : Bodies) : Type 0 where
  pub script : IsRead most_text f.script b.script
  pub settings : IsRead most_text f.settings b.settings
  pub lines : LinesAre command f.lines b.lines

abbrev pub BodiesAre : Command → Flows → Result Bodies Status → Type 0
BodiesAre command f (Ok b) = AreRead command f b
BodiesAre command f (Err (ReadFault source)) = FailedAt command source f
BodiesAre command f (Err NoMemory) = Unit {0}
BodiesAre command f (Err _) = ⊥

-- the bytes are the settings for the script that the other bytes are
abbrev pub AreSet : Bodies → List ItemTerm → SettingsOf → Type 0
AreSet b items settings = IsScript b.script items × AreSettings b.settings items settings

-- why nothing is done. A source is looked at only where all were read, settings only where the script is one, and lines
-- only where the settings are right too.
abbrev pub IsRefused : Command → Flows → Status → Type 0
IsRefused command f (ReadFault source) = FailedAt command source f
IsRefused command f (Script line column kind) = (b : Bodies) × AreRead command f b × IsMistake b.script line column kind
IsRefused command f (Settings key kind) =
    (b : Bodies) × AreRead command f b × ((items : List ItemTerm) × IsScript b.script items
    × (first (faults_for b.settings (sends items)) ≡ Some (record { key = key; kind = kind })))
IsRefused command f (Input line kind) =
    (b : Bodies) × AreRead command f b × ((items : List ItemTerm) × (settings : SettingsOf) × AreSet b items settings
    × (command ≡ Run) × ((bytes : List ℕ) × (b.lines ≡ Some bytes) × (messages_of bytes ≡ Err (record { line = line; kind = kind }))))
IsRefused command f NoMemory = Unit {0}
IsRefused command f _ = ⊥

abbrev pub Prepares : Said → Option ℕ → Flows → Result Job Status → Type 0
Prepares said clock f (Ok job) =
    (job.said ≡ said) × IsMoment said.at clock job.moment × ScriptIs f.script (script job.handlers.checked)
    × SettingsAre f.settings (script job.handlers.checked) job.settings × MessagesAre said.command f.lines job.messages
Prepares said clock f (Err status) = IsRefused said.command f status
