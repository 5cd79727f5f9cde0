-- The messages of the lines, in what is prepared.
use Rattle.std.proofs.Common.{◌≡◌, ℕ, List, [], Option, Some, None, refl, sym, subst}
use Rattle.std.specs.Prelude.{Ok, Err, Result}
use Rattle.nb_base.specs.Messages.{Message}
use Rattle.nb_base.specs.declared.settings.Settings.{Settings as SettingsOf}
use Rattle.nb_endpoint.specs.Asked.{AreRead, AreSet, IsRefused, LinesAre, LoadsFor, MessagesAre}
use Rattle.nb_endpoint.specs.Configured.{Configures}
use Rattle.nb_endpoint.specs.Lines.{Loads}
use Rattle.nb_endpoint.specs.Scripts.{Checks, IsScript}
use Rattle.nb_endpoint.specs.Sources.{Flow, Flows}
use Rattle.nb_endpoint.specs.declared.job.Bodies.{Bodies}
use Rattle.nb_endpoint.specs.declared.status.Status.{Status}
use Rattle.nb_endpoint.specs.declared.status.Status.TheVariants.{Done, NotDrained, Words, Script, Settings, Input, ReadFault, WriteFault, BaseFault, PostFault, NoMemory, Damaged, Spent}
use Rattle.nb_script.specs.Grammar.{ItemTerm}
use Rattle.nb_words.specs.declared.words.Command.{Command}
use Rattle.nb_words.specs.declared.words.Command.TheVariants.{Run, Show, Retry, Purge, Sample}

none_some : {A B : Type 0} {x : A} → Some x ≡ None → B
none_some e = absurd cc

some_is : {A : Type 0} {x y : A} → Some x ≡ Some y → x ≡ y
some_is e = cc

-- lines are read for a run alone
read_for : (command : Command) (l : Flow) (bytes : List ℕ) → LinesAre command l (Some bytes) → command ≡ Run
read_for Run l bytes x = refl
read_for Show l bytes x = none_some x
read_for Retry l bytes x = none_some x
read_for Purge l bytes x = none_some x
read_for Sample l bytes x = none_some x

module _ (command : Command) (f : Flows) (b : Bodies) (read : AreRead command f b) (items : List ItemTerm) (settings : SettingsOf) (set : AreSet b items settings) where
  bad_line : (bytes : List ℕ) (status : Status) → b.lines ≡ Some bytes → Loads bytes (Err status) → IsRefused command f status
  bad_line bytes (Input line kind) x h =
      (b, read, (items, settings, set, read_for command f.lines bytes (subst (λ (o : Option (List ℕ)). LinesAre command f.lines o) x read.lines), (bytes, x, h)))
  bad_line bytes NoMemory x h = tt
  bad_line bytes Done x h = absurd h
  bad_line bytes (NotDrained takes) x h = absurd h
  bad_line bytes Words x h = absurd h
  bad_line bytes (Script line column kind) x h = absurd h
  bad_line bytes (Settings key kind) x h = absurd h
  bad_line bytes (ReadFault source) x h = absurd h
  bad_line bytes WriteFault x h = absurd h
  bad_line bytes BaseFault x h = absurd h
  bad_line bytes PostFault x h = absurd h
  bad_line bytes (Damaged store space key) x h = absurd h
  bad_line bytes Spent x h = absurd h

  pub lines_refused : (status : Status) → LoadsFor b.lines (Err status) → IsRefused command f status
  lines_refused status h = go b.lines refl h
    where
      go : (o : Option (List ℕ)) → b.lines ≡ o → LoadsFor o (Err status) → IsRefused command f status
      go None is h = absurd cc
      go (Some bytes) is h = bad_line bytes status is h

-- ---- why a script or settings are refused, with all that was read

module _ (command : Command) (f : Flows) (b : Bodies) (read : AreRead command f b) where
  pub script_refused : (status : Status) → Checks b.script (Err status) → IsRefused command f status
  script_refused Done h = absurd h
  script_refused (NotDrained takes) h = absurd h
  script_refused Words h = absurd h
  script_refused (Script line column kind) h = (b, read, h)
  script_refused (Settings key kind) h = absurd h
  script_refused (Input line kind) h = absurd h
  script_refused (ReadFault source) h = absurd h
  script_refused WriteFault h = absurd h
  script_refused BaseFault h = absurd h
  script_refused PostFault h = absurd h
  script_refused NoMemory h = tt
  script_refused (Damaged store space key) h = absurd h
  script_refused Spent h = absurd h

  pub settings_refused : (items : List ItemTerm) → IsScript b.script items → (status : Status) → Configures b.settings items (Err status) → IsRefused command f status
  settings_refused items script Done h = absurd h
  settings_refused items script (NotDrained takes) h = absurd h
  settings_refused items script Words h = absurd h
  settings_refused items script (Script line column kind) h = absurd h
  settings_refused items script (Settings key kind) h = (b, read, (items, script, h))
  settings_refused items script (Input line kind) h = absurd h
  settings_refused items script (ReadFault source) h = absurd h
  settings_refused items script WriteFault h = absurd h
  settings_refused items script BaseFault h = absurd h
  settings_refused items script PostFault h = absurd h
  settings_refused items script NoMemory h = tt
  settings_refused items script (Damaged store space key) h = absurd h
  settings_refused items script Spent h = absurd h

ok_is : {ms ns : List Message} → ◌≡◌ {A = Result (List Message) Status} (Ok ms) (Ok ns) → ms ≡ ns
ok_is e = cc

no_lines : (o : Option (List ℕ)) (ms : List Message) → o ≡ None → LoadsFor o (Ok ms) → ms ≡ []
no_lines None ms is h = ok_is h
no_lines (Some bytes) ms is h = none_some is

pub lines_loaded : (command : Command) (l : Flow) (o : Option (List ℕ)) (ms : List Message) → LinesAre command l o → LoadsFor o (Ok ms) → MessagesAre command l ms
lines_loaded Run l o ms x h = (x.0, x.2, subst (λ (p : Option (List ℕ)). LoadsFor p (Ok ms)) x.1 h)
lines_loaded Show l o ms x h = no_lines o ms x h
lines_loaded Retry l o ms x h = no_lines o ms x h
lines_loaded Purge l o ms x h = no_lines o ms x h
lines_loaded Sample l o ms x h = no_lines o ms x h
