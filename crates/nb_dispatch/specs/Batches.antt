-- What every batch keeps.
use Rattle.std.specs.Prelude.{◌≡◌, ◌≢◌, ℕ, ◌+◌, ◌*◌, ◌^◌, ◌<◌, ◌≤◌, List, [], ◌∷◌, length, true}
use Rattle.std.specs.List.{AllByRecursion}
use Rattle.nb_base.specs.Messages.{Message, has_id}
use Rattle.nb_base.specs.SettingsRules.{are_settings}
use Rattle.nb_base.specs.declared.entry.Op.{Op}
use Rattle.nb_base.specs.declared.plan.Intent.{Intent}
use Rattle.nb_base.specs.declared.settings.Settings.{Settings}
use Rattle.nb_headers.specs.Reads.{id_of}
use Rattle.nb_dispatch.specs.Dispatches.{made_id, CanDispatch, ops_of}

-- the ids of the ops count up from the index
abbrev pub AreNumbered : List ℕ → ℕ → ℕ → List Op → Type 0
AreNumbered endpoint n index [] = Unit {0}
AreNumbered endpoint n index (op ∷ ops) = (id_of op.envelope ≡ made_id endpoint n index) × AreNumbered endpoint n (index + 1) ops

-- the ids of a batch count up from 1
abbrev pub CountUp : Type 0
CountUp = (s : Settings) (m : Message) (n at : ℕ) (intents : List Intent) → AreNumbered s.endpoint n 1 (ops_of s m n at intents)

-- an id tells the commit and the index
abbrev pub TellApart : Type 0
TellApart = (endpoint : List ℕ) (n i k j : ℕ) → n < 2 ^ 64 → i < 2 ^ 64 → k < 2 ^ 64 → j < 2 ^ 64 → made_id endpoint n i ≡ made_id endpoint k j → (n ≡ k) × (i ≡ j)

-- there is a queue, and the message has an id
pub record IsSoundOp (op : Op) : Type 0 where
  pub queue : op.queue ≢ []
  pub id : has_id op.envelope.headers ≡ true

-- the settings lie in their ranges
abbrev pub AreRight : Settings → Type 0
AreRight s = are_settings s.endpoint s.error s.immediate s.delayed s.increase s.retention s.routes s.subscribers s.policies ≡ true

abbrev pub AreSound : Type 0
AreSound = (s : Settings) (m : Message) (n at : ℕ) (intents : List Intent) → AreRight s → AllByRecursion (CanDispatch s) intents → AllByRecursion IsSoundOp (ops_of s m n at intents)

-- at most sixteen ops a message
abbrev pub AreFew : Type 0
AreFew = (s : Settings) (m : Message) (n at : ℕ) (intents : List Intent) → AreRight s → length (ops_of s m n at intents) ≤ 16 * length intents
