-- What is handed in to the top call, and what is handed back.
use Rattle.std.specs.Prelude.{ℕ, List, Option}
use Rattle.nb_base.specs.declared.source.Source.{Ghosts}
use Rattle.nb_core.specs.declared.history.History.{History}
use Rattle.nb_endpoint.specs.Sources.{Flows, flow}
use Rattle.nb_endpoint.specs.declared.status.Status.{Status}

-- a thing before the call, and after it
pub record Ends (A : Type 0) : Type 0 where
  pub before : A
  pub after : A

abbrev pub ends : {A : Type 0} → A → A → Ends A
ends before after = record { before = before; after = after }

-- the words, the moment that the clock was to answer, the three sources, the sink, the two stores, and what is answered
pub record Handed (S O P D : Type 0) : Type 0 where
  pub words : List (List ℕ)
  pub clock : Option ℕ
  pub script : Ends S
  pub settings : Ends S
  pub lines : Ends S
  pub out : Ends O
  pub post : Ends P
  pub base : Ends D
  pub status : Status
  pub history : Option History
  pub printed : ℕ

abbrev pub flows : {S O P D : Type 0} → Ghosts S → Handed S O P D → Flows
flows s x = record {
  script = flow s x.script.before x.script.after;
  settings = flow s x.settings.before x.settings.after;
  lines = flow s x.lines.before x.lines.after;
}
