-- Scripts that break no rule.
use Rattle.std.specs.Prelude.{◌≡◌, ℕ, List, [], Option, Some, None, slice_get}
use Rattle.std.specs.List.{AllByRecursion}
use Rattle.nb_base.specs.Meanings.{IsAmong}
use Rattle.nb_base.specs.Messages.{Message}
use Rattle.nb_base.specs.Orders.{ByName}
use Rattle.nb_base.specs.declared.value.Field.{Field}
use Rattle.nb_base.specs.declared.value.Key.{Key}
use Rattle.nb_script.specs.Grammar.{ItemTerm}
use Rattle.nb_check.specs.Bodies.{decoded}
use Rattle.nb_check.specs.Declarations.{messages, names_of, sagas}
use Rattle.nb_check.specs.Keys.{read_set}
use Rattle.nb_check.specs.Meets.{met_numbers}
use Rattle.nb_check.specs.Rules.{script_faults}
use Rattle.nb_check.specs.Sends.{sends}
use Rattle.nb_check.specs.Sites.{sites_from, AreNumbers}
use Rattle.nb_check.specs.declared.sites.Site.{Site}
use Rattle.nb_check.specs.declared.types.MessageType.{MessageType}
use Rattle.nb_check.specs.declared.types.SagaType.{SagaType}

-- a script that breaks no rule, with what it declares
pub record IsChecked (items : List ItemTerm) (messages_of_it : List MessageType) (names_of_it : List (List ℕ)) (sagas_of_it : List SagaType) (sends_of_it : List (List ℕ)) (sites_of_it : List Site) (numbers_of_it : ByName (List ℕ)) : Type 0 where
  pub rules : script_faults items ≡ []
  pub types : messages_of_it ≡ messages items
  pub names : names_of_it ≡ names_of messages_of_it
  pub kinds : sagas_of_it ≡ sagas items
  pub sent : sends_of_it ≡ sends items
  pub sites : sites_of_it ≡ sites_from 0 items
  pub numbers : AreNumbers numbers_of_it sites_of_it

-- the names of the declared messages
abbrev pub declared_names : List ItemTerm → List (List ℕ)
declared_names items = names_of (messages items)

abbrev pub fields_by : Option MessageType → List ℕ → Option (List Field)
fields_by None body = None
fields_by (Some t) body = decoded t.fields body

-- the fields of a body of the message with this number, or nothing where it is undecodable
abbrev pub body_fields : List ItemTerm → ℕ → List ℕ → Option (List Field)
body_fields items n body = fields_by (slice_get (messages items) n) body

-- the numbers of the blocks that a message meets
abbrev pub blocks_met : List ItemTerm → Message → List ℕ
blocks_met items e = met_numbers items (declared_names items) e

-- the keys that a message reads
abbrev pub keys_read : List ItemTerm → Message → List Key
keys_read items e = read_set items (messages items) e

-- each message that the script sends is declared
abbrev pub AreDeclared : List ItemTerm → Type 0
AreDeclared items = AllByRecursion (λ name. IsAmong name (declared_names items)) (sends items)
