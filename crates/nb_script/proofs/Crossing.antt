-- Which trees may be shared among threads: each type by its parts, one step at a time, since one `search` through all of a script's types runs out of steps.
use denote.RattleType.{RattleType}
use denote.Param.Send.{IsSync, sendable}
use Rattle.std.proofs.Crossing.{crosses}
use Rattle.nb_base.specs.contracts.text.Text as Text
use Rattle.sqlite_items.specs.contracts.boxed.Boxed as Boxed
use Rattle.sqlite_items.specs.contracts.items.Items as Items
use Rattle.nb_script.specs.contracts.expr.Expr as Expr
use Rattle.nb_script.specs.contracts.expr.Make as Make
use Rattle.nb_script.specs.contracts.stmt.After as After
use Rattle.nb_script.specs.contracts.stmt.RowName as RowName
use Rattle.nb_script.specs.contracts.stmt.Block as Block
use Rattle.nb_script.specs.contracts.item.MessageField as MessageField
use Rattle.nb_script.specs.contracts.item.Part as Part
use Rattle.nb_script.specs.contracts.item.Saga as Saga
use Rattle.nb_script.specs.contracts.item.SagaField as SagaField
use Rattle.nb_script.specs.contracts.item.Item as Item
use Rattle.nb_script.specs.contracts.tree.Script as Script
use Rattle.nb_script.proofs.expr.Expr.TheLaws.TheKnot.{sync-Expr}
use Rattle.nb_script.proofs.stmt.Else.TheLaws.TheKnot.{sync-Block}

pub Text-sync : IsSync Text.the_row
Text-sync = search (crosses, sendable) depth 60

pub Boxed-sync : (T : RattleType) → IsSync T → IsSync (Boxed.the_row T)
Boxed-sync T s = search (crosses, sendable) depth 60

pub Items-sync : (T : RattleType) → IsSync T → IsSync (Items.the_row T)
Items-sync T s = search (crosses, sendable) depth 60

pub Expr-sync : IsSync (Expr.the_field).row
Expr-sync = search (sync-Expr, Text-sync, Boxed-sync, crosses, sendable) depth 60

pub Make-sync : IsSync (Make.the_field).row
Make-sync = search (Expr-sync, Text-sync, Items-sync, crosses, sendable) depth 60

pub After-sync : IsSync After.the_row
After-sync = search (Expr-sync, crosses, sendable) depth 60

pub RowName-sync : IsSync (RowName.the_field).row
RowName-sync = search (Expr-sync, crosses, sendable) depth 60

pub Block-sync : IsSync (Block.the_field).row
Block-sync = search (sync-Block, Expr-sync, Text-sync, Make-sync, After-sync, RowName-sync, Items-sync, Boxed-sync, crosses, sendable) depth 60

pub Part-sync : IsSync Part.the_row
Part-sync = search (Block-sync, Text-sync, crosses, sendable) depth 60

pub SagaField-sync : IsSync SagaField.the_row
SagaField-sync = search (Text-sync, crosses, sendable) depth 60

pub MessageField-sync : IsSync MessageField.the_row
MessageField-sync = search (Text-sync, crosses, sendable) depth 60

pub Saga-sync : IsSync (Saga.the_field).row
Saga-sync = search (Part-sync, SagaField-sync, Items-sync, Text-sync, crosses, sendable) depth 60

pub Item-sync : IsSync Item.the_row
Item-sync = search (Saga-sync, Block-sync, MessageField-sync, Items-sync, Text-sync, crosses, sendable) depth 60

pub Script-sync : IsSync (Script.the_field).row
Script-sync = search (Item-sync, Items-sync, Text-sync, crosses, sendable) depth 60

pub ruleset shared = (Script-sync, Item-sync, Items-sync, Text-sync)
