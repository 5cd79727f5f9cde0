-- What a script holds.
use Rattle.std.specs.Prelude.{ℕ, List}
use Rattle.nb_script.specs.declared.item.Item.{Item}
use Rattle.nb_script.specs.declared.tree.Script.{Script}
use Rattle.nb_script.specs.Grammar.{ItemTerm}
use Rattle.nb_script.specs.Tree.{script}

-- its items, as they are in memory
abbrev pub rows_of : Script → List Item
rows_of s = s.items

-- its items
abbrev pub items_of : Script → List ItemTerm
items_of s = script (rows_of s)

-- the bytes that it was read from
abbrev pub text_of : Script → List ℕ
text_of s = s.text
