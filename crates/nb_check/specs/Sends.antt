-- The messages that a script sends to the queues of their routes.
use Rattle.std.specs.Prelude.{ℕ, List, [], ◌∷◌, ◌++◌}
use Rattle.nb_script.specs.declared.stmt.Destination.{Destination}
use Rattle.nb_script.specs.declared.stmt.Destination.TheVariants.{Route, Local}
use Rattle.nb_script.specs.Grammar.{ItemTerm}
use Rattle.nb_script.specs.Grammar.{Phrase, Let, Set, Put, Add, Erase, Send, Publish, Reply, Timeout, Complete, Refuse, If, Phrases, Nil, Then, Braces, Brace, Otherwise, Nothing, Last, Chain}
use Rattle.nb_check.specs.Blocks.{BlockTerm, blocks}
use Rattle.nb_check.specs.Declarations.{type_text}

-- `local` needs no route
abbrev pub routed : Destination → List ℕ → List (List ℕ)
routed Route name = name ∷ []
routed Local name = []

abbrev mutual
  pub phrase_sends : Phrase → List (List ℕ)
  phrase_sends (Let at q n u x c) = []
  phrase_sends (Set at q n u x c) = []
  phrase_sends (Put at r u x c) = []
  phrase_sends (Add at r u x c) = []
  phrase_sends (Erase at r c) = []
  phrase_sends (Send a at to m c) = routed to (type_text m.name)
  phrase_sends (Publish at m c) = []
  phrase_sends (Reply at o m c) = []
  phrase_sends (Timeout at x m c) = []
  phrase_sends (Complete at c) = []
  phrase_sends (Refuse at r q n x c) = []
  phrase_sends (If at x b o) = braces_sends b ++ otherwise_sends o

  pub phrases_sends : Phrases → List (List ℕ)
  phrases_sends Nil = []
  phrases_sends (Then d more) = phrase_sends d ++ phrases_sends more

  pub braces_sends : Braces → List (List ℕ)
  braces_sends (Brace o body c) = phrases_sends body

  pub otherwise_sends : Otherwise → List (List ℕ)
  otherwise_sends Nothing = []
  otherwise_sends (Last at b) = braces_sends b
  otherwise_sends (Chain at q x b o) = braces_sends b ++ otherwise_sends o

abbrev pub blocks_sends : List BlockTerm → List (List ℕ)
blocks_sends [] = []
blocks_sends (b ∷ bs) = braces_sends b.body ++ blocks_sends bs

-- the types of the messages that are sent, one for each `send` in the text, in order
abbrev pub sends : List ItemTerm → List (List ℕ)
sends items = blocks_sends (blocks items)
