-- What the words ask of the stores.
use Rattle.std.specs.Prelude.{◌≡◌, ℕ, List, Option, Some, None, option_and_then}
use Rattle.nb_words.specs.Cli.{words_of}
use Rattle.nb_words.specs.declared.words.Command.{Command}
use Rattle.nb_words.specs.declared.words.Command.TheVariants.{Run, Show, Retry, Purge, Sample}
use Rattle.nb_words.specs.declared.words.Words.{Words as Said}

abbrev pub unless_sample : Said → Command → Option Said
unless_sample said Run = Some said
unless_sample said Show = Some said
unless_sample said Retry = Some said
unless_sample said Purge = Some said
unless_sample said Sample = None

-- what the words say, where the command has to do with the stores
abbrev pub served_words : List (List ℕ) → Option Said
served_words words = option_and_then (λ (said : Said). unless_sample said said.command) (words_of words)

-- the words ask for this command
abbrev pub AskFor : Command → List (List ℕ) → Type 0
AskFor command words = (said : Said) × (words_of words ≡ Some said) × (said.command ≡ command)
