-- The command line, as one simple command of `clap`, and what its words say.
use Rattle.std.specs.Prelude.{◌≡◌, ◌≢◌, ℕ, List, [], ◌∷◌, length, Bool, true, false, ◌&&◌, nat_lt, nat_le, bytes_eq, if◌then◌else◌, Option, Some, None, option_and_then, option_map, codes, Result, Ok, Err}
use Rattle.std.specs.Char.{is_ascii_digit}
use Rattle.std.specs.List.{list_all}
use Rattle.std.specs.Str.Parse.{digits_value}
use Rattle.clap.specs.Words.{App, Rule, Row, Text, new_app, new_rule, with_rule, matches_of, fault_of, first_of, Kinds}
use Rattle.clap.specs.declared.builder.ArgAction.TheVariants.{Set}
use Rattle.nb_words.specs.declared.words.Command.{Command}
use Rattle.nb_words.specs.declared.words.Command.TheVariants.{Run, Show, Retry, Purge, Sample}
use Rattle.nb_words.specs.declared.words.Words.{Words}

-- a required word, and an option with one value
abbrev pub word : Text → Rule
word name = record (new_rule name) { required = true; action = Some Set }

abbrev pub option : Text → Rule
option name = record (new_rule name) { long = Some name; action = Some Set }

-- the words are read from the first on, with no name of the program before them
abbrev pub bare : App → App
bare a = record a { top = record a.top { no_binary_name = true } }

unfoldable pub cli : App
cli = with_rule (with_rule (with_rule (with_rule (with_rule (with_rule (with_rule (bare (new_app (codes "endpoint")))
    (word (codes "command"))) (option (codes "workers"))) (option (codes "at"))) (option (codes "horizon")))
    (option (codes "turns"))) (option (codes "seed"))) (option (codes "count"))

abbrev pub is_some_kind : Kinds → Bool
is_some_kind [] = false
is_some_kind (k ∷ ks) = true

-- `clap` refuses the words
abbrev pub is_refused : List Text → Bool
is_refused words = is_some_kind (fault_of cli words)

abbrev pub command_of : Text → Option Command
command_of w = if bytes_eq w (codes "run") then Some Run else
    if bytes_eq w (codes "show") then Some Show else
    if bytes_eq w (codes "retry") then Some Retry else
    if bytes_eq w (codes "purge") then Some Purge else
    if bytes_eq w (codes "sample") then Some Sample else None

-- one to twenty decimal digits
abbrev pub is_number : Text → Bool
is_number t = nat_lt 0 (length t) && (nat_le (length t) 20 && list_all is_ascii_digit t)

abbrev pub within : ℕ → ℕ → ℕ → Option ℕ
within low high n = if nat_le low n && nat_le n high then Some n else None

-- one to twenty digits with a value in the range
abbrev pub number_in : ℕ → ℕ → Text → Option ℕ
number_in low high t = if is_number t then within low high (digits_value 10 t) else None

-- the number of an option, or what stands for an option that wasn't given
abbrev pub number_or : ℕ → ℕ → ℕ → Option Text → Option ℕ
number_or low high missing None = Some missing
number_or low high missing (Some t) = number_in low high t

-- the moment of an option, if it was given
abbrev pub moment_or : Option Text → Option (Option ℕ)
moment_or None = Some None
moment_or (Some t) = option_map Some (number_in 0 253402300799 t)

abbrev pub words_in : List Row → Option Words
words_in rows =
    option_and_then (λ command.
    option_and_then (λ workers.
    option_and_then (λ at.
    option_and_then (λ horizon.
    option_and_then (λ turns.
    option_and_then (λ seed.
    option_map (λ count. record { command = command; workers = workers; at = at; horizon = horizon; turns = turns; seed = seed; count = count })
    (number_or 1 20000 1000 (first_of (codes "count") rows)))
    (number_or 0 1000000 1 (first_of (codes "seed") rows)))
    (number_or 1 200000 100000 (first_of (codes "turns") rows)))
    (number_or 0 31536000 0 (first_of (codes "horizon") rows)))
    (moment_or (first_of (codes "at") rows)))
    (number_or 1 16 1 (first_of (codes "workers") rows)))
    (option_and_then command_of (first_of (codes "command") rows))

-- what the words say: nothing where `clap` refuses them, or a word or a number is out of its range
abbrev pub words_of : List Text → Option Words
words_of words = if is_refused words then None else words_in (matches_of cli words)
