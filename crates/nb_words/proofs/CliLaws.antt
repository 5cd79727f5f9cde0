-- How the builders of `clap` make the command of the program.
use Rattle.std.specs.Prelude.{◌≡◌, List, [], ◌∷◌, map, false, true, refl}
use Rattle.std.proofs.Common.{◌∙◌, sym, ap, ap₂, inl, inr}
use Rattle.clap.specs.Words.{App, Rule, Text, AddsArg, HasMatchesOf, HasKind, IsAmong, Kinds, app_of, rule_of, with_rule, is_simple_and_free, is_simple, fault_of, matches_of, rows_of, found_of, kind_of}
use Rattle.clap.specs.declared.builder.arg.Arg.{Arg}
use Rattle.clap.specs.declared.builder.command.Command.{Command}
use Rattle.clap.specs.declared.error.Error.{Error}
use Rattle.clap.specs.declared.error.kind.ErrorKind.{ErrorKind}
use Rattle.clap.specs.declared.error.kind.ErrorKind.TheVariants.{OutOfMemory}
use Rattle.clap.specs.declared.parser.matches.ArgMatches.{ArgMatches}
use Rattle.clap.proofs.OnLiterals.{clap_on_literals}
use Rattle.nb_words.specs.Cli.{cli, is_refused, is_some_kind}

pub added : (old new : Command) (a : Arg) (A : App) (r : Rule) → app_of old ≡ A → rule_of a ≡ r → a.global ≡ false → AddsArg old a new → app_of new ≡ with_rule A r
added old new a A r is rule own adds = adds.shape own ∙ ap₂ with_rule is rule

-- the command is one of which `clap` says everything
pub is_exact : is_simple_and_free cli ≡ true
unfolding cli clap_on_literals
is_exact = refl

pub is_simple_cli : is_simple cli ≡ true
unfolding cli clap_on_literals
is_simple_cli = refl

pub map_same : {A : Type 0} → (xs : List A) → map (λ x. x) xs ≡ xs
map_same [] = refl
map_same (x ∷ xs) = ap (λ more. x ∷ more) (map_same xs)

pub taken : (A : App) (ts ws : List Text) (m : ArgMatches) → A ≡ cli → ts ≡ ws → (is_simple_and_free A ≡ true → fault_of A ts ≡ []) → HasMatchesOf A ts m
    → (is_refused ws ≡ false) × (rows_of (found_of m) ≡ matches_of cli ws)
taken A ts ws m is same kinds matches =
    let none : fault_of cli ws ≡ [] = ap₂ fault_of (sym is) (sym same) ∙ kinds (ap is_simple_and_free is ∙ is_exact) in
    (ap (λ (ks : Kinds). is_some_kind ks) none, (matches (ap is_simple is ∙ is_simple_cli)).0 ∙ ap₂ matches_of is same)

among_some : (k : ErrorKind) (ks : Kinds) → IsAmong k ks → is_some_kind ks ≡ true
among_some k [] h = absurd h
among_some k (x ∷ ks) h = refl

pub refused : (A : App) (ts ws : List Text) (e : Error) → A ≡ cli → ts ≡ ws → (is_simple_and_free A ≡ true → HasKind (fault_of A ts) e) → (kind_of e ≡ OutOfMemory → ⊥)
    → is_refused ws ≡ true
refused A ts ws e is same kinds other =
    elim (kinds (ap is_simple_and_free is ∙ is_exact)) [
      | inl memory ↦ absurd (other memory)
      | inr among ↦ ap (λ (ks : Kinds). is_some_kind ks) (ap₂ fault_of (sym is) (sym same)) ∙ among_some _ _ among
    ]
