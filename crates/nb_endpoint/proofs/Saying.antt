-- What the words say.
use Rattle.std.proofs.Common.{◌≡◌, ◌≢◌, ℕ, ◌<◌, ◌≤◌, List, Bool, true, false, Option, Some, None, refl, sym, ap, ◌∙◌, subst, arith}
use Rattle.std.proofs.lemmas.Bool.{leb-true}
use Rattle.std.specs.Prelude.{◌&&◌, nat_le, option_and_then, option_map, if◌then◌else◌, codes}
use Rattle.std.specs.Str.Parse.{digits_value}
use Rattle.clap.specs.Words.{Row as Match, matches_of, first_of}
use Rattle.nb_endpoint.specs.Served.{unless_sample, served_words}
use Rattle.nb_endpoint.specs.declared.job.Job.{Job}
use Rattle.nb_words.specs.Cli.{cli, command_of, is_number, is_refused, moment_or, number_or, within, words_in, words_of}
use Rattle.nb_words.specs.declared.words.Command.{Command}
use Rattle.nb_words.specs.declared.words.Command.TheVariants.{Run, Show, Retry, Purge, Sample}
use Rattle.nb_words.specs.declared.words.Words.{Words as Said}

-- ---- whether the command has to do with the stores

built : (o : Option Said) (said : Said) → option_and_then (λ (x : Said). unless_sample x x.command) o ≡ Some said → (o ≡ Some said) × (said.command ≢ Sample)
built None said h = absurd (cc)
built (Some x) said h = go x.command refl h
  where
    go : (c : Command) → x.command ≡ c → unless_sample x c ≡ Some said → (Some x ≡ Some said) × (said.command ≢ Sample)
    go Run is h = (h, λ e. absurd (cc))
    go Show is h = (h, λ e. absurd (cc))
    go Retry is h = (h, λ e. absurd (cc))
    go Purge is h = (h, λ e. absurd (cc))
    go Sample is h = absurd (cc)

pub served : (words : List (List ℕ)) (said : Said) → served_words words ≡ Some said → (words_of words ≡ Some said) × (said.command ≢ Sample)
served words said h = built (words_of words) said h

pub serve : (words : List (List ℕ)) (said : Said) → words_of words ≡ Some said → said.command ≢ Sample → served_words words ≡ Some said
serve words said is other = ap (option_and_then (λ (x : Said). unless_sample x x.command)) is ∙ go said.command refl
  where
    go : (c : Command) → said.command ≡ c → unless_sample said c ≡ Some said
    go Run same = refl
    go Show same = refl
    go Retry same = refl
    go Purge same = refl
    go Sample same = absurd (other same)

-- ---- numbers in their ranges

both : (a b : Bool) → (a && b) ≡ true → (a ≡ true) × (b ≡ true)
both true b h = (refl, h)
both false b h = absurd (cc)

-- a number that is allowed is at least the least one
within_least : (low high n m : ℕ) → within low high n ≡ Some m → low ≤ m
within_least low high n m h = go (nat_le low n && nat_le n high) refl h
  where
    go : (b : Bool) → (nat_le low n && nat_le n high) ≡ b → (if b then Some n else None) ≡ Some m → low ≤ m
    go true is h =
        let same : n ≡ m = cc in
        subst (λ (x : ℕ). low ≤ x) same (leb-true low n (both (nat_le low n) (nat_le n high) is).0)
    go false is h = absurd (cc)

turns_some : (o : Option (List ℕ)) (m : ℕ) → number_or 1 200000 100000 o ≡ Some m → 0 < m
turns_some None m h =
    let same : 100000 ≡ m = cc in
    omega (arith, same)
turns_some (Some t) m h = go (is_number t) refl h
  where
    go : (b : Bool) → is_number t ≡ b → (if b then within 1 200000 (digits_value 10 t) else None) ≡ Some m → 0 < m
    go true is h = let least = within_least 1 200000 (digits_value 10 t) m h in omega (arith, least)
    go false is h = absurd (cc)

-- what the options say together
abbrev pub together : Option Command → Option ℕ → Option (Option ℕ) → Option ℕ → Option ℕ → Option ℕ → Option ℕ → Option Said
together command workers at horizon turns seed count =
    option_and_then (λ (k : Command).
    option_and_then (λ (w : ℕ).
    option_and_then (λ (a : Option ℕ).
    option_and_then (λ (h : ℕ).
    option_and_then (λ (t : ℕ).
    option_and_then (λ (s : ℕ).
    option_map (λ (n : ℕ). record { command = k; workers = w; at = a; horizon = h; turns = t; seed = s; count = n })
    count) seed) turns) horizon) at) workers) command

turns_in : (k : Option Command) (w : Option ℕ) (a : Option (Option ℕ)) (h t s n : Option ℕ) (said : Said) → together k w a h t s n ≡ Some said → t ≡ Some said.turns
turns_in None w a h t s n said e = absurd (cc)
turns_in (Some k) None a h t s n said e = absurd (cc)
turns_in (Some k) (Some w) None h t s n said e = absurd (cc)
turns_in (Some k) (Some w) (Some a) None t s n said e = absurd (cc)
turns_in (Some k) (Some w) (Some a) (Some h) None s n said e = absurd (cc)
turns_in (Some k) (Some w) (Some a) (Some h) (Some t) None n said e = absurd (cc)
turns_in (Some k) (Some w) (Some a) (Some h) (Some t) (Some s) None said e = absurd (cc)
turns_in (Some k) (Some w) (Some a) (Some h) (Some t) (Some s) (Some n) said e = ap (option_map (λ (x : Said). x.turns)) e

else_some : (b : Bool) (o : Option Said) (said : Said) → (if b then None else o) ≡ Some said → o ≡ Some said
else_some true o said h = absurd (cc)
else_some false o said h = h

some_in : (rows : List Match) (said : Said) → words_in rows ≡ Some said → 0 < said.turns
some_in rows said h =
    turns_some (first_of (codes "turns") rows) said.turns
    (turns_in (option_and_then command_of (first_of (codes "command") rows)) (number_or 1 16 1 (first_of (codes "workers") rows)) (moment_or (first_of (codes "at") rows))
    (number_or 0 31536000 0 (first_of (codes "horizon") rows)) (number_or 1 200000 100000 (first_of (codes "turns") rows)) (number_or 0 1000000 1 (first_of (codes "seed") rows))
    (number_or 1 20000 1000 (first_of (codes "count") rows)) said h)

-- a message may be taken
some_said : (words : List (List ℕ)) (said : Said) → words_of words ≡ Some said → 0 < said.turns
some_said words said h = some_in (matches_of cli words) said (else_some (is_refused words) (words_in (matches_of cli words)) said h)

pub some_turns : (words : List (List ℕ)) (said : Said) (job : Job) → served_words words ≡ Some said → job.said ≡ said → 0 < job.said.turns
some_turns words said job h same = subst (λ (x : Said). 0 < x.turns) (sym same) (some_said words said (served words said h).0)

-- a command that has to do with the stores
pub not_apart : (words : List (List ℕ)) (said : Said) → served_words words ≡ Some said → served_words words ≡ None → ⊥
not_apart words said is none = let e : ◌≡◌ {A = Option Said} None (Some said) = sym none ∙ is in absurd cc
