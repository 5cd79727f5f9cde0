-- Spans that rise.
use Rattle.std.specs.Prelude.{ℕ, ◌≤◌, ◌<◌, List, [], ◌∷◌}
use Rattle.nb_script.specs.declared.lexer.Token.{Token}

-- Each token has bytes, and begins where the one before ended, or behind.
abbrev pub Rise : ℕ → List Token → Type 0
Rise from [] = Unit {0}
Rise from (t ∷ ts) = (from ≤ t.from) × (t.from < t.to) × Rise t.to ts
