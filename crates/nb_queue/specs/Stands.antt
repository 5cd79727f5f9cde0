-- A post, and what its calls make of it.
use Rattle.std.specs.Prelude.{ℕ, ◌+◌, None}
use Rattle.std.specs.FinMap as map
use Rattle.std.specs.Option.{option_map_or}
use Rattle.nb_base.specs.Sound.{IsSoundPost}
use Rattle.nb_base.specs.declared.tables.PostState.{PostState}
use Rattle.nb_base.specs.declared.tables.Queued.{Queued}
use Rattle.nb_queue.specs.Maps.{AreSpelled}

-- what a post keeps: it is sound, and every entry has a spelling
pub record IsPost (p : PostState) : Type 0 where
  pub sound : IsSoundPost p
  pub spelled : AreSpelled p.entries

-- one more entry, under the next number
abbrev pub with_entry : PostState → Queued → PostState
with_entry p e = record { entries = map.insert p.entries p.next e; next = p.next + 1 }

-- one entry less
abbrev pub without_entry : PostState → ℕ → PostState
without_entry p number = record { entries = map.remove p.entries number; next = p.next }

-- another entry under a number
abbrev pub in_place : PostState → ℕ → Queued → PostState
in_place p number e = record { entries = map.insert p.entries number e; next = p.next }

-- an entry without its due
abbrev pub stands_now : Queued → Queued
stands_now e = record e { due = None }

-- the due of an entry taken away
abbrev pub released : PostState → ℕ → PostState
released p number = option_map_or (λ e. in_place p number (stands_now e)) (map.get p.entries number) p
