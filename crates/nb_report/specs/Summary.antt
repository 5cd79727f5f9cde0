-- The summary of a sample's run: eight lines, each of a word and a number or two.
use Rattle.std.specs.Prelude.{ℕ, ℤ, pos, ◌+ℤ◌, List, [], ◌∷◌, ◌++◌, length, bytes_eq, codes, fold}
use Rattle.std.specs.FinMap as map
use Rattle.std.specs.Fmt.{decimal, signed_decimal}
use Rattle.std.specs.List.{filter}
use Rattle.nb_base.specs.declared.tables.Queued.{Queued}
use Rattle.nb_base.specs.declared.tables.Row.{Row}
use Rattle.nb_base.specs.declared.tables.PostState.{PostState}
use Rattle.nb_base.specs.declared.tables.Tables.{Tables}
use Rattle.nb_core.specs.Past.{takes}
use Rattle.nb_core.specs.declared.event.Event.{Event}
use Rattle.nb_core.specs.declared.state.State.{State}

-- a line of a word and a number
abbrev pub line : List ℕ → List ℕ → List ℕ
line word number = word ++ 32 ∷ number ++ 10 ∷ []

-- the values of the rows together
abbrev pub sum_of : List (List ℕ × Row) → ℤ
sum_of rows = fold (λ sum r. sum +ℤ r.1.value) (pos 0) rows

-- how many entries are in a queue
abbrev pub number_in : List ℕ → List (ℕ × Queued) → ℕ
number_in queue entries = length (filter (λ (e : ℕ × Queued). bytes_eq e.1.queue queue) entries)

-- the numbers of commits, sagas and rows, and the sum of the rows
abbrev pub table_lines : Tables → List ℕ
table_lines t =
    line (codes "commits") (decimal t.commits) ++ line (codes "sagas") (decimal (length (map.entries t.sagas)))
    ++ line (codes "rows") (decimal (length (map.entries t.rows))) ++ line (codes "sum") (signed_decimal (sum_of (map.entries t.rows)))

-- how many entries are in the error queue, and the number of the next entry
abbrev pub post_lines : List ℕ → PostState → List ℕ
post_lines error p = line (codes "error") (decimal (number_in error (map.entries p.entries))) ++ line (codes "next") (decimal p.next)

-- the seed and the number of lines, and how many Takes there were
abbrev pub head_lines : ℕ → ℕ → ℕ → List ℕ
head_lines seed count takes = codes "sample " ++ decimal seed ++ 32 ∷ decimal count ++ 10 ∷ line (codes "takes") (decimal takes)

-- the summary of a sample, with this error queue
unfoldable pub summary : ℕ → ℕ → List ℕ → List Event → State → List ℕ
summary seed count error events s = head_lines seed count (takes events) ++ table_lines s.tables ++ post_lines error s.post
