-- The line that is written for a message.
use Rattle.std.specs.Prelude.{ℕ, List, [], ◌∷◌, codes, fold}
use Rattle.std.specs.Ordering.{nat_cmp, match_ordering}
use Rattle.std.specs.Cmp.Lexicographic.{slice_cmp}
use Rattle.serde_json.specs.Data.{Data, string, object, Members, no_members, member}
use Rattle.serde_json.specs.Written.{compact_text}
use Rattle.nb_base.specs.Messages.{Pairs, Message}

-- a header put before the first whose name is greater
abbrev pub put_pair : Pairs → List ℕ → List ℕ → Pairs
put_pair [] k t = (k, t) ∷ []
put_pair (h ∷ hs) k t = match_ordering (slice_cmp nat_cmp k h.0) ((k, t) ∷ h ∷ hs) ((h.0, t) ∷ hs) (h ∷ put_pair hs k t)

-- the headers in byte order of their names
abbrev pub by_name : Pairs → Pairs
by_name hs = fold (λ done h. put_pair done h.0 h.1) [] hs

abbrev pub as_members : Pairs → Members
as_members [] = no_members
as_members (h ∷ hs) = member h.0 (string h.1) (as_members hs)

-- the JSON value of a message: its body, and its headers in byte order of their names
abbrev pub data_of : Message → Data
data_of m = object (member (codes "body") (string m.body) (member (codes "headers") (object (as_members (by_name m.headers))) no_members))

abbrev pub line_text : Message → List ℕ
line_text m = compact_text (data_of m)
