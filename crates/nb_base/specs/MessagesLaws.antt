-- How an ordered map of strings stands for headers, and what a change of one header leaves.
use Rattle.std.specs.Prelude.{◌≡◌, ◌≢◌, ℕ, ◌<◌, List, [], ◌∷◌, length, Bool, true, false, bytes_eq, if◌then◌else◌, cond, Some, nat_lt, String, string_bytes, string_eq, refl}
use Rattle.std.proofs.Common.{◌∙◌, sym, arith, lt-ltb}
use Rattle.std.specs.declared.alloc.Global.{Global}
use Rattle.std.specs.List.{IsDistinct, AllByRecursion}
use Rattle.std.specs.Map.{lookup, remove_entry, keys_of}
use Rattle.std.specs.Option.{option_map_or}
use Rattle.std.specs.Cmp.Lexicographic.{bytes_decides}
use Rattle.indexmap.specs.IndexMap.{insert_entry}
use Rattle.nb_base.specs.Messages.{Pairs, names, header, with_header, without_header, seen}

pub header-seen : (q : List ℕ) (es : List (String Global × List ℕ)) → lookup (λ k. bytes_eq q (string_bytes k)) es ≡ header (seen es) q
header-seen q [] = refl
header-seen q (e ∷ es) = rw (header-seen q es) refl

seen-cond : (b : Bool) (xs ys : List (String Global × List ℕ)) → seen (cond b xs ys) ≡ cond b (seen xs) (seen ys)
seen-cond true xs ys = refl
seen-cond false xs ys = refl

pub with_header-seen : (es : List (String Global × List ℕ)) (k : String Global) (v : List ℕ) → seen (insert_entry string_eq es k v) ≡ with_header (seen es) (string_bytes k) v
with_header-seen [] k v = refl
with_header-seen (e ∷ es) k v = seen-cond (string_eq k e.0) _ _ ∙ rw (with_header-seen es k v) refl

pub without_header-seen : (q : List ℕ) (es : List (String Global × List ℕ)) → seen (remove_entry (λ k. bytes_eq q (string_bytes k)) es) ≡ without_header (seen es) q
without_header-seen q [] = refl
without_header-seen q (e ∷ es) = seen-cond (bytes_eq q (string_bytes e.0)) _ _ ∙ rw (without_header-seen q es) refl

apart_names : (k : String Global) (es : List (String Global × List ℕ)) → AllByRecursion (λ y. string_eq k y ≡ false) (keys_of es) → AllByRecursion (λ y. bytes_eq (string_bytes k) y ≡ false) (names (seen es))
apart_names k [] h = h
apart_names k (e ∷ es) h = (h.0, apart_names k es h.1)

-- the map's keys are distinct, and so are the names
pub IsDistinct-seen : (es : List (String Global × List ℕ)) → IsDistinct string_eq (keys_of es) → IsDistinct bytes_eq (names (seen es))
unfolding IsDistinct
IsDistinct-seen [] h = h
IsDistinct-seen (e ∷ es) h = (apart_names e.0 es h.0, IsDistinct-seen es h.1)

-- the header that was set has its text, and every other its own
pub header-with_header : (hs : Pairs) (n t q : List ℕ) → header (with_header hs n t) q ≡ (if bytes_eq q n then Some t else header hs q)
header-with_header [] n t q = refl
header-with_header (h ∷ hs) n t q =
    let more = header-with_header hs n t q in
    grind (arith, more, bytes_decides n h.0, bytes_decides q h.0, bytes_decides q n)

pub header-without_header : (hs : Pairs) (n q : List ℕ) → n ≢ q → header (without_header hs n) q ≡ header hs q
header-without_header [] n q other = refl
header-without_header (h ∷ hs) n q other =
    let more = header-without_header hs n q other in
    grind (arith, more, bytes_decides n h.0, bytes_decides q h.0)

-- a test of the header i passes after a change, as it did before
pub test-with_header : (i : List ℕ) (hs : Pairs) (n t : List ℕ) → option_map_or (λ x. nat_lt 0 (length x)) (header hs i) false ≡ true → (n ≡ i → 0 < length t)
    → option_map_or (λ x. nat_lt 0 (length x)) (header (with_header hs n t) i) false ≡ true
test-with_header i hs n t id set =
    rw (header-with_header hs n t i)
    ((elim (bytes_eq i n) as (λ b. bytes_eq i n ≡ b → option_map_or (λ x. nat_lt 0 (length x)) (cond b (Some t) (header hs i)) false ≡ true) [
      | true ↦ λ e. lt-ltb 0 (length t) (set (sym ((bytes_decides i n).0 e)))
      | false ↦ λ e. id
    ]) refl)

pub test-without_header : (i : List ℕ) (hs : Pairs) (n : List ℕ) → option_map_or (λ x. nat_lt 0 (length x)) (header hs i) false ≡ true → n ≢ i
    → option_map_or (λ x. nat_lt 0 (length x)) (header (without_header hs n) i) false ≡ true
test-without_header i hs n id other = rw (header-without_header hs n i other) id
