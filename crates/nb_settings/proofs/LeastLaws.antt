-- The least of some keys is one of them, and none of them comes before it.
use Rattle.std.proofs.Common.{◌≡◌, ◌∙◌, ℕ, List, [], ◌∷◌, Bool, true, false, cond, ◌||◌, Some, Ordering, Less, Equal, Greater, nat_cmp, bytes_eq, refl, ap}
use Rattle.std.specs.Prelude.{IsTrue}
use Rattle.std.specs.BTreeMap.Comparable.{le_lt_trans}
use Rattle.std.specs.Cmp.Lexicographic.{slice_cmp, texts_ties}
use Rattle.std.specs.Ordering.{is_eq, is_le, match_ordering, ordering_reverse}
use Rattle.std.proofs.lemmas.Cmp.{nat_list_cmp_total, tied_itself}
use Rattle.nb_base.specs.SettingsRules.{is_before}
use Rattle.nb_settings.specs.Unknown.{FindsLeast, IsLeastOf, least_with, lesser}

itself : (a : List ℕ) → slice_cmp nat_cmp a a ≡ Equal
itself a = tied_itself nat_list_cmp_total a

pub equal_itself : (a : List ℕ) → bytes_eq a a ≡ true
equal_itself a = texts_ties a a ∙ ap is_eq (itself a)

le_from_before : (o : Ordering) → match_ordering o true false false ≡ true → IsTrue (is_le o)
le_from_before Less is = refl
le_from_before Equal is = cc
le_from_before Greater is = cc

le_from_not_before : (o : Ordering) → match_ordering o true false false ≡ false → IsTrue (is_le (ordering_reverse o))
le_from_not_before Less is = cc
le_from_not_before Equal is = refl
le_from_not_before Greater is = refl

-- what isn't before a key at most as great isn't before the key
keeps_by : (o : Ordering) (a b key : List ℕ) → slice_cmp nat_cmp b key ≡ o → IsTrue (is_le (slice_cmp nat_cmp a b)) → is_before a key ≡ false → match_ordering o true false false ≡ false
keeps_by Less a b key is at_most later = let less = le_lt_trans nat_list_cmp_total a b key at_most is in rw less at later
keeps_by Equal a b key is at_most later = refl
keeps_by Greater a b key is at_most later = refl

keeps : (a b key : List ℕ) → IsTrue (is_le (slice_cmp nat_cmp a b)) → is_before a key ≡ false → is_before b key ≡ false
keeps a b key at_most later = keeps_by (slice_cmp nat_cmp b key) a b key refl at_most later

or_later : (a b : Bool) → b ≡ true → (a || b) ≡ true
or_later true b is = refl
or_later false b is = is

or_between : (a b c : Bool) → (a || c) ≡ true → (a || (b || c)) ≡ true
or_between true b c is = refl
or_between false b c is = or_later b c is

-- the least of a key and of others
pub record Found (best : List ℕ) (rest keys : List (List ℕ)) : Type 0 where
  pub key : List ℕ
  pub is : least_with (Some best) rest ≡ Some key
  pub least : IsLeastOf keys key

step : (best key : List ℕ) (keys : List (List ℕ)) (b : Bool) → is_before key best ≡ b → Found (cond b key best) keys (cond b key best ∷ keys) → Found (cond b key best) keys (best ∷ key ∷ keys)
step best key keys true before found = record {
  key = found.key;
  is = found.is;
  least = record {
    among = or_later (bytes_eq found.key best) _ found.least.among;
    first = (keeps key best found.key (le_from_before (slice_cmp nat_cmp key best) before) found.least.first.0, found.least.first);
  };
}
step best key keys false before found = record {
  key = found.key;
  is = found.is;
  least = record {
    among = or_between (bytes_eq found.key best) (bytes_eq found.key key) _ found.least.among;
    first = (found.least.first.0, (keeps best key found.key (rw (nat_list_cmp_total.antisymm best key) (le_from_not_before (slice_cmp nat_cmp key best) before)) found.least.first.0, found.least.first.1));
  };
}

found_from : (best : List ℕ) (keys : List (List ℕ)) → Found best keys (best ∷ keys)
found_from best [] = record { key = best; is = refl; least = record { among = rw (equal_itself best) refl; first = (rw (itself best) refl, tt) } }
found_from best (key ∷ keys) =
    let more = step best key keys (is_before key best) refl (found_from (lesser (Some best) key) keys) in
    record { key = more.key; is = more.is; least = more.least }

pub finds_least : FindsLeast
finds_least [] = refl
finds_least (key ∷ keys) = let found = found_from key keys in rw found.is found.least
