-- How the loop over the headers makes the members of an object, and how what is written is read again.
use Rattle.std.specs.Prelude.{◌≡◌, ◌≤◌, ℕ, zero, suc, length, false, ◌+◌, List, [], ◌∷◌, ◌++◌, take, Some, slice_get, Ok, refl}
use Rattle.std.proofs.Common.{◌∙◌, sym, ap, add-one}
use Rattle.std.proofs.lemmas.List.Sums.{fold-append}
use Rattle.std.specs.declared.cmp.Ordering.{Ordering}
use Rattle.std.specs.declared.cmp.Ordering.TheVariants.{Less, Equal, Greater}
use Rattle.std.specs.Ordering.{nat_cmp, match_ordering}
use Rattle.std.specs.Cmp.Lexicographic.{slice_cmp}
use Rattle.serde_json.specs.Data.{Data, string, put}
use Rattle.std.proofs.lemmas.List.{take_all}
use Rattle.serde_json.specs.Written.{compact_text, has_float, members_have_float}
use Rattle.nb_base.specs.Messages.{Pairs, Message}
use Rattle.nb_envelope.specs.Lines.{headers_in}
use Rattle.nb_envelope.specs.Written.{put_pair, by_name, as_members, data_of, line_text}

members-match : (o : Ordering) (a b c : Pairs) → as_members (match_ordering o a b c) ≡ match_ordering o (as_members a) (as_members b) (as_members c)
members-match Less a b c = refl
members-match Equal a b c = refl
members-match Greater a b c = refl

pub as_members-put_pair : (hs : Pairs) (k t : List ℕ) → as_members (put_pair hs k t) ≡ put k (string t) (as_members hs)
as_members-put_pair [] k t = refl
as_members-put_pair (h ∷ hs) k t = members-match (slice_cmp nat_cmp k h.0) _ _ _ ∙ rw (as_members-put_pair hs k t) refl

pub take_next : {A : Type 0} → (xs : List A) (i : ℕ) (x : A) → slice_get xs i ≡ Some x → take (suc i) xs ≡ take i xs ++ x ∷ []
take_next [] i x e = absurd (cc)
take_next (y ∷ ys) zero x e = cc
take_next (y ∷ ys) (suc i) x e = ap (λ more. y ∷ more) (take_next ys i x e)

-- the headers so far, and one more
pub by_name-next : (hs : Pairs) (i : ℕ) (k t : List ℕ) → slice_get hs i ≡ Some (k, t) → by_name (take (i + 1) hs) ≡ put_pair (by_name (take i hs)) k t
by_name-next hs i k t e = rw (add-one, take_next hs i (k, t) e) (fold-append (λ done h. put_pair done h.0 h.1) [] (take i hs) ((k, t) ∷ []))

pub headers_in-as_members : (hs : Pairs) → headers_in (as_members hs) ≡ Ok hs
headers_in-as_members [] = refl
headers_in-as_members (h ∷ hs) = rw (headers_in-as_members hs) refl

pub no_float-as_members : (hs : Pairs) → members_have_float (as_members hs) ≡ false
no_float-as_members [] = refl
no_float-as_members (h ∷ hs) = no_float-as_members hs

pub no_float-data_of : (m : Message) → has_float (data_of m) ≡ false
no_float-data_of m = rw (no_float-as_members (by_name m.headers)) refl

pub put-next : (hs : Pairs) (i : ℕ) (k t : List ℕ) → slice_get hs i ≡ Some (k, t) → put k (string t) (as_members (by_name (take i hs))) ≡ as_members (by_name (take (i + 1) hs))
put-next hs i k t e = sym (ap as_members (by_name-next hs i k t e) ∙ as_members-put_pair (by_name (take i hs)) k t)

pub by_name-all : (hs : Pairs) (i : ℕ) → length hs ≤ i → by_name (take i hs) ≡ by_name hs
by_name-all hs i all = ap by_name (take_all i hs all)

pub line_text-from : (d : Data) (m : Message) (s : List ℕ) → d ≡ data_of m → (has_float d ≡ false → s ≡ compact_text d) → s ≡ line_text m
line_text-from d m s is text = text (ap has_float is ∙ no_float-data_of m) ∙ ap compact_text is
