-- Bodies hold no float, and so have the compact text of their values.
use Rattle.std.proofs.Common.{◌≡◌, ◌∙◌, ℕ, ap, refl, List, [], ◌∷◌, ◌++◌, Bool, true, false, ◌||◌, true≢false, Ok, Err}
use Rattle.std.specs.declared.cmp.Ordering.{Ordering}
use Rattle.std.specs.declared.cmp.Ordering.TheVariants.{Less, Equal, Greater}
use Rattle.std.specs.Ordering.{nat_cmp, match_ordering}
use Rattle.std.specs.Cmp.Lexicographic.{slice_cmp}
use Rattle.serde_json.specs.Data.{Data, object, Members, no_members, member, put}
use Rattle.serde_json.specs.Written.{compact_text, has_float, members_have_float}
use Rattle.nb_base.specs.declared.value.Field.{Field}
use Rattle.nb_base.specs.declared.value.Value.{Value}
use Rattle.nb_base.specs.declared.value.Value.TheVariants.{Int, Text, Bool as Truth}
use Rattle.std.specs.Prelude.{ℤ, pos, negsuc}
use Rattle.nb_eval.specs.Making.{data_of, with_members, body_of}
use Rattle.nb_eval.specs.Values.{Answer}

or-left : (a b : Bool) → a || b ≡ false → a ≡ false
or-left true b h = absurd (true≢false h)
or-left false b h = refl

or-right : (a b : Bool) → a || b ≡ false → b ≡ false
or-right true b h = absurd (true≢false h)
or-right false b h = h

float-match : (o : Ordering) (a b c : Members) → members_have_float a ≡ false → members_have_float b ≡ false → members_have_float c ≡ false → members_have_float (match_ordering o a b c) ≡ false
float-match Less a b c p q r = p
float-match Equal a b c p q r = q
float-match Greater a b c p q r = r

no_float-put : (k : List ℕ) (d : Data) (ms : Members) → has_float d ≡ false → members_have_float ms ≡ false → members_have_float (put k d ms) ≡ false
no_float-put k d no_members h g = rw h refl
no_float-put k d (member l e ms) h g =
    let first : has_float e ≡ false = or-left (has_float e) (members_have_float ms) g in
    let rest : members_have_float ms ≡ false = or-right (has_float e) (members_have_float ms) g in
    float-match (slice_cmp nat_cmp k l) (member k d (member l e ms)) (member l d ms) (member l e (put k d ms)) (rw (h, first) rest) (rw h rest) (rw first (no_float-put k d ms h rest))

no_float-int : (n : ℤ) → has_float (data_of (Int n)) ≡ false
no_float-int (pos n) = refl
no_float-int (negsuc n) = refl

no_float-data : (v : Value) → has_float (data_of v) ≡ false
no_float-data (Int n) = no_float-int n
no_float-data (Text t) = refl
no_float-data (Truth b) = refl

no_float-members : (fs : List Field) (ms : Members) → members_have_float ms ≡ false → members_have_float (with_members ms fs) ≡ false
no_float-members [] ms h = h
no_float-members (f ∷ fs) ms h = no_float-members fs (put f.name (data_of f.value) ms) (no_float-put f.name (data_of f.value) ms (no_float-data f.value) h)

pub body_of-from : (d : Data) (fs : List Field) (s : List ℕ) → d ≡ object (with_members no_members fs) → (has_float d ≡ false → s ≡ compact_text d) → s ≡ body_of fs
body_of-from d fs s is text = text (ap has_float is ∙ no_float-members fs no_members refl) ∙ ap compact_text is

-- the fields that were made, and those that are still to be made
abbrev pub made_after : List Field → Answer (List Field) → Answer (List Field)
made_after done (Ok fs) = Ok (done ++ fs)
made_after done (Err e) = Err e
