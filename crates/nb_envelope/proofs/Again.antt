-- What is written is read again.
use Rattle.std.specs.Prelude.{◌≡◌, ◌≤◌, ℕ, List, [], ◌∷◌, length, fold, Bool, true, false, cond, bytes_eq, nat_lt, Option, Some, None, IsUtf8, Ok, refl}
use Rattle.std.proofs.Common.{◌∙◌, ap, arith}
use Rattle.std.specs.List.{IsDistinct, AllByRecursion}
use Rattle.std.specs.Option.{option_or, option_map_or}
use Rattle.std.proofs.lemmas.Str.{is_utf8-from_IsUtf8}
use Rattle.std.proofs.lemmas.Map.Text.{is_eq-slice_cmp}
use Rattle.std.specs.Cmp.Lexicographic.{bytes_decides, slice_cmp}
use Rattle.std.specs.declared.cmp.Ordering.{Ordering}
use Rattle.std.specs.declared.cmp.Ordering.TheVariants.{Less, Equal, Greater}
use Rattle.std.specs.Ordering.{nat_cmp, is_eq, match_ordering}
use Rattle.serde_json.specs.Data.{Data, depth, members_depth}
use Rattle.serde_json.specs.Read.{read}
use Rattle.nb_base.specs.Messages.{Pairs, Message, IsMessage, AreDistinct, names, header, has_id, id_name}
use Rattle.nb_envelope.specs.Lines.{most_line_bytes, line_of, message_of}
use Rattle.nb_envelope.specs.Written.{put_pair, by_name, as_members, data_of}
use Rattle.nb_envelope.proofs.Writing.{headers_in-as_members}

put_case : (o : Ordering) (h : List ℕ × List ℕ) (hs more : Pairs) (k t q : List ℕ) → is_eq o ≡ bytes_eq k h.0 → header more q ≡ cond (bytes_eq q k) (Some t) (header hs q)
    → header (match_ordering o ((k, t) ∷ h ∷ hs) ((h.0, t) ∷ hs) (h ∷ more)) q ≡ cond (bytes_eq q k) (Some t) (header (h ∷ hs) q)
put_case Less h hs more k t q same rest = refl
put_case Equal h hs more k t q same rest = grind (arith, same, bytes_decides k h.0, bytes_decides q h.0, bytes_decides q k)
put_case Greater h hs more k t q same rest = grind (arith, same, rest, bytes_decides k h.0, bytes_decides q h.0, bytes_decides q k)

pub header-put_pair : (hs : Pairs) (k t q : List ℕ) → header (put_pair hs k t) q ≡ cond (bytes_eq q k) (Some t) (header hs q)
header-put_pair [] k t q = refl
header-put_pair (h ∷ hs) k t q = put_case (slice_cmp nat_cmp k h.0) h hs (put_pair hs k t) k t q (is_eq-slice_cmp k h.0) (header-put_pair hs k t q)

pub absent : (hs : Pairs) (n q : List ℕ) → AllByRecursion (λ y. bytes_eq n y ≡ false) (names hs) → q ≡ n → header hs q ≡ None
absent [] n q others is = refl
absent (h ∷ hs) n q others is = rw (is, others.0) (rw is at (absent hs n q others.1 is))

fold_case : (b : Bool) (h : Option (List ℕ)) (t : List ℕ) (a : Option (List ℕ)) → (b ≡ true → h ≡ None) → option_or h (cond b (Some t) a) ≡ option_or (cond b (Some t) h) a
fold_case true h t a none = rw (none refl) refl
fold_case false h t a none = refl

header-fold : (hs acc : Pairs) (q : List ℕ) → AreDistinct hs → header (fold (λ done h. put_pair done h.0 h.1) acc hs) q ≡ option_or (header hs q) (header acc q)
unfolding IsDistinct
header-fold [] acc q d = refl
header-fold (h ∷ hs) acc q d =
    header-fold hs (put_pair acc h.0 h.1) q d.1 ∙ ap (option_or (header hs q)) (header-put_pair acc h.0 h.1 q)
    ∙ fold_case (bytes_eq q h.0) (header hs q) h.1 (header acc q) (λ e. absent hs h.0 q d.0 ((bytes_decides q h.0).0 e))

or_none : (o : Option (List ℕ)) → option_or o None ≡ o
or_none None = refl
or_none (Some x) = refl

-- sorting keeps each header's text
pub header-by_name : (hs : Pairs) (q : List ℕ) → AreDistinct hs → header (by_name hs) q ≡ header hs q
header-by_name hs q d = header-fold hs [] q d ∙ or_none (header hs q)

pub depth-as_members : (hs : Pairs) → members_depth (as_members hs) ≡ 0
depth-as_members [] = refl
depth-as_members (h ∷ hs) = rw (depth-as_members hs) refl

pub depth-data_of : (m : Message) → depth (data_of m) ≤ 127
depth-data_of m = rw (depth-as_members (by_name m.headers)) (omega arith)

sorted_id : (m : Message) → IsMessage m → has_id (by_name m.headers) ≡ true
sorted_id m sound = ap (λ (o : Option (List ℕ)). option_map_or (λ t. nat_lt 0 (length t)) o false) (header-by_name m.headers id_name sound.distinct) ∙ sound.id

message_again : (m : Message) → IsMessage m → message_of (Some (data_of m)) ≡ Ok (record { headers = by_name m.headers; body = m.body })
message_again m sound = rw (headers_in-as_members (by_name m.headers), sorted_id m sound) refl

pub line_again : (m : Message) (t : List ℕ) → IsMessage m → IsUtf8 t → read t ≡ Some (data_of m) → length t ≤ most_line_bytes → line_of t ≡ Ok (record { headers = by_name m.headers; body = m.body })
line_again m t sound utf8 is short =
    let fits : nat_lt most_line_bytes (length t) ≡ false = grind arith in
    rw (fits, is_utf8-from_IsUtf8 t utf8, is) (message_again m sound)

pub read_value : (d : Data) (m : Message) (s : List ℕ) → d ≡ data_of m → (depth d ≤ 127 → read s ≡ Some d) → read s ≡ Some (data_of m)
read_value d m s is reads = reads (rw is (depth-data_of m)) ∙ ap Some is
