-- The spelling and the reading of an envelope.
use Rattle.std.specs.Prelude.{◌≡◌, ℕ, List, [], ◌∷◌, ◌++◌, Bool, true, false, ◌&&◌, cond, bytes_eq, is_none, Option, Some, None, refl}
use Rattle.std.proofs.Common.{◌∙◌, ap, sym, subst, append_assoc}
use Rattle.std.specs.List.{IsDistinct, AllByRecursion}
use Rattle.nb_base.specs.Messages.{Pairs, Message, IsMessage, AreDistinct, names, header, has_id}
use Rattle.nb_envelope.specs.Spelling.{spelled_list, spelled_header, spelled_text, spelled_envelope, IsText, IsList, IsHeader, IsEnvelope}
use Rattle.nb_envelope.specs.Cells.{◌>>=◌, text_in, list_in, header_in, are_distinct, headers_in, envelope_in}
use Rattle.nb_envelope.specs.Formats.{IsBytes, IsFormat}
use Rattle.nb_envelope.proofs.Again.{absent}
use Rattle.nb_envelope.proofs.FormatLaws.{Found, bind_some, test_some, format_text, format_test, format_both, format_list}

-- ---- each name once, as a test

none_from : (o : Option (List ℕ)) → is_none o ≡ true → o ≡ None
none_from None e = refl
none_from (Some x) e = absurd cc

both_true : (a b : Bool) → (a && b) ≡ true → (a ≡ true) × (b ≡ true)
both_true true b e = (refl, e)
both_true false b e = absurd cc

other : (b : Bool) (n name t : List ℕ) (o : Option (List ℕ)) (rest : Type 0) → bytes_eq n name ≡ b → cond b (Some t) o ≡ None → (o ≡ None → rest) → (bytes_eq n name ≡ false) × rest
other true n name t o rest is e more = absurd cc
other false n name t o rest is e more = (is, more e)

others : (hs : Pairs) (n : List ℕ) → header hs n ≡ None → AllByRecursion (λ y. bytes_eq n y ≡ false) (names hs)
others [] n new = tt
others (h ∷ hs) n new = other (bytes_eq n h.0) n h.0 h.1 (header hs n) _ refl new (others hs n)

pub AreDistinct-from : (hs : Pairs) → are_distinct hs ≡ true → AreDistinct hs
unfolding IsDistinct
AreDistinct-from [] e = tt
AreDistinct-from (h ∷ hs) e =
    let b = both_true (is_none (header hs h.0)) (are_distinct hs) e in
    (others hs h.0 (none_from (header hs h.0) b.0), AreDistinct-from hs b.1)

pub are_distinct-from : (hs : Pairs) → AreDistinct hs → are_distinct hs ≡ true
unfolding IsDistinct
are_distinct-from [] d = refl
are_distinct-from (h ∷ hs) d = rw (absent hs h.0 h.0 d.0 refl, are_distinct-from hs d.1) refl

-- ---- headers

pub format_header : IsFormat IsHeader spelled_header header_in
unfolding header_in
format_header = format_both IsText spelled_text text_in IsText spelled_text text_in format_text format_text

pub format_headers : IsFormat (λ hs. IsList IsHeader hs × (are_distinct hs ≡ true)) (spelled_list spelled_header) headers_in
unfolding headers_in
format_headers = format_test (IsList IsHeader) (spelled_list spelled_header) (list_in header_in) are_distinct (format_list IsHeader spelled_header header_in format_header)

-- ---- the envelope

envelope_found : (bytes : List ℕ) (m : Message) (rest : List ℕ) → IsBytes bytes → envelope_in bytes ≡ Some (m, rest) → Found IsEnvelope spelled_envelope bytes (m, rest)
unfolding envelope_in
envelope_found bytes m rest fits e =
    let h = bind_some (headers_in bytes) (λ hs. text_in hs.1 >>= λ body. cond (has_id hs.0) (Some (record { headers = hs.0; body = body.0 }, body.1)) None) (m, rest) e in
    let b = bind_some (text_in h.0.1) (λ body. cond (has_id h.0.0) (Some (record { headers = h.0.0; body = body.0 }, body.1)) None) (m, rest) h.2 in
    let made : Message × List ℕ = (record { headers = h.0.0; body = b.0.0 }, b.0.1) in
    let t = test_some (has_id h.0.0) made (m, rest) b.2 in
    let f = format_headers.found bytes h.0.0 h.0.1 fits h.1 in
    let g = format_text.found h.0.1 b.0.0 b.0.1 f.2 b.1 in
    let parts : bytes ≡ spelled_envelope made.0 ++ b.0.1 =
    f.0 ∙ ap (λ (x : List ℕ). spelled_list spelled_header h.0.0 ++ x) g.0 ∙ sym (append_assoc (spelled_list spelled_header h.0.0) (spelled_text b.0.0) b.0.1) in
    let message : IsMessage made.0 = record { distinct = AreDistinct-from h.0.0 f.1.1; id = t.0 } in
    subst (Found IsEnvelope spelled_envelope bytes) t.1 (parts, record { message = message; headers = f.1.0; body = g.1 }, g.2)

envelope_again : (m : Message) (rest : List ℕ) → IsEnvelope m → envelope_in (spelled_envelope m ++ rest) ≡ Some (m, rest)
unfolding envelope_in
envelope_again m rest is =
    let headers = format_headers.again m.headers (spelled_text m.body ++ rest) (is.headers, are_distinct-from m.headers is.message.distinct) in
    let regrouped = append_assoc (spelled_list spelled_header m.headers) (spelled_text m.body) rest in
    ap envelope_in regrouped ∙ rw (headers, format_text.again m.body rest is.body, is.message.id) refl

pub format_envelope : IsFormat IsEnvelope spelled_envelope envelope_in
format_envelope = record { found = envelope_found; again = envelope_again }
