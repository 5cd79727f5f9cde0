-- How the loop over an object's members makes the list of headers.
use Rattle.std.specs.Prelude.{◌≡◌, ℕ, List, [], ◌∷◌, ◌++◌, true, false, cond, bytes_eq, Some, None, Result, Ok, Err, String, string_bytes, string_cmp, refl}
use Rattle.std.proofs.Common.{◌∙◌, sym, ap, arith, rules, append_assoc}
use Rattle.std.specs.declared.alloc.Global.{Global}
use Rattle.std.specs.List.{IsDistinct, AllByRecursion}
use Rattle.std.specs.Map.{keys_of}
use Rattle.std.specs.Ordering.{eq_by_cmp}
use Rattle.std.proofs.lemmas.Map.Text.{is_eq-slice_cmp}
use Rattle.std.specs.Cmp.Lexicographic.{bytes_decides}
use Rattle.serde_json.specs.declared.value.Value.{Value, Null, String as Text, the_lemmas}
use Rattle.serde_json.specs.Data.{null, string}
use Rattle.serde_json.specs.View.{view, members_view}
use Rattle.nb_base.specs.Messages.{Pairs, header, with_header}
use Rattle.nb_base.specs.MessagesLaws.{header-with_header}
use Rattle.nb_envelope.specs.declared.line.LineFault.{LineFault}
use Rattle.nb_envelope.specs.Lines.{◌>>=◌, headers_in}

-- what comes after, behind the headers so far
abbrev pub behind : Pairs → Result Pairs LineFault → Result Pairs LineFault
behind hs rest = rest >>= λ more. Ok (hs ++ more)

pub behind-one : (hs : Pairs) (n t : List ℕ) (rest : Result Pairs LineFault) → behind hs (rest >>= λ more. Ok ((n, t) ∷ more)) ≡ behind (hs ++ (n, t) ∷ []) rest
behind-one hs n t (Ok more) = ap Ok (sym (append_assoc hs ((n, t) ∷ []) more))
behind-one hs n t (Err e) = refl

pub behind-none : (rest : Result Pairs LineFault) → behind [] rest ≡ rest
behind-none (Ok more) = refl
behind-none (Err e) = refl

pub with_header-new : (hs : Pairs) (n t : List ℕ) → header hs n ≡ None → with_header hs n t ≡ hs ++ (n, t) ∷ []
with_header-new [] n t new = refl
with_header-new (h ∷ hs) n t new =
    (elim (bytes_eq n h.0) as (λ b. cond b (Some h.1) (header hs n) ≡ None → cond b ((h.0, t) ∷ hs) (h ∷ with_header hs n t) ≡ h ∷ (hs ++ (n, t) ∷ [])) [
      | true ↦ λ e. cc
      | false ↦ λ e. ap (λ more. h ∷ more) (with_header-new hs n t e)
    ]) new

-- the entries to come have names of their own, which no header has
pub record IsFresh (hs : Pairs) (rest : List (String Global × Value)) : Type 0 where
  pub unseen : AllByRecursion (λ e. header hs (string_bytes e.0) ≡ None) rest
  pub distinct : IsDistinct (eq_by_cmp string_cmp) (keys_of rest)

apart : (a b : List ℕ) → bytes_eq a b ≡ false → bytes_eq b a ≡ false
apart a b differ = grind (arith, differ, bytes_decides a b, bytes_decides b a)

unseen-with : (hs : Pairs) (k : String Global) (t : List ℕ) (rest : List (String Global × Value)) → AllByRecursion (λ y. eq_by_cmp string_cmp k y ≡ false) (keys_of rest)
    → AllByRecursion (λ e. header hs (string_bytes e.0) ≡ None) rest → AllByRecursion (λ e. header (with_header hs (string_bytes k) t) (string_bytes e.0) ≡ None) rest
unseen-with hs k t [] others unseen = tt
unseen-with hs k t (e ∷ rest) others unseen =
    (rw (header-with_header hs (string_bytes k) t (string_bytes e.0), apart (string_bytes k) (string_bytes e.0) (sym (is_eq-slice_cmp (string_bytes k) (string_bytes e.0)) ∙ others.0)) unseen.0, unseen-with hs k t rest others.1 unseen.1)

pub IsFresh-skip : (hs : Pairs) (e : String Global × Value) (rest : List (String Global × Value)) → IsFresh hs (e ∷ rest) → IsFresh hs rest
unfolding IsDistinct
IsFresh-skip hs e rest fresh = record { unseen = fresh.unseen.1; distinct = fresh.distinct.1 }

pub IsFresh-with : (hs : Pairs) (e : String Global × Value) (t : List ℕ) (rest : List (String Global × Value)) → IsFresh hs (e ∷ rest) → IsFresh (with_header hs (string_bytes e.0) t) rest
unfolding IsDistinct
IsFresh-with hs e t rest fresh = record { unseen = unseen-with hs e.0 t rest fresh.distinct.0 fresh.unseen.1; distinct = fresh.distinct.1 }

pub IsFresh-start : (rest : List (String Global × Value)) → IsDistinct (eq_by_cmp string_cmp) (keys_of rest) → IsFresh [] rest
IsFresh-start rest distinct = record { unseen = all_none rest; distinct = distinct }
  where
    all_none : (rest : List (String Global × Value)) → AllByRecursion (λ e. header [] (string_bytes e.0) ≡ None) rest
    all_none [] = tt
    all_none (e ∷ rest) = (refl, all_none rest)

-- what a loop over the members keeps
pub record Keeps (all : List (String Global × Value)) (hs : Pairs) (rest : List (String Global × Value)) : Type 0 where
  pub meant : headers_in (members_view all) ≡ behind hs (headers_in (members_view rest))
  pub fresh : IsFresh hs rest

pub view-Null : view Null ≡ null
view-Null = search (rules, the_lemmas)

pub view-String : (t : String Global) → view (Text t) ≡ string (string_bytes t)
view-String t = search (rules, the_lemmas)

pub Keeps-start : (all : List (String Global × Value)) → IsDistinct (eq_by_cmp string_cmp) (keys_of all) → Keeps all [] all
Keeps-start all distinct = record { meant = sym (behind-none _); fresh = IsFresh-start all distinct }

pub Keeps-null : (all : List (String Global × Value)) (hs : Pairs) (k : String Global) (v : Value) (before rest : List (String Global × Value))
    → before ≡ (k, v) ∷ rest → v ≡ Null → Keeps all hs before → Keeps all hs rest
Keeps-null all hs k v before rest is absent keeps = record {
  meant = keeps.meant ∙ rw (is, absent, view-Null) refl;
  fresh = IsFresh-skip hs (k, v) rest (rw is at keeps.fresh);
}

pub Keeps-text : (all : List (String Global × Value)) (hs more : Pairs) (k : String Global) (v : Value) (t : String Global) (before rest : List (String Global × Value))
    → before ≡ (k, v) ∷ rest → v ≡ Text t → more ≡ with_header hs (string_bytes k) (string_bytes t) → Keeps all hs before → Keeps all more rest
Keeps-text all hs more k v t before rest is text set keeps =
    let fresh = rw is at keeps.fresh in
    record {
      meant = keeps.meant ∙ rw (is, text, view-String t, set, with_header-new hs (string_bytes k) (string_bytes t) fresh.unseen.0) (behind-one hs (string_bytes k) (string_bytes t) (headers_in (members_view rest)));
      fresh = rw set (IsFresh-with hs (k, v) (string_bytes t) rest fresh);
    }
