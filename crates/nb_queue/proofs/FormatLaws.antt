-- The spelling and the reading of entries and of numbers.
use Rattle.std.specs.Prelude.{◌≡◌, ◌≢◌, ◌==◌, ℕ, List, [], ◌∷◌, ◌++◌, length, Bool, true, false, cond, nat_lt, bytes_eq, Option, Some, None, refl}
use Rattle.std.proofs.Common.{◌∙◌, ap, sym, subst, arith, append_assoc, true≢false, lt-ltb}
use Rattle.std.proofs.lemmas.Bool.{eqb-true}
use Rattle.std.specs.Cmp.Lexicographic.{bytes_decides}
use Rattle.nb_base.specs.Messages.{Message}
use Rattle.nb_base.specs.declared.tables.Queued.{Queued}
use Rattle.nb_envelope.specs.Spelling.{spelled_u64, spelled_text, spelled_due, spelled_envelope}
use Rattle.nb_envelope.specs.Cells.{◌>>=◌, u64_in, text_in, due_in, envelope_in, whole}
use Rattle.nb_envelope.specs.Formats.{IsBytes, IsFormat}
use Rattle.nb_envelope.proofs.FormatLaws.{Found, IsBytes-rest, bind_some, test_some, format_u64, format_text, whole_again}
use Rattle.nb_envelope.proofs.ValueLaws.{format_due}
use Rattle.nb_envelope.proofs.EnvelopeLaws.{format_envelope}
use Rattle.nb_queue.specs.Spelled.{spelled_content, spelled_entry, spelled_next, IsEntry, IsNumber}
use Rattle.nb_queue.specs.Read.{queued_in, content_in, entry_in, next_in}
use Rattle.nb_queue.specs.Maps.{number_of}

-- ---- tests

pub is_named : (t : List ℕ) → length t ≢ 0 → nat_lt 0 (length t) ≡ true
is_named t other = lt-ltb 0 (length t) (omega arith)

named_from : (t : List ℕ) → nat_lt 0 (length t) ≡ true → t ≢ []
named_from [] e is = true≢false (sym e)
named_from (b ∷ t) e is = absurd cc

from_named : (t : List ℕ) → t ≢ [] → nat_lt 0 (length t) ≡ true
from_named [] other = absurd (other refl)
from_named (b ∷ t) other = lt-ltb 0 (length (b ∷ t)) (omega arith)

-- ---- contents

three : (a b c r : List ℕ) → (a ++ b ++ c) ++ r ≡ a ++ (b ++ (c ++ r))
three a b c r = simp append_assoc

abbrev last : List ℕ → Option ℕ → Message × List ℕ → Option (Queued × List ℕ)
last queue due envelope = cond (nat_lt 0 (length queue)) (Some (record { queue = queue; due = due; envelope = envelope.0 }, envelope.1)) None

abbrev second : List ℕ → Option ℕ × List ℕ → Option (Queued × List ℕ)
second queue due = envelope_in due.1 >>= last queue due.0

abbrev first : List ℕ × List ℕ → Option (Queued × List ℕ)
first queue = due_in queue.1 >>= second queue.0

content_found : (bytes : List ℕ) (e : Queued) (rest : List ℕ) → IsBytes bytes → content_in bytes ≡ Some (e, rest) → Found IsEntry spelled_content bytes (e, rest)
unfolding content_in queued_in
content_found bytes e rest fits is =
    let q = bind_some (text_in bytes) first (e, rest) is in
    let d = bind_some (due_in q.0.1) (second q.0.0) (e, rest) q.2 in
    let m = bind_some (envelope_in d.0.1) (last q.0.0 d.0.0) (e, rest) d.2 in
    let made : Queued × List ℕ = (record { queue = q.0.0; due = d.0.0; envelope = m.0.0 }, m.0.1) in
    let t = test_some (nat_lt 0 (length q.0.0)) made (e, rest) m.2 in
    let qf = format_text.found bytes q.0.0 q.0.1 fits q.1 in
    let df = format_due.found q.0.1 d.0.0 d.0.1 qf.2 d.1 in
    let mf = format_envelope.found d.0.1 m.0.0 m.0.1 df.2 m.1 in
    let parts : bytes ≡ spelled_content made.0 ++ m.0.1 =
    qf.0 ∙ ap (λ (x : List ℕ). spelled_text q.0.0 ++ x) (df.0 ∙ ap (λ (x : List ℕ). spelled_due d.0.0 ++ x) mf.0) ∙ sym (three (spelled_text q.0.0) (spelled_due d.0.0) (spelled_envelope m.0.0) m.0.1) in
    subst (Found IsEntry spelled_content bytes) t.1 (parts, record { queue = qf.1; named = named_from q.0.0 t.0; due = df.1; envelope = mf.1 }, mf.2)

content_again : (e : Queued) (rest : List ℕ) → IsEntry e → content_in (spelled_content e ++ rest) ≡ Some (e, rest)
unfolding content_in queued_in
content_again e rest is =
    let m = spelled_envelope e.envelope ++ rest in
    let d = spelled_due e.due ++ m in
    ap content_in (three (spelled_text e.queue) (spelled_due e.due) (spelled_envelope e.envelope) rest)
    ∙ ap (λ r. r >>= first) (format_text.again e.queue d is.queue)
    ∙ ap (λ r. r >>= second e.queue) (format_due.again e.due m is.due)
    ∙ ap (λ r. r >>= last e.queue e.due) (format_envelope.again e.envelope rest is.envelope)
    ∙ ap (λ (b : Bool). cond b (Some (e, rest)) None) (from_named e.queue is.named)

-- ---- format 1 before a value

behind_found : {A : Type 0} (Is : A → Type 0) (spelled : A → List ℕ) (read : List ℕ → Option (A × List ℕ)) → ((bytes : List ℕ) (x : A) (rest : List ℕ) → IsBytes bytes → read bytes ≡ Some (x, rest) → Found Is spelled bytes (x, rest))
    → (format : ℕ) (bytes : List ℕ) (x : A) (rest : List ℕ) → IsBytes (format ∷ bytes) → cond (format == 1) (read bytes) None ≡ Some (x, rest) → Found Is (λ y. 1 ∷ spelled y) (format ∷ bytes) (x, rest)
behind_found Is spelled read found format bytes x rest fits is =
    (elim (format == 1) as (λ b. (format == 1) ≡ b → cond b (read bytes) None ≡ Some (x, rest) → Found Is (λ y. 1 ∷ spelled y) (format ∷ bytes) (x, rest)) [
      | true ↦ λ one is.
          let f = found bytes x rest (IsBytes-rest format bytes fits) is in
          (ap (λ b. b ∷ bytes) (eqb-true format 1 one) ∙ ap (λ bs. 1 ∷ bs) f.0, f.1, f.2)
      | false ↦ λ other is. absurd cc
    ]) refl is

entry_found : (bytes : List ℕ) (e : Queued) (rest : List ℕ) → IsBytes bytes → entry_in bytes ≡ Some (e, rest) → Found IsEntry spelled_entry bytes (e, rest)
unfolding entry_in
entry_found [] e rest fits is = absurd cc
entry_found (format ∷ bytes) e rest fits is = behind_found IsEntry spelled_content content_in content_found format bytes e rest fits is

entry_again : (e : Queued) (rest : List ℕ) → IsEntry e → entry_in (spelled_entry e ++ rest) ≡ Some (e, rest)
unfolding entry_in
entry_again e rest is = content_again e rest is

pub format_entry : IsFormat IsEntry spelled_entry entry_in
format_entry = record { found = entry_found; again = entry_again }

next_found : (bytes : List ℕ) (n : ℕ) (rest : List ℕ) → IsBytes bytes → next_in bytes ≡ Some (n, rest) → Found IsNumber spelled_next bytes (n, rest)
unfolding next_in
next_found [] n rest fits is = absurd cc
next_found (format ∷ bytes) n rest fits is = behind_found IsNumber spelled_u64 u64_in format_u64.found format bytes n rest fits is

next_again : (n : ℕ) (rest : List ℕ) → IsNumber n → next_in (spelled_next n ++ rest) ≡ Some (n, rest)
unfolding next_in
next_again n rest is = format_u64.again n rest is

pub format_next : IsFormat IsNumber spelled_next next_in
format_next = record { found = next_found; again = next_again }

-- ---- keys

-- the key of a number spells it
pub number_of-spelled : (n : ℕ) → IsNumber n → number_of (spelled_u64 n) ≡ Some n
number_of-spelled n is =
    ap (λ o. o >>= λ m. cond (bytes_eq (spelled_u64 n) (spelled_u64 m)) (Some m) None) (whole_again IsNumber spelled_u64 u64_in n format_u64 is)
    ∙ ap (λ b. cond b (Some n) None) ((bytes_decides (spelled_u64 n) (spelled_u64 n)).1 refl)

-- and no other key does
pub spelled-number_of : (key : List ℕ) (n : ℕ) → number_of key ≡ Some n → key ≡ spelled_u64 n
spelled-number_of key n is =
    let d = bind_some (whole u64_in key) (λ m. cond (bytes_eq key (spelled_u64 m)) (Some m) None) n is in
    let t = test_some (bytes_eq key (spelled_u64 d.0)) d.0 n d.2 in
    (bytes_decides key (spelled_u64 d.0)).0 t.0 ∙ ap spelled_u64 t.1
