-- The spelling and the reading of records.
use Rattle.std.specs.Prelude.{◌≡◌, ◌≢◌, ◌==◌, ℕ, List, [], ◌∷◌, ◌++◌, length, Bool, true, false, not, cond, nat_lt, Option, Some, None, refl}
use Rattle.std.proofs.Common.{◌∙◌, ap, sym, subst, arith, append_assoc, true≢false, lt-ltb}
use Rattle.std.proofs.lemmas.Bool.{eqb-true}
use Rattle.std.specs.List.{AllByRecursion}
use Rattle.nb_base.specs.Messages.{Message}
use Rattle.nb_base.specs.declared.entry.Op.{Op}
use Rattle.nb_base.specs.declared.entry.OutboxRow.{OutboxRow}
use Rattle.nb_envelope.specs.Spelling.{spelled_u64, spelled_flag, spelled_text, spelled_due, spelled_list, spelled_envelope, IsList}
use Rattle.nb_envelope.specs.Cells.{◌>>=◌, u64_in, flag_in, text_in, moment_in, due_in, list_in, envelope_in}
use Rattle.nb_envelope.specs.Formats.{IsBytes, IsFormat}
use Rattle.nb_envelope.proofs.FormatLaws.{Found, IsBytes-rest, bind_some, test_some, format_u64, format_flag, format_text, format_list}
use Rattle.nb_envelope.proofs.ValueLaws.{format_due, format_moment}
use Rattle.nb_envelope.proofs.EnvelopeLaws.{format_envelope}
use Rattle.nb_outbox.specs.Spelled.{spelled_op, spelled_record, IsOp, IsRecord}
use Rattle.nb_outbox.specs.Read.{sent_to, op_in, may_keep, made_at, content_in, record_in}

-- ---- tests

pub named_from : (t : List ℕ) → nat_lt 0 (length t) ≡ true → t ≢ []
named_from [] e is = true≢false (sym e)
named_from (b ∷ t) e is = absurd cc

pub from_named : (t : List ℕ) → t ≢ [] → nat_lt 0 (length t) ≡ true
from_named [] other = absurd (other refl)
from_named (b ∷ t) other = lt-ltb 0 (length (b ∷ t)) (omega arith)

none_kept : (ops : List Op) → not (nat_lt 0 (length ops)) ≡ true → ops ≡ []
none_kept [] e = refl
none_kept (op ∷ ops) e = absurd (true≢false (sym e ∙ ap not (lt-ltb 0 (length (op ∷ ops)) (omega arith))))

kept_from : (sent : Bool) (ops : List Op) → may_keep sent ops ≡ true → sent ≡ true → ops ≡ []
kept_from true ops e is = none_kept ops e
kept_from false ops e is = absurd (true≢false (sym is))

from_kept : (sent : Bool) (ops : List Op) → (sent ≡ true → ops ≡ []) → may_keep sent ops ≡ true
from_kept true ops none = ap (may_keep true) (none refl)
from_kept false ops none = refl

-- ---- messages

three : (a b c r : List ℕ) → (a ++ b ++ c) ++ r ≡ a ++ (b ++ (c ++ r))
three a b c r = simp append_assoc

abbrev op_last : List ℕ → Option ℕ → Message × List ℕ → Option (Op × List ℕ)
op_last queue due envelope = cond (nat_lt 0 (length queue)) (Some (record { queue = queue; due = due; envelope = envelope.0 }, envelope.1)) None

abbrev op_second : List ℕ → Option ℕ × List ℕ → Option (Op × List ℕ)
op_second queue due = envelope_in due.1 >>= op_last queue due.0

abbrev op_first : List ℕ × List ℕ → Option (Op × List ℕ)
op_first queue = due_in queue.1 >>= op_second queue.0

op_found : (bytes : List ℕ) (op : Op) (rest : List ℕ) → IsBytes bytes → op_in bytes ≡ Some (op, rest) → Found IsOp spelled_op bytes (op, rest)
unfolding op_in sent_to
op_found bytes op rest fits e =
    let q = bind_some (text_in bytes) op_first (op, rest) e in
    let d = bind_some (due_in q.0.1) (op_second q.0.0) (op, rest) q.2 in
    let m = bind_some (envelope_in d.0.1) (op_last q.0.0 d.0.0) (op, rest) d.2 in
    let made : Op × List ℕ = (record { queue = q.0.0; due = d.0.0; envelope = m.0.0 }, m.0.1) in
    let t = test_some (nat_lt 0 (length q.0.0)) made (op, rest) m.2 in
    let qf = format_text.found bytes q.0.0 q.0.1 fits q.1 in
    let df = format_due.found q.0.1 d.0.0 d.0.1 qf.2 d.1 in
    let mf = format_envelope.found d.0.1 m.0.0 m.0.1 df.2 m.1 in
    let parts : bytes ≡ spelled_op made.0 ++ m.0.1 =
    qf.0 ∙ ap (λ (x : List ℕ). spelled_text q.0.0 ++ x) (df.0 ∙ ap (λ (x : List ℕ). spelled_due d.0.0 ++ x) mf.0) ∙ sym (three (spelled_text q.0.0) (spelled_due d.0.0) (spelled_envelope m.0.0) m.0.1) in
    subst (Found IsOp spelled_op bytes) t.1 (parts, record { queue = qf.1; named = named_from q.0.0 t.0; due = df.1; envelope = mf.1 }, mf.2)

op_again : (op : Op) (rest : List ℕ) → IsOp op → op_in (spelled_op op ++ rest) ≡ Some (op, rest)
unfolding op_in sent_to
op_again op rest is =
    let m = spelled_envelope op.envelope ++ rest in
    let d = spelled_due op.due ++ m in
    ap op_in (three (spelled_text op.queue) (spelled_due op.due) (spelled_envelope op.envelope) rest)
    ∙ ap (λ r. r >>= op_first) (format_text.again op.queue d is.queue)
    ∙ ap (λ r. r >>= op_second op.queue) (format_due.again op.due m is.due)
    ∙ ap (λ r. r >>= op_last op.queue op.due) (format_envelope.again op.envelope rest is.envelope)
    ∙ ap (λ (b : Bool). cond b (Some (op, rest)) None) (from_named op.queue is.named)

pub format_op : IsFormat IsOp spelled_op op_in
format_op = record { found = op_found; again = op_again }

pub format_ops : IsFormat (IsList IsOp) (spelled_list spelled_op) (list_in op_in)
format_ops = format_list IsOp spelled_op op_in format_op

-- ---- records

four : (a b c d r : List ℕ) → (a ++ b ++ c ++ d) ++ r ≡ a ++ (b ++ (c ++ (d ++ r)))
four a b c d r = simp append_assoc

abbrev last : ℕ → ℕ → Bool → List Op × List ℕ → Option (OutboxRow × List ℕ)
last n at sent ops = cond (may_keep sent ops.0) (Some (record { n = n; at = at; sent = sent; ops = ops.0 }, ops.1)) None

abbrev third : ℕ → ℕ → Bool × List ℕ → Option (OutboxRow × List ℕ)
third n at sent = list_in op_in sent.1 >>= last n at sent.0

abbrev second : ℕ → ℕ × List ℕ → Option (OutboxRow × List ℕ)
second n at = flag_in at.1 >>= third n at.0

abbrev first : ℕ × List ℕ → Option (OutboxRow × List ℕ)
first n = moment_in n.1 >>= second n.0

-- all of a record but its format
abbrev spelled_content : OutboxRow → List ℕ
spelled_content r = spelled_u64 r.n ++ spelled_u64 r.at ++ spelled_flag r.sent ++ spelled_list spelled_op r.ops

content_found : (bytes : List ℕ) (r : OutboxRow) (rest : List ℕ) → IsBytes bytes → content_in bytes ≡ Some (r, rest) → Found IsRecord spelled_content bytes (r, rest)
unfolding content_in made_at
content_found bytes r rest fits e =
    let n = bind_some (u64_in bytes) first (r, rest) e in
    let a = bind_some (moment_in n.0.1) (second n.0.0) (r, rest) n.2 in
    let s = bind_some (flag_in a.0.1) (third n.0.0 a.0.0) (r, rest) a.2 in
    let o = bind_some (list_in op_in s.0.1) (last n.0.0 a.0.0 s.0.0) (r, rest) s.2 in
    let made : OutboxRow × List ℕ = (record { n = n.0.0; at = a.0.0; sent = s.0.0; ops = o.0.0 }, o.0.1) in
    let t = test_some (may_keep s.0.0 o.0.0) made (r, rest) o.2 in
    let nf = format_u64.found bytes n.0.0 n.0.1 fits n.1 in
    let af = format_moment.found n.0.1 a.0.0 a.0.1 nf.2 a.1 in
    let sf = format_flag.found a.0.1 s.0.0 s.0.1 af.2 s.1 in
    let of = format_ops.found s.0.1 o.0.0 o.0.1 sf.2 o.1 in
    let parts : bytes ≡ spelled_content made.0 ++ o.0.1 =
    nf.0 ∙ ap (λ (x : List ℕ). spelled_u64 n.0.0 ++ x) (af.0 ∙ ap (λ (x : List ℕ). spelled_u64 a.0.0 ++ x) (sf.0 ∙ ap (λ (x : List ℕ). spelled_flag s.0.0 ++ x) of.0))
    ∙ sym (four (spelled_u64 n.0.0) (spelled_u64 a.0.0) (spelled_flag s.0.0) (spelled_list spelled_op o.0.0) o.0.1) in
    subst (Found IsRecord spelled_content bytes) t.1 (parts, record { number = nf.1; moment = af.1; ops = of.1; sent = kept_from s.0.0 o.0.0 t.0 }, of.2)

content_again : (r : OutboxRow) (rest : List ℕ) → IsRecord r → content_in (spelled_content r ++ rest) ≡ Some (r, rest)
unfolding content_in made_at
content_again r rest is =
    let o = spelled_list spelled_op r.ops ++ rest in
    let s = spelled_flag r.sent ++ o in
    let a = spelled_u64 r.at ++ s in
    ap content_in (four (spelled_u64 r.n) (spelled_u64 r.at) (spelled_flag r.sent) (spelled_list spelled_op r.ops) rest)
    ∙ ap (λ x. x >>= first) (format_u64.again r.n a is.number)
    ∙ ap (λ x. x >>= second r.n) (format_moment.again r.at s is.moment)
    ∙ ap (λ x. x >>= third r.n r.at) (format_flag.again r.sent o tt)
    ∙ ap (λ x. x >>= last r.n r.at r.sent) (format_ops.again r.ops rest is.ops)
    ∙ ap (λ (b : Bool). cond b (Some (r, rest)) None) (from_kept r.sent r.ops is.sent)

-- the format in front
under_format : (r : OutboxRow) (rest : List ℕ) → spelled_record r ++ rest ≡ 1 ∷ (spelled_content r ++ rest)
under_format r rest = five (1 ∷ []) (spelled_u64 r.n) (spelled_u64 r.at) (spelled_flag r.sent) (spelled_list spelled_op r.ops) rest
    ∙ ap (λ (x : List ℕ). 1 ∷ x) (sym (four (spelled_u64 r.n) (spelled_u64 r.at) (spelled_flag r.sent) (spelled_list spelled_op r.ops) rest))
  where
    five : (a b c d e r : List ℕ) → (a ++ b ++ c ++ d ++ e) ++ r ≡ a ++ (b ++ (c ++ (d ++ (e ++ r))))
    five a b c d e r = simp append_assoc

record_cases : (one : Bool) (k : ℕ) (bytes : List ℕ) (y : OutboxRow × List ℕ) → (one ≡ true → k ≡ 1) → IsBytes bytes → cond one (content_in bytes) None ≡ Some y → Found IsRecord spelled_record (k ∷ bytes) y
record_cases true k bytes y is fits e =
    let f = content_found bytes y.0 y.1 fits e in
    (ap (λ j. j ∷ bytes) (is refl) ∙ ap (λ (x : List ℕ). 1 ∷ x) f.0 ∙ sym (under_format y.0 y.1), f.1, f.2)
record_cases false k bytes y is fits e = absurd cc

record_found : (bytes : List ℕ) (r : OutboxRow) (rest : List ℕ) → IsBytes bytes → record_in bytes ≡ Some (r, rest) → Found IsRecord spelled_record bytes (r, rest)
unfolding record_in
record_found [] r rest fits e = absurd cc
record_found (k ∷ bytes) r rest fits e = record_cases (k == 1) k bytes (r, rest) (eqb-true k 1) (IsBytes-rest k bytes fits) e

record_again : (r : OutboxRow) (rest : List ℕ) → IsRecord r → record_in (spelled_record r ++ rest) ≡ Some (r, rest)
unfolding record_in
record_again r rest is = ap record_in (under_format r rest) ∙ content_again r rest is

pub format_record : IsFormat IsRecord spelled_record record_in
format_record = record { found = record_found; again = record_again }

-- the queues of a record are named
pub queues_named : (ops : List Op) → AllByRecursion IsOp ops → AllByRecursion (λ (op : Op). op.queue ≢ []) ops
queues_named [] all = tt
queues_named (op ∷ ops) all = (all.0.named, queues_named ops all.1)

pub record_queues : (r : OutboxRow) → IsRecord r → AllByRecursion (λ (op : Op). op.queue ≢ []) r.ops
record_queues r is = queues_named r.ops is.ops.1
